use Rattle.std.proofs.Common.{◌≡◌, ◌<◌, ◌+◌, ℕ, List, [], ◌++◌, length, take, get_or, ap, sym, subst, ◌∙◌, arith}
use Rattle.std.specs.List.{flat_map}
use Rattle.std.proofs.lemmas.List.{append-nil, flat_map_more, take_more, take_all}
use Rattle.outside.specs.Gather.{Gathers}
use Rattle.packed_rows.specs.Packing.{row_text}
use Rattle.pbm_output.proofs.write.put_each.Goals as goal

pub loop-y-init : goal.loop-y-init
loop-y-init g c = λ start before text gathers.
    subst (λ (t : List ℕ). Gathers start before c.args.gather.now (g.O.Output.written c.args.out.now) (g.O.Output.faults c.args.out.now) t) (sym (append-nil text)) gathers

pub loop-y-preserved : goal.loop-y-preserved
loop-y-preserved g c = λ start before text gathers.
    let rows = c.args.page.now.rows in
    let more : c.loop-y.y < length rows = omega (arith, c.loop-y-test.true, c.height-y-end.ensures.rows) in
    c.put.ensures start before (text ++ flat_map row_text (take c.loop-y.y rows)) (text ++ flat_map row_text (take (c.loop-y.y + 1) rows)) (c.loop-y.invariant start before text gathers)
    (ap (λ l. text ++ flat_map row_text l) (take_more rows c.loop-y.y [] more) ∙ sym (flat_map_more row_text text (take c.loop-y.y rows) (get_or rows c.loop-y.y []))
    ∙ ap (λ l. (text ++ flat_map row_text (take c.loop-y.y rows)) ++ l) (sym c.row.ensures.text))

pub returns : goal.returns
returns g c = λ start before text gathers.
    let all : take c.loop-y.y c.args.page.now.rows ≡ c.args.page.now.rows = take_all c.loop-y.y c.args.page.now.rows (omega (arith, c.loop-y-test.false, c.height-y-end.ensures.rows)) in
    subst (λ (l : List (List _)). Gathers start before c.loop-y.gather (g.O.Output.written c.loop-y.out) (g.O.Output.faults c.loop-y.out) (text ++ flat_map row_text l)) all
    (c.loop-y.invariant start before text gathers)
