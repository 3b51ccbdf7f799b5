use Rattle.std.proofs.Common.{◌≡◌, ◌<◌, ◌+◌, ℕ, List, [], ◌++◌, length, take, get_or, ap, sym, subst, ◌∙◌, arith}
use Rattle.std.specs.List.{flat_map}
use Rattle.std.proofs.lemmas.List.{flat_map_more, take_more, take_all}
use Rattle.packed_rows.specs.Packing.{row_text}
use Rattle.pbm_output.specs.Pieces.{IsPut}
use Rattle.pbm_output.proofs.write.put_joined.Goals as goal

pub loop-y-init : goal.loop-y-init
loop-y-init g c = λ start before text gathers. record {
  done = text;
  gathers = gathers;
  text_is = ap (λ l. text ++ l) (sym c.requires);
}

pub loop-y-preserved : goal.loop-y-preserved
loop-y-preserved g c = λ start before text gathers.
    let rows = c.args.page.now.rows in
    let more : c.loop-y.y < length rows = omega (arith, c.loop-y-test.true, c.height-y-end.ensures.rows) in
    let same : (text ++ flat_map row_text (take c.loop-y.y rows)) ++ c.row.result.now ≡ text ++ flat_map row_text (take (c.loop-y.y + 1) rows) =
    ap (λ l. (text ++ flat_map row_text (take c.loop-y.y rows)) ++ l) c.row.ensures.text
    ∙ flat_map_more row_text text (take c.loop-y.y rows) (get_or rows c.loop-y.y [])
    ∙ ap (λ l. text ++ flat_map row_text l) (sym (take_more rows c.loop-y.y [] more)) in
    subst (λ (t : List ℕ). IsPut start before c.join.new.gather (g.O.Output.written c.join.new.out) (g.O.Output.faults c.join.new.out) c.join.new.piece.items t) same
    (c.join.ensures start before (text ++ flat_map row_text (take c.loop-y.y rows)) (c.loop-y.invariant start before text gathers))

pub returns : goal.returns
returns g c = λ start before text gathers.
    let rows = c.args.page.now.rows in
    let all : take c.loop-y.y rows ≡ rows = take_all c.loop-y.y rows (omega (arith, c.loop-y-test.false, c.height-y-end.ensures.rows)) in
    let last = c.loop-y.invariant start before text gathers in
    c.put.ensures start before last.done (text ++ flat_map row_text rows) last.gathers
    (ap (λ l. text ++ flat_map row_text l) (sym all) ∙ last.text_is ∙ ap (λ l. last.done ++ l) (sym c.deref.ensures.value))
