use Rattle.std.proofs.Common.{◌≡◌, ◌∙◌, ◌+◌, ◌++◌, take, drop, arith, subst, sym, ap}
use Rattle.std.proofs.Math.Seq.{take-add}
use Rattle.std.proofs.lemmas.List.{append_assoc}
use Rattle.std.specs.Io.KnownBytes.{Consumes}
use Rattle.outside.proofs.Growth.{taken_twice}
use Rattle.dvi_run.proofs.reading.read_all.Goals as goal

pub loop-len-preserved : goal.loop-len-preserved
loop-len-preserved g c =
    let left = g.I.Input.left in
    let bytes = c.read_more.new.bytes.items in
    let parts : take c.loop-len.len c.loop-len.bytes.items ++ take c.in_ok-n.n (drop c.loop-len.len bytes) ≡ take (c.loop-len.len + c.in_ok-n.n) bytes =
    ap (λ t. t ++ take c.in_ok-n.n (drop c.loop-len.len bytes)) (sym c.read_more.ensures.kept) ∙ sym (take-add c.loop-len.len c.in_ok-n.n bytes) in
    record {
      inside = c.in_ok-n.ensures.bound;
      few = c.read_more.ensures.few;
      taken = subst (λ t. Consumes (left c.args.input.now) (left c.read_more.new.input) t) parts
          (taken_twice (left c.args.input.now) (left c.loop-len.input) (left c.read_more.new.input) _ _ c.loop-len.invariant.taken c.in_ok-n.ensures.bytes.0);
      given = c.in_ok-n.ensures.taken.0
          ∙ (ap (λ t. t ++ take c.in_ok-n.n (drop c.loop-len.len bytes)) c.loop-len.invariant.given
          ∙ (append_assoc (g.I.Input.taken c.args.input.now) (take c.loop-len.len c.loop-len.bytes.items) (take c.in_ok-n.n (drop c.loop-len.len bytes))
          ∙ ap (λ t. g.I.Input.taken c.args.input.now ++ t) parts));
      later = omega (arith, c.loop-len.invariant.later, c.read_more.ensures.cause.never_falls);
    }
