use Rattle.std.proofs.Common.{◌≡◌, ◌+◌, ◌*◌, ◌-◌, ◌^◌, ℕ, min, ap, sym, ◌∙◌, subst}
use Rattle.pk_runs.proofs.Hex.{ReadsDigits, reads_none, reads_more}
use Rattle.pk_runs.proofs.numbers.digits.Goals as goal

pub loop-left-init : goal.loop-left-init
loop-left-init c = subst (λ (v : ℕ). ReadsDigits c.args.nybbles.now c.args.first c.args.count c.args.count v c.args.nybbles.now) (sym c.from-value.ensures) (reads_none c.args.nybbles.now c.args.first c.args.count c.requires)

pub loop-left-preserved : goal.loop-left-preserved
loop-left-preserved c =
    let value : c.min-value.result ≡ min (c.loop-left.value * 16 + c.in_ok-nybble.nybble) (2 ^ 40) = c.min-value.ensures ∙ ap (λ j. min (c.loop-left.value * 16 + j) (2 ^ 40)) c.from.ensures in
    subst (λ (v : ℕ). ReadsDigits c.args.nybbles.now c.args.first c.args.count (c.loop-left.left - 1) v c.next.new.self) (sym value)
    (reads_more c.args.nybbles.now c.args.first c.args.count c.loop-left.left c.loop-left.value c.in_ok-nybble.nybble c.loop-left.nybbles c.next.new.self c.loop-left-test.true c.in_ok-nybble.ensures.cases.0 c.loop-left.invariant)
