use Rattle.std.proofs.Common.{◌≡◌, ◌∙◌, ◌+◌, ◌*◌, ◌-◌, ◌/◌, sym, ap, length, arith}
use Rattle.pk_packer.specs.Spelling.{greatest_short, long_text, number_text}
use Rattle.pk_packer.proofs.InTwoParts.{by_turn, one_long, three_long, two_long}
use Rattle.pk_packer.proofs.Spelled.{many_nybbles}
use Rattle.pk_packer.proofs.numbers.number_counts.Goals as goal

pub returns-in-0-to-13-clause-counts : goal.returns-in-0-to-13-clause-counts
returns-in-0-to-13-clause-counts c = λ f form.
    by_turn f c.args.n 2 1 (length (number_text f c.args.n)) (λ below. two_long f c.args.n below (omega (arith, below, c.in-0-to-13))) (λ above. one_long f c.args.n above)

pub returns-in_default-clause-counts : goal.returns-in_default-clause-counts
returns-in_default-clause-counts c = λ f form.
    by_turn f ((223 - c.args.n) / 15) 2 3 (length (number_text f c.args.n)) (λ below. two_long f c.args.n (omega (arith, form, c.in_default, c.if-n-gt208.false)) (omega (arith, below, c.in_default, c.if-n-gt208.false)))
    (λ above. three_long f c.args.n (omega (arith, form, c.in_default, c.if-n-gt208.false)) (omega (arith, above, form, c.in_default, c.if-n-gt208.false)) (omega (arith, form, c.in_default, c.if-n-gt208.false)))

pub returns-then-n-gt208-clause-counts : goal.returns-then-n-gt208-clause-counts
returns-then-n-gt208-clause-counts c = λ f form.
    let value : c.args.n + 15 - greatest_short f ≡ c.args.n - 193 + 15 * f = omega (arith, form, c.if-n-gt208.true) in
    c.long_counts.ensures.counts f form
    ∙ sym (ap length (many_nybbles f c.args.n (omega (arith, form, c.if-n-gt208.true)) (omega (arith, form, c.if-n-gt208.true))) ∙ ap (λ v. length (long_text v)) value)
