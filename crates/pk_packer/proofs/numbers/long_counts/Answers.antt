use Rattle.std.proofs.Common.{◌+◌, ◌*◌, ◌/◌, ◌-◌, ◌^◌, ℕ, length, ap, arith}
use Rattle.pk_packer.specs.Spelling.{long_text}
use Rattle.pk_packer.proofs.InTwoParts.{by_turn, less, long_before, long_from, next_power, power_above}
use Rattle.pk_packer.proofs.numbers.long_counts.Goals as goal

pub loop-beyond-preserved : goal.loop-beyond-preserved
loop-beyond-preserved c =
    let d : ℕ = c.loop-beyond.digits in
    let i = c.loop-beyond.invariant in
    record {
      some = omega (arith, i.some);
      few = power_above d c.args.value i.few (omega (arith, c.requires.small)) (omega (arith, i.power, c.loop-beyond-test.true, c.from.ensures));
      power = omega (arith, i.power, next_power d);
      large = omega (arith, i.large);
      low = omega (arith, ap (λ (j : ℕ). 16 ^ j) (less d), i.power, c.loop-beyond-test.true, c.from.ensures);
    }

pub returns-then-value-lt256-clause-counts : goal.returns-then-value-lt256-clause-counts
returns-then-value-lt256-clause-counts c = λ f form.
    let v : ℕ = c.args.value in
    by_turn f ((270 - v) / 15) 3 5 (length (long_text (v + 15 * f)))
    (λ below. long_before 2 v (v + 15 * f) (omega arith) c.requires.long (omega (arith, c.requires.long)) (omega arith) (omega (arith, below, c.if-value-lt256.true)))
    (λ above. long_from 2 (v + 15 * f) (omega arith) (omega arith) (omega (arith, above, c.if-value-lt256.true)) (omega (arith, form, c.if-value-lt256.true)))

pub returns-then-from-beyond-clause-counts : goal.returns-then-from-beyond-clause-counts
returns-then-from-beyond-clause-counts c = λ f form.
    let d : ℕ = c.loop-beyond.digits in
    let v : ℕ = c.args.value in
    let i = c.loop-beyond.invariant in
    by_turn f 14 (2 * d - 1) (2 * d + 1) (length (long_text (v + 15 * f)))
    (λ below. long_before d v (v + 15 * f) i.some c.requires.long i.low (omega arith) (omega (arith, form, i.power, c.if-from-beyond.true, c.from-2.ensures)))
    (λ above. absurd (omega (arith, above, form)))

pub returns-clause-counts : goal.returns-clause-counts
returns-clause-counts c = λ f form.
    let d : ℕ = c.loop-beyond.digits in
    let v : ℕ = c.args.value in
    let i = c.loop-beyond.invariant in
    by_turn f ((c.loop-beyond.beyond + 14 - c.from-3.result) / 15) (2 * d - 1) (2 * d + 1) (length (long_text (v + 15 * f)))
    (λ below. long_before d v (v + 15 * f) i.some c.requires.long i.low (omega arith) (omega (arith, below, c.from-3.ensures, i.power, c.loop-beyond-test.false, c.from.ensures)))
    (λ above. long_from d (v + 15 * f) i.some (omega (arith, i.large, i.power)) (omega (arith, above, c.from-3.ensures, i.power, c.loop-beyond-test.false, c.from.ensures))
    (omega (arith, form, i.power, c.loop-beyond-test.false, c.from.ensures)))
