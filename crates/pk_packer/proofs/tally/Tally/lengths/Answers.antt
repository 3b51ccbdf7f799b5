use Rattle.std.proofs.Common.{◌≡◌, ◌∙◌, inl, inr, ℕ, ◌+◌, ◌-◌, ◌<◌, List, get_or, length, set, sym, ap, arith, length-set, get_or-set_other, get_or-set_same}
use Rattle.std.proofs.lemmas.Bool.{cases_eq}
use Rattle.pk_packer.specs.Counts.{nybbles_past}
use Rattle.pk_packer.specs.declared.tally.Tally.{Tally}
use Rattle.pk_packer.proofs.Sums.{few_past, turn_more}
use Rattle.pk_packer.proofs.tally.Tally.lengths.Goals as goal

pub overflow_add-len : goal.overflow_add-len
overflow_add-len c =
    omega (arith, few_past c.args.self.now c.loop-f.f c.requires.room_before c.requires.room_from, c.loop-f.invariant.len, c.requires.room_from c.loop-f.f)

pub overflow_sub-len : goal.overflow_sub-len
overflow_sub-len c = omega (arith, turn_more c.args.self.now c.loop-f.f (omega (arith, c.loop-f-test.true)), c.loop-f.invariant.len)

pub loop-f-preserved : goal.loop-f-preserved
loop-f-preserved c =
    let t : Tally = c.args.self.now in
    let counts : List ℕ = c.loop-f.counts in
    let i : ℕ = c.loop-f.f in
    let v : ℕ = c.loop-f.len + get_or t.from i 0 - get_or t.before i 0 in
    let within : i < length counts = omega (arith, c.loop-f.invariant.all, c.loop-f-test.true) in
    let next : v ≡ nybbles_past t (i + 1) = omega (arith, turn_more t i (omega (arith, c.loop-f-test.true)), c.loop-f.invariant.len) in
    record {
      all = length-set counts i v ∙ c.loop-f.invariant.all;
      len = next;
      done = λ k below. elim (cases_eq k i) [
        | inl same ↦ ap (λ j. get_or (set counts i v) j 0) same ∙ get_or-set_same counts i v 0 within ∙ next ∙ ap (λ j. nybbles_past t (j + 1)) (sym same)
        | inr other ↦ get_or-set_other counts i k v 0 other ∙ c.loop-f.invariant.done k (omega (arith, below, other))
      ];
    }
