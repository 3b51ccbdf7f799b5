-- The least number that passes a test.
use Rattle.std.proofs.Common.{◌≡◌, ◌∙◌, ◌⊎◌, inl, inr, ℕ, zero, suc, ◌+◌, ◌-◌, ◌<◌, ◌≤◌, Bool, true, false, cond, Option, Some, None, refl, sym, ap, subst, arith}
use Rattle.std.specs.Option.{option_map}
use Rattle.tfm_reader.specs.Tfm.{least_from}

-- where numbers are left, the first of them is looked at
least_at : (test : ℕ → Bool) (k n : ℕ) → 0 < n → least_from test k n ≡ cond (test k) (Some k) (least_from test (k + 1) (n - 1))
least_at test k zero h = absurd (omega arith)
least_at test k (suc n) h = let same : suc n - 1 ≡ n = omega arith in rw same refl

at_test : (test : ℕ → Bool) (k n : ℕ) (b : Bool) → 0 < n → test k ≡ b → least_from test k n ≡ cond b (Some k) (least_from test (k + 1) (n - 1))
at_test test k n b h is = least_at test k n h ∙ ap (λ t. cond t (Some k) (least_from test (k + 1) (n - 1))) is

-- a search has come to a number that passes
pub found_at : (test : ℕ → Bool) (n i : ℕ) (start : Option ℕ) → i < n → test i ≡ true → start ≡ least_from test i (n - i) → start ≡ Some i
found_at test n i start lt is e = e ∙ at_test test i (n - i) true (omega arith) is

-- a search goes on after a number that doesn't pass
pub goes_on : (test : ℕ → Bool) (n i : ℕ) (start : Option ℕ) → i < n → test i ≡ false → start ≡ least_from test i (n - i) → start ≡ least_from test (i + 1) (n - (i + 1))
goes_on test n i start lt is e =
    let left : n - i - 1 ≡ n - (i + 1) = omega arith in
    e ∙ (at_test test i (n - i) false (omega arith) is ∙ ap (least_from test (i + 1)) left)

-- a search that has come to the end has found none
pub none_found : (test : ℕ → Bool) (n i : ℕ) (start : Option ℕ) → n ≤ i → start ≡ least_from test i (n - i) → start ≡ None
none_found test n i start le e = let nothing : n - i ≡ 0 = omega arith in e ∙ ap (least_from test i) nothing

-- where none is found, none passes
first_fails : (test : ℕ → Bool) (k : ℕ) (rest : Option ℕ) (b : Bool) → test k ≡ b → cond b (Some k) rest ≡ None → (test k ≡ false) × (rest ≡ None)
first_fails test k rest true is e = cc
first_fails test k rest false is e = (is, e)

same_or_later : (k i : ℕ) → k ≤ i → (i ≡ k) ⊎ (k + 1 ≤ i)
same_or_later k i le = grind arith

pub none_passes : (test : ℕ → Bool) (k n i : ℕ) → least_from test k n ≡ None → k ≤ i → i < k + n → test i ≡ false
none_passes test k zero i e least most = absurd (omega arith)
none_passes test k (suc n) i e least most =
    let first = first_fails test k (least_from test (k + 1) n) (test k) refl e in
    elim (same_or_later k i least) [
      | inl same ↦ subst (λ j. test j ≡ false) (sym same) first.0
      | inr later ↦ none_passes test (k + 1) n i first.1 later (omega arith)
    ]

-- what is made of a number that was found is nothing where none was
pub none_mapped : {B : Type 0} (f : ℕ → B) (o : Option ℕ) → option_map f o ≡ None → o ≡ None
none_mapped f None e = refl
none_mapped f (Some x) e = cc
