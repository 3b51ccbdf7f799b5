-- The claims of a state, by their places in its list.
use Rattle.std.proofs.Common.{◌≡◌, ℕ, zero, suc, true, false, ◌||◌, List, [], ◌∷◌, Some, None, nat_eq, refl, sym, ap, subst}
use Rattle.std.specs.Prelude.{slice_get}
use Rattle.std.proofs.lemmas.Bool.{eqb-true, eq-eqb}
use Rattle.outside.specs.declared.keys.FontKey.{FontKey}
use Rattle.cache_core.specs.Machine.{claims_key, claim_of, key_eq}
use Rattle.cache_core.specs.Laws.{ClaimsAlwaysFit}
use Rattle.cache_core.proofs.SameKeys.{key_is_itself}
use Rattle.cache_core.proofs.Sound.{Alone, by_test, both_true, second_true, sound_after}

abbrev Claims : Type 0
Claims = List (ℕ × FontKey)

-- a claim of the list is found by its key, and by its seat
has_claim : (cs : Claims) (i seat : ℕ) (k : FontKey) → slice_get cs i ≡ Some (seat, k) → claims_key k cs ≡ true
has_claim [] i seat k at_ = absurd cc
has_claim (c ∷ cs) zero seat k at_ = let same : k ≡ c.1 = cc in subst (λ j. (key_eq k j || claims_key k cs) ≡ true) same (rw (key_is_itself k) refl)
has_claim (c ∷ cs) (suc i) seat k at_ = second_true (key_eq k c.1) (claims_key k cs) (has_claim cs i seat k at_)

not_none : (cs : Claims) (i seat : ℕ) (k : FontKey) → slice_get cs i ≡ Some (seat, k) → claim_of seat cs ≡ None → ⊥
not_none [] i seat k at_ none = absurd cc
not_none (c ∷ cs) zero seat k at_ none = let same : seat ≡ c.0 = cc in let n = rw (eq-eqb seat c.0 same) at none in absurd cc
not_none (c ∷ cs) (suc i) seat k at_ none = by_test (nat_eq seat c.0)
    (λ e. let n = rw e at none in absurd cc)
    (λ e. not_none cs i seat k at_ (rw e at none))

key_once : (cs : Claims) → Alone cs → (i j seat other : ℕ) (k : FontKey) → slice_get cs i ≡ Some (seat, k) → slice_get cs j ≡ Some (other, k) → i ≡ j
key_once [] h i j seat other k a b = absurd cc
key_once (c ∷ cs) h zero zero seat other k a b = refl
key_once (c ∷ cs) h zero (suc j) seat other k a b =
    let same : c.1 ≡ k = cc in absurd (both_true (claims_key k cs) (has_claim cs j other k b) (subst (λ x. claims_key x cs ≡ false) same h.1))
key_once (c ∷ cs) h (suc i) zero seat other k a b =
    let same : c.1 ≡ k = cc in absurd (both_true (claims_key k cs) (has_claim cs i seat k a) (subst (λ x. claims_key x cs ≡ false) same h.1))
key_once (c ∷ cs) h (suc i) (suc j) seat other k a b = ap suc (key_once cs h.2 i j seat other k a b)

seat_once : (cs : Claims) → Alone cs → (i j seat : ℕ) (k l : FontKey) → slice_get cs i ≡ Some (seat, k) → slice_get cs j ≡ Some (seat, l) → i ≡ j
seat_once [] h i j seat k l a b = absurd cc
seat_once (c ∷ cs) h zero zero seat k l a b = refl
seat_once (c ∷ cs) h zero (suc j) seat k l a b =
    let same : c.0 ≡ seat = cc in absurd (not_none cs j seat l b (subst (λ n. claim_of n cs ≡ None) same h.0))
seat_once (c ∷ cs) h (suc i) zero seat k l a b =
    let same : c.0 ≡ seat = cc in absurd (not_none cs i seat k a (subst (λ n. claim_of n cs ≡ None) same h.0))
seat_once (c ∷ cs) h (suc i) (suc j) seat k l a b = ap suc (seat_once cs h.2 i j seat k l a b)

looked_up : (cs : Claims) → Alone cs → (i seat : ℕ) (k : FontKey) → slice_get cs i ≡ Some (seat, k) → claim_of seat cs ≡ Some k
looked_up [] h i seat k a = absurd cc
looked_up (c ∷ cs) h zero seat k a = let same : seat ≡ c.0 = cc in let key : c.1 ≡ k = cc in rw (eq-eqb seat c.0 same) (ap Some key)
looked_up (c ∷ cs) h (suc i) seat k a = by_test (nat_eq seat c.0)
    (λ e. let same : seat ≡ c.0 = eqb-true seat c.0 e in absurd (not_none cs i seat k a (subst (λ n. claim_of n cs ≡ None) (sym same) h.0)))
    (λ e. rw e (looked_up cs h.2 i seat k a))

pub claims_always_fit : ClaimsAlwaysFit
claims_always_fit limits history m is =
    let s = sound_after limits m history is in record {
      absent = λ i seat k at_. s.apart k (has_claim m.claims i seat k at_);
      key_once = key_once m.claims s.alone;
      seat_once = seat_once m.claims s.alone;
      looked_up = looked_up m.claims s.alone;
    }
