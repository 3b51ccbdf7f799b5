-- Pairs of a code and a width, whose codes rise.
use Rattle.std.proofs.Common.{◌≡◌, ◌∙◌, ◌⊎◌, inl, inr, ℕ, zero, suc, ◌+◌, ◌-◌, ◌<◌, ◌≤◌, ℤ, pos, true, false, List, [], ◌∷◌, length, get_or, Some, None, refl, ap, arith}
use Rattle.std.specs.Prelude.{◌==◌, IsTrue}
use Rattle.std.proofs.lemmas.Bool.{and_parts, ltb-true, eqb-true, cases_Bool, cond-true, cond-false}
use Rattle.sample_maker.specs.TfmFile.{are_rising, code_at, first_code, last_code, place_from, width_in}

first_two : (p q : ℕ × ℤ) (pairs : List (ℕ × ℤ)) → IsTrue (are_rising (p ∷ q ∷ pairs)) → (p.0 < q.0) × IsTrue (are_rising (q ∷ pairs))
first_two p q pairs h = let parts = and_parts _ _ h in (ltb-true p.0 q.0 parts.0, parts.1)

-- no code is below the first, nor above the last
pub first_least : (pairs : List (ℕ × ℤ)) (j : ℕ) → IsTrue (are_rising pairs) → j < length pairs → first_code pairs ≤ code_at pairs j
first_least [] j h lt = absurd (omega arith)
first_least (p ∷ pairs) zero h lt = omega arith
first_least (p ∷ []) (suc j) h lt = absurd (omega arith)
first_least (p ∷ q ∷ pairs) (suc j) h lt =
    let two = first_two p q pairs h in
    omega (arith, two.0, first_least (q ∷ pairs) j two.1 (omega (arith, lt)))

last_is : (p : ℕ × ℤ) (pairs : List (ℕ × ℤ)) → 1 ≤ length pairs → last_code (p ∷ pairs) ≡ last_code pairs
last_is p pairs some =
    let place : suc (length pairs) - 1 ≡ suc (length pairs - 1) = omega arith in
    ap (code_at (p ∷ pairs)) place

pub last_greatest : (pairs : List (ℕ × ℤ)) (j : ℕ) → IsTrue (are_rising pairs) → j < length pairs → code_at pairs j ≤ last_code pairs
last_greatest [] j h lt = absurd (omega arith)
last_greatest (p ∷ []) zero h lt = omega arith
last_greatest (p ∷ []) (suc j) h lt = absurd (omega arith)
last_greatest (p ∷ q ∷ pairs) zero h lt =
    let two = first_two p q pairs h in
    omega (arith, two.0, last_is p (q ∷ pairs) (omega arith), last_greatest (q ∷ pairs) 0 two.1 (omega arith))
last_greatest (p ∷ q ∷ pairs) (suc j) h lt =
    let two = first_two p q pairs h in
    omega (arith, last_is p (q ∷ pairs) (omega arith), last_greatest (q ∷ pairs) j two.1 (omega (arith, lt)))

-- ---- the pair of a code

pub record IsPlace (i : ℕ) (pairs : List (ℕ × ℤ)) (c j : ℕ) : Type 0 where
  pub within : j < length pairs
  pub place : place_from i pairs c ≡ i + j
  pub code : code_at pairs j ≡ c
  pub width : width_in pairs c ≡ Some (get_or pairs j (0, pos 0)).1

pub record HasNoPlace (i : ℕ) (pairs : List (ℕ × ℤ)) (c : ℕ) : Type 0 where
  pub place : place_from i pairs c ≡ 0
  pub width : width_in pairs c ≡ None

here : (i : ℕ) (p : ℕ × ℤ) (pairs : List (ℕ × ℤ)) (c : ℕ) → (p.0 == c) ≡ true → IsPlace i (p ∷ pairs) c 0
here i p pairs c e = record {
  within = omega arith;
  place = let same : i ≡ i + 0 = omega arith in cond-true _ i (place_from (i + 1) pairs c) e ∙ same;
  code = eqb-true p.0 c e;
  width = cond-true _ (Some p.1) (width_in pairs c) e;
}

later : (i : ℕ) (p : ℕ × ℤ) (pairs : List (ℕ × ℤ)) (c j : ℕ) → (p.0 == c) ≡ false → IsPlace (i + 1) pairs c j → IsPlace i (p ∷ pairs) c (suc j)
later i p pairs c j e is = record {
  within = omega (arith, is.within);
  place = let same : i + 1 + j ≡ i + suc j = omega arith in cond-false _ i (place_from (i + 1) pairs c) e ∙ is.place ∙ same;
  code = is.code;
  width = cond-false _ (Some p.1) (width_in pairs c) e ∙ is.width;
}

nowhere : (i : ℕ) (p : ℕ × ℤ) (pairs : List (ℕ × ℤ)) (c : ℕ) → (p.0 == c) ≡ false → HasNoPlace (i + 1) pairs c → HasNoPlace i (p ∷ pairs) c
nowhere i p pairs c e none = record {
  place = cond-false _ i (place_from (i + 1) pairs c) e ∙ none.place;
  width = cond-false _ (Some p.1) (width_in pairs c) e ∙ none.width;
}

pub place_or_none : (i : ℕ) (pairs : List (ℕ × ℤ)) (c : ℕ) → ((j : ℕ) × IsPlace i pairs c j) ⊎ HasNoPlace i pairs c
place_or_none i [] c = inr (record { place = refl; width = refl })
place_or_none i (p ∷ pairs) c = elim (cases_Bool (p.0 == c)) [
  | inl e ↦ inl (0, here i p pairs c e)
  | inr e ↦ elim (place_or_none (i + 1) pairs c) [
    | inl found ↦ inl (suc found.0, later i p pairs c found.0 e found.1)
    | inr none ↦ inr (nowhere i p pairs c e none)
  ]
]

-- a place counted from 1 is at most the number of pairs
pub place_fits : (pairs : List (ℕ × ℤ)) (c : ℕ) → place_from 1 pairs c ≤ length pairs
place_fits pairs c = elim (place_or_none 1 pairs c) [
  | inl found ↦ omega (arith, found.1.place, found.1.within)
  | inr none ↦ omega (arith, none.place)
]
