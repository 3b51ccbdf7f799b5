-- A file that is cut.
use Rattle.std.proofs.Common.{◌≡◌, ◌∙◌, ℕ, ◌+◌, ◌-◌, ◌*◌, ◌<◌, ◌≤◌, ◌⊎◌, inl, inr, Bool, true, false, not, List, [], ◌∷◌, length, take, drop, Option, Some, None, refl, sym, ap, subst, arith}
use Rattle.std.specs.Prelude.{nat_lt}
use Rattle.std.proofs.lemmas.Bool.{cases_lt, lt-ltb}
use Rattle.std.proofs.lemmas.List.{drop-take, take-take}
use Rattle.std.proofs.lemmas.Grind.{common_steps}
use Rattle.big_endian.specs.Numbers.{unsigned_of}
use Rattle.tfm_reader.specs.Tfm.{CutFilesAreShort, are_right, bc, count, ec, fault_if, first_some, lf, lh, nw, others, tables_fault}
use Rattle.tfm_reader.specs.declared.faults.TfmFault.{TfmFault}
use Rattle.tfm_reader.specs.declared.faults.TfmFault.TheVariants.{Counts, Short}

-- the bytes before a cut are those of the file
kept : (xs : List ℕ) (n i : ℕ) → i + 2 ≤ n → take 2 (drop i (take n xs)) ≡ take 2 (drop i xs)
kept xs n i le =
    let all : n ≡ i + (n - i) = omega arith in
    ap (λ k. take 2 (drop i (take k xs))) all ∙ (ap (take 2) (drop-take i (n - i) xs) ∙ take-take 2 (n - i) (drop i xs) (omega arith))

count_kept : (xs : List ℕ) (n k : ℕ) → 2 * k + 2 ≤ n → count (take n xs) k ≡ count xs k
count_kept xs n k le = ap unsigned_of (kept xs n (2 * k) le)

-- where no row has a fault, the first three have none
rows_right : (short wrong cut : Bool) (rest : Option TfmFault) → first_some (first_some (fault_if short Short ∷ fault_if (not wrong) Counts ∷ fault_if cut Short ∷ []) ∷ rest ∷ []) ≡ None
    → (short ≡ false) × (wrong ≡ true) × (cut ≡ false)
rows_right true wrong cut rest e = cc
rows_right false false cut rest e = cc
rows_right false true true rest e = cc
rows_right false true false rest e = (refl, refl, refl)

-- where the file is too short for its counts, or its counts are right and it is too short for them
rows_short : (short wrong cut : Bool) (rest : Option TfmFault) → (short ≡ true) ⊎ ((wrong ≡ true) × (cut ≡ true))
    → first_some (first_some (fault_if short Short ∷ fault_if (not wrong) Counts ∷ fault_if cut Short ∷ []) ∷ rest ∷ []) ≡ Some Short
rows_short true wrong cut rest h = refl
rows_short false wrong cut rest (inl e) = cc
rows_short false wrong cut rest (inr e) = rw (e.0, e.1) refl

right_counts : (bytes : List ℕ) (n : ℕ) → 24 ≤ n → are_right (lf bytes) (lh bytes) (bc bytes) (ec bytes) (nw bytes) (others bytes) ≡ true
    → are_right (lf (take n bytes)) (lh (take n bytes)) (bc (take n bytes)) (ec (take n bytes)) (nw (take n bytes)) (others (take n bytes)) ≡ true
right_counts bytes n enough right =
    rw (
      count_kept bytes n 0 (omega (arith, enough)),
      count_kept bytes n 1 (omega (arith, enough)),
      count_kept bytes n 2 (omega (arith, enough)),
      count_kept bytes n 3 (omega (arith, enough)),
      count_kept bytes n 4 (omega (arith, enough)),
      count_kept bytes n 5 (omega (arith, enough)),
      count_kept bytes n 6 (omega (arith, enough)),
      count_kept bytes n 7 (omega (arith, enough)),
      count_kept bytes n 8 (omega (arith, enough)),
      count_kept bytes n 9 (omega (arith, enough)),
      count_kept bytes n 10 (omega (arith, enough)),
      count_kept bytes n 11 (omega (arith, enough)),
    ) right

at_most : (bytes : List ℕ) (n : ℕ) → length (take n bytes) ≤ n
at_most bytes n = grind (arith, common_steps)

pub cut_files_are_short : CutFilesAreShort
cut_files_are_short bytes n none lt = rows_short _ _ _ (tables_fault (take n bytes)) (by_cut (cases_lt n 24))
  where
    by_cut : (n < 24) ⊎ (24 ≤ n) → (nat_lt (length (take n bytes)) 24 ≡ true)
        ⊎ ((are_right (lf (take n bytes)) (lh (take n bytes)) (bc (take n bytes)) (ec (take n bytes)) (nw (take n bytes)) (others (take n bytes)) ≡ true)
        × (nat_lt (length (take n bytes)) (4 * lf (take n bytes)) ≡ true))
    by_cut (inl few) = inl (lt-ltb _ _ (omega (arith, at_most bytes n, few)))
    by_cut (inr enough) =
        let rows = rows_right (nat_lt (length bytes) 24) (are_right (lf bytes) (lh bytes) (bc bytes) (ec bytes) (nw bytes) (others bytes)) (nat_lt (length bytes) (4 * lf bytes)) (tables_fault bytes) none in
        inr (right_counts bytes n enough rows.1, lt-ltb _ _ (subst (λ w. length (take n bytes) < 4 * w) (sym (count_kept bytes n 0 (omega (arith, enough)))) (omega (arith, at_most bytes n, lt))))
