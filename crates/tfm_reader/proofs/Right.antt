-- Bytes without a fault are a TFM file.
use Rattle.std.proofs.Common.{◌≡◌, ◌⊎◌, ◌<◌, ◌≤◌, inl, inr, ℕ, zero, suc, ◌+◌, ◌-◌, ◌*◌, ℤ, pos, negsuc, Bool, true, false, not, List, [], ◌∷◌, length, Option, Some, None, refl, ap, arith}
use Rattle.std.specs.Prelude.{◌&&◌, ◌==◌, nat_lt, slice_index}
use Rattle.std.specs.Option.{option_map}
use Rattle.std.proofs.lemmas.Bool.{eqb-true, le-ltb, lt-leb, ltb-false}
use Rattle.std.proofs.lemmas.Bool.Decides.{nat_tests}
use Rattle.tfm_reader.specs.Tfm.{are_right, bc, byte_fault, codes_of, ec, fault_if, first_some, index_fault, is_index_wrong, is_width_byte_wrong, is_zero, least_from, lf, lh, nw, others, tables_fault, tfm_fault, width_at, width_word}
use Rattle.tfm_reader.specs.Right.{FilesAreRightOrHaveAFault, FilesHaveNoFault, IsTfm}
use Rattle.tfm_reader.specs.declared.faults.TfmFault.{TfmFault}
use Rattle.tfm_reader.specs.declared.faults.TfmFault.TheVariants.{Counts, Short, WidthByte, WidthIndex, WidthZero}
use Rattle.tfm_reader.proofs.Rows.{byte_right, index_right}

-- ---- what no fault says

counts_none : (short wrong cut : Bool) (rest : Option TfmFault) → first_some (first_some (fault_if short Short ∷ fault_if (not wrong) Counts ∷ fault_if cut Short ∷ []) ∷ rest ∷ []) ≡ None
    → (short ≡ false) × (wrong ≡ true) × (cut ≡ false) × (rest ≡ None)
counts_none true wrong cut rest e = cc
counts_none false false cut rest e = cc
counts_none false true true rest e = cc
counts_none false true false None e = (refl, refl, refl, refl)
counts_none false true false (Some f) e = cc

tables_none : (a d : Option TfmFault) (byte zero_word : Bool) → first_some (a ∷ fault_if byte (WidthByte 0) ∷ fault_if (not zero_word) WidthZero ∷ d ∷ []) ≡ None
    → (byte ≡ false) × (zero_word ≡ true)
tables_none (Some f) d byte zero_word e = cc
tables_none None d true zero_word e = cc
tables_none None d false false e = cc
tables_none None d false true e = (refl, refl)

counts_together : (words header first last widths others : ℕ) → are_right words header first last widths others ≡ true
    → (first ≤ last + 1) × (last ≤ 255) × (0 < widths) × (words ≡ 6 + header + (last + 1 - first) + widths + others)
counts_together words header first last widths others e = grind (arith, nat_tests)

is_byte : (b : ℕ) → (not (b == 0) && not (b == 255)) ≡ false → (b ≡ 0) ⊎ (b ≡ 255)
is_byte b e = grind (arith, nat_tests)

zero_is : (z : ℤ) → is_zero z ≡ true → z ≡ pos 0
zero_is (pos n) e = ap pos (eqb-true n 0 e)
zero_is (negsuc n) e = cc

right_file : (bytes : List ℕ) → tfm_fault bytes ≡ None → IsTfm bytes
right_file bytes none =
    let rows = counts_none (nat_lt (length bytes) 24) (are_right (lf bytes) (lh bytes) (bc bytes) (ec bytes) (nw bytes) (others bytes)) (nat_lt (length bytes) (4 * lf bytes)) (tables_fault bytes) none in
    let together = counts_together (lf bytes) (lh bytes) (bc bytes) (ec bytes) (nw bytes) (others bytes) rows.1 in
    let first = tables_none (index_fault bytes) (byte_fault bytes) (is_width_byte_wrong bytes 0) (is_zero (width_word bytes 0)) rows.3 in
    record {
      counted = ltb-false (length bytes) 24 rows.0;
      rise = together.0;
      last = together.1;
      some = together.2;
      words = together.3;
      whole = ltb-false (length bytes) (4 * lf bytes) rows.2;
      indices = λ i lt. index_right bytes i rows.3 lt;
      narrow = λ i lt. is_byte (slice_index bytes (width_at bytes i)) (width_right i lt first.0 rows.3);
      nothing = zero_is (width_word bytes 0) first.1;
    }
  where
    width_right : (i : ℕ) → i < nw bytes → is_width_byte_wrong bytes 0 ≡ false → tables_fault bytes ≡ None → is_width_byte_wrong bytes i ≡ false
    width_right zero lt byte clean = byte
    width_right (suc i) lt byte clean = byte_right bytes (suc i) clean (omega arith) lt

-- ---- and what a right file says

none_from : (test : ℕ → Bool) (k n : ℕ) → ((i : ℕ) → k ≤ i → i < k + n → test i ≡ false) → least_from test k n ≡ None
none_from test k zero h = refl
none_from test k (suc n) h = rw (h k (omega arith) (omega arith)) (none_from test (k + 1) n (λ i le lt. h i (omega (arith, le)) (omega (arith, lt))))

right_byte : (b : ℕ) → (b ≡ 0) ⊎ (b ≡ 255) → (not (b == 0) && not (b == 255)) ≡ false
right_byte b (inl e) = rw e refl
right_byte b (inr e) = rw e refl

right_counts : (words header first last widths others : ℕ) → first ≤ last + 1 → last ≤ 255 → 0 < widths → words ≡ 6 + header + (last + 1 - first) + widths + others
    → are_right words header first last widths others ≡ true
right_counts words header first last widths others p q r e = grind (arith, nat_tests)

all_none : (short wrong cut byte zero_word : Bool) (a d : Option TfmFault) → short ≡ false → wrong ≡ true → cut ≡ false → a ≡ None → byte ≡ false → zero_word ≡ true → d ≡ None
    → first_some (first_some (fault_if short Short ∷ fault_if (not wrong) Counts ∷ fault_if cut Short ∷ [])
    ∷ first_some (a ∷ fault_if byte (WidthByte 0) ∷ fault_if (not zero_word) WidthZero ∷ d ∷ []) ∷ []) ≡ None
all_none short wrong cut byte zero_word a d e f g h i j k = rw (e, f, g, h, i, j, k) refl

no_fault : (bytes : List ℕ) → IsTfm bytes → tfm_fault bytes ≡ None
no_fault bytes is = all_none _ _ _ _ _ _ _
    (le-ltb (length bytes) 24 is.counted)
    (right_counts _ _ _ _ _ _ is.rise is.last is.some is.words)
    (le-ltb (length bytes) (4 * lf bytes) is.whole)
    (ap (option_map (λ i. WidthIndex (bc bytes + i))) (none_from (is_index_wrong bytes) 0 (codes_of bytes) (λ i le lt. lt-leb _ _ (is.indices i (omega (arith, lt))))))
    (right_byte _ (is.narrow 0 is.some))
    (ap is_zero is.nothing)
    (ap (option_map WidthByte) (none_from (is_width_byte_wrong bytes) 1 (nw bytes - 1) (λ i le lt. right_byte _ (is.narrow i (omega (arith, le, lt))))))

pub files_have_no_fault : FilesHaveNoFault
files_have_no_fault bytes = (right_file bytes, no_fault bytes)

pub files_are_right_or_have_a_fault : FilesAreRightOrHaveAFault
files_are_right_or_have_a_fault bytes = by (tfm_fault bytes) refl
  where
    by : (o : Option TfmFault) → tfm_fault bytes ≡ o → IsTfm bytes ⊎ ((f : TfmFault) × (tfm_fault bytes ≡ Some f))
    by None e = inl (right_file bytes e)
    by (Some f) e = inr (f, e)
