-- Widths at a size: how large they are, and a table of them.
use Rattle.std.proofs.Common.{◌≡◌, ◌∙◌, inl, inr, ℕ, zero, suc, ◌+◌, ◌-◌, ◌*◌, ◌^◌, ◌<◌, ◌≤◌, ℤ, pos, negsuc, ◌*ℤ◌, neg_ℤ, ◌&&◌, Bool, true, false, not, leb, List, [], ◌∷◌, length, Option, None, get_or, refl, sym, ap, subst, arith}
use Rattle.std.proofs.Math.Nat.{div-mul-le_self, mul-le-mul}
use Rattle.std.specs.Prelude.{nat_le, nat_lt, if◌then◌else◌}
use Rattle.std.specs.Int.{int_div_euclid}
use Rattle.std.specs.Option.{option_map}
use Rattle.std.proofs.lemmas.Int.{ints}
use Rattle.fix_word.specs.Scale.{kept_size, scale, shift}
use Rattle.std.proofs.lemmas.Bool.{and_parts, cases_lt, le-ltb, leb-true}
use Rattle.std.proofs.lemmas.List.{get_or_past}
use Rattle.std.proofs.lemmas.Option.{unwrap_or-slice_get}
use Rattle.fix_word.specs.FixWords.{IsFixWord}
use Rattle.tfm_reader.specs.Tfm.{are_right, bc, codes_of, ec, fault_if, first_some, indexed_width, lf, lh, nw, others, tables_fault, tfm_fault, tfm_width, width_index, width_of}
use Rattle.tfm_reader.specs.declared.faults.TfmFault.{TfmFault}
use Rattle.tfm_reader.specs.declared.faults.TfmFault.TheVariants.{Counts, Short}
use Rattle.outside.specs.Limits.{SIZES}
use Rattle.font_decode.specs.Fonts.{IsWidth}
use Rattle.font_decode.specs.Decoding.{scaled_width}
use Rattle.font_decode.specs.Reading.{IsTfmOf}

-- ---- the size of a width

-- rounded down, to 2 ^ 20
abbrev floor_20 : ℤ → ℤ
floor_20 x = int_div_euclid x (pos (2 ^ 20))

product_fits : (m z : ℕ) → m ≤ 2 ^ 24 → z < SIZES → m * kept_size z ≤ 2 ^ 51
product_fits m z few lt =
    let kept : kept_size z ≤ SIZES = omega (arith, div-mul-le_self z (2 ^ shift z)) in
    mul-le-mul few kept

left : (n : ℕ) → n ≤ 2 ^ 51 → IsWidth (floor_20 (neg_ℤ (pos n)))
left zero h = omega arith
left (suc n) h = omega arith

negsuc-mul : (m k : ℕ) → negsuc m *ℤ pos k ≡ neg_ℤ (pos (suc m * k))
negsuc-mul m k = grind (arith, ints)

pub scale_fits : (x : ℤ) (z : ℕ) → IsFixWord x → z < SIZES → IsWidth (scale x z)
scale_fits (pos m) z h lt =
    let few : m ≤ 2 ^ 24 = omega (arith, ints, h.1) in
    omega (arith, product_fits m z few lt)
scale_fits (negsuc m) z h lt =
    let few : suc m ≤ 2 ^ 24 = omega (arith, ints, h.0) in
    subst (λ (y : ℤ). IsWidth (floor_20 y)) (sym (negsuc-mul m (kept_size z))) (left (suc m * kept_size z) (product_fits (suc m) z few lt))

-- ---- the table

-- where no row has a fault, the counts are right
rows_right : (short right cut : Bool) (rest : Option TfmFault) → first_some (first_some (fault_if short Short ∷ fault_if (not right) Counts ∷ fault_if cut Short ∷ []) ∷ rest ∷ []) ≡ None → right ≡ true
rows_right true right cut rest e = cc
rows_right false false cut rest e = cc
rows_right false true cut rest e = refl

pub last_code : (bytes : List ℕ) → tfm_fault bytes ≡ None → bc bytes + codes_of bytes ≤ 256
last_code bytes sound =
    let right = rows_right (nat_lt (length bytes) 24) (are_right (lf bytes) (lh bytes) (bc bytes) (ec bytes) (nw bytes) (others bytes)) (nat_lt (length bytes) (4 * lf bytes)) (tables_fault bytes) sound in
    let codes = and_parts _ _ (and_parts _ _ (and_parts _ _ right).0).0 in
    let first : bc bytes ≤ ec bytes + 1 = leb-true _ _ codes.0 in
    let last : ec bytes ≤ 255 = leb-true _ _ codes.1 in
    omega (arith, first, last)

-- a code above the last has no width
none_above : (first codes c : ℕ) (w : Option ℤ) → first + codes ≤ 256 → 256 ≤ c → (if (nat_le first c && nat_lt (c - first) codes) then w else None) ≡ None
none_above first codes c w last above =
    let far : codes ≤ c - first = omega arith in
    rw (le-ltb _ _ far) (by_first (leb first c) w)
  where
    by_first : (b : Bool) (w : Option ℤ) → (if (b && false) then w else None) ≡ None
    by_first true w = refl
    by_first false w = refl

none_past : (bytes : List ℕ) (c : ℕ) → tfm_fault bytes ≡ None → 256 ≤ c → tfm_width bytes (pos c) ≡ None
none_past bytes c sound above = none_above (bc bytes) (codes_of bytes) c (indexed_width bytes (width_index bytes (c - bc bytes))) (last_code bytes sound) above

-- a table of the codes below 256 has the widths of all
pub scaled_table : (size : ℕ) (bytes : List ℕ) (read widths : List (Option ℤ)) → length widths ≡ 256
    → ((c : ℕ) → c < 256 → get_or widths c None ≡ option_map (λ w. scale w size) (width_of read (pos c)))
    → IsTfmOf bytes read → (c : ℤ) → width_of widths c ≡ scaled_width size bytes c
scaled_table size bytes read widths len right tfm (negsuc c) = refl
scaled_table size bytes read widths len right tfm (pos c) = unwrap_or-slice_get widths c None ∙ elim (cases_lt c 256) [
  | inl below ↦ right c below ∙ ap (option_map (λ w. scale w size)) (tfm.widths (pos c))
  | inr above ↦
      get_or_past widths c None (subst (λ n. n ≤ c) (sym len) above)
      ∙ sym (ap (option_map (λ w. scale w size)) (none_past bytes c tfm.sound above))
]
