-- A table that grows by one entry at a time.
use Rattle.std.proofs.Common.{◌≡◌, ◌∙◌, inl, inr, ℕ, ℤ, pos, negsuc, ◌+◌, ◌-◌, ◌<◌, ◌≤◌, ◌&&◌, Bool, true, false, leb, List, [], ◌∷◌, ◌++◌, length, Option, None, get_or, refl, sym, ap, subst, arith}
use Rattle.std.specs.Prelude.{All, nat_le, nat_lt, if◌then◌else◌}
use Rattle.std.proofs.lemmas.Bool.{cases_lt, le-ltb}
use Rattle.std.proofs.lemmas.List.Elements.{All-append}
use Rattle.std.proofs.lemmas.List.{get_or_append_left, get_or-append_right, get_or_past}
use Rattle.std.proofs.lemmas.Option.{unwrap_or-slice_get}
use Rattle.tfm_reader.specs.Tfm.{bc, codes_of, indexed_width, tfm_width, width_index, width_of}

pub pushed : {X : Type 0} (xs : List X) (x d : X) (f : ℕ → X) (n : ℕ) → length xs ≡ n → ((c : ℕ) → c < n → get_or xs c d ≡ f c) → x ≡ f n
    → (c : ℕ) → c < n + 1 → get_or (xs ++ x ∷ []) c d ≡ f c
pushed xs x d f n len before last c lt = elim (cases_lt c n) [
  | inl below ↦ get_or_append_left xs (x ∷ []) d c (subst (λ m. c < m) (sym len) below) ∙ before c below
  | inr above ↦
      let same : c ≡ n = omega arith in
      let first : c - n ≡ 0 = omega arith in
      get_or-append_right xs (x ∷ []) n c d len above ∙ (ap (λ i. get_or (x ∷ []) i d) first ∙ (last ∙ ap f (sym same)))
]

pub pushed_all : {X : Type 0} (P : X → Type 0) (xs : List X) (x : X) → All P xs → P x → All P (xs ++ x ∷ [])
pushed_all P xs x all one = All-append P xs (x ∷ []) all alone
  where
    alone : All P (x ∷ [])
    alone k d lt = let first : k ≡ 0 = omega arith in subst (λ i. P (get_or (x ∷ []) i d)) (sym first) one

-- a code above the last has no width
none_above : (first codes c : ℕ) (w : Option ℤ) → first + codes ≤ 256 → 256 ≤ c → (if (nat_le first c && nat_lt (c - first) codes) then w else None) ≡ None
none_above first codes c w last above =
    let far : codes ≤ c - first = omega arith in
    rw (le-ltb _ _ far) (by_first (leb first c) w)
  where
    by_first : (b : Bool) (w : Option ℤ) → (if (b && false) then w else None) ≡ None
    by_first true w = refl
    by_first false w = refl

-- a table of the codes below 256 has the widths of all
pub whole_table : (bytes : List ℕ) (widths : List (Option ℤ)) → length widths ≡ 256 → bc bytes + codes_of bytes ≤ 256
    → ((c : ℕ) → c < 256 → get_or widths c None ≡ tfm_width bytes (pos c)) → (c : ℤ) → width_of widths c ≡ tfm_width bytes c
whole_table bytes widths len last right (negsuc c) = refl
whole_table bytes widths len last right (pos c) = unwrap_or-slice_get widths c None ∙ elim (cases_lt c 256) [
  | inl below ↦ right c below
  | inr above ↦
      get_or_past widths c None (subst (λ n. n ≤ c) (sym len) above)
      ∙ sym (none_above (bc bytes) (codes_of bytes) c (indexed_width bytes (width_index bytes (c - bc bytes))) last above)
]
