-- Local fonts found by their numbers.
use Rattle.std.proofs.Common.{◌≡◌, ◌∙◌, ◌<◌, inl, inr, ℕ, suc, ℤ, Bool, true, false, cond, List, [], ◌∷◌, ◌++◌, length, get_or, Option, Some, None, refl, sym, ap, subst, arith}
use Rattle.std.specs.Prelude.{if◌then◌else◌}
use Rattle.std.specs.FinMap.{int_cmp-IsAntisymmetric}
use Rattle.std.specs.Map.{lookup}
use Rattle.std.specs.Option.{option_map}
use Rattle.std.specs.Ordering.{int_cmp, is_eq}
use Rattle.std.proofs.lemmas.Bool.{cases_Bool, true≢false}
use Rattle.std.proofs.lemmas.Cmp.{int_cmp_total}
use Rattle.big_endian.specs.Numbers.{int_eq}
use Rattle.big_endian.proofs.Integers.{int_eq_same, int_eq_refl, equal_is, own_tie}
use Rattle.vf_reader.specs.Locals.{local_with}
use Rattle.vf_reader.specs.Places.{ArePlaces, place_of}
use Rattle.vf_reader.specs.declared.locals.LocalDef.{LocalDef}

-- ---- two tests of a number are one

tie : (a b : ℤ) → a ≡ b → is_eq (int_cmp a b) ≡ true
tie a b e = ap (λ (x : ℤ). is_eq (int_cmp x b)) e ∙ own_tie (int_cmp b b) (int_cmp_total.antisymm b b)

pub same_test : (a b : ℤ) → int_eq a b ≡ is_eq (int_cmp a b)
same_test a b = elim (cases_Bool (int_eq a b)) [
  | inl same ↦ same ∙ sym (tie a b (int_eq_same a b same))
  | inr other ↦ elim (cases_Bool (is_eq (int_cmp a b))) [
    | inl tied ↦ let e : a ≡ b = int_cmp-IsAntisymmetric a b (equal_is (int_cmp a b) tied) in absurd (true≢false (sym (int_eq_refl b) ∙ ap (λ (x : ℤ). int_eq x b) (sym e) ∙ other))
    | inr apart ↦ other ∙ sym apart
  ]
]

-- ---- a place determines the local font

abbrev At : List LocalDef → ℤ → Option ℕ → Type 0
At locals k None = local_with locals k ≡ None
At locals k (Some i) = (i < length locals) × ((d : LocalDef) → local_with locals k ≡ Some (get_or locals i d))

at_after : (x : LocalDef) (locals : List LocalDef) (k : ℤ) (o : Option ℕ) → int_eq x.number k ≡ false → At locals k o → At (x ∷ locals) k (option_map suc o)
at_after x locals k None other h = ap (λ b. if b then Some x else local_with locals k) other ∙ h
at_after x locals k (Some i) other h = (omega (arith, h.0), λ d. ap (λ b. if b then Some x else local_with locals k) other ∙ h.1 d)

pub place_tells : (locals : List LocalDef) (k : ℤ) → At locals k (place_of locals k)
place_tells [] k = refl
place_tells (x ∷ locals) k = elim (cases_Bool (int_eq x.number k)) [
  | inl same ↦ subst (At (x ∷ locals) k) (sym (ap (λ b. if b then Some 0 else option_map suc (place_of locals k)) same)) (omega arith, λ d. ap (λ b. if b then Some x else local_with locals k) same)
  | inr other ↦ subst (At (x ∷ locals) k) (sym (ap (λ b. if b then Some 0 else option_map suc (place_of locals k)) other)) (at_after x locals k (place_of locals k) other (place_tells locals k))
]

-- what is found by the entries
pub found_at : (entries : List (ℤ × ℕ)) (locals : List LocalDef) (k : ℤ) (i : ℕ) → ArePlaces entries locals → lookup (λ x. is_eq (int_cmp k x)) entries ≡ Some i
    → (i < length locals) × ((d : LocalDef) → local_with locals k ≡ Some (get_or locals i d))
found_at entries locals k i places e = subst (At locals k) (sym (places k) ∙ e) (place_tells locals k)

pub not_found : (entries : List (ℤ × ℕ)) (locals : List LocalDef) (k : ℤ) → ArePlaces entries locals → lookup (λ x. is_eq (int_cmp k x)) entries ≡ None → local_with locals k ≡ None
not_found entries locals k places e = subst (At locals k) (sym (places k) ∙ e) (place_tells locals k)

-- ---- one more

map_cond : (b : Bool) (n : ℕ) (o : Option ℕ) → option_map suc (cond b (Some n) o) ≡ cond b (Some (suc n)) (option_map suc o)
map_cond true n o = refl
map_cond false n o = refl

apart : (a b k : ℤ) → int_eq a b ≡ false → int_eq a k ≡ true → int_eq b k ≡ false
apart a b k other same = elim (cases_Bool (int_eq b k)) [
  | inl too ↦ absurd (true≢false (sym same ∙ ap (int_eq a) (sym (int_eq_same b k too)) ∙ other))
  | inr not ↦ not
]

absent_after : (x : LocalDef) (locals : List LocalDef) (k : ℤ) → local_with (x ∷ locals) k ≡ None → (int_eq x.number k ≡ false) × (local_with locals k ≡ None)
absent_after x locals k h = elim (cases_Bool (int_eq x.number k)) [
  | inl same ↦ let found : local_with (x ∷ locals) k ≡ Some x = ap (λ b. if b then Some x else local_with locals k) same in absurd (cc)
  | inr other ↦ (other, sym (ap (λ b. if b then Some x else local_with locals k) other) ∙ h)
]

place_more : (locals : List LocalDef) (d : LocalDef) (k : ℤ) → local_with locals d.number ≡ None
    → place_of (locals ++ d ∷ []) k ≡ cond (int_eq d.number k) (Some (length locals)) (place_of locals k)
place_more [] d k none = refl
place_more (x ∷ locals) d k none = elim (cases_Bool (int_eq x.number k)) [
  | inl same ↦
      rw (same, apart x.number d.number k (absent_after x locals d.number none).0 same) refl
  | inr other ↦
      rw other (ap (option_map suc) (place_more locals d k (absent_after x locals d.number none).1) ∙ map_cond (int_eq d.number k) (length locals) (place_of locals k))
]

pub places_with : (locals : List LocalDef) (d : LocalDef) (old new : List (ℤ × ℕ)) → local_with locals d.number ≡ None → ArePlaces old locals
    → ((q : ℤ) → lookup (λ x. is_eq (int_cmp q x)) new ≡ cond (is_eq (int_cmp d.number q)) (Some (length locals)) (lookup (λ x. is_eq (int_cmp q x)) old))
    → ArePlaces new (locals ++ d ∷ [])
places_with locals d old new none places updates k =
    updates k ∙ ap (λ b. cond b (Some (length locals)) (lookup (λ x. is_eq (int_cmp k x)) old)) (sym (same_test d.number k))
    ∙ ap (cond (int_eq d.number k) (Some (length locals))) (places k) ∙ sym (place_more locals d k none)
