-- The table of fonts, one definition more.
use Rattle.std.proofs.Common.{◌≡◌, ℕ, inl, inr, ℤ, pos, Bool, true, false, cond, List, refl, sym, ap, ◌∙◌, Option, Some, None, eqb-true}
use Rattle.std.specs.Prelude.{◌&&◌, ◌==◌, not, nat_eq, if◌then◌else◌, is_some, unsigned_abs}
use Rattle.std.specs.Ordering.{int_cmp, eq_by_cmp}
use Rattle.std.specs.Cmp.Lexicographic.{pointwise, same_text}
use Rattle.std.specs.FinMap.{get, insert, get-insert, int_cmp-IsAntisymmetric}
use Rattle.std.proofs.lemmas.Cmp.{int_cmp_total}
use Rattle.std.proofs.lemmas.Bool.{and_parts, cases_Bool, true≢false}
use Rattle.big_endian.specs.Numbers.{int_eq}
use Rattle.big_endian.proofs.Integers.{int_eq_same, int_eq_refl, equal_is, own_tie}
use Rattle.outside.specs.declared.keys.FontKey.{FontKey}
use Rattle.dvi_commands.specs.Spelling.{Definition, Define}
use Rattle.page_index.specs.Judged.{agrees_with, define_fault, is_same_font, is_size}
use Rattle.page_index.specs.Document.{Reading, font_table, key_of, key_or}
use Rattle.page_index.specs.Fonts.{Fonts}
use Rattle.page_index.specs.Walked.{fonts_after}
use Rattle.page_index.specs.declared.faults.DocFault.TheVariants.{FontClash, FontDef}

-- ---- numbers

-- the order tells numbers apart as the test of numbers does
ties : (k n : ℤ) → eq_by_cmp int_cmp k n ≡ int_eq n k
ties k n = elim (cases_Bool (int_eq n k)) [
  | inl same ↦ let e : n ≡ k = int_eq_same n k same in by_refl e ∙ sym same
  | inr other ↦ elim (cases_Bool (eq_by_cmp int_cmp k n)) [
    | inl tied ↦ let e : k ≡ n = int_cmp-IsAntisymmetric k n (equal_is (int_cmp k n) tied) in absurd (true≢false (sym (int_eq_refl k) ∙ ap (λ (x : ℤ). int_eq x k) e ∙ other))
    | inr apart ↦ apart ∙ sym other
  ]
]
  where
    by_refl : n ≡ k → eq_by_cmp int_cmp k n ≡ true
    by_refl e = ap (λ (x : ℤ). eq_by_cmp int_cmp k x) e ∙ own_tie (int_cmp k k) (int_cmp_total.antisymm k k)

-- ---- a definition

-- a definition that says a key has that key
pub key_is : (k : FontKey) (d : Definition) → is_same_font k d ≡ true → key_of d ≡ k
key_is k d h =
    let name = and_parts (int_eq (pos k.size) d.size && int_eq (pos k.design) d.design && k.area == d.area) (pointwise nat_eq k.name d.name) h in
    let area = and_parts (int_eq (pos k.size) d.size && int_eq (pos k.design) d.design) (k.area == d.area) name.0 in
    let sizes = and_parts (int_eq (pos k.size) d.size) (int_eq (pos k.design) d.design) area.0 in
    let size_is : pos k.size ≡ d.size = int_eq_same (pos k.size) d.size sizes.0 in
    let design_is : pos k.design ≡ d.design = int_eq_same (pos k.design) d.design sizes.1 in
    let area_is : k.area ≡ d.area = eqb-true k.area d.area area.1 in
    let name_is : k.name ≡ d.name = same_text k.name d.name (sym name.1) in
    made (sym area_is) (sym name_is) (sym (ap unsigned_abs size_is)) (sym (ap unsigned_abs design_is))
  where
    key : ℕ → List ℕ → ℕ → ℕ → FontKey
    key a n s g = record { area = a; name = n; size = s; design = g }

    made : {a b : ℕ} {n m : List ℕ} {s t g h : ℕ} → a ≡ b → n ≡ m → s ≡ t → g ≡ h → key a n s g ≡ key b m t h
    made p q r s = rw (p, q, r, s) refl

pub sizes_agree : (d : Definition) (known : Option FontKey) (at : ℕ) → define_fault known at d ≡ None → agrees_with known d ≡ true
sizes_agree d known at h = by (is_size d.size && is_size d.design) (agrees_with known d) h
  where
    by : (sizes agrees : Bool) → (if not sizes then Some (FontDef d.number at) else if not agrees then Some (FontClash d.number at) else None) ≡ None → agrees ≡ true
    by true true h = refl
    by true false h = cc
    by false agrees h = cc

-- the number of a definition has its key, whether or not it had one before
known_key : (d : Definition) (known : Option FontKey) → agrees_with known d ≡ true → (k : ℤ) (old : ℤ → Option FontKey) → old d.number ≡ known → is_some known ≡ true
    → old k ≡ key_or (old k) k (Define d)
known_key d None agrees k old e some = cc
known_key d (Some first) agrees k old e some = elim (cases_Bool (int_eq d.number k)) [
  | inl same ↦ sym (ap old (int_eq_same d.number k same)) ∙ e ∙ ap Some (sym (key_is first d agrees)) ∙ sym (ap (λ (b : Bool). if b then Some (key_of d) else old k) same)
  | inr other ↦ sym (ap (λ (b : Bool). if b then Some (key_of d) else old k) other)
]

-- the table after a definition that nothing is wrong with
pub keys_more : (fonts : Fonts) (r : Reading) (d : Definition) (at : ℕ) → ((k : ℤ) → get fonts k ≡ font_table r k) → define_fault (get fonts d.number) at d ≡ None
    → (k : ℤ) → get (fonts_after fonts (Define d)) k ≡ key_or (font_table r k) k (Define d)
keys_more fonts r d at keys right k = elim (cases_Bool (is_some (get fonts d.number))) [
  | inl some ↦
      ap (λ (b : Bool). get (if b then fonts else insert fonts d.number (key_of d)) k) some
      ∙ known_key d (get fonts d.number) (sizes_agree d (get fonts d.number) at right) k (get fonts) refl some
      ∙ ap (λ (o : Option FontKey). key_or o k (Define d)) (keys k)
  | inr none ↦
      ap (λ (b : Bool). get (if b then fonts else insert fonts d.number (key_of d)) k) none
      ∙ get-insert int_cmp_total fonts d.number (key_of d) k
      ∙ ap (λ (b : Bool). cond b (Some (key_of d)) (get fonts k)) (ties k d.number)
      ∙ ap (λ (o : Option FontKey). cond (int_eq d.number k) (Some (key_of d)) o) (keys k)
]
