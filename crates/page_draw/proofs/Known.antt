-- The lacks that a page has are found by what is missing.
use Rattle.std.proofs.Common.{◌≡◌, ◌∙◌, nat_eq, Bool, true, false, cond, List, [], ◌∷◌, ◌++◌, refl, sym, ap, ap₂}
use Rattle.std.specs.Prelude.{◌==◌, ◌&&◌, ◌||◌}
use Rattle.std.specs.Arc.{arc_value}
use Rattle.std.specs.BTreeSet.{BTreeSet, Updates}
use Rattle.std.specs.Cmp.{both_tied, unsigned_tied}
use Rattle.std.specs.Cmp.Lexicographic.{pointwise, slice_cmp}
use Rattle.std.specs.Ordering.{int_cmp, int_eq, is_eq, nat_cmp, ordering_then}
use Rattle.std.proofs.lemmas.List.Folds.{list_any-append}
use Rattle.std.proofs.lemmas.List.{map-append}
use Rattle.std.proofs.lemmas.Map.Text.{is_eq-slice_cmp}
use Rattle.outside.specs.declared.keys.FontKey.{FontKey}
use Rattle.cache_core.specs.Machine.{key_eq}
use Rattle.vf_expand.specs.Faults.{PageFaultValue, value_of_fault}
use Rattle.vf_expand.specs.declared.lack.Lack.{Lack}
use Rattle.page_draw.specs.Known.{AreKnown, key_cmp, missing_cmp}
use Rattle.page_draw.specs.Lacks.{LackValue, Names, is_known, is_same, is_same_missing, value_of_lack, values_of, with_lack}
use Rattle.page_draw.specs.declared.lacks.Missing.{Missing}

key_tied : (a b : FontKey) → key_eq a b ≡ is_eq (key_cmp a b)
key_tied a b =
    both_tied (a.area == b.area) (pointwise nat_eq a.name b.name && (a.size == b.size && a.design == b.design)) (nat_cmp a.area b.area)
    (ordering_then (slice_cmp nat_cmp a.name b.name) (ordering_then (nat_cmp a.size b.size) (nat_cmp a.design b.design))) (sym (unsigned_tied a.area b.area))
    (both_tied (pointwise nat_eq a.name b.name) (a.size == b.size && a.design == b.design) (slice_cmp nat_cmp a.name b.name) (ordering_then (nat_cmp a.size b.size) (nat_cmp a.design b.design))
    (sym (is_eq-slice_cmp a.name b.name))
    (both_tied (a.size == b.size) (a.design == b.design) (nat_cmp a.size b.size) (nat_cmp a.design b.design) (sym (unsigned_tied a.size b.size)) (sym (unsigned_tied a.design b.design))))

-- the order tells the faults apart
same_named : (m n : Missing) (f g : PageFaultValue) → Names m f → Names n g → is_eq (missing_cmp m n) ≡ is_same f g
same_named m n f g first second =
    let a = arc_value m.font in
    let b = arc_value n.font in
    sym (both_tied (m.kind == n.kind) (int_eq m.code n.code && key_eq a b) (nat_cmp m.kind n.kind) (ordering_then (int_cmp m.code n.code) (key_cmp a b)) (sym (unsigned_tied m.kind n.kind))
    (both_tied (int_eq m.code n.code) (key_eq a b) (int_cmp m.code n.code) (key_cmp a b) refl (key_tied a b)))
    ∙ sym (ap₂ is_same_missing first second)

either : (a b : Bool) → cond a true b ≡ (b || a)
either true true = refl
either true false = refl
either false true = refl
either false false = refl

or_false : (b : Bool) → (b || false) ≡ b
or_false true = refl
or_false false = refl

values_more : (lacks : List Lack) (lack : Lack) → values_of (lacks ++ lack ∷ []) ≡ values_of lacks ++ value_of_lack lack ∷ []
values_more lacks lack = map-append value_of_lack lacks (lack ∷ [])

-- a new lack is known, and so are those before it
pub known_more : (lacks : List Lack) (lack : Lack) (m : Missing) (old new : BTreeSet Missing) → AreKnown lacks old → Names m (value_of_fault lack.fault) → Updates missing_cmp old new m true
    → AreKnown (lacks ++ lack ∷ []) new
known_more lacks lack m old new known names updates f n named =
    let more : is_known (values_of lacks ++ value_of_lack lack ∷ []) f ≡ (is_known (values_of lacks) f || is_same (value_of_fault lack.fault) f) =
    list_any-append (λ (l : LackValue). is_same l.fault f) (values_of lacks) (value_of_lack lack ∷ []) ∙ ap (λ (b : Bool). is_known (values_of lacks) f || b) (or_false (is_same (value_of_fault lack.fault) f)) in
    updates.0 n ∙ ap₂ (λ (a b : Bool). cond a true b) (same_named m n (value_of_fault lack.fault) f names named) (known f n named)
    ∙ either (is_same (value_of_fault lack.fault) f) (is_known (values_of lacks) f) ∙ sym more ∙ ap (λ (ls : List LackValue). is_known ls f) (sym (values_more lacks lack))

-- a lack that isn't known comes last; one that is is passed over
pub added : (lacks : List Lack) (lack : Lack) → is_known (values_of lacks) (value_of_fault lack.fault) ≡ false → values_of (lacks ++ lack ∷ []) ≡ with_lack (values_of lacks) (value_of_lack lack)
added lacks lack new = rw new (values_more lacks lack)

pub passed_over : (lacks : List Lack) (lack : Lack) → is_known (values_of lacks) (value_of_fault lack.fault) ≡ true → values_of lacks ≡ with_lack (values_of lacks) (value_of_lack lack)
passed_over lacks lack known = rw known refl
