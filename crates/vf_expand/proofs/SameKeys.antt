-- Keys that compare as equal are equal.
use Rattle.std.proofs.Common.{◌≡◌, ◌∙◌, ℕ, List, refl, ap, nat_cmp, Ordering, Less, Equal, Greater}
use Rattle.std.specs.Ordering.{ordering_then}
use Rattle.std.specs.Cmp.Lexicographic.{slice_cmp}
use Rattle.std.proofs.lemmas.Map.Lookups.{exact_bytes, exact_unsigned}
use Rattle.outside.specs.declared.keys.FontKey.{FontKey}

both_equal : (o p : Ordering) → ordering_then o p ≡ Equal → (o ≡ Equal) × (p ≡ Equal)
both_equal Less p e = absurd cc
both_equal Equal p e = (refl, e)
both_equal Greater p e = absurd cc

pub same_key : (a b : FontKey)
    → ordering_then (nat_cmp a.area b.area) (ordering_then (slice_cmp nat_cmp a.name b.name) (ordering_then (nat_cmp a.size b.size) (nat_cmp a.design b.design))) ≡ Equal → a ≡ b
same_key a b e =
    let first = both_equal (nat_cmp a.area b.area) _ e in
    let second = both_equal (slice_cmp nat_cmp a.name b.name) _ first.1 in
    let third = both_equal (nat_cmp a.size b.size) (nat_cmp a.design b.design) second.1 in
    ap (λ (n : ℕ). record a { area = n }) (exact_unsigned a.area b.area first.0)
    ∙ ap (λ (name : List ℕ). record { area = b.area; name = name; size = a.size; design = a.design }) (exact_bytes a.name b.name second.0)
    ∙ ap (λ (n : ℕ). record { area = b.area; name = b.name; size = n; design = a.design }) (exact_unsigned a.size b.size third.0)
    ∙ ap (λ (n : ℕ). record { area = b.area; name = b.name; size = b.size; design = n }) (exact_unsigned a.design b.design third.1)
