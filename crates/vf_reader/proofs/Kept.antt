-- A span that is kept for a code.
use Rattle.std.proofs.Common.{◌≡◌, ◌∙◌, ◌≤◌, ◌<◌, inl, inr, ℕ, false, cond, List, [], ◌∷◌, replicate, get_or, Option, Some, None, refl, sym, ap, arith}
use Rattle.std.specs.Prelude.{◌==◌, if◌then◌else◌}
use Rattle.std.specs.BTreeMap.{is_at}
use Rattle.std.specs.Map.{lookup}
use Rattle.std.specs.Ordering.{is_eq, nat_cmp}
use Rattle.std.proofs.lemmas.Bool.{cases_lt, lt-ltb, le-ltb}
use Rattle.std.proofs.lemmas.Bool.Decides.{nat_tests}
use Rattle.std.proofs.lemmas.List.{get_or-replicate}
use Rattle.vf_reader.specs.declared.packet_table.Span.{Span}
use Rattle.vf_reader.specs.Fonts.{Spans, span_of}

-- two tests of a code are one
same_test : (c k : ℕ) → (c == k) ≡ is_eq (nat_cmp c k)
same_test c k = grind (arith, nat_tests)

same_lookup : (c : ℕ) (es : List (ℕ × Span)) → lookup (λ k. c == k) es ≡ lookup (is_at (nat_cmp c)) es
same_lookup c [] = refl
same_lookup c (e ∷ es) = ap (λ t. cond t (Some e.1) (lookup (λ k. c == k) es)) (same_test c e.0) ∙ ap (cond (is_eq (nat_cmp c e.0)) (Some e.1)) (same_lookup c es)

abbrev kept : List (Option Span) → List (ℕ × Span) → Spans
kept table others = record { table = table; others = others }

apart : (c k : ℕ) → 256 ≤ c → k < 256 → (c == k) ≡ false
apart c k high low = grind (arith, nat_tests)

-- a span of a code above 255 is found by it, and every other code keeps its own
pub other_kept : (c k : ℕ) (g : Span) (table : List (Option Span)) (old new : List (ℕ × Span)) → 256 ≤ c
    → lookup (is_at (nat_cmp k)) new ≡ cond (is_at (nat_cmp c) k) (Some g) (lookup (is_at (nat_cmp k)) old)
    → span_of (kept table new) k ≡ (if c == k then Some g else span_of (kept table old) k)
other_kept c k g table old new high found = elim (cases_lt k 256) [
  | inl low ↦ rw (lt-ltb k 256 low, apart c k high low) refl
  | inr le ↦ rw (le-ltb k 256 le) (
      same_lookup k new ∙ found ∙ ap (λ t. cond t (Some g) (lookup (is_at (nat_cmp k)) old)) (sym (same_test c k))
      ∙ ap (cond (c == k) (Some g)) (sym (same_lookup k old)))
]

-- a table without spans has none for any code
pub nothing_kept : (k : ℕ) (table : List (Option Span)) (others : List (ℕ × Span)) → table ≡ replicate 256 None → others ≡ [] → span_of (kept table others) k ≡ None
nothing_kept k table others empty none = elim (cases_lt k 256) [
  | inl low ↦ rw (lt-ltb k 256 low) (ap (λ xs. get_or xs k None) empty ∙ get_or-replicate 256 k None None low)
  | inr le ↦ rw (le-ltb k 256 le) (ap (lookup (λ q. k == q)) none)
]
