-- A stretch cut to a side of the page.
use Rattle.std.proofs.Common.{◌≡◌, ℕ, ◌<◌, ◌≤◌, ℤ, pos, ◌+ℤ◌, unsigned_abs, ◌≤ℤ◌, ◌<ℤ◌, true, ◌&&◌, int_le, int_lt, leb, ltb, arith}
use Rattle.std.specs.Int.{int_max, int_min}
use Rattle.std.proofs.lemmas.Int.{ints, clamps}
use Rattle.std.proofs.lemmas.Bool.{and_parts, and_from, leb-true, ltb-true, le-leb, lt-ltb}
use Rattle.std.proofs.lemmas.Bool.Decides.{same_from_decides}
use Rattle.packed_rows.specs.Changes.{is_within}

le_told : (a b : ℤ) → int_le a b ≡ true → a ≤ℤ b
le_told a b h = grind (arith, ints)

le_holds : (a b : ℤ) → a ≤ℤ b → int_le a b ≡ true
le_holds a b h = grind (arith, ints)

lt_told : (a b : ℤ) → int_lt a b ≡ true → a <ℤ b
lt_told a b h = grind (arith, ints)

lt_holds : (a b : ℤ) → a <ℤ b → int_lt a b ≡ true
lt_holds a b h = grind (arith, ints)

begins : (at from : ℤ) (side p : ℕ) → from ≡ int_max (pos 0) (int_min at (pos side)) → p < side → unsigned_abs from ≤ p → at ≤ℤ pos p
begins at from side p e h g = omega (arith, ints, clamps)

begun : (at from : ℤ) (side p : ℕ) → from ≡ int_max (pos 0) (int_min at (pos side)) → p < side → at ≤ℤ pos p → unsigned_abs from ≤ p
begun at from side p e h g = omega (arith, ints, clamps)

ends : (end from until : ℤ) (side p : ℕ) → pos 0 ≤ℤ from → until ≡ int_max from (int_min end (pos side)) → p < side → unsigned_abs from ≤ p → p < unsigned_abs until → pos p <ℤ end
ends end from until side p low e h g k = omega (arith, ints, clamps)

not_ended : (end from until : ℤ) (side p : ℕ) → pos 0 ≤ℤ from → until ≡ int_max from (int_min end (pos side)) → p < side → unsigned_abs from ≤ p → pos p <ℤ end → p < unsigned_abs until
not_ended end from until side p low e h g k = omega (arith, ints, clamps)

-- the places on a side that lie in a stretch
pub clip_covers : (at len from until : ℤ) (side p : ℕ) → from ≡ int_max (pos 0) (int_min at (pos side)) → until ≡ int_max from (int_min (at +ℤ len) (pos side)) → p < side
    → is_within (unsigned_abs from) (unsigned_abs until) p ≡ (int_le at (pos p) && int_lt (pos p) (at +ℤ len))
clip_covers at len from until side p is_from is_until h = same_from_decides _ _ (inside, outside) (told, held)
  where
    low : pos 0 ≤ℤ from
    low = omega (arith, ints, clamps, is_from)

    inside : is_within (unsigned_abs from) (unsigned_abs until) p ≡ true → (at ≤ℤ pos p) × (pos p <ℤ (at +ℤ len))
    inside e =
        let parts = and_parts (leb (unsigned_abs from) p) (ltb p (unsigned_abs until)) e in
        let begin : unsigned_abs from ≤ p = leb-true (unsigned_abs from) p parts.0 in
        (begins at from side p is_from h begin, ends (at +ℤ len) from until side p low is_until h begin (ltb-true p (unsigned_abs until) parts.1))

    outside : (at ≤ℤ pos p) × (pos p <ℤ (at +ℤ len)) → is_within (unsigned_abs from) (unsigned_abs until) p ≡ true
    outside q =
        let begin : unsigned_abs from ≤ p = begun at from side p is_from h q.0 in
        and_from (leb (unsigned_abs from) p) (ltb p (unsigned_abs until)) (le-leb (unsigned_abs from) p begin) (lt-ltb p (unsigned_abs until) (not_ended (at +ℤ len) from until side p low is_until h begin q.1))

    told : (int_le at (pos p) && int_lt (pos p) (at +ℤ len)) ≡ true → (at ≤ℤ pos p) × (pos p <ℤ (at +ℤ len))
    told e = let parts = and_parts (int_le at (pos p)) (int_lt (pos p) (at +ℤ len)) e in (le_told at (pos p) parts.0, lt_told (pos p) (at +ℤ len) parts.1)

    held : (at ≤ℤ pos p) × (pos p <ℤ (at +ℤ len)) → (int_le at (pos p) && int_lt (pos p) (at +ℤ len)) ≡ true
    held q = and_from (int_le at (pos p)) (int_lt (pos p) (at +ℤ len)) (le_holds at (pos p) q.0) (lt_holds (pos p) (at +ℤ len) q.1)
