-- A row of a raster over a row of a bitmap, in pieces.
use Rattle.std.proofs.Common.{◌≡◌, ℕ, ◌+◌, ◌-◌, ◌*◌, ◌/◌, ◌%◌, ◌<◌, ◌≤◌, ◌⊎◌, inl, inr, Bool, true, false, ◌&&◌, ◌||◌, ltb, leb, min, List, refl, ap, ap₂, sym, ◌∙◌, arith}
use Rattle.std.specs.Int.{div_ceil}
use Rattle.std.proofs.lemmas.Bool.{cases_lt, and_right, le-leb, lt-leb, le-ltb, lt-ltb}
use Rattle.std.proofs.lemmas.Bool.Decides.{nat_tests}
use Rattle.packed_rows.specs.Packing.{pixel}
use Rattle.packed_rows.specs.Stored.{row_at}
use Rattle.packed_rows.specs.Changes.{is_within}
use Rattle.packed_rows.specs.Stamped.{pixel_over, word_pixel, strip_over, part_over}
use Rattle.packed_rows.proofs.Parts.{of_part, past_part}

pub before_span : (from until x : ℕ) → x < from → is_within from until x ≡ false
before_span from until x h = grind (arith, nat_tests)

pub after_span : (from until x : ℕ) → until ≤ x → is_within from until x ≡ false
after_span from until x h = grind (arith, nat_tests)

pub in_span : (from until x : ℕ) → from ≤ x → x < until → is_within from until x ≡ true
in_span from until x h g = grind (arith, nat_tests)

-- the pixels that a masked word sets, as pixels of a part
pub part_set : (upper : List ℕ) (at turn begin lo hi n to start skipped mask x : ℕ) → turn < 64 → begin ≡ (turn + lo) % 64 → hi ≡ lo + n → hi ≤ 64 → begin + n ≤ 64
    → 8 * to + begin + skipped ≡ start + lo → ((j : ℕ) → j < 64 → word_pixel mask j ≡ is_within begin (begin + n) j)
    → strip_over upper at turn mask to x ≡ part_over upper at start skipped lo hi x
part_set upper at turn begin lo hi n to start skipped mask x turned is_begin ordered word one place masked = by (cases_lt (x + skipped) (start + lo)) (cases_lt (x + skipped) (start + hi))
  where
    off_mask : (x - 8 * to < 64) ⊎ (64 ≤ x - 8 * to) → (8 * to ≤ x → is_within begin (begin + n) (x - 8 * to) ≡ false) → strip_over upper at turn mask to x ≡ false
    off_mask (inl inside) none = by_place (cases_lt x (8 * to))
      where
        by_place : (x < 8 * to) ⊎ (8 * to ≤ x) → strip_over upper at turn mask to x ≡ false
        by_place (inl before) = ap (λ b. b && (word_pixel mask (x - 8 * to) && pixel upper (8 * at + (x - 8 * to + (64 - turn)) % 64))) (before_span (8 * to) (8 * to + 64) x before)
        by_place (inr from) =
            and_right (is_within (8 * to) (8 * to + 64) x) (word_pixel mask (x - 8 * to) && pixel upper (8 * at + (x - 8 * to + (64 - turn)) % 64))
            (ap (λ b. b && pixel upper (8 * at + (x - 8 * to + (64 - turn)) % 64)) (masked (x - 8 * to) inside ∙ none from))
    off_mask (inr after) none = ap (λ b. b && (word_pixel mask (x - 8 * to) && pixel upper (8 * at + (x - 8 * to + (64 - turn)) % 64))) (after_span (8 * to) (8 * to + 64) x (omega (arith, after)))

    by : (x + skipped < start + lo) ⊎ (start + lo ≤ x + skipped) → (x + skipped < start + hi) ⊎ (start + hi ≤ x + skipped)
        → strip_over upper at turn mask to x ≡ part_over upper at start skipped lo hi x
    by (inl before) other =
        off_mask (cases_lt (x - 8 * to) 64) (λ from. before_span begin (begin + n) (x - 8 * to) (omega (arith, before, place, from)))
        ∙ sym (ap (λ b. b && pixel upper (8 * at + (x + skipped - start))) (before_span (start + lo) (start + hi) (x + skipped) before))
    by (inr from) (inr after) =
        off_mask (cases_lt (x - 8 * to) 64) (λ low. after_span begin (begin + n) (x - 8 * to) (omega (arith, after, place, low, ordered)))
        ∙ sym (ap (λ b. b && pixel upper (8 * at + (x + skipped - start))) (after_span (start + lo) (start + hi) (x + skipped) after))
    by (inr from) (inl until) =
        let same : 8 * at + (x - 8 * to + (64 - turn)) % 64 ≡ 8 * at + (x + skipped - start) = omega (arith, from, until, place, is_begin, word, turned) in
        ap₂ (λ a b. a && b) (in_span (8 * to) (8 * to + 64) x (omega (arith, from, place)) (omega (arith, until, place, one, ordered)))
        (ap₂ (λ a b. a && b)
        (masked (x - 8 * to) (omega (arith, from, until, place, one, ordered)) ∙ in_span begin (begin + n) (x - 8 * to) (omega (arith, from, place)) (omega (arith, until, place, ordered)))
        (ap (pixel upper) same))
        ∙ sym (ap (λ b. b && pixel upper (8 * at + (x + skipped - start))) (in_span (start + lo) (start + hi) (x + skipped) from until))

-- no pixel, where the part is empty, or lies before the row
pub part_empty : (upper : List ℕ) (at start skipped lo hi x : ℕ) → (lo ≡ hi) ⊎ (start + hi ≤ skipped) → part_over upper at start skipped lo hi x ≡ false
part_empty upper at start skipped lo hi x (inl e) = ap (λ b. b && pixel upper (8 * at + (x + skipped - start))) none
  where
    none : is_within (start + lo) (start + hi) (x + skipped) ≡ false
    none = grind (arith, nat_tests)
part_empty upper at start skipped lo hi x (inr before) = ap (λ b. b && pixel upper (8 * at + (x + skipped - start))) (after_span (start + lo) (start + hi) (x + skipped) (omega (arith, before)))

either : (a b p : Bool) → (a && p || b && p) ≡ ((a || b) && p)
either true true true = refl
either true true false = refl
either true false true = refl
either true false false = refl
either false b p = refl

-- two parts side by side
pub parts_joined : (upper : List ℕ) (at start skipped lo mid hi x : ℕ) → lo ≤ mid → mid ≤ hi
    → (part_over upper at start skipped mid hi x || part_over upper at start skipped lo mid x) ≡ part_over upper at start skipped lo hi x
parts_joined upper at start skipped lo mid hi x low high =
    either (is_within (start + mid) (start + hi) (x + skipped)) (is_within (start + lo) (start + mid) (x + skipped)) (pixel upper (8 * at + (x + skipped - start)))
    ∙ ap (λ b. b && pixel upper (8 * at + (x + skipped - start))) both
  where
    both : (is_within (start + mid) (start + hi) (x + skipped) || is_within (start + lo) (start + mid) (x + skipped)) ≡ is_within (start + lo) (start + hi) (x + skipped)
    both = grind (arith, nat_tests)

-- a part counted from a later byte, and its place moved right
pub part_moved : (upper : List ℕ) (at start skipped first moved words n x : ℕ) → moved + skipped ≡ start + 8 * first + words
    → part_over upper (at + first) moved words 0 n x ≡ part_over upper at start skipped (8 * first) (8 * first + n) x
part_moved upper at start skipped first moved words n x e = by (cases_lt (x + words) moved)
  where
    alike : is_within (moved + 0) (moved + n) (x + words) ≡ is_within (start + 8 * first) (start + (8 * first + n)) (x + skipped)
    alike = grind (arith, nat_tests)

    by : (x + words < moved) ⊎ (moved ≤ x + words) → part_over upper (at + first) moved words 0 n x ≡ part_over upper at start skipped (8 * first) (8 * first + n) x
    by (inl before) =
        ap (λ b. b && pixel upper (8 * (at + first) + (x + words - moved))) (before_span (moved + 0) (moved + n) (x + words) (omega (arith, before)))
        ∙ sym (ap (λ b. b && pixel upper (8 * at + (x + skipped - start))) (before_span (start + 8 * first) (start + (8 * first + n)) (x + skipped) (omega (arith, before, e))))
    by (inr from) =
        let place : 8 * (at + first) + (x + words - moved) ≡ 8 * at + (x + skipped - start) = omega (arith, e, from) in
        ap₂ (λ a b. a && b) alike (ap (pixel upper) place)

-- a piece more: n pixels from byte 8 p on, set after those of the pieces before it
pub piece_added : (upper : List ℕ) (at start skipped words moved p n kept x : ℕ) → p < div_ceil kept 64 → n ≡ min (kept - 64 * p) 64 → moved + skipped ≡ start + 64 * p + 64 * words
    → (part_over upper (at + 8 * p) moved (64 * words) 0 n x || part_over upper at start skipped 0 (min (64 * p) kept) x) ≡ part_over upper at start skipped 0 (min (64 * (p + 1)) kept) x
piece_added upper at start skipped words moved p n kept x more is_n e =
    ap₂ (λ a b. a || b) (part_moved upper at start skipped (8 * p) moved (64 * words) n x (omega (arith, e))) (ap (λ m. part_over upper at start skipped 0 m x) mid)
    ∙ parts_joined upper at start skipped 0 (8 * (8 * p)) (8 * (8 * p) + n) x (omega arith) (omega arith) ∙ ap (λ m. part_over upper at start skipped 0 m x) hi
  where
    mid : min (64 * p) kept ≡ 8 * (8 * p)
    mid = omega (arith, more)

    hi : 8 * (8 * p) + n ≡ min (64 * (p + 1)) kept
    hi = omega (arith, is_n, more)

-- the pieces that are left out lie before the row
pub left_out : (start skipped words moved first kept : ℕ) → moved + skipped ≡ start + 64 * words → first ≡ words - (moved / 64 + 1)
    → (0 ≡ min (64 * first) kept) ⊎ (start + min (64 * first) kept ≤ skipped)
left_out start skipped words moved first kept e is_first = by (cases_lt 0 first)
  where
    by : (0 < first) ⊎ (first ≤ 0) → (0 ≡ min (64 * first) kept) ⊎ (start + min (64 * first) kept ≤ skipped)
    by (inl some) = inr (omega (arith, some, e, is_first))
    by (inr none) = inl (omega (arith, none))

-- all pixels that are kept: what lies over the row, as far as the row goes
pub part_is_row : (upper : List ℕ) (y stride start skipped kept width x : ℕ) → kept ≡ min (width + skipped - start) (8 * stride)
    → part_over upper (y * stride) start skipped 0 kept x ≡ (ltb x width && pixel_over (row_at stride upper y) start skipped x)
part_is_row upper y stride start skipped kept width x is_kept = by (cases_lt (x + skipped) start) (cases_lt x width) (cases_lt (x + skipped - start) (8 * stride))
  where
    by : (x + skipped < start) ⊎ (start ≤ x + skipped) → (x < width) ⊎ (width ≤ x) → (x + skipped - start < 8 * stride) ⊎ (8 * stride ≤ x + skipped - start)
        → part_over upper (y * stride) start skipped 0 kept x ≡ (ltb x width && pixel_over (row_at stride upper y) start skipped x)
    by (inl before) p q =
        ap (λ b. b && pixel upper (8 * (y * stride) + (x + skipped - start))) (before_span (start + 0) (start + kept) (x + skipped) (omega (arith, before)))
        ∙ sym (and_right (ltb x width) (pixel_over (row_at stride upper y) start skipped x) (ap (λ b. b && pixel (row_at stride upper y) (x + skipped - start)) (lt-leb start (x + skipped) before)))
    by (inr from) (inr after) q =
        ap (λ b. b && pixel upper (8 * (y * stride) + (x + skipped - start))) (after_span (start + 0) (start + kept) (x + skipped) (omega (arith, after, is_kept, from)))
        ∙ sym (ap (λ b. b && pixel_over (row_at stride upper y) start skipped x) (le-ltb x width after))
    by (inr from) (inl inside) (inr past) =
        ap (λ b. b && pixel upper (8 * (y * stride) + (x + skipped - start))) (after_span (start + 0) (start + kept) (x + skipped) (omega (arith, past, is_kept, from)))
        ∙ sym (and_right (ltb x width) (pixel_over (row_at stride upper y) start skipped x)
        (and_right (leb start (x + skipped)) (pixel (row_at stride upper y) (x + skipped - start)) (past_part upper (y * stride) stride (x + skipped - start) past)))
    by (inr from) (inl inside) (inl held) =
        ap (λ b. b && pixel upper (8 * (y * stride) + (x + skipped - start))) (in_span (start + 0) (start + kept) (x + skipped) (omega (arith, from)) (omega (arith, from, inside, held, is_kept)))
        ∙ sym (of_part upper (y * stride) stride (x + skipped - start) held)
        ∙ sym (ap₂ (λ a b. a && (b && pixel (row_at stride upper y) (x + skipped - start))) (lt-ltb x width inside) (le-leb start (x + skipped) from))
