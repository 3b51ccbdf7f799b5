-- A word turned to the right, and what it sets under a mask.
use Rattle.std.proofs.Common.{◌≡◌, ℕ, ◌+◌, ◌-◌, ◌*◌, ◌/◌, ◌%◌, ◌^◌, ◌<◌, ◌≤◌, ◌⊎◌, inl, inr, Bool, true, false, ◌&&◌, ◌||◌, eqb, List, refl, ap, sym, ◌∙◌, arith, bit_and, bit_or}
use Rattle.std.specs.Int.{bit_at}
use Rattle.std.proofs.lemmas.Bool.{cases_lt}
use Rattle.std.proofs.lemmas.Bool.Decides.{nat_tests}
use Rattle.std.proofs.lemmas.Nat.{shr-shr, shr_split, pow_pos}
use Rattle.std.proofs.lemmas.Nat.Bits.{bit_at-zero, bit_at_cat_low, bit_at_cat_high, bit_at_above}
use Rattle.packed_rows.specs.Packing.{pixel}
use Rattle.packed_rows.specs.Changes.{is_within}
use Rattle.packed_rows.specs.Stamped.{word_pixel, strip_over}
use Rattle.packed_rows.proofs.Bits.{bit_of_or, bit_of_and}

-- a bit of a number shifted up, in w bits, and of one shifted down
shl_whole : (a s w : ℕ) → a * 2 ^ s / 2 ^ w * 2 ^ w + a * 2 ^ s % 2 ^ w ≡ a * 2 ^ s + 0
shl_whole a s w = shr_split (a * 2 ^ s) w ∙ omega arith

shl_bit : (a s w i : ℕ) → s ≤ i → i < w → bit_at (a * 2 ^ s % 2 ^ w) i ≡ bit_at a (i - s)
shl_bit a s w i h g = sym (bit_at_cat_low (a * 2 ^ s / 2 ^ w) w (a * 2 ^ s % 2 ^ w) i g) ∙ ap (λ n. bit_at n i) (shl_whole a s w) ∙ bit_at_cat_high a s 0 i (pow_pos s) h

shl_low : (a s w i : ℕ) → i < s → i < w → bit_at (a * 2 ^ s % 2 ^ w) i ≡ 0
shl_low a s w i h g = sym (bit_at_cat_low (a * 2 ^ s / 2 ^ w) w (a * 2 ^ s % 2 ^ w) i g) ∙ ap (λ n. bit_at n i) (shl_whole a s w) ∙ bit_at_cat_low a s 0 i h ∙ bit_at-zero i

shr_bit : (n k i : ℕ) → bit_at (n / 2 ^ k) i ≡ bit_at n (k + i)
shr_bit n k i = ap (λ m. m % 2) (shr-shr n k i)

or_same : (a b : Bool) → a ≡ b → (a || b) ≡ b
or_same true true e = refl
or_same true false e = e
or_same false b e = refl

or_none : (a b : Bool) → b ≡ false → (a || b) ≡ a
or_none true b e = refl
or_none false b e = e

-- the two parts of a word turned by r: those that move right, and those that come in at the left
pub word_rotated : (n r s j : ℕ) → n < 2 ^ 64 → r < 64 → s ≡ (64 - r) % 64 → j < 64
    → word_pixel (bit_or (n / 2 ^ r) (n * 2 ^ s % 2 ^ 64)) j ≡ word_pixel n ((j + (64 - r)) % 64)
word_rotated n r s j small h is g =
    bit_of_or (n / 2 ^ r) (n * 2 ^ s % 2 ^ 64) (63 - j) ∙ by (cases_lt j r) (cases_lt 0 r)
  where
    by : (j < r) ⊎ (r ≤ j) → (0 < r) ⊎ (r ≤ 0)
        → (eqb (bit_at (n / 2 ^ r) (63 - j)) 1 || eqb (bit_at (n * 2 ^ s % 2 ^ 64) (63 - j)) 1) ≡ word_pixel n ((j + (64 - r)) % 64)
    by (inl left) other =
        let place : 63 - j - s ≡ 63 - (j + (64 - r)) % 64 = omega (arith, left, h, is) in
        ap (λ b. b || eqb (bit_at (n * 2 ^ s % 2 ^ 64) (63 - j)) 1)
        (ap (λ m. eqb m 1) (shr_bit n r (63 - j) ∙ bit_at_above n 64 (r + (63 - j)) small (omega (arith, left, g))))
        ∙ ap (λ m. eqb m 1) (shl_bit n s 64 (63 - j) (omega (arith, left, is, h)) (omega arith) ∙ ap (bit_at n) place)
    by (inr right) (inl some) =
        let place : r + (63 - j) ≡ 63 - (j + (64 - r)) % 64 = omega (arith, right, h, g) in
        or_none (eqb (bit_at (n / 2 ^ r) (63 - j)) 1) (eqb (bit_at (n * 2 ^ s % 2 ^ 64) (63 - j)) 1)
        (ap (λ m. eqb m 1) (shl_low n s 64 (63 - j) (omega (arith, right, is, some, h, g)) (omega arith)))
        ∙ ap (λ m. eqb m 1) (shr_bit n r (63 - j) ∙ ap (bit_at n) place)
    by (inr right) (inr none) =
        let place : r + (63 - j) ≡ 63 - (j + (64 - r)) % 64 = omega (arith, none, g) in
        let other : 63 - j - s ≡ 63 - (j + (64 - r)) % 64 = omega (arith, none, is, g) in
        let first : bit_at (n / 2 ^ r) (63 - j) ≡ bit_at n (63 - (j + (64 - r)) % 64) = shr_bit n r (63 - j) ∙ ap (bit_at n) place in
        let second : bit_at (n * 2 ^ s % 2 ^ 64) (63 - j) ≡ bit_at n (63 - (j + (64 - r)) % 64) =
        shl_bit n s 64 (63 - j) (omega (arith, none, is)) (omega arith) ∙ ap (bit_at n) other in
        or_same (eqb (bit_at (n / 2 ^ r) (63 - j)) 1) (eqb (bit_at (n * 2 ^ s % 2 ^ 64) (63 - j)) 1) (ap (λ m. eqb m 1) (first ∙ sym second))
        ∙ ap (λ m. eqb m 1) second

outside_before : (to x : ℕ) → x < 8 * to → is_within (8 * to) (8 * to + 64) x ≡ false
outside_before to x h = grind (arith, nat_tests)

outside_after : (to x : ℕ) → 8 * to + 64 ≤ x → is_within (8 * to) (8 * to + 64) x ≡ false
outside_after to x h = grind (arith, nat_tests)

both_rotated : (a b : Bool) → (a && b) ≡ (b && a)
both_rotated true true = refl
both_rotated true false = refl
both_rotated false true = refl
both_rotated false false = refl

-- what a word sets that was read from byte `at` on, turned and masked
pub strip_set : (upper : List ℕ) (word other at turn mask to x : ℕ)
    → ((i : ℕ) → i < 64 → word_pixel word i ≡ pixel upper (8 * at + i)) → ((i : ℕ) → i < 64 → word_pixel other i ≡ word_pixel word ((i + (64 - turn)) % 64))
    → (is_within (8 * to) (8 * to + 64) x && word_pixel (bit_and other mask) (x - 8 * to)) ≡ strip_over upper at turn mask to x
strip_set upper word other at turn mask to x read turned = by (cases_lt x (8 * to)) (cases_lt x (8 * to + 64))
  where
    by : (x < 8 * to) ⊎ (8 * to ≤ x) → (x < 8 * to + 64) ⊎ (8 * to + 64 ≤ x)
        → (is_within (8 * to) (8 * to + 64) x && word_pixel (bit_and other mask) (x - 8 * to)) ≡ strip_over upper at turn mask to x
    by (inl before) h =
        ap (λ b. b && word_pixel (bit_and other mask) (x - 8 * to)) (outside_before to x before)
        ∙ sym (ap (λ b. b && (word_pixel mask (x - 8 * to) && pixel upper (8 * at + (x - 8 * to + (64 - turn)) % 64))) (outside_before to x before))
    by (inr from) (inr after) =
        ap (λ b. b && word_pixel (bit_and other mask) (x - 8 * to)) (outside_after to x after)
        ∙ sym (ap (λ b. b && (word_pixel mask (x - 8 * to) && pixel upper (8 * at + (x - 8 * to + (64 - turn)) % 64))) (outside_after to x after))
    by (inr from) (inl until) =
        ap (λ b. is_within (8 * to) (8 * to + 64) x && b)
        (bit_of_and other mask (63 - (x - 8 * to))
        ∙ both_rotated (word_pixel other (x - 8 * to)) (word_pixel mask (x - 8 * to))
        ∙ ap (λ b. word_pixel mask (x - 8 * to) && b)
        (turned (x - 8 * to) (omega (arith, from, until)) ∙ read ((x - 8 * to + (64 - turn)) % 64) (omega arith)))
