-- Rows of a plain bitmap, each by a word.
use Rattle.std.proofs.Common.{◌≡◌, ℕ, ◌+◌, ◌-◌, ◌*◌, ◌/◌, ◌%◌, ◌^◌, ◌<◌, ◌≤◌, ◌⊎◌, inl, inr, Bool, true, false, ◌&&◌, ◌||◌, eqb, ltb, List, [], length, get_or, refl, ap, ap₂, sym, subst, ◌∙◌, arith, bit_or}
use Rattle.std.specs.Int.{bit_at}
use Rattle.std.proofs.lemmas.Bool.{cases_lt, lt-ltb, le-ltb}
use Rattle.std.proofs.lemmas.Bool.Decides.{nat_tests}
use Rattle.std.proofs.lemmas.Nat.{shr-shr, shr_split, pow_pos}
use Rattle.std.proofs.lemmas.Nat.Bits.{bit_at-zero, bit_at_cat_low, bit_at_cat_high, bit_at_above}
use Rattle.std.proofs.Math.Nat.{mul-le-mul_right}
use Rattle.packed_rows.specs.Packing.{pixel}
use Rattle.packed_rows.proofs.Bits.{bit_of_or}
use Rattle.packed_rows.specs.Bitmap.{Bitmap, is_black, from_fn}
use Rattle.packed_rows.specs.Changes.{is_within}
use Rattle.packed_rows.specs.Joined.{IsWhiteFrom, with_word}
use Rattle.packed_rows.specs.Stamped.{word_pixel}
use Rattle.packed_rows.proofs.Lists.{length-from_fn, get_or-from_fn}
use Rattle.pk_runs.proofs.Complete.{IsPlainTo}
use Rattle.pk_runs.proofs.Kept.{no_pixel, word_dot}

-- the word has n pixels of a line from a place on
abbrev pub IsPlainWord : (ℕ → Bool) → ℕ → ℕ → ℕ → Type 0
IsPlainWord f place w word = (i : ℕ) → i < 64 → word_pixel word i ≡ (ltb i w && f (place + i))

pub plain_word_none : (f : ℕ → Bool) (place : ℕ) → IsPlainWord f place 0 0
plain_word_none f place i few = no_pixel i ∙ sym (ap (λ b. b && f (place + i)) (le-ltb i 0 (omega arith)))

-- ---- the bits of a byte, shifted to a pixel of the word

shl_whole : (a s : ℕ) → a * 2 ^ s / 2 ^ 64 * 2 ^ 64 + a * 2 ^ s % 2 ^ 64 ≡ a * 2 ^ s + 0
shl_whole a s = shr_split (a * 2 ^ s) 64 ∙ omega arith

shl_bit : (a s i : ℕ) → s ≤ i → i < 64 → bit_at (a * 2 ^ s % 2 ^ 64) i ≡ bit_at a (i - s)
shl_bit a s i h g = sym (bit_at_cat_low (a * 2 ^ s / 2 ^ 64) 64 (a * 2 ^ s % 2 ^ 64) i g) ∙ ap (λ n. bit_at n i) (shl_whole a s) ∙ bit_at_cat_high a s 0 i (pow_pos s) h

shl_low : (a s i : ℕ) → i < s → i < 64 → bit_at (a * 2 ^ s % 2 ^ 64) i ≡ 0
shl_low a s i h g = sym (bit_at_cat_low (a * 2 ^ s / 2 ^ 64) 64 (a * 2 ^ s % 2 ^ 64) i g) ∙ ap (λ n. bit_at n i) (shl_whole a s) ∙ bit_at_cat_low a s 0 i h ∙ bit_at-zero i

shr_bit : (n k i : ℕ) → bit_at (n / 2 ^ k) i ≡ bit_at n (k + i)
shr_bit n k i = ap (λ m. m % 2) (shr-shr n k i)

before : (x n i : ℕ) → i < x → is_within x (x + n) i ≡ false
before x n i h = grind (arith, nat_tests)

after : (x n i : ℕ) → x + n ≤ i → is_within x (x + n) i ≡ false
after x n i h = grind (arith, nat_tests)

inside : (x n i : ℕ) → x ≤ i → i < x + n → is_within x (x + n) i ≡ true
inside x n i h g = grind (arith, nat_tests)

pub byte_pixel : (bytes : List ℕ) (place x i : ℕ) → x < 64 → i < 64
    → word_pixel (get_or bytes (place / 8) 0 * 2 ^ (56 + place % 8) % 2 ^ 64 / 2 ^ x) i ≡ (is_within x (x + (8 - place % 8)) i && pixel bytes (place + (i - x)))
byte_pixel bytes place x i few g = ap (λ m. eqb m 1) (shr_bit v x (63 - i)) ∙ by (cases_lt i x) (cases_lt i (x + (8 - place % 8)))
  where
    byte : ℕ
    byte = get_or bytes (place / 8) 0

    s : ℕ
    s = 56 + place % 8

    v : ℕ
    v = byte * 2 ^ s % 2 ^ 64

    by : (i < x) ⊎ (x ≤ i) → (i < x + (8 - place % 8)) ⊎ (x + (8 - place % 8) ≤ i)
        → eqb (bit_at v (x + (63 - i))) 1 ≡ (is_within x (x + (8 - place % 8)) i && pixel bytes (place + (i - x)))
    by (inl left) other =
        ap (λ m. eqb m 1) (bit_at_above v 64 (x + (63 - i)) (omega arith) (omega (arith, left, g)))
        ∙ sym (ap (λ b. b && pixel bytes (place + (i - x))) (before x (8 - place % 8) i left))
    by (inr right) (inl near) =
        let same : place / 8 ≡ (place + (i - x)) / 8 = omega (arith, right, near) in
        let bit : x + (63 - i) - (56 + place % 8) ≡ 7 - (place + (i - x)) % 8 = omega (arith, right, near, g) in
        ap (λ m. eqb m 1) (shl_bit byte s (x + (63 - i)) (omega (arith, right, near, g)) (omega (arith, right, g)))
        ∙ ap₂ (λ n k. eqb (bit_at (get_or bytes n 0) k) 1) same bit
        ∙ sym (ap (λ b. b && pixel bytes (place + (i - x))) (inside x (8 - place % 8) i right near))
    by (inr right) (inr far) =
        ap (λ m. eqb m 1) (shl_low byte s (x + (63 - i)) (omega (arith, right, far, g)) (omega (arith, right, g)))
        ∙ sym (ap (λ b. b && pixel bytes (place + (i - x))) (after x (8 - place % 8) i far))

-- the pixels of one byte more
pub plain_word_byte : (f : ℕ → Bool) (place x n word part : ℕ) → ((i : ℕ) → i < 64 → word_pixel part i ≡ (is_within x (x + n) i && f (place + x + (i - x))))
    → IsPlainWord f place x word → IsPlainWord f place (x + n) (bit_or word part)
plain_word_byte f place x n word part set old i few =
    bit_of_or word part (63 - i) ∙ ap₂ (λ a b. a || b) (old i few) (set i few) ∙ by (cases_lt i x) (cases_lt i (x + n))
  where
    by : (i < x) ⊎ (x ≤ i) → (i < x + n) ⊎ (x + n ≤ i) → (ltb i x && f (place + i) || (is_within x (x + n) i && f (place + x + (i - x)))) ≡ (ltb i (x + n) && f (place + i))
    by (inl left) other =
        ap₂ (λ a b. a && f (place + i) || (b && f (place + x + (i - x)))) (lt-ltb i x left) (before x n i left)
        ∙ none (f (place + i)) ∙ sym (ap (λ a. a && f (place + i)) (lt-ltb i (x + n) (omega (arith, left))))
      where
        none : (p : Bool) → (p || false) ≡ p
        none true = refl
        none false = refl
    by (inr right) (inl near) =
        let place_of : place + x + (i - x) ≡ place + i = omega (arith, right) in
        ap₂ (λ a b. a && f (place + i) || (b && f (place + x + (i - x)))) (le-ltb i x right) (inside x n i right near)
        ∙ ap f place_of ∙ sym (ap (λ a. a && f (place + i)) (lt-ltb i (x + n) near))
    by (inr right) (inr far) =
        ap₂ (λ a b. a && f (place + i) || (b && f (place + x + (i - x)))) (le-ltb i x right) (after x n i far)
        ∙ sym (ap (λ a. a && f (place + i)) (le-ltb i (x + n) far))

-- no pixel after the row
pub plain_word_cut : (f : ℕ → Bool) (place w x word new : ℕ) → w ≤ x → ((i : ℕ) → i < 64 → word_pixel new i ≡ (ltb i w && word_pixel word i))
    → IsPlainWord f place x word → IsPlainWord f place w new
plain_word_cut f place w x word new all prefix is i few = prefix i few ∙ by (cases_lt i w)
  where
    by : (i < w) ⊎ (w ≤ i) → (ltb i w && word_pixel word i) ≡ (ltb i w && f (place + i))
    by (inl low) = ap (λ b. ltb i w && b) (is i few ∙ ap (λ b. b && f (place + i)) (lt-ltb i x (omega (arith, low, all))))
    by (inr from) = ap (λ b. b && word_pixel word i) (le-ltb i w from) ∙ sym (ap (λ b. b && f (place + i)) (le-ltb i w from))

pub plain_word_after : (f : ℕ → Bool) (place w word : ℕ) → IsPlainWord f place w word → IsWhiteFrom w word
plain_word_after f place w word is i from few = is i few ∙ ap (λ b. b && f (place + i)) (le-ltb i w from)

-- a row is joined in below those before it
pub plain_row : (f : ℕ → Bool) (w h y word : ℕ) (b new : Bitmap) → w < 64 → new ≡ with_word b word y (y + 1) → IsPlainWord f (y * w) w word → IsPlainTo f w h (y * w) b → IsPlainTo f w h ((y + 1) * w) new
plain_row f w h y word b new narrow e is d = subst (λ (q : Bitmap). IsPlainTo f w h ((y + 1) * w) q) (sym e) (record {
  wide = d.wide;
  high = d.high;
  shaped = record {
    rows = length-from_fn b.height _;
    columns = λ r inside. ap length (get_or-from_fn b.height (λ k. from_fn b.width (λ x. is_within y (y + 1) k && word_pixel word x || is_black b x k)) r [] inside) ∙ length-from_fn b.width _;
  };
  dots = λ x r in_row inside.
      word_dot b word y (y + 1) x r (omega (arith, in_row, d.wide)) (omega (arith, inside, d.high))
      ∙ ap (λ p. is_within y (y + 1) r && p || is_black b x r) (is x (omega (arith, in_row, narrow)) ∙ ap (λ p. p && f (y * w + x)) (lt-ltb x w in_row))
      ∙ ap (λ p. is_within y (y + 1) r && f (y * w + x) || p) (d.dots x r in_row inside)
      ∙ row x r in_row (cases_lt r y) (cases_lt y r);
})
  where
    below : (r : ℕ) → r < y → is_within y (y + 1) r ≡ false
    below r g = grind (arith, nat_tests)

    above : (r : ℕ) → y < r → is_within y (y + 1) r ≡ false
    above r g = grind (arith, nat_tests)

    here : is_within y (y + 1) y ≡ true
    here = grind (arith, nat_tests)

    outside : (p q s t : Bool) → p ≡ false → s ≡ t → (p && q || (s && q)) ≡ (t && q)
    outside p q s t e g = ap (λ z. z && q || (s && q)) e ∙ ap (λ z. z && q) g

    row : (x r : ℕ) → x < w → (r < y) ⊎ (y ≤ r) → (y < r) ⊎ (r ≤ y)
        → (is_within y (y + 1) r && f (y * w + x) || (ltb (r * w + x) (y * w) && f (r * w + x))) ≡ (ltb (r * w + x) ((y + 1) * w) && f (r * w + x))
    row x r in_row (inl up) other =
        let low : r * w + w ≤ y * w = omega (arith, mul-le-mul_right w up) in
        ap (λ p. p && f (y * w + x) || (ltb (r * w + x) (y * w) && f (r * w + x))) (below r up)
        ∙ ap (λ p. p && f (r * w + x)) (lt-ltb (r * w + x) (y * w) (omega (arith, low, in_row)) ∙ sym (lt-ltb (r * w + x) ((y + 1) * w) (omega (arith, low, in_row))))
    row x r in_row (inr up) (inl down) =
        let low : y * w + w ≤ r * w = omega (arith, mul-le-mul_right w down) in
        ap (λ p. p && f (y * w + x) || (ltb (r * w + x) (y * w) && f (r * w + x))) (above r down)
        ∙ ap (λ p. p && f (r * w + x)) (le-ltb (r * w + x) (y * w) (omega (arith, low)) ∙ sym (le-ltb (r * w + x) ((y + 1) * w) (omega (arith, low))))
    row x r in_row (inr up) (inr down) =
        let same : y ≡ r = omega (arith, up, down) in
        subst (λ (k : ℕ). (is_within y (y + 1) k && f (y * w + x) || (ltb (k * w + x) (y * w) && f (k * w + x))) ≡ (ltb (k * w + x) ((y + 1) * w) && f (k * w + x))) same
        (ap (λ p. p && f (y * w + x) || (ltb (y * w + x) (y * w) && f (y * w + x))) here
        ∙ ap (λ p. f (y * w + x) || (p && f (y * w + x))) (le-ltb (y * w + x) (y * w) (omega arith))
        ∙ or_none (f (y * w + x))
        ∙ sym (ap (λ p. p && f (y * w + x)) (lt-ltb (y * w + x) ((y + 1) * w) (omega (arith, in_row)))))
      where
        or_none : (p : Bool) → (p || false) ≡ p
        or_none true = refl
        or_none false = refl
