-- The bits of a byte, and the masks of runs of pixels.
use Rattle.std.proofs.Common.{◌≡◌, ℕ, zero, suc, ◌-◌, ◌*◌, ◌/◌, ◌%◌, ◌^◌, ◌<◌, ◌≤◌, ◌⊎◌, inl, inr, true, ◌&&◌, ◌||◌, eqb, leb, ltb, min, max, refl, ap, ap₂, sym, ◌∙◌, arith, bit_and, bit_or}
use Rattle.std.specs.Int.{bit_at}
use Rattle.std.proofs.lemmas.Bool.{cases_lt, le-leb, lt-leb, le-ltb, lt-ltb}
use Rattle.std.proofs.lemmas.Nat.Bits.{bit_at_or, bit_at_and, bit_at-lt, ones_shr, ones_shl, bit_at_ones, bit_at_ones_above, bit_at_mask_inside, bit_at_mask_below}

max_is_one : (a b : ℕ) → a < 2 → b < 2 → eqb (max a b) 1 ≡ (eqb a 1 || eqb b 1)
max_is_one zero zero h g = refl
max_is_one zero (suc zero) h g = refl
max_is_one (suc zero) zero h g = refl
max_is_one (suc zero) (suc zero) h g = refl
max_is_one (suc (suc a)) b h g = absurd (omega (arith, h))
max_is_one zero (suc (suc b)) h g = absurd (omega (arith, g))
max_is_one (suc zero) (suc (suc b)) h g = absurd (omega (arith, g))

min_is_one : (a b : ℕ) → a < 2 → b < 2 → eqb (min a b) 1 ≡ (eqb a 1 && eqb b 1)
min_is_one zero zero h g = refl
min_is_one zero (suc zero) h g = refl
min_is_one (suc zero) zero h g = refl
min_is_one (suc zero) (suc zero) h g = refl
min_is_one (suc (suc a)) b h g = absurd (omega (arith, h))
min_is_one zero (suc (suc b)) h g = absurd (omega (arith, g))
min_is_one (suc zero) (suc (suc b)) h g = absurd (omega (arith, g))

-- a bit of two numbers joined
pub bit_of_or : (a b i : ℕ) → eqb (bit_at (bit_or a b) i) 1 ≡ (eqb (bit_at a i) 1 || eqb (bit_at b i) 1)
bit_of_or a b i = ap (λ n. eqb n 1) (bit_at_or a b i) ∙ max_is_one (bit_at a i) (bit_at b i) (bit_at-lt a i) (bit_at-lt b i)

pub bit_of_and : (a b i : ℕ) → eqb (bit_at (bit_and a b) i) 1 ≡ (eqb (bit_at a i) 1 && eqb (bit_at b i) 1)
bit_of_and a b i = ap (λ n. eqb n 1) (bit_at_and a b i) ∙ min_is_one (bit_at a i) (bit_at b i) (bit_at-lt a i) (bit_at-lt b i)

-- the mask of the pixels from k on, in the byte's order
pub head_bit : (k r : ℕ) → k < 8 → r < 8 → eqb (bit_at (255 / 2 ^ k) (7 - r)) 1 ≡ leb k r
head_bit k r h g = by (cases_lt r k)
  where
    ones : 255 / 2 ^ k ≡ 2 ^ (8 - k) - 1
    ones = ones_shr 8 k (omega (arith, h))

    by : (r < k) ⊎ (k ≤ r) → eqb (bit_at (255 / 2 ^ k) (7 - r)) 1 ≡ leb k r
    by (inl below) = ap (λ n. eqb (bit_at n (7 - r)) 1) ones ∙ ap (λ n. eqb n 1) (bit_at_ones_above (8 - k) (7 - r) (omega (arith, below, g, h))) ∙ sym (lt-leb k r below)
    by (inr above) = ap (λ n. eqb (bit_at n (7 - r)) 1) ones ∙ ap (λ n. eqb n 1) (bit_at_ones (8 - k) (7 - r) (omega (arith, above, g, h))) ∙ sym (le-leb k r above)

-- the mask of the pixels up to and with k
pub tail_bit : (k r : ℕ) → k < 8 → r < 8 → eqb (bit_at (255 * 2 ^ (7 - k) % 256) (7 - r)) 1 ≡ leb r k
tail_bit k r h g = by (cases_lt k r)
  where
    ones : 255 * 2 ^ (7 - k) % 256 ≡ 2 ^ 8 - 2 ^ (7 - k)
    ones = ones_shl 8 (7 - k) (omega (arith, h))

    by : (k < r) ⊎ (r ≤ k) → eqb (bit_at (255 * 2 ^ (7 - k) % 256) (7 - r)) 1 ≡ leb r k
    by (inl above) = ap (λ n. eqb (bit_at n (7 - r)) 1) ones ∙ ap (λ n. eqb n 1) (bit_at_mask_below (7 - k) 8 (7 - r) (omega (arith, above, g, h))) ∙ sym (lt-leb r k above)
    by (inr below) = ap (λ n. eqb (bit_at n (7 - r)) 1) ones ∙ ap (λ n. eqb n 1) (bit_at_mask_inside (7 - k) 8 (7 - r) (omega (arith, below, g, h)) (omega (arith, below, g, h))) ∙ sym (le-leb r k below)

-- a whole byte of ones
pub full_bit : (r : ℕ) → r < 8 → eqb (bit_at 255 (7 - r)) 1 ≡ true
full_bit r g = ap (λ n. eqb n 1) (bit_at_ones 8 (7 - r) (omega (arith, g)))

-- ---- the masks of a word

-- the pixels of a word from k on
word_head : (k j : ℕ) → k < 64 → j < 64 → eqb (bit_at (18446744073709551615 / 2 ^ k) (63 - j)) 1 ≡ leb k j
word_head k j h g = by (cases_lt j k)
  where
    ones : 18446744073709551615 / 2 ^ k ≡ 2 ^ (64 - k) - 1
    ones = ones_shr 64 k (omega (arith, h))

    by : (j < k) ⊎ (k ≤ j) → eqb (bit_at (18446744073709551615 / 2 ^ k) (63 - j)) 1 ≡ leb k j
    by (inl below) = ap (λ n. eqb (bit_at n (63 - j)) 1) ones ∙ ap (λ n. eqb n 1) (bit_at_ones_above (64 - k) (63 - j) (omega (arith, below, g, h))) ∙ sym (lt-leb k j below)
    by (inr above) = ap (λ n. eqb (bit_at n (63 - j)) 1) ones ∙ ap (λ n. eqb n 1) (bit_at_ones (64 - k) (63 - j) (omega (arith, above, g, h))) ∙ sym (le-leb k j above)

-- the pixels of a word before u
word_tail : (u j : ℕ) → 0 < u → u ≤ 64 → j < 64 → eqb (bit_at (18446744073709551615 * 2 ^ (64 - u) % 18446744073709551616) (63 - j)) 1 ≡ ltb j u
word_tail u j some h g = by (cases_lt j u)
  where
    ones : 18446744073709551615 * 2 ^ (64 - u) % 18446744073709551616 ≡ 2 ^ 64 - 2 ^ (64 - u)
    ones = ones_shl 64 (64 - u) (omega (arith, h))

    by : (j < u) ⊎ (u ≤ j) → eqb (bit_at (18446744073709551615 * 2 ^ (64 - u) % 18446744073709551616) (63 - j)) 1 ≡ ltb j u
    by (inl below) = ap (λ n. eqb (bit_at n (63 - j)) 1) ones ∙ ap (λ n. eqb n 1) (bit_at_mask_inside (64 - u) 64 (63 - j) (omega (arith, below, g, h)) (omega (arith, below, g, h))) ∙ sym (lt-ltb j u below)
    by (inr above) = ap (λ n. eqb (bit_at n (63 - j)) 1) ones ∙ ap (λ n. eqb n 1) (bit_at_mask_below (64 - u) 64 (63 - j) (omega (arith, above, g, h))) ∙ sym (le-ltb j u above)

-- the pixels of a word from k on and before u
pub word_span : (k u j : ℕ) → k < 64 → 0 < u → u ≤ 64 → j < 64
    → eqb (bit_at (bit_and (18446744073709551615 / 2 ^ k) (18446744073709551615 * 2 ^ (64 - u) % 18446744073709551616)) (63 - j)) 1 ≡ (leb k j && ltb j u)
word_span k u j h some few g =
    bit_of_and (18446744073709551615 / 2 ^ k) (18446744073709551615 * 2 ^ (64 - u) % 18446744073709551616) (63 - j)
    ∙ ap₂ (λ a b. a && b) (word_head k j h g) (word_tail u j some few g)
