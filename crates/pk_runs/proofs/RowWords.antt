-- Words that hold the beginning of a row, and after it the colour that is due.
use Rattle.std.proofs.Common.{◌≡◌, ℕ, zero, suc, ◌+◌, ◌-◌, ◌*◌, ◌/◌, ◌%◌, ◌^◌, ◌<◌, ◌≤◌, ◌⊎◌, inl, inr, Bool, true, false, ◌&&◌, ◌||◌, not, eqb, leb, ltb, cond, refl, ap, sym, ◌∙◌, arith, w64}
use Rattle.std.specs.Int.{bit_at, bit_not}
use Rattle.std.specs.Int.Bits.{bit_xor}
use Rattle.std.specs.Prelude.{bit_and}
use Rattle.std.proofs.lemmas.Bool.{cases_lt, le-leb, lt-leb, le-ltb, lt-ltb}
use Rattle.std.proofs.lemmas.Bool.Decides.{nat_tests}
use Rattle.std.proofs.lemmas.Nat.{shr-shr, pow_pos}
use Rattle.std.proofs.lemmas.Nat.Bits.{bit_at_xor, shr_and_one, bit_at-lt, bit_at-zero, bit_at_not, ones_shr, bit_at_ones, bit_at_ones_above, bit_at_cat_low, bit_at_cat_high}
use Rattle.packed_rows.specs.Changes.{is_within}
use Rattle.packed_rows.specs.Stamped.{word_pixel}
use Rattle.packed_rows.proofs.Bits.{bit_of_and}
use Rattle.packed_rows.specs.Bitmap.{Bitmap}
use Rattle.packed_rows.specs.Joined.{IsWhiteFrom, with_word}
use Rattle.pk_runs.specs.Narrow.{IsAhead, IsKept, prefix}
use Rattle.pk_runs.specs.declared.painter.Painter.{Painter}
use Rattle.pk_runs.proofs.Kept.{HasRun, no_pixel, same_seen, value_of_painter}

-- ---- the masks of a word

pub all_pixels : (i : ℕ) → i < 64 → word_pixel 18446744073709551615 i ≡ true
all_pixels i h = ap (λ n. eqb n 1) (bit_at_ones 64 (63 - i) (omega (arith, h)))

-- the pixels from a column on
after : (column i : ℕ) → column < 64 → i < 64 → word_pixel (18446744073709551615 / 2 ^ column) i ≡ leb column i
after column i h g = by (cases_lt i column)
  where
    ones : 18446744073709551615 / 2 ^ column ≡ 2 ^ (64 - column) - 1
    ones = ones_shr 64 column (omega (arith, h))

    by : (i < column) ⊎ (column ≤ i) → word_pixel (18446744073709551615 / 2 ^ column) i ≡ leb column i
    by (inl below) = ap (λ n. eqb (bit_at n (63 - i)) 1) ones ∙ ap (λ n. eqb n 1) (bit_at_ones_above (64 - column) (63 - i) (omega (arith, below, g, h))) ∙ sym (lt-leb column i below)
    by (inr above) = ap (λ n. eqb (bit_at n (63 - i)) 1) ones ∙ ap (λ n. eqb n 1) (bit_at_ones (64 - column) (63 - i) (omega (arith, above, g, h))) ∙ sym (le-leb column i above)

sum_is_one : (a b : ℕ) → a < 2 → b < 2 → eqb ((a + b) % 2) 1 ≡ cond (eqb b 1) (not (eqb a 1)) (eqb a 1)
sum_is_one zero zero h g = refl
sum_is_one zero (suc zero) h g = refl
sum_is_one (suc zero) zero h g = refl
sum_is_one (suc zero) (suc zero) h g = refl
sum_is_one (suc (suc a)) b h g = absurd (omega (arith, h))
sum_is_one zero (suc (suc b)) h g = absurd (omega (arith, g))
sum_is_one (suc zero) (suc (suc b)) h g = absurd (omega (arith, g))

pub turned_pixel : (word column i : ℕ) → column < 64 → i < 64
    → word_pixel (bit_xor word (18446744073709551615 / 2 ^ column)) i ≡ cond (leb column i) (not (word_pixel word i)) (word_pixel word i)
turned_pixel word column i h g =
    ap (λ n. eqb n 1) (bit_at_xor word mask (63 - i)) ∙ sum_is_one (bit_at word (63 - i)) (bit_at mask (63 - i)) (bit_at-lt word (63 - i)) (bit_at-lt mask (63 - i))
    ∙ ap (λ b. cond b (not (word_pixel word i)) (word_pixel word i)) (after column i h g)
  where
    mask : ℕ
    mask = 18446744073709551615 / 2 ^ column

less_is_one : (a : ℕ) → a < 2 → eqb (1 - a) 1 ≡ not (eqb a 1)
less_is_one zero h = refl
less_is_one (suc zero) h = refl
less_is_one (suc (suc a)) h = absurd (omega (arith, h))

pub masked_pixel : (word column i : ℕ) → column < 64 → i < 64
    → word_pixel (bit_and word (bit_not w64 (18446744073709551615 / 2 ^ column))) i ≡ (ltb i column && word_pixel word i)
masked_pixel word column i h g =
    bit_of_and word (bit_not w64 mask) (63 - i)
    ∙ ap (λ b. word_pixel word i && b)
    (ap (λ n. eqb n 1) (bit_at_not w64 mask (63 - i) few (omega (arith, g))) ∙ less_is_one (bit_at mask (63 - i)) (bit_at-lt mask (63 - i)) ∙ ap not (after column i h g))
    ∙ either (word_pixel word i) (leb column i) (ltb i column) before
  where
    mask : ℕ
    mask = 18446744073709551615 / 2 ^ column

    few : mask < 2 ^ 64
    few = omega (arith, ones_shr 64 column (omega (arith, h)), less)
      where
        less : 18446744073709551615 / 2 ^ column ≤ 18446744073709551615
        less = omega arith

    before : not (leb column i) ≡ ltb i column
    before = grind (arith, nat_tests)

    either : (p q r : Bool) → not q ≡ r → (p && not q) ≡ (r && p)
    either true q r e = e ∙ and_true r
      where
        and_true : (b : Bool) → b ≡ (b && true)
        and_true true = refl
        and_true false = refl
    either false q r e = and_false r
      where
        and_false : (b : Bool) → false ≡ (b && false)
        and_false true = refl
        and_false false = refl

-- ---- the beginning of a word

pub prefix_pixel : (word column i : ℕ) → column < 64 → i < 64 → word_pixel (prefix word column) i ≡ (ltb i column && word_pixel word i)
prefix_pixel word column i h g = by (cases_lt i column)
  where
    k : ℕ
    k = 64 - column

    plus : prefix word column ≡ word / 2 ^ k * 2 ^ k + 0
    plus = omega arith

    by : (i < column) ⊎ (column ≤ i) → word_pixel (prefix word column) i ≡ (ltb i column && word_pixel word i)
    by (inl before) =
        let place : k + (63 - i - k) ≡ 63 - i = omega (arith, before, g, h) in
        ap (λ n. eqb (bit_at n (63 - i)) 1) plus
        ∙ ap (λ n. eqb n 1) (bit_at_cat_high (word / 2 ^ k) k 0 (63 - i) (pow_pos k) (omega (arith, before, g, h)) ∙ ap (λ n. n % 2) (shr-shr word k (63 - i - k)) ∙ ap (bit_at word) place)
        ∙ ap (λ b. b && word_pixel word i) (sym (lt-ltb i column before))
    by (inr from) =
        ap (λ n. eqb (bit_at n (63 - i)) 1) plus
        ∙ ap (λ n. eqb n 1) (bit_at_cat_low (word / 2 ^ k) k 0 (63 - i) (omega (arith, from, g, h)) ∙ bit_at-zero (63 - i))
        ∙ ap (λ b. b && word_pixel word i) (sym (le-ltb i column from))

pub prefix_white : (word column i : ℕ) → column < 64 → column ≤ i → i < 64 → word_pixel (prefix word column) i ≡ false
prefix_white word column i h from g = prefix_pixel word column i h g ∙ ap (λ b. b && word_pixel word i) (le-ltb i column from)

-- a run: what was ahead lies before the column now
pub prefix_run : (word column n : ℕ) (black : Bool) → column + n < 64 → IsAhead word column black → HasRun (prefix word column) black column (column + n) (prefix word (column + n))
prefix_run word column n black h ahead i g =
    prefix_pixel word (column + n) i h g ∙ by (cases_lt i column) ∙ ap (λ b. black && is_within column (column + n) i || b) (sym (prefix_pixel word column i (omega (arith, h)) g))
  where
    inside : i < column → ltb i (column + n) ≡ ltb i column
    inside low = grind (arith, nat_tests)

    outside : i < column → is_within column (column + n) i ≡ false
    outside low = grind (arith, nat_tests)

    within : column ≤ i → is_within column (column + n) i ≡ ltb i (column + n)
    within from = grind (arith, nat_tests)

    old : (p q r : Bool) → q ≡ false → r ≡ (p && q || r)
    old true q r e = sym (ap (λ b. b || r) e)
    old false q r e = refl

    new : (p q s : Bool) → q ≡ s → (s && p) ≡ (p && q || false)
    new true true s e = ap (λ b. b && true) (sym e)
    new true false s e = ap (λ b. b && true) (sym e)
    new false q s e = and_false s
      where
        and_false : (b : Bool) → (b && false) ≡ false
        and_false true = refl
        and_false false = refl

    by : (i < column) ⊎ (column ≤ i) → (ltb i (column + n) && word_pixel word i) ≡ (black && is_within column (column + n) i || (ltb i column && word_pixel word i))
    by (inl low) = ap (λ b. b && word_pixel word i) (inside low) ∙ old black (is_within column (column + n) i) (ltb i column && word_pixel word i) (outside low)
    by (inr from) =
        ap (λ b. ltb i (column + n) && b) (ahead i from g) ∙ new black (is_within column (column + n) i) (ltb i (column + n)) (within from)
        ∙ ap (λ b. black && is_within column (column + n) i || b && word_pixel word i) (sym (le-ltb i column from))

-- a word with the other colour after the column
abbrev pub IsTurned : ℕ → ℕ → ℕ → Type 0
IsTurned word column new = (i : ℕ) → i < 64 → word_pixel new i ≡ cond (leb column i) (not (word_pixel word i)) (word_pixel word i)

pub ahead_turned : (word column new : ℕ) (black : Bool) → IsTurned word column new → IsAhead word column black → IsAhead new column (not black)
ahead_turned word column new black turned ahead i from g =
    turned i g ∙ ap (λ b. cond b (not (word_pixel word i)) (word_pixel word i)) (le-leb column i from) ∙ ap not (ahead i from g)

pub last_turned : (word column new : ℕ) → column < 64 → IsTurned word column new → word_pixel new 63 ≡ not (word_pixel word 63)
last_turned word column new few turned = turned 63 (omega arith) ∙ ap (λ b. cond b (not (word_pixel word 63)) (word_pixel word 63)) (le-leb column 63 (omega (arith, few)))

pub last_bit : (word : ℕ) → bit_and word 1 ≡ bit_at word 0
last_bit word = let whole : word / 2 ^ 0 ≡ word = omega arith in ap (λ n. bit_and n 1) (sym whole) ∙ shr_and_one word 0

pub prefix_turned : (word column new i : ℕ) → column < 64 → IsTurned word column new → i < 64 → word_pixel (prefix new column) i ≡ word_pixel (prefix word column) i
prefix_turned word column new i h turned g = prefix_pixel new column i h g ∙ by (cases_lt i column) ∙ sym (prefix_pixel word column i h g)
  where
    by : (i < column) ⊎ (column ≤ i) → (ltb i column && word_pixel new i) ≡ (ltb i column && word_pixel word i)
    by (inl low) = ap (λ b. ltb i column && b) (turned i g ∙ ap (λ b. cond b (not (word_pixel word i)) (word_pixel word i)) (lt-leb column i low))
    by (inr from) = ap (λ b. b && word_pixel new i) (le-ltb i column from) ∙ ap (λ b. b && word_pixel word i) (sym (le-ltb i column from))

-- ---- what is kept and seen

pub rekept : (b : Bitmap) (old word row column : ℕ) → IsKept b old row column → IsKept b (prefix word column) row column
rekept b old word row column kept = record {
  narrow = kept.narrow;
  inside = kept.inside;
  white = kept.white;
  after = λ i from few. prefix_white word column i (omega (arith, kept.narrow, kept.inside)) from few;
}

-- before the first column there is nothing
pub prefix_none : (b : Bitmap) (word first last : ℕ) → b.width < 64 → with_word b (prefix word 0) first last ≡ with_word b 0 first last
prefix_none b word first last narrow = same_seen b (prefix word 0) 0 first last
    (λ x in_row. prefix_white word 0 x (omega arith) (omega arith) (omega (arith, in_row, narrow)) ∙ sym (no_pixel x))

pub seen_turned : (b : Bitmap) (word new row column copies : ℕ) (repeated black : Bool) (old : Painter) → b.width < 64 → column < 64 → IsTurned word column new
    → value_of_painter b (prefix word column) row column copies repeated black ≡ old → value_of_painter b (prefix new column) row column copies repeated (not black) ≡ record old { black = not old.black }
seen_turned b word new row column copies repeated black old narrow few turned e =
    ap (λ (q : Bitmap). make q) (same_seen b (prefix new column) (prefix word column) row (row + 1) (λ x in_row. prefix_turned word column new x few turned (omega (arith, in_row, narrow))))
    ∙ ap (λ (p : Painter). record p { black = not p.black }) e
  where
    make : Bitmap → Painter
    make q = record { bits = q; row = row; column = column; copies = copies; repeated = repeated; black = not black }

-- a word that has the beginning of another and is white after
abbrev pub IsPrefix : ℕ → ℕ → ℕ → Type 0
IsPrefix word column new = (i : ℕ) → i < 64 → word_pixel new i ≡ (ltb i column && word_pixel word i)

pub white_after : (word column width new : ℕ) → column ≤ width → IsPrefix word column new → IsWhiteFrom width new
white_after word column width new inside is i from few = is i few ∙ ap (λ b. b && word_pixel word i) (le-ltb i column (omega (arith, inside, from)))

pub joined_prefix : (b : Bitmap) (word column new first last : ℕ) → b.width < 64 → column < 64 → IsPrefix word column new → with_word b new first last ≡ with_word b (prefix word column) first last
joined_prefix b word column new first last narrow few is = same_seen b new (prefix word column) first last
    (λ x in_row. is x (omega (arith, in_row, narrow)) ∙ sym (prefix_pixel word column x few (omega (arith, in_row, narrow))))
