-- The first pixel of a word that hasn't a colour, by leading zeros.
use Rattle.std.proofs.Common.{◌≡◌, ◌∙◌, ◌⊎◌, inl, inr, ℕ, zero, suc, ◌+◌, ◌-◌, ◌*◌, ◌/◌, ◌^◌, ◌<◌, ◌≤◌, Bool, true, false, ◌&&◌, List, not, cond, eqb, leb, w64, refl, sym, ap, ap₂, arith}
use Rattle.std.proofs.Math.Nat.{div-le_self}
use Rattle.std.specs.Int.{bit_at, bit_not}
use Rattle.std.specs.Int.Count.{count_leading_zeros}
use Rattle.std.specs.Prelude.{bit_and}
use Rattle.std.proofs.lemmas.Bool.{cases_lt, le-leb, lt-leb}
use Rattle.std.proofs.lemmas.Nat.{and_le_r, leading_le, leading_length}
use Rattle.std.proofs.lemmas.Nat.Bits.{bit_at-lt, bit_at-zero, bit_at_above, bit_at_cat_high, bit_at_not, bit_at_ones, bit_at_ones_above, ones_shr}
use Rattle.packed_rows.specs.Packing.{pixel}
use Rattle.packed_rows.specs.Stamped.{word_pixel}
use Rattle.packed_rows.proofs.Bits.{bit_of_and}

-- ---- leading zeros

pub zeros_before : (t i : ℕ) → t < 2 ^ 64 → i < count_leading_zeros 64 t → word_pixel t i ≡ false
zeros_before t i small before =
    let len = leading_length 64 t small in
    ap (λ n. eqb n 1) (bit_at_above t len.0 (63 - i) len.2 (omega (arith, len.1, before)))

top_bit : (t j : ℕ) → 2 ^ j ≤ t → t < 2 * 2 ^ j → bit_at t j ≡ 1
top_bit t j some small =
    let whole : t ≡ 1 * 2 ^ j + (t - 2 ^ j) = omega (arith, some) in
    let none : j - j ≡ 0 = omega arith in
    ap (λ n. bit_at n j) whole ∙ bit_at_cat_high 1 j (t - 2 ^ j) j (omega (arith, some, small)) (omega arith) ∙ ap (bit_at 1) none

one_at : (t m c : ℕ) → c + m ≡ 64 → t < 2 ^ m → 2 ^ m ≤ 2 * t + 1 → c < 64 → word_pixel t c ≡ true
one_at t zero c sum small large within = absurd (omega (arith, sum, within))
one_at t (suc j) c sum small large within =
    let place : 63 - c ≡ j = omega (arith, sum) in
    ap (λ n. eqb n 1) (ap (bit_at t) place ∙ top_bit t j (omega (arith, large)) (omega (arith, small)))

pub one_there : (t : ℕ) → t < 2 ^ 64 → count_leading_zeros 64 t < 64 → word_pixel t (count_leading_zeros 64 t) ≡ true
one_there t small within =
    let len = leading_length 64 t small in
    one_at t len.0 (count_leading_zeros 64 t) len.1 len.2 len.3 within

-- ---- the pixels of the other colour

-- the pixels from a column on
after : (column i : ℕ) → column < 64 → i < 64 → word_pixel (18446744073709551615 / 2 ^ column) i ≡ leb column i
after column i h g = by (cases_lt i column)
  where
    ones : 18446744073709551615 / 2 ^ column ≡ 2 ^ (64 - column) - 1
    ones = ones_shr 64 column (omega (arith, h))

    by : (i < column) ⊎ (column ≤ i) → word_pixel (18446744073709551615 / 2 ^ column) i ≡ leb column i
    by (inl below) = ap (λ n. eqb (bit_at n (63 - i)) 1) ones ∙ ap (λ n. eqb n 1) (bit_at_ones_above (64 - column) (63 - i) (omega (arith, below, g, h))) ∙ sym (lt-leb column i below)
    by (inr above) = ap (λ n. eqb (bit_at n (63 - i)) 1) ones ∙ ap (λ n. eqb n 1) (bit_at_ones (64 - column) (63 - i) (omega (arith, above, g, h))) ∙ sym (le-leb column i above)

less_is_one : (a : ℕ) → a < 2 → eqb (1 - a) 1 ≡ not (eqb a 1)
less_is_one zero h = refl
less_is_one (suc zero) h = refl
less_is_one (suc (suc a)) h = absurd (omega (arith, h))

pub others : Bool → ℕ → ℕ
others black word = cond black (bit_not w64 word) word

other_pixel : (black : Bool) (word i : ℕ) → word < 2 ^ 64 → i < 64 → word_pixel (others black word) i ≡ cond black (not (word_pixel word i)) (word_pixel word i)
unfolding others
other_pixel true word i small h = ap (λ n. eqb n 1) (bit_at_not w64 word (63 - i) small (omega (arith, h))) ∙ less_is_one (bit_at word (63 - i)) (bit_at-lt word (63 - i))
other_pixel false word i small h = refl

other_from : (black : Bool) (word column i : ℕ) → word < 2 ^ 64 → column < 64 → i < 64
    → word_pixel (bit_and (others black word) (18446744073709551615 / 2 ^ column)) i ≡ (cond black (not (word_pixel word i)) (word_pixel word i) && leb column i)
other_from black word column i small h g =
    bit_of_and (others black word) (18446744073709551615 / 2 ^ column) (63 - i) ∙ ap₂ (λ a b. a && b) (other_pixel black word i small g) (after column i h g)

is_same : (black p : Bool) → (cond black (not p) p && true) ≡ false → p ≡ black
is_same true true e = refl
is_same false false e = refl
is_same true false e = cc
is_same false true e = cc

is_other : (black p b : Bool) → (cond black (not p) p && b) ≡ true → p ≡ not black
is_other true true b e = cc
is_other true false b e = refl
is_other false true b e = refl
is_other false false b e = cc

is_from : (a b : Bool) → (a && b) ≡ true → b ≡ true
is_from true true e = refl
is_from true false e = cc
is_from false true e = refl
is_from false false e = cc

pub others_are : (black : Bool) (word : ℕ) (b : Bool) → black ≡ b → others black word ≡ cond b (bit_not w64 word) word
unfolding others
others_are black word b e = ap (λ c. cond c (bit_not w64 word) word) e

-- those from a column on
abbrev from_on : ℕ → ℕ → ℕ
from_on o column = bit_and o (18446744073709551615 / 2 ^ column)

small_from : (o column : ℕ) → from_on o column < 2 ^ 64
small_from o column = omega (arith, and_le_r o (18446744073709551615 / 2 ^ column), div-le_self 18446744073709551615 (2 ^ column))

-- what is found
pub same_before : (black : Bool) (word column o i : ℕ) → word < 2 ^ 64 → column < 64 → o ≡ others black word
    → column ≤ i → i < count_leading_zeros 64 (from_on o column) → word_pixel word i ≡ black
same_before black word column o i small h is from before =
    let few : count_leading_zeros 64 (from_on o column) ≤ 64 = leading_le 64 (from_on o column) in
    is_same black (word_pixel word i)
    (sym (ap (λ b. cond black (not (word_pixel word i)) (word_pixel word i) && b) (le-leb column i from))
    ∙ sym (other_from black word column i small h (omega (arith, few, before))) ∙ ap (λ n. word_pixel (from_on n column) i) (sym is) ∙ zeros_before (from_on o column) i (small_from o column) before)

found : (black : Bool) (word column o c : ℕ) → word < 2 ^ 64 → column < 64 → o ≡ others black word → c ≡ count_leading_zeros 64 (from_on o column) → c < 64
    → (cond black (not (word_pixel word c)) (word_pixel word c) && leb column c) ≡ true
found black word column o c small h is count within =
    sym (other_from black word column c small h within) ∙ ap (λ n. word_pixel (from_on n column) c) (sym is)
    ∙ ap (word_pixel (from_on o column)) count ∙ one_there (from_on o column) (small_from o column) (omega (arith, count, within))

pub other_there : (black : Bool) (word column o : ℕ) → word < 2 ^ 64 → column < 64 → o ≡ others black word → count_leading_zeros 64 (from_on o column) < 64
    → word_pixel word (count_leading_zeros 64 (from_on o column)) ≡ not black
other_there black word column o small h is within = is_other black _ _ (found black word column o (count_leading_zeros 64 (from_on o column)) small h is refl within)

pub is_behind : (black : Bool) (word column o : ℕ) → word < 2 ^ 64 → column < 64 → o ≡ others black word → column ≤ count_leading_zeros 64 (from_on o column)
is_behind black word column o small h is = by (cases_lt (count_leading_zeros 64 (from_on o column)) column)
  where
    c : ℕ
    c = count_leading_zeros 64 (from_on o column)

    not_both : false ≡ true → ⊥
    not_both e = cc

    by : (c < column) ⊎ (column ≤ c) → column ≤ c
    by (inr from) = from
    by (inl below) =
        absurd (not_both (sym (lt-leb column c below)
        ∙ is_from (cond black (not (word_pixel word c)) (word_pixel word c)) (leb column c) (found black word column o c small h is refl (omega (arith, below, h)))))

-- a pixel of a row by the word that holds it
pub seen_in_word : (row : List ℕ) (at word k : ℕ) (black : Bool) → ((i : ℕ) → i < 64 → word_pixel word i ≡ pixel row (8 * at + i)) → 8 * at ≤ k → k < 8 * at + 64
    → word_pixel word (k - 8 * at) ≡ black → pixel row k ≡ black
seen_in_word row at word k black read low high is =
    let place : k ≡ 8 * at + (k - 8 * at) = omega (arith, low) in
    ap (pixel row) place ∙ sym (read (k - 8 * at) (omega (arith, low, high))) ∙ is

-- a word in which no pixel has the other colour
only_colour : (black p : Bool) → cond black (not p) p ≡ false → p ≡ black
only_colour true true e = refl
only_colour false false e = refl
only_colour true false e = cc
only_colour false true e = cc

pub none_other : (black : Bool) (word i : ℕ) → word < 2 ^ 64 → i < 64 → others black word ≡ 0 → word_pixel word i ≡ black
none_other black word i small h none =
    only_colour black (word_pixel word i) (sym (other_pixel black word i small h) ∙ ap (λ n. word_pixel n i) none ∙ ap (λ n. eqb n 1) (bit_at-zero (63 - i)))
