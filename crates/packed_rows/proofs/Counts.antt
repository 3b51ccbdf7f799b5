-- Black dots counted by words.
use Rattle.std.proofs.Common.{◌≡◌, ℕ, zero, suc, ◌+◌, ◌-◌, ◌*◌, ◌/◌, ◌%◌, ◌^◌, ◌<◌, ◌≤◌, Bool, false, cond, eqb, List, [], ◌∷◌, length, get_or, take, drop, refl, ap, ap₂, sym, ◌∙◌, arith}
use Rattle.std.specs.Int.{bit_at, div_ceil}
use Rattle.std.specs.Prelude.{count_by, count_ones}
use Rattle.std.specs.List.{sum_by}
use Rattle.std.proofs.lemmas.List.Sums.{sum_by_push, sum_by-append, sum_by-cons, sum_by_more}
use Rattle.std.proofs.Math.Seq.{take-add}
use Rattle.std.proofs.lemmas.List.{length-take-le, length-drop}
use Rattle.std.proofs.lemmas.List.Elements.{All-from_get_or}
use Rattle.packed_rows.specs.Stamped.{word_pixel}
use Rattle.packed_rows.proofs.Parts.{of_part, part_small}
use lib.Count.{ones, ones_in, ones_cat, ones-le}
use mir.Syntax.{w8}
use mir.Val.{Fits}
use Rattle.std.proofs.lemmas.Nat.{mul-le}
use Rattle.std.proofs.lemmas.Nat.Bits.{bit_at-lt, bit_at-suc, bit_at_lowest}
use Rattle.std.proofs.Math.Nat.{pow-suc}
use Rattle.packed_rows.specs.Bitmap.{from_fn}
use Rattle.packed_rows.specs.Packing.{pixel, pixels_of}
use Rattle.packed_rows.proofs.Lists.{from_fn_same}
use Rattle.packed_rows.specs.Changes.{black_count}
use Rattle.packed_rows.specs.Stored.{row_at, IsWords, padded_bitmap_of, IsStoredPadded}

-- how many of n values are true
abbrev tally : ℕ → (ℕ → Bool) → ℕ
tally n f = count_by (λ p. p) (from_fn n f)

tally_one : (n : ℕ) (f : ℕ → Bool) → tally (suc n) f ≡ tally n f + cond (f n) 1 0
tally_one n f = sum_by_push (λ p. cond p 1 0) (from_fn n f) (f n)

-- values after the last true one count nothing
tally_past : (n k : ℕ) (f : ℕ → Bool) → ((i : ℕ) → n ≤ i → i < n + k → f i ≡ false) → tally (n + k) f ≡ tally n f
tally_past n zero f h = let none : n + 0 ≡ n = omega arith in ap (λ m. tally m f) none
tally_past n (suc k) f h =
    ap (λ m. tally m f) one_more ∙ tally_one (n + k) f ∙ ap (λ b. tally (n + k) f + cond b 1 0) (h (n + k) (omega arith) (omega arith)) ∙ omega (arith, tally_past n k f (λ i low high. h i low (omega (arith, high))))
  where
    one_more : n + suc k ≡ suc (n + k)
    one_more = omega arith

-- the first m values, and those after them
tally_split : (m n : ℕ) (f : ℕ → Bool) → tally (m + n) f ≡ tally m f + tally n (λ i. f (m + i))
tally_split m zero f = let none : m + 0 ≡ m = omega arith in ap (λ k. tally k f) none ∙ omega arith
tally_split m (suc n) f =
    ap (λ k. tally k f) one_more ∙ tally_one (m + n) f ∙ omega (arith, tally_split m n f, tally_one n (λ i. f (m + i)))
  where
    one_more : m + suc n ≡ suc (m + n)
    one_more = omega arith

-- the set bits of a number: its lowest, and those of its half
small_ones : (r : ℕ) → r < 2 → ones r ≡ r
unfolding ones ones_in
small_ones zero h = refl
small_ones (suc zero) h = refl
small_ones (suc (suc r)) h = absurd (omega (arith, h))

ones_step : (b : ℕ) → ones b ≡ ones (b / 2) + b % 2
ones_step b =
    let split : b ≡ b / 2 * 2 ^ 1 + b % 2 = omega arith in
    ap ones split ∙ ones_cat 1 (b / 2) (b % 2) (omega arith) ∙ ap (λ n. ones (b / 2) + n) (small_ones (b % 2) (omega arith))

if_one : (n : ℕ) → n < 2 → n ≡ cond (eqb n 1) 1 0
if_one zero h = refl
if_one (suc zero) h = refl
if_one (suc (suc n)) h = absurd (omega (arith, h))

-- the set bits of a number of n bits, counted from the highest
bit_tally : (n b : ℕ) → b < 2 ^ n → ones b ≡ tally n (λ i. eqb (bit_at b (n - 1 - i)) 1)
bit_tally zero b h =
    let none : b ≡ 0 = omega (arith, h) in
    ap ones none ∙ small_ones 0 (omega arith)
bit_tally (suc n) b h =
    ones_step b ∙ ap (λ m. m + b % 2) (bit_tally n (b / 2) (omega (arith, h, pow-suc 2 n)))
    ∙ ap (λ l. count_by (λ p. p) l + b % 2) (from_fn_same n (λ i. eqb (bit_at (b / 2) (n - 1 - i)) 1) (λ i. eqb (bit_at b (suc n - 1 - i)) 1) shifted)
    ∙ ap (λ m. tally n (λ i. eqb (bit_at b (suc n - 1 - i)) 1) + m) (last ∙ if_one (bit_at b (suc n - 1 - n)) (bit_at-lt b (suc n - 1 - n)))
    ∙ sym (tally_one n (λ i. eqb (bit_at b (suc n - 1 - i)) 1))
  where
    shifted : (i : ℕ) → i < n → eqb (bit_at (b / 2) (n - 1 - i)) 1 ≡ eqb (bit_at b (suc n - 1 - i)) 1
    shifted i below =
        let up : suc (n - 1 - i) ≡ suc n - 1 - i = omega (arith, below) in
        ap (λ m. eqb m 1) (sym (bit_at-suc b (n - 1 - i)) ∙ ap (bit_at b) up)

    last : b % 2 ≡ bit_at b (suc n - 1 - n)
    last = let lowest : 0 ≡ suc n - 1 - n = omega arith in sym (bit_at_lowest b) ∙ ap (bit_at b) lowest

-- the bytes of a row, and its pixels
byte_tally : (b : ℕ) (bytes : List ℕ) → b < 256 → tally 8 (pixel (b ∷ bytes)) ≡ ones b
byte_tally b bytes h = ap (count_by (λ p. p)) (from_fn_same 8 (pixel (b ∷ bytes)) (λ i. eqb (bit_at b (8 - 1 - i)) 1) each) ∙ sym (bit_tally 8 b h)
  where
    each : (i : ℕ) → i < 8 → pixel (b ∷ bytes) i ≡ eqb (bit_at b (8 - 1 - i)) 1
    each i below =
        let first : i / 8 ≡ 0 = omega (arith, below) in
        let place : i % 8 ≡ i = omega (arith, below) in
        ap (λ k. eqb (bit_at (get_or (b ∷ bytes) k 0) (7 - i % 8)) 1) first ∙ ap (λ r. eqb (bit_at b (7 - r)) 1) place

bytes_tally : (bytes : List ℕ) → ((k d : ℕ) → k < length bytes → get_or bytes k d < 256) → tally (8 * length bytes) (pixel bytes) ≡ sum_by ones bytes
bytes_tally [] small = let none : 8 * 0 ≡ 0 = omega arith in ap (λ n. tally n (pixel [])) none
bytes_tally (b ∷ bytes) small =
    ap (λ n. tally n (pixel (b ∷ bytes))) one_more ∙ tally_split 8 (8 * length bytes) (pixel (b ∷ bytes))
    ∙ ap (λ m. m + tally (8 * length bytes) (λ i. pixel (b ∷ bytes) (8 + i))) (byte_tally b bytes (small 0 0 (omega arith)))
    ∙ ap (λ l. ones b + count_by (λ p. p) l) (from_fn_same (8 * length bytes) (λ i. pixel (b ∷ bytes) (8 + i)) (pixel bytes) later)
    ∙ ap (λ m. ones b + m) (bytes_tally bytes (λ k d h. small (suc k) d (omega (arith, h)))) ∙ sym (sum_by-cons ones b bytes)
  where
    one_more : 8 * suc (length bytes) ≡ 8 + 8 * length bytes
    one_more = omega arith

    later : (i : ℕ) → i < 8 * length bytes → pixel (b ∷ bytes) (8 + i) ≡ pixel bytes i
    later i below =
        let byte : (8 + i) / 8 ≡ suc (i / 8) = omega arith in
        let place : (8 + i) % 8 ≡ i % 8 = omega arith in
        ap (λ k. eqb (bit_at (get_or (b ∷ bytes) k 0) (7 - (8 + i) % 8)) 1) byte ∙ ap (λ r. eqb (bit_at (get_or bytes (i / 8) 0) (7 - r)) 1) place

row_count : (w : ℕ) (row : List ℕ) → IsWords w row → count_by (λ p. p) (pixels_of w row) ≡ sum_by ones row
row_count w row words = sym (tally_past w (8 * length row - w) (pixel row) (λ i low high. words.zero_after i low (omega (arith, high, wide)))) ∙ ap (λ n. tally n (pixel row)) whole ∙ bytes_tally row words.small
  where
    wide : w ≤ 8 * length row
    wide = omega (arith, words.len)

    whole : w + (8 * length row - w) ≡ 8 * length row
    whole = omega (arith, wide)

first_count : (w h : ℕ) (bytes : List ℕ) → IsStoredPadded w h bytes → (n : ℕ) → n ≤ h
    → sum_by (λ row. count_by (λ p. p) row) (from_fn n (λ y. pixels_of w (row_at (8 * div_ceil w 64) bytes y))) ≡ sum_by ones (take (n * (8 * div_ceil w 64)) bytes)
first_count w h bytes stored zero low =
    let none : 0 * (8 * div_ceil w 64) ≡ 0 = omega arith in
    sym (ap (λ k. sum_by ones (take k bytes)) none)
first_count w h bytes stored (suc n) low =
    sum_by_push (λ row. count_by (λ p. p) row) (from_fn n (λ y. pixels_of w (row_at (8 * div_ceil w 64) bytes y))) (pixels_of w (row_at (8 * div_ceil w 64) bytes n))
    ∙ ap (λ m. m + count_by (λ p. p) (pixels_of w (row_at (8 * div_ceil w 64) bytes n))) (first_count w h bytes stored n (omega (arith, low)))
    ∙ ap (λ m. sum_by ones (take (n * (8 * div_ceil w 64)) bytes) + m) (row_count w (row_at (8 * div_ceil w 64) bytes n) (stored.padded n (omega (arith, low))))
    ∙ sym (sum_by-append ones (take (n * (8 * div_ceil w 64)) bytes) (row_at (8 * div_ceil w 64) bytes n))
    ∙ ap (sum_by ones) (sym (take-add (n * (8 * div_ceil w 64)) (8 * div_ceil w 64) bytes) ∙ ap (λ k. take k bytes) one_more)
  where
    one_more : n * (8 * div_ceil w 64) + 8 * div_ceil w 64 ≡ suc n * (8 * div_ceil w 64)
    one_more = omega arith

-- the black dots of a page are the set bits of its bytes
pub counted : (w h n : ℕ) (bytes : List ℕ) → IsStoredPadded w h bytes → n ≡ h * (8 * div_ceil w 64) → sum_by count_ones (take n bytes) ≡ black_count (padded_bitmap_of w h bytes)
counted w h n bytes stored e = ap (λ k. sum_by ones (take k bytes)) e ∙ sym (first_count w h bytes stored h (omega arith))

-- a page has few enough bytes that their bits can be counted
pub few_bytes : (w h : ℕ) (bytes : List ℕ) → IsStoredPadded w h bytes → length bytes ≤ 2 ^ 29 + 8
few_bytes w h bytes stored = omega (arith, stored.len, mul-le h (8 * div_ceil w 64) 65536 8192 (omega (arith, stored.low)) narrow)
  where
    narrow : 8 * div_ceil w 64 ≤ 8192
    narrow = omega (arith, stored.narrow)

-- its rows take whole words
pub whole_words : (w h n : ℕ) → n ≡ h * (8 * div_ceil w 64) → n % 8 ≡ 0
whole_words w h n e = omega (arith, e, eights)
  where
    eights : h * (8 * div_ceil w 64) ≡ 8 * (h * div_ceil w 64)
    eights = omega arith

-- ---- by words

-- the set bits of a word are those of its eight bytes
pub word_ones : (bytes : List ℕ) (at word : ℕ) → at + 8 ≤ length bytes → word < 2 ^ 64 → ((k : ℕ) → Fits w8 (get_or bytes k 0)) → ((i : ℕ) → i < 64 → word_pixel word i ≡ pixel bytes (8 * at + i))
    → count_ones word ≡ sum_by count_ones (take 8 (drop at bytes))
word_ones bytes at word fit fits small read =
    bit_tally 64 word fits
    ∙ ap (count_by (λ p. p)) (from_fn_same 64 (λ i. eqb (bit_at word (64 - 1 - i)) 1) (pixel (take 8 (drop at bytes))) (λ i h. read i h ∙ sym (of_part bytes at 8 i h)))
    ∙ ap (λ n. tally (8 * n) (pixel (take 8 (drop at bytes)))) (sym whole)
    ∙ bytes_tally (take 8 (drop at bytes)) (All-from_get_or (λ b. b < 256) (take 8 (drop at bytes)) 0 (λ i h. part_small bytes at 8 i (λ k. omega (arith, small k)) (omega (arith, h, whole))))
  where
    whole : length (take 8 (drop at bytes)) ≡ 8
    whole = length-take-le 8 (drop at bytes) (omega (arith, fit, length-drop at bytes))

-- one word more was counted
pub word_counted : (bytes : List ℕ) (i count word ones_of : ℕ) → i < length bytes / 8 → word < 2 ^ 64 → ((k : ℕ) → Fits w8 (get_or bytes k 0)) → ((j : ℕ) → j < 64 → word_pixel word j ≡ pixel bytes (8 * (8 * i) + j))
    → count ≡ sum_by count_ones (take (8 * i) bytes) → ones_of ≡ count_ones word → count + ones_of ≡ sum_by count_ones (take (8 * (i + 1)) bytes)
word_counted bytes i count word ones_of h fits small read before e =
    ap₂ (λ m n. m + n) before (e ∙ word_ones bytes (8 * i) word (omega (arith, h)) fits small read)
    ∙ sym (sum_by-append ones (take (8 * i) bytes) (take 8 (drop (8 * i) bytes))) ∙ ap (sum_by ones) (sym (take-add (8 * i) 8 bytes) ∙ ap (λ n. take n bytes) next)
  where
    next : 8 * i + 8 ≡ 8 * (i + 1)
    next = omega arith

pub bits_of_byte : (bytes : List ℕ) (i : ℕ) → ((k : ℕ) → Fits w8 (get_or bytes k 0)) → count_ones (get_or bytes i 0) ≤ 8
bits_of_byte bytes i small = ones-le 8 (get_or bytes i 0) (omega (arith, small i))

pub bits_so_far : (bytes : List ℕ) (i : ℕ) → ((k : ℕ) → Fits w8 (get_or bytes k 0)) → i ≤ length bytes → sum_by count_ones (take i bytes) ≤ 8 * i
bits_so_far bytes zero small h = omega arith
bits_so_far bytes (suc i) small h =
    let one_more : suc i ≡ i + 1 = omega arith in
    omega (arith, ap (λ k. sum_by count_ones (take k bytes)) one_more, sum_by_more count_ones bytes i 0 (omega (arith, h)), bits_so_far bytes i small (omega (arith, h)), bits_of_byte bytes i small)
