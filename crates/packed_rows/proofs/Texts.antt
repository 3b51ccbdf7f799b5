-- The text of a row's pixels.
use Rattle.std.proofs.Common.{◌≡◌, ℕ, zero, suc, ◌+◌, ◌-◌, ◌*◌, ◌/◌, ◌%◌, ◌^◌, ◌<◌, ◌≤◌, ◌⊎◌, inl, inr, Bool, false, cond, eqb, List, [], ◌∷◌, length, get_or, drop, refl, ap, sym, ◌∙◌, arith, zero-add}
use Rattle.std.specs.Int.{bit_at, div_ceil}
use Rattle.std.proofs.lemmas.Bool.{cases_lt}
use Rattle.std.proofs.lemmas.List.{ext_get_or, get_or-drop}
use Rattle.std.proofs.lemmas.Nat.{mod-pow-add}
use Rattle.std.proofs.lemmas.Nat.Bits.{bit_at-lt}
use Rattle.packed_rows.specs.Packing.{bits_value, row_text, pixel, pixels_of, IsPadded, PackingGivesBack, PixelsDetermineTheBytes}
use Rattle.packed_rows.proofs.Lists.{length-from_fn, get_or-from_fn, from_fn_past}

times_power : (t p : ℕ) → t < 2 → t * p ≡ cond (eqb t 1) p 0
times_power zero p h = omega arith
times_power (suc zero) p h = omega arith
times_power (suc (suc t)) p h = absurd (omega (arith, h))

-- the low n + 1 bits of a number are bit n and the low n bits
split_bits : (b n : ℕ) → b % 2 ^ suc n ≡ cond (eqb (bit_at b n) 1) (2 ^ n) 0 + b % 2 ^ n
split_bits b n =
    let one_more : suc n ≡ 1 + n = omega arith in
    ap (λ m. b % 2 ^ m) one_more ∙ mod-pow-add b 1 n ∙ ap (λ m. m + b % 2 ^ n) (times_power (bit_at b n) (2 ^ n) (bit_at-lt b n))

-- pixels that are the low n bits of a number have its value
bits_of_value : (n b : ℕ) (pixels : List Bool) → ((k : ℕ) → k < n → get_or pixels k false ≡ eqb (bit_at b (n - 1 - k)) 1) → bits_value n pixels ≡ b % 2 ^ n
bits_of_value zero b pixels h = omega arith
bits_of_value (suc n) b [] h =
    let top : false ≡ eqb (bit_at b n) 1 = h 0 (omega arith) ∙ ap (λ i. eqb (bit_at b i) 1) (omega arith) in
    let low : bits_value n [] ≡ b % 2 ^ n = bits_of_value n b [] (λ k below. h (suc k) (omega (arith, below)) ∙ ap (λ i. eqb (bit_at b i) 1) (omega arith)) in
    sym (nothing n) ∙ low ∙ sym (zero-add (b % 2 ^ n)) ∙ ap (λ t. cond t (2 ^ n) 0 + b % 2 ^ n) top ∙ sym (split_bits b n)
  where
    nothing : (m : ℕ) → bits_value m [] ≡ 0
    nothing zero = refl
    nothing (suc m) = refl
bits_of_value (suc n) b (p ∷ pixels) h =
    let top : p ≡ eqb (bit_at b n) 1 = h 0 (omega arith) ∙ ap (λ i. eqb (bit_at b i) 1) (omega arith) in
    let low : bits_value n pixels ≡ b % 2 ^ n = bits_of_value n b pixels (λ k below. h (suc k) (omega (arith, below)) ∙ ap (λ i. eqb (bit_at b i) 1) (omega arith)) in
    ap (λ m. cond p (2 ^ n) 0 + m) low ∙ ap (λ t. cond t (2 ^ n) 0 + b % 2 ^ n) top ∙ sym (split_bits b n)

-- a byte without a set bit
pub no_bits : (b : ℕ) → b < 256 → ((k : ℕ) → k < 8 → eqb (bit_at b (7 - k)) 1 ≡ false) → b ≡ 0
no_bits b small none = sym whole ∙ sym (bits_of_value 8 b [] (λ k below. sym (ap (λ i. eqb (bit_at b i) 1) (place k) ∙ none k below)))
  where
    whole : b % 2 ^ 8 ≡ b
    whole = omega (arith, small)

    place : (k : ℕ) → 8 - 1 - k ≡ 7 - k
    place k = omega arith

-- byte i of the text of the pixels that padded bytes hold
same_byte : (width : ℕ) (bytes : List ℕ) (i : ℕ) → IsPadded width bytes → i < length bytes → bits_value 8 (drop (8 * i) (pixels_of width bytes)) ≡ get_or bytes i 0
same_byte width bytes i padded h = bits_of_value 8 (get_or bytes i 0) (drop (8 * i) (pixels_of width bytes)) each ∙ small
  where
    small : get_or bytes i 0 % 2 ^ 8 ≡ get_or bytes i 0
    small = let below : get_or bytes i 0 < 256 = padded.small i 0 h in omega (arith, below)

    inside : (k : ℕ) → k < 8 → (8 * i + k < width) ⊎ (width ≤ 8 * i + k) → get_or (pixels_of width bytes) (8 * i + k) false ≡ pixel bytes (8 * i + k)
    inside k below (inl in_row) = get_or-from_fn width (pixel bytes) (8 * i + k) false in_row
    inside k below (inr after) = from_fn_past width (pixel bytes) (8 * i + k) false after ∙ sym (padded.zero_after (8 * i + k) after (omega (arith, below, h)))

    each : (k : ℕ) → k < 8 → get_or (drop (8 * i) (pixels_of width bytes)) k false ≡ eqb (bit_at (get_or bytes i 0) (8 - 1 - k)) 1
    each k below =
        let byte : (8 * i + k) / 8 ≡ i = omega (arith, below) in
        let place : (8 * i + k) % 8 ≡ k = omega (arith, below) in
        get_or-drop (8 * i) (pixels_of width bytes) k false ∙ inside k below (cases_lt (8 * i + k) width)
        ∙ ap (λ j. eqb (bit_at (get_or bytes j 0) (7 - (8 * i + k) % 8)) 1) byte ∙ ap (λ r. eqb (bit_at (get_or bytes i 0) (7 - r)) 1) place

pub packing_gives_back : PackingGivesBack
packing_gives_back width bytes padded = ext_get_or 0 (row_text (pixels_of width bytes)) bytes long each
  where
    wide : length (pixels_of width bytes) ≡ width
    wide = length-from_fn width (pixel bytes)

    long : length (row_text (pixels_of width bytes)) ≡ length bytes
    long = length-from_fn _ (λ i. bits_value 8 (drop (8 * i) (pixels_of width bytes))) ∙ ap (λ w. div_ceil w 8) wide ∙ sym padded.len

    each : (i : ℕ) → i < length (row_text (pixels_of width bytes)) → get_or (row_text (pixels_of width bytes)) i 0 ≡ get_or bytes i 0
    each i h =
        let within : i < div_ceil (length (pixels_of width bytes)) 8 = omega (arith, h, length-from_fn (div_ceil (length (pixels_of width bytes)) 8) (λ j. bits_value 8 (drop (8 * j) (pixels_of width bytes)))) in
        get_or-from_fn (div_ceil (length (pixels_of width bytes)) 8) (λ j. bits_value 8 (drop (8 * j) (pixels_of width bytes))) i 0 within
        ∙ same_byte width bytes i padded (omega (arith, h, long))

pub pixels_determine_the_bytes : PixelsDetermineTheBytes
pixels_determine_the_bytes width a b padded others same = sym (packing_gives_back width a padded) ∙ ap row_text same ∙ packing_gives_back width b others
