-- A plain bitmap, and its pixels read again.
use Rattle.std.proofs.Common.{◌≡◌, ◌∙◌, inl, inr, ℕ, zero, suc, ◌+◌, ◌-◌, ◌*◌, ◌/◌, ◌%◌, ◌^◌, ◌<◌, ◌≤◌, Bool, true, false, eqb, List, [], ◌∷◌, ◌++◌, length, get_or, drop, replicate, refl, sym, ap, arith, pow-suc}
use Rattle.std.specs.Prelude.{All, if◌then◌else◌}
use Rattle.std.specs.Int.{bit_at, div_ceil, from_bool}
use Rattle.std.proofs.Math.Nat.{pow-le-pow_right}
use Rattle.std.proofs.lemmas.Bool.{cases_Bool, eqb-true}
use Rattle.std.proofs.lemmas.List.{get_or-drop, replicate_more}
use Rattle.std.proofs.lemmas.Nat.{div-mul-add, mod-mul-add, mul-add-lt}
use Rattle.std.proofs.lemmas.Nat.Bits.{bit_at_lowest, bit_at-suc}
use Rattle.packed_rows.specs.Bitmap.{Bitmap, from_fn, is_black}
use Rattle.packed_rows.specs.Packing.{IsPadded, bits_value, pixel, row_text}
use Rattle.packed_rows.proofs.Lists.{from_fn_past, from_fn_same, get_or-from_fn, length-from_fn}
use Rattle.pk_runs.specs.Raster.{IsRaster, is_empty, plain_rows}
use Rattle.pk_packer.specs.Choice.{plain_bytes, plain_pixels}
use Rattle.pk_packer.specs.Written.{pixel_rows}

-- ---- the bits of a byte

abbrev pub bit_of : Bool → ℕ
bit_of b = if b then 1 else 0

pub bit_from : (b : Bool) → from_bool b ≡ bit_of b
bit_from true = refl
bit_from false = refl

-- one pixel more
pub bits_more : (k : ℕ) (ps : List Bool) → bits_value (suc k) ps ≡ 2 * bits_value k ps + bit_of (get_or ps k false)
bits_more zero [] = refl
bits_more zero (true ∷ ps) = refl
bits_more zero (false ∷ ps) = refl
bits_more (suc k) [] = refl
bits_more (suc k) (true ∷ ps) = let double : 2 ^ suc k ≡ 2 ^ k * 2 = pow-suc 2 k in omega (arith, bits_more k ps, double)
bits_more (suc k) (false ∷ ps) = omega (arith, bits_more k ps)

pub bit_small : (b : Bool) → bit_of b ≤ 1
bit_small true = omega arith
bit_small false = omega arith

pub bits_below : (k : ℕ) (ps : List Bool) → bits_value k ps < 2 ^ k
bits_below zero ps = omega arith
bits_below (suc k) ps =
    let double : 2 ^ suc k ≡ 2 ^ k * 2 = pow-suc 2 k in
    omega (arith, bits_more k ps, bits_below k ps, double, bit_small (get_or ps k false))

-- so one bit more fits a byte, where it has at most seven
pub bits_fit : (k : ℕ) (ps : List Bool) → k < 8 → bits_value k ps < 128
bits_fit k ps few =
    let seven : k ≤ 7 = omega (arith, few) in
    let most : 2 ^ k ≤ 2 ^ 7 = pow-le-pow_right (omega arith) seven in
    omega (arith, bits_below k ps, most)

pub bits_step : (byte bit k : ℕ) (ps : List Bool) (b : Bool) → byte ≡ bits_value k ps → bit ≡ bit_of b → get_or ps k false ≡ b → 2 * byte + bit ≡ bits_value (k + 1) ps
bits_step byte bit k ps b ebyte ebit here =
    let next : k + 1 ≡ suc k = omega arith in
    omega (arith, ebyte, ebit, ap bit_of here, bits_more k ps, ap (λ n. bits_value n ps) next)

-- pixel k of j + 1 + k is bit j
bit_back : (j k : ℕ) (ps : List Bool) → bit_at (bits_value (j + suc k) ps) j ≡ bit_of (get_or ps k false)
bit_back zero k ps =
    let n : 0 + suc k ≡ suc k = omega arith in
    ap (λ m. bit_at (bits_value m ps) 0) n ∙ bit_at_lowest (bits_value (suc k) ps) ∙ omega (arith, bits_more k ps, bit_small (get_or ps k false))
bit_back (suc j) k ps =
    let n : suc j + suc k ≡ suc (j + suc k) = omega arith in
    let half : bits_value (suc (j + suc k)) ps / 2 ≡ bits_value (j + suc k) ps = omega (arith, bits_more (j + suc k) ps, bit_small (get_or ps (j + suc k) false)) in
    ap (λ m. bit_at (bits_value m ps) (suc j)) n ∙ bit_at-suc (bits_value (suc (j + suc k)) ps) j ∙ ap (λ m. bit_at m j) half ∙ bit_back j k ps

is_bit : (b : Bool) → eqb (bit_of b) 1 ≡ b
is_bit true = refl
is_bit false = refl

-- ---- the pixels of the text of a row

module _ (ps : List Bool) where
  abbrev byte : ℕ → ℕ
  byte i = bits_value 8 (drop (8 * i) ps)

  small_bytes : All (λ b. b < 256) (row_text ps)
  small_bytes i d lt =
      let e : get_or (row_text ps) i d ≡ byte i = get_or-from_fn (div_ceil (length ps) 8) byte i d (omega (arith, lt, length-from_fn (div_ceil (length ps) 8) byte)) in
      omega (arith, e, bits_below 8 (drop (8 * i) ps))

  pub length_of_text : length (row_text ps) ≡ div_ceil (length ps) 8
  length_of_text = length-from_fn (div_ceil (length ps) 8) byte

  pub pixel_back : (x : ℕ) → x / 8 < div_ceil (length ps) 8 → pixel (row_text ps) x ≡ get_or ps x false
  pixel_back x here =
      let k = x % 8 in
      let j = 7 - x % 8 in
      let eight : 8 ≡ j + suc k = omega arith in
      let place : 8 * (x / 8) + k ≡ x = omega arith in
      ap (λ b. eqb (bit_at b j) 1) (get_or-from_fn (div_ceil (length ps) 8) byte (x / 8) 0 here)
      ∙ ap (λ n. eqb (bit_at (bits_value n (drop (8 * (x / 8)) ps)) j) 1) eight
      ∙ ap (λ b. eqb b 1) (bit_back j k (drop (8 * (x / 8)) ps))
      ∙ is_bit (get_or (drop (8 * (x / 8)) ps) k false)
      ∙ get_or-drop (8 * (x / 8)) ps k false
      ∙ ap (λ i. get_or ps i false) place

-- ---- a raster

-- by its pixels
abbrev pub raster_by_pixels : Bitmap → Bitmap
raster_by_pixels r = record { width = r.width; height = r.height; rows = pixel_rows r }

module _ (r : Bitmap) where
  abbrev dot : ℕ → Bool
  dot i = is_black r (i % r.width) (i / r.width)

  pub length_of_pixels : length (plain_pixels r) ≡ r.width * r.height
  unfolding plain_pixels
  length_of_pixels = length-from_fn (r.width * r.height) dot

  pub length_of_bytes : length (plain_bytes r) ≡ div_ceil (r.width * r.height) 8
  unfolding plain_bytes
  length_of_bytes = length_of_text (plain_pixels r) ∙ ap (λ n. div_ceil n 8) length_of_pixels

  -- the bytes, one after another
  pub all_bytes : (i : ℕ) → i ≡ length (plain_bytes r) → from_fn i (λ j. bits_value 8 (drop (8 * j) (plain_pixels r))) ≡ plain_bytes r
  unfolding plain_bytes
  all_bytes i e = ap (λ n. from_fn n (λ j. bits_value 8 (drop (8 * j) (plain_pixels r)))) (e ∙ length_of_text (plain_pixels r))

  pub pixel_of : (i : ℕ) → i < r.width * r.height → is_black r (i % r.width) (i / r.width) ≡ get_or (plain_pixels r) i false
  unfolding plain_pixels
  pixel_of i h = sym (get_or-from_fn (r.width * r.height) dot i false h)

  pub no_pixel : (i : ℕ) → r.width * r.height ≤ i → get_or (plain_pixels r) i false ≡ false
  unfolding plain_pixels
  no_pixel i h = from_fn_past (r.width * r.height) dot i false h

  pub padded_bytes : IsPadded (r.width * r.height) (plain_bytes r)
  unfolding plain_bytes
  padded_bytes = record {
    len = length_of_bytes;
    small = small_bytes (plain_pixels r);
    zero_after = λ i past h. pixel_back (plain_pixels r) i (omega (arith, h, length_of_text (plain_pixels r))) ∙ no_pixel i past;
  }

  pub pixel_again : (x y : ℕ) → x < r.width → y < r.height → is_black r x y ≡ pixel (plain_bytes r) (y * r.width + x)
  unfolding plain_bytes
  pixel_again x y in_row inside =
      let here : y * r.width + x < r.width * r.height = omega (arith, mul-add-lt y r.width x r.height inside in_row) in
      sym (
      pixel_back (plain_pixels r) (y * r.width + x) (omega (arith, here, length_of_pixels))
      ∙ sym (pixel_of (y * r.width + x) here)
      ∙ ap (λ a. is_black r a ((y * r.width + x) / r.width)) (mod-mul-add y r.width x in_row)
      ∙ ap (is_black r x) (div-mul-add y r.width x in_row)
      )

  rows_again : pixel_rows r ≡ plain_rows r.width r.height (plain_bytes r)
  unfolding pixel_rows
  rows_again = from_fn_same r.height _ _ (λ y inside. from_fn_same r.width _ _ (λ x in_row. pixel_again x y in_row inside))

  enough : r.width * r.height ≤ 8 * length (plain_bytes r)
  enough = omega (arith, length_of_bytes)

  abbrev none : ℕ → List (List Bool)
  none h = replicate h []

  same_none : (h : ℕ) → from_fn {A = List Bool} h (λ y. []) ≡ none h
  same_none zero = refl
  same_none (suc h) =
      let one_more : h + 1 ≡ suc h = omega arith in
      ap (λ l. l ++ [] ∷ []) (same_none h) ∙ replicate_more h [] ∙ ap none one_more

  no_columns : (w h : ℕ) → w ≡ 0 → from_fn h (λ y. from_fn w (λ x. is_black r x y)) ≡ none h
  no_columns w h e = ap (λ k. from_fn h (λ y. from_fn k (λ x. is_black r x y))) e ∙ same_none h

  no_rows : (w h : ℕ) → h ≡ 0 → from_fn h (λ y. from_fn w (λ x. is_black r x y)) ≡ none h
  no_rows w h e = ap (λ k. from_fn k (λ y. from_fn w (λ x. is_black r x y))) e ∙ sym (ap none e)

  abbrev with_rows : List (List Bool) → Bitmap
  with_rows rows = record { width = r.width; height = r.height; rows = rows }

  pub empty_seen : is_empty r.width r.height ≡ true → raster_by_pixels r ≡ with_rows (none r.height)
  unfolding pixel_rows
  empty_seen empty = elim (cases_Bool (eqb r.width 0)) [
    | inl w ↦ ap with_rows (no_columns r.width r.height (eqb-true r.width 0 w))
    | inr some ↦ elim (cases_Bool (eqb r.height 0)) [
      | inl h ↦ ap with_rows (no_rows r.width r.height (eqb-true r.height 0 h))
      | inr other ↦ absurd (let both : is_empty r.width r.height ≡ false = rw (some, other) refl in cc)
    ]
  ]

  -- the bytes stand for the raster, as it is seen by its pixels
  pub raster_again : (first : Bool) → IsRaster (plain_bytes r) 14 first r.width r.height (raster_by_pixels r)
  unfolding pixel_rows
  raster_again first = elim (cases_Bool (is_empty r.width r.height)) [
    | inl empty ↦ rw empty (empty_seen empty)
    | inr full ↦ rw full (pixel_rows r, refl, (enough, rows_again))
  ]
