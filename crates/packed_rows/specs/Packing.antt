-- A row of pixels as bytes: Netpbm's description of the raw form of PBM (P4), eight pixels a byte
-- with the first in the high bit, 1 for black, and zero bits after the last pixel.
use Rattle.std.specs.Prelude.{◌≡◌, ℕ, zero, suc, ◌+◌, ◌-◌, ◌*◌, ◌/◌, ◌%◌, ◌^◌, ◌<◌, ◌≤◌, Bool, false, List, [], ◌∷◌, length, drop, ◌==◌, if◌then◌else◌, slice_index}
use Rattle.std.specs.Int.{bit_at, div_ceil}
use Rattle.std.specs.List.{All}
use Rattle.packed_rows.specs.Bitmap.{from_fn}

-- n pixels as a number, the first in the highest of n bits, and zero bits after the last
abbrev pub bits_value : ℕ → List Bool → ℕ
bits_value zero pixels = 0
bits_value (suc n) [] = 0
bits_value (suc n) (p ∷ pixels) = (if p then 2 ^ n else 0) + bits_value n pixels

-- the bytes of a row of pixels
abbrev pub row_text : List Bool → List ℕ
row_text row = from_fn (div_ceil (length row) 8) (λ i. bits_value 8 (drop (8 * i) row))

-- pixel x of bytes
abbrev pub pixel : List ℕ → ℕ → Bool
pixel bytes x = bit_at (slice_index bytes (x / 8)) (7 - x % 8) == 1

-- the pixels that the bytes of a row hold
abbrev pub pixels_of : ℕ → List ℕ → List Bool
pixels_of width bytes = from_fn width (pixel bytes)

-- the bytes of a row of n pixels: as many bytes as that takes, and no bit after the last pixel
pub record IsPadded (width : ℕ) (bytes : List ℕ) : Type 0 where
  pub len : length bytes ≡ div_ceil width 8
  pub small : All (λ b. b < 256) bytes
  pub zero_after : (x : ℕ) → width ≤ x → x < 8 * length bytes → pixel bytes x ≡ false

-- ---- laws

-- to pack the pixels of a row's bytes gives the bytes back
abbrev pub PackingGivesBack : Type 0
PackingGivesBack =
    (width : ℕ) (bytes : List ℕ) → IsPadded width bytes → row_text (pixels_of width bytes) ≡ bytes

-- two rows of bytes with the same pixels are equal
abbrev pub PixelsDetermineTheBytes : Type 0
PixelsDetermineTheBytes =
    (width : ℕ) (a b : List ℕ) → IsPadded width a → IsPadded width b
    → pixels_of width a ≡ pixels_of width b → a ≡ b

-- a row has one pixel for each place
abbrev pub RowsHaveTheirWidth : Type 0
RowsHaveTheirWidth = (width : ℕ) (bytes : List ℕ) → length (pixels_of width bytes) ≡ width
