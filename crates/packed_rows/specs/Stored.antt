-- How a bitmap is kept: its rows side by side, each in whole bytes, or each in whole words of eight
-- bytes.
use Rattle.std.specs.Prelude.{◌≡◌, ℕ, ◌+◌, ◌*◌, ◌^◌, ◌<◌, ◌≤◌, false, List, length, drop, take}
use Rattle.std.specs.Int.{div_ceil}
use Rattle.std.specs.List.{All}
use Rattle.packed_rows.specs.Bitmap.{Bitmap, from_fn}
use Rattle.packed_rows.specs.Packing.{pixel, pixels_of, IsPadded}

-- row y of rows that have `stride` bytes each
abbrev pub row_at : ℕ → List ℕ → ℕ → List ℕ
row_at stride bytes y = take stride (drop (y * stride) bytes)

-- ---- in whole bytes

-- the bitmap that the bytes hold
abbrev pub bitmap_of : ℕ → ℕ → List ℕ → Bitmap
bitmap_of width height bytes =
    record {
      width = width;
      height = height;
      rows = from_fn height (λ y. pixels_of width
          (row_at (div_ceil width 8) bytes y));
    }

-- the bytes are rows of that size and eight bytes more, so that eight can be read from each place
-- in a row, and nothing stands after a row's last pixel
pub record IsStored (width height : ℕ) (bytes : List ℕ) : Type 0 where
  pub narrow : width < 2 ^ 16
  pub low : height < 2 ^ 16
  pub len : length bytes ≡ height * div_ceil width 8 + 8
  pub padded : (y : ℕ) → y < height → IsPadded width (row_at (div_ceil width 8) bytes y)

-- ---- in whole words

abbrev pub padded_bitmap_of : ℕ → ℕ → List ℕ → Bitmap
padded_bitmap_of width height bytes =
    record {
      width = width;
      height = height;
      rows = from_fn height (λ y. pixels_of width
          (row_at (8 * div_ceil width 64) bytes y));
    }

-- the bytes of a row of n pixels with its padding, which is zero
pub record IsWords (width : ℕ) (bytes : List ℕ) : Type 0 where
  pub len : length bytes ≡ 8 * div_ceil width 64
  pub small : All (λ b. b < 256) bytes
  pub zero_after : (x : ℕ) → width ≤ x → x < 8 * length bytes → pixel bytes x ≡ false

-- the bytes are rows of that size and eight bytes more
pub record IsStoredPadded (width height : ℕ) (bytes : List ℕ) : Type 0 where
  pub narrow : width < 2 ^ 16
  pub low : height < 2 ^ 16
  pub len : length bytes ≡ height * (8 * div_ceil width 64) + 8
  pub padded : (y : ℕ) → y < height → IsWords width (row_at (8 * div_ceil width 64) bytes y)
