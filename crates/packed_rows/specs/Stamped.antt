-- A raster that is set on a bitmap: the pixels that lie on its black ones become black, the others
-- stay.
use Rattle.std.specs.Prelude.{◌≡◌, ℕ, ◌+◌, ◌-◌, ◌*◌, ◌%◌, ◌<◌, ◌≤◌, ℤ, pos, ◌-ℤ◌, Bool, false, ◌&&◌, ◌||◌, ◌==◌, List, length, nat_le}
use Rattle.std.specs.Int.{bit_at}
use Rattle.packed_rows.specs.Bitmap.{Bitmap, is_black, from_fn}
use Rattle.packed_rows.specs.Packing.{pixel}
use Rattle.packed_rows.specs.Changes.{is_within}
use Rattle.packed_rows.specs.Stored.{row_at}

-- a pixel of a raster by its place, which may lie outside: white there
abbrev pub is_black_at : Bitmap → ℤ → ℤ → Bool
is_black_at raster (pos x) (pos y) = is_black raster x y
is_black_at raster _ _ = false

-- a bitmap on which a raster is set, with its upper left pixel in column `left` of row `top`
abbrev pub with_raster : Bitmap → Bitmap → ℤ → ℤ → Bitmap
with_raster b raster left top =
    record {
      width = b.width;
      height = b.height;
      rows = from_fn b.height (λ y. from_fn b.width
          (λ x. is_black_at raster (pos x -ℤ left) (pos y -ℤ top) || is_black b x y));
    }

-- ---- one row over another, its first pixel over pixel start - skipped

-- what lies over pixel x, white where the upper row has none
abbrev pub pixel_over : List ℕ → ℕ → ℕ → ℕ → Bool
pixel_over upper start skipped x = nat_le start (x + skipped) && pixel upper (x + skipped - start)

-- pixel k of the eight that a byte holds
abbrev pub byte_pixel : ℕ → ℕ → Bool
byte_pixel byte k = bit_at byte (7 - k) == 1

-- pixel i of the sixty-four that a number of eight bytes holds, the first in the high bit
abbrev pub word_pixel : ℕ → ℕ → Bool
word_pixel word i = bit_at word (63 - i) == 1

-- ---- by words

-- what a word sets on pixel x of a row: the word is read from byte `at` on, turned right, masked,
-- and set from byte `to` on
abbrev pub strip_over : List ℕ → ℕ → ℕ → ℕ → ℕ → ℕ → Bool
strip_over upper at turn mask to x =
    is_within (8 * to) (8 * to + 64) x && (word_pixel mask (x - 8 * to) && pixel upper
    (8 * at + (x - 8 * to + (64 - turn)) % 64))

-- what lies over pixel x of the pixels from `lo` on and before `hi` that follow byte `at`, its
-- first pixel over pixel start - skipped
abbrev pub part_over : List ℕ → ℕ → ℕ → ℕ → ℕ → ℕ → ℕ → Bool
part_over upper at start skipped lo hi x =
    is_within (start + lo) (start + hi) (x + skipped) && pixel upper (8 * at +
    (x + skipped - start))

-- ---- rows side by side

-- of rows of n bytes each, those from `from` on and before `until` have become black where f has a
-- pixel, by its column and its row, and nothing else has changed
abbrev pub AreStamped : ℕ → ℕ → ℕ → (ℕ → ℕ → Bool) → List ℕ → List ℕ → Type 0
AreStamped n from until f old new =
    (x y : ℕ) → x < 8 * n → y * n + n ≤ length old
    → pixel (row_at n new y) x ≡ (is_within from until y && f x y || pixel (row_at n old y) x)
