-- Rasters given by their rows.
use Rattle.std.specs.Prelude.{ℕ, ◌/◌, ◌%◌, Bool, false, List, [], ◌∷◌, length, slice_index_or}
use Rattle.packed_rows.specs.Bitmap.{Bitmap}

-- how long the first row is, and 0 without rows
abbrev pub rows_width : List (List Bool) → ℕ
rows_width [] = 0
rows_width (row ∷ rows) = length row

-- rows as a bitmap
abbrev pub bitmap_of_rows : List (List Bool) → Bitmap
bitmap_of_rows rows = record { width = rows_width rows; height = length rows; rows = rows }

-- the pixel at a place, counted row after row of w pixels
abbrev pub pixel_at : ℕ → List (List Bool) → ℕ → Bool
pixel_at w rows place = slice_index_or (slice_index_or rows (place / w) []) (place % w) false
