-- A place in a raster from which its written runs go on.
use Rattle.std.specs.Prelude.{◌≡◌, ℕ, ◌+◌, ◌-◌, ◌*◌, ◌<◌, ◌≤◌, Bool, false, not, List, [], ◌∷◌, drop, slice_index_or}
use Rattle.packed_rows.specs.Bitmap.{Bitmap}
use Rattle.pk_runs.specs.Numbers.{Item}
use Rattle.pk_runs.specs.Raster.{colour_after}
use Rattle.pk_packer.specs.Written.{first_colour, pixel_rows, with_pixels, with_rows, written_rows, written_runs}
use Rattle.pk_packer.specs.declared.places.Place.{Place}

abbrev pub row_of : List (List Bool) → ℕ → List Bool
row_of rows y = slice_index_or rows y []

-- the items before a place, and all those from it on
abbrev pub items_from : List (List Bool) → Place → List Item → List Item
items_from rows p items =
    with_rows (first_colour rows)
    (with_pixels (first_colour rows) (record { items = items; due = p.due })
    (drop p.column (row_of rows p.row))).items
    (written_rows (drop (p.row + 1 + p.copies) rows))

-- the copies of a row that are not written
abbrev pub AreCopies : List (List Bool) → ℕ → ℕ → Type 0
AreCopies rows y n =
    written_rows (drop y rows)
    ≡ record { row = row_of rows y; below = n } ∷ written_rows (drop (y + 1 + n) rows)

-- a place within the raster, with where the colour that begins there ends, or one behind the last
-- row
pub record IsPlace (r : Bitmap) (p : Place) : Type 0 where
  pub low : p.row ≤ r.height
  pub inside : p.row < r.height → p.column < r.width
  pub fit : p.row < r.height → p.row + 1 + p.copies ≤ r.height
  pub small : p.due ≤ r.height
  pub some : p.row < r.height → p.column < p.end
  pub most : p.row < r.height → p.end ≤ r.width
  pub same : p.row < r.height → (x : ℕ) → p.column ≤ x → x < p.end
      → slice_index_or (row_of (pixel_rows r) p.row) x false ≡ p.black
  pub other : p.row < r.height → p.end < r.width
      → slice_index_or (row_of (pixel_rows r) p.row) p.end false ≡ not p.black

-- how many pixels of the raster are not passed
abbrev pub pixels_after : Bitmap → Place → ℕ
pixels_after r p = (r.height - p.row) * r.width - p.column

-- items were given up to the place, and a run begins there
pub record IsReached (r : Bitmap) (p : Place) (items : List Item) : Type 0 where
  pub more : items_from (pixel_rows r) p items ≡ written_runs (pixel_rows r)
  pub begins : p.row < r.height → slice_index_or (row_of (pixel_rows r) p.row) p.column false
      ≡ colour_after (first_colour (pixel_rows r)) items
