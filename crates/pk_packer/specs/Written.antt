-- The run lengths and repeat counts that are written for a raster. No standard fixes them: these
-- are this project's own choice, among the lists that stand for the raster (Rokicki, PKtype,
-- "Packed file format").
use Rattle.std.specs.Prelude.{ℕ, zero, suc, ◌+◌, Bool, true, false, not, ◌&&◌, List, [], ◌∷◌, replicate, slice_index_or, if◌then◌else◌}
use Rattle.std.specs.List.{flat_map, list_any}
use Rattle.packed_rows.specs.Bitmap.{Bitmap, from_fn, is_black}
use Rattle.pk_runs.specs.Numbers.{Item, Run, Repeat}
use Rattle.pk_runs.specs.Raster.{colour_after}

-- the rows of a raster, by its pixels
unfoldable pub pixel_rows : Bitmap → List (List Bool)
pixel_rows r = from_fn r.height (λ y. from_fn r.width (λ x. is_black r x y))

-- ---- groups of neighbouring equal rows

-- the first row of a group, and how many rows below it equal it
pub record Group : Type 0 where
  pub row : List Bool
  pub below : ℕ

abbrev pub same_colour : Bool → Bool → Bool
same_colour true b = b
same_colour false b = not b

abbrev pub same_row : List Bool → List Bool → Bool
same_row [] [] = true
same_row [] (q ∷ qs) = false
same_row (p ∷ ps) [] = false
same_row (p ∷ ps) (q ∷ qs) = same_colour p q && same_row ps qs

-- the groups, with a row above them
abbrev pub with_row : List Bool → List Group → List Group
with_row row [] = record { row = row; below = 0 } ∷ []
with_row row (g ∷ groups) =
    if same_row row g.row then record { row = row; below = g.below + 1 } ∷ groups
    else record { row = row; below = 0 } ∷ g ∷ groups

abbrev pub groups_of : List (List Bool) → List Group
groups_of [] = []
groups_of (row ∷ rows) = with_row row (groups_of rows)

-- ---- the rows that are written

abbrev pub has_both_colours : List Bool → Bool
has_both_colours row = list_any (λ p. p) row && list_any not row

-- a row with two colours is written once, for its whole group; rows of one colour are all written
abbrev pub written_of : Group → List Group
written_of g =
    if has_both_colours g.row then g ∷ []
    else replicate (g.below + 1) (record { row = g.row; below = 0 })

-- the rows that are written, each with the number of its copies that are not
unfoldable pub written_rows : List (List Bool) → List Group
written_rows rows = flat_map written_of (groups_of rows)

-- ---- the runs of the written rows, joined, and the repeat counts

-- a repeat count, where there are copies
abbrev pub with_count : ℕ → List Item → List Item
with_count zero before = before
with_count (suc n) before = Repeat (suc n) ∷ before

-- the last run with one pixel more
abbrev pub longer : List Item → List Item
longer [] = []
longer (Run n ∷ before) = Run (n + 1) ∷ before
longer (Repeat n ∷ before) = Repeat n ∷ before

-- the items so far, the last one first, and the repeat count that has to stand before the next
-- run, or 0
pub record Progress : Type 0 where
  pub items : List Item
  pub due : ℕ

-- a pixel in the colour that the next run has begins that run; any other makes the last run longer
abbrev pub with_pixel : Bool → Progress → Bool → Progress
with_pixel first s p =
    if same_colour p (colour_after first s.items)
    then record { items = Run 1 ∷ with_count s.due s.items; due = 0 }
    else record { items = longer s.items; due = s.due }

abbrev pub with_pixels : Bool → Progress → List Bool → Progress
with_pixels first s [] = s
with_pixels first s (p ∷ row) = with_pixels first (with_pixel first s p) row

-- the items with those of more written rows; a row's repeat count stands before the first run that
-- begins in the row
abbrev pub with_rows : Bool → List Item → List Group → List Item
with_rows first items [] = items
with_rows first items (g ∷ rows) =
    with_rows first (with_pixels first (record { items = items; due = g.below }) g.row).items rows

-- the colour of the first pixel, white where there is none
abbrev pub first_colour : List (List Bool) → Bool
first_colour rows = slice_index_or (slice_index_or rows 0 []) 0 false

-- the run lengths and repeat counts of a raster with these rows, the last one first
unfoldable pub written_runs : List (List Bool) → List Item
written_runs rows = with_rows (first_colour rows) [] (written_rows rows)
