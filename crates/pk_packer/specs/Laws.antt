-- Laws over what is written, and what the definitions give for two worked examples.
use Rattle.std.specs.Prelude.{◌≡◌, ℕ, ◌+◌, ◌*◌, ◌<◌, ◌≤◌, Bool, true, false, List, [], ◌∷◌, ◌++◌, length, replicate, slice_index_or}
use Rattle.std.specs.List.{AllByRecursion}
use Rattle.packed_rows.specs.Bitmap.{Bitmap, IsShaped, is_black}
use Rattle.packed_rows.specs.Packing.{IsPadded, pixel}
use Rattle.pk_runs.specs.Numbers.{Item, Run, Repeat, SpellsNumber}
use Rattle.pk_runs.specs.Raster.{copies, pixels}
use Rattle.pk_packer.specs.Choice.{plain_bytes}
use Rattle.pk_packer.specs.Spelling.{items_text, number_text, text_length}
use Rattle.pk_packer.specs.Written.{Group, first_colour, pixel_rows, written_rows, written_runs}

-- ---- runs

-- the pixels of written rows
abbrev pub joined : List Group → List Bool
joined [] = []
joined (g ∷ rows) = g.row ++ joined rows

-- the copies of written row i
abbrev pub below_of : List Group → ℕ → ℕ
below_of rows i = (slice_index_or rows i (record { row = []; below = 0 })).below

-- each run has a pixel, and each repeat count a copy
abbrev pub AreSome : List Item → Type 0
AreSome [] = Unit {0}
AreSome (Run n ∷ before) = (1 ≤ n) × AreSome before
AreSome (Repeat n ∷ before) = (1 ≤ n) × AreSome before

-- the runs are the pixels of the written rows, cut where the colour changes and nowhere else, since
-- they alternate and none is empty; and each written row has its repeat count
abbrev pub RunsAreLongest : Type 0
RunsAreLongest =
    (w : ℕ) (rows : List (List Bool)) → 1 ≤ w → AllByRecursion (λ row. length row ≡ w) rows
    → (pixels (first_colour rows) (written_runs rows) ≡ joined (written_rows rows))
    × AreSome (written_runs rows)
    × ((i : ℕ) → i < length (written_rows rows)
    → copies w (written_runs rows) i ≡ below_of (written_rows rows) i)

-- ---- numbers

-- a number is spelled, and in no other way
abbrev pub NumbersAreSpelled : Type 0
NumbersAreSpelled =
    (dyn_f n : ℕ) → dyn_f ≤ 13 → 1 ≤ n → SpellsNumber dyn_f (number_text dyn_f n) n

abbrev pub NumbersHaveOneSpelling : Type 0
NumbersHaveOneSpelling =
    (dyn_f n : ℕ) (nybbles : List ℕ) → dyn_f ≤ 13 → AllByRecursion (λ i. i < 16) nybbles
    → SpellsNumber dyn_f nybbles n → nybbles ≡ number_text dyn_f n

-- ---- four rows of three pixels

abbrev pub bar : List (List Bool)
bar = (true ∷ false ∷ true ∷ []) ∷ (true ∷ false ∷ true ∷ []) ∷ (true ∷ false ∷ true ∷ [])
    ∷ (true ∷ true ∷ true ∷ []) ∷ []

-- its equal rows are written once, and the last run goes over a row's end
abbrev pub BarIsWritten : Type 0
BarIsWritten =
    (written_runs bar ≡ Run 4 ∷ Run 1 ∷ Run 1 ∷ Repeat 2 ∷ [])
    × (items_text 8 (written_runs bar) ≡ 14 ∷ 2 ∷ 1 ∷ 1 ∷ 4 ∷ [])

abbrev pub BarHasItsLengths : Type 0
BarHasItsLengths =
    (text_length 0 bar ≡ 9) × (text_length 1 bar ≡ 7) × (text_length 2 bar ≡ 6)
    × (text_length 3 bar ≡ 6) × (text_length 4 bar ≡ 5) × (text_length 5 bar ≡ 5)
    × (text_length 6 bar ≡ 5) × (text_length 7 bar ≡ 5) × (text_length 8 bar ≡ 5)
    × (text_length 9 bar ≡ 5) × (text_length 10 bar ≡ 5) × (text_length 11 bar ≡ 5)
    × (text_length 12 bar ≡ 5) × (text_length 13 bar ≡ 5)

-- ---- eight rows of eight black pixels

abbrev pub square : List (List Bool)
square = replicate 8 (replicate 8 true)

-- rows of one colour are one run
abbrev pub SquareIsWritten : Type 0
SquareIsWritten =
    (written_runs square ≡ Run 64 ∷ []) × (items_text 0 (written_runs square) ≡ 4 ∷ 15 ∷ [])

abbrev pub SquareHasItsLengths : Type 0
SquareHasItsLengths =
    (text_length 0 square ≡ 2) × (text_length 1 square ≡ 2) × (text_length 2 square ≡ 2)
    × (text_length 3 square ≡ 2) × (text_length 4 square ≡ 2) × (text_length 5 square ≡ 2)
    × (text_length 6 square ≡ 2) × (text_length 7 square ≡ 2) × (text_length 8 square ≡ 2)
    × (text_length 9 square ≡ 2) × (text_length 10 square ≡ 3) × (text_length 11 square ≡ 3)
    × (text_length 12 square ≡ 3) × (text_length 13 square ≡ 3)

-- ---- a raster with an empty side has no runs

abbrev pub NothingIsWritten : Type 0
NothingIsWritten =
    (written_runs [] ≡ []) × (written_runs ([] ∷ [] ∷ []) ≡ [])

-- ---- plain bitmaps

-- the rows of a raster that have its size are its pixels
abbrev pub ShapedRastersAreTheirPixels : Type 0
ShapedRastersAreTheirPixels = (r : Bitmap) → IsShaped r → pixel_rows r ≡ r.rows

-- a plain bitmap has as few bytes as its pixels take, and no bit after the last; the pixels of a
-- row stand after those of the rows above it
abbrev pub PlainBitmapsArePacked : Type 0
PlainBitmapsArePacked = (r : Bitmap) → IsPadded (r.width * r.height) (plain_bytes r)
    × ((x y : ℕ) → x < r.width → y < r.height
    → pixel (plain_bytes r) (y * r.width + x) ≡ is_black r x y)
