-- Rasters, and the run lengths and repeat counts that stand for them: Rokicki, PKtype, "Packed file
-- format". The run lengths and repeat counts that were read are a list with the last one first.
use Rattle.std.specs.Prelude.{◌≡◌, ℕ, zero, suc, ◌+◌, ◌-◌, ◌*◌, ◌/◌, ◌%◌, ◌<◌, ◌≤◌, ◌⊎◌, Bool, false, not, ◌||◌, List, [], ◌∷◌, ◌++◌, length, take, drop, replicate, ◌==◌, if◌then◌else◌, slice_index_or, IsTrue, IsFalse}
use Rattle.std.specs.Bool.{MatchBool}
use Rattle.std.specs.List.{AllByRecursion}
use Rattle.packed_rows.specs.Bitmap.{Bitmap, from_fn}
use Rattle.packed_rows.specs.Packing.{pixel}
use Rattle.pk_runs.specs.Numbers.{nybbles_of, Item, Run, Repeat, SpellsItem, SpellsItems, CutsNumber, IsRepeatMark}
use Rattle.pk_runs.specs.declared.faults.RunFault.{RunFault}
use Rattle.pk_runs.specs.declared.faults.RunFault.TheVariants as fault

-- ---- what a list of items stands for, at a width

-- how many pixels the runs have
abbrev pub pixel_count : List Item → ℕ
pixel_count [] = 0
pixel_count (Run n ∷ before) = pixel_count before + n
pixel_count (Repeat n ∷ before) = pixel_count before

-- the colour of the next run, where the first has a given one
abbrev pub colour_after : Bool → List Item → Bool
colour_after first [] = first
colour_after first (Run n ∷ before) = not (colour_after first before)
colour_after first (Repeat n ∷ before) = colour_after first before

-- the pixels of the runs
abbrev pub pixels : Bool → List Item → List Bool
pixels first [] = []
pixels first (Run n ∷ before) = pixels first before ++ replicate n (colour_after first before)
pixels first (Repeat n ∷ before) = pixels first before

-- the row of these pixels to which a repeat count after the items belongs
abbrev pub next_row : ℕ → List Item → ℕ
next_row w items = pixel_count items / w

-- whether a row has a repeat count, and the number of its copies
abbrev pub has_repeat : ℕ → List Item → ℕ → Bool
has_repeat w [] row = false
has_repeat w (Run n ∷ before) row = has_repeat w before row
has_repeat w (Repeat n ∷ before) row = next_row w before == row || has_repeat w before row

abbrev pub copies : ℕ → List Item → ℕ → ℕ
copies w [] row = 0
copies w (Run n ∷ before) row = copies w before row
copies w (Repeat n ∷ before) row = if next_row w before == row then n else copies w before row

-- the first n rows of the pixels, each with its copies below it; and how many rows these are
abbrev pub rows_with_copies : ℕ → List Bool → (ℕ → ℕ) → ℕ → List (List Bool)
rows_with_copies w ps copies_of zero = []
rows_with_copies w ps copies_of (suc n) =
    rows_with_copies w ps copies_of n ++ replicate (1 + copies_of n) (take w (drop (n * w) ps))

abbrev pub count_with_copies : (ℕ → ℕ) → ℕ → ℕ
count_with_copies copies_of zero = 0
count_with_copies copies_of (suc n) = count_with_copies copies_of n + (1 + copies_of n)

-- the rows of the raster that the items complete
abbrev pub rows_of : Bool → ℕ → List Item → List (List Bool)
rows_of first w items = rows_with_copies w (pixels first items) (copies w items) (next_row w items)

abbrev pub rows_complete : ℕ → List Item → ℕ
rows_complete w items = count_with_copies (copies w items) (next_row w items)

-- those, the row that holds the next pixel, and its copies
abbrev pub rows_begun : ℕ → List Item → ℕ
rows_begun w items = rows_complete w items + 1 + copies w items (next_row w items)

-- the pixels that runs still have to give: what is left of the row, and each row that is not yet
-- begun
abbrev pub pixels_left : ℕ → ℕ → List Item → ℕ
pixels_left w h items = (w - pixel_count items % w) + w * (h - rows_begun w items)

-- an item can be added to those before it
abbrev pub CanAdd : ℕ → ℕ → List Item → Item → Type 0
CanAdd w h before (Run n) = n ≤ pixels_left w h before
CanAdd w h before (Repeat n) =
    IsFalse (has_repeat w before (next_row w before)) × (rows_complete w before + 1 + n ≤ h)

-- each item could be added, and was needed: the rows were not complete without it
abbrev pub ItemsFit : ℕ → ℕ → List Item → Type 0
ItemsFit w h [] = Unit {0}
ItemsFit w h (item ∷ before) =
    ItemsFit w h before × (rows_complete w before < h) × CanAdd w h before item

-- ---- rasters and faults

abbrev pub is_empty : ℕ → ℕ → Bool
is_empty w h = w == 0 || h == 0

-- a plain bitmap: the bits of the bytes, row after row without padding
abbrev pub plain_rows : ℕ → ℕ → List ℕ → List (List Bool)
plain_rows w h bytes = from_fn h (λ y. from_fn w (λ x. pixel bytes (y * w + x)))

-- the rows that the bytes stand for, in a raster that is not empty: as a plain bitmap, or by runs
abbrev pub IsPlainRaster : List ℕ → ℕ → ℕ → List (List Bool) → Type 0
IsPlainRaster bytes w h rows = (w * h ≤ 8 * length bytes) × (rows ≡ plain_rows w h bytes)

pub record IsRunRaster (bytes : List ℕ) (dyn_f : ℕ) (first : Bool) (w h : ℕ)
    (rows : List (List Bool)) : Type 0 where
  pub items : List Item
  pub used : List ℕ
  pub unused : List ℕ
  pub nybbles : nybbles_of bytes ≡ used ++ unused
  pub spelled : SpellsItems dyn_f used items
  pub fits : ItemsFit w h items
  pub complete : rows_complete w items ≡ h
  pub stand : rows ≡ rows_of first w items

abbrev pub HasRows : ℕ → ℕ → Bitmap → List (List Bool) → Type 0
HasRows w h raster rows = raster ≡ record { width = w; height = h; rows = rows }

-- the bytes stand for the raster; first says that the first run is black
abbrev pub IsRaster : List ℕ → ℕ → Bool → ℕ → ℕ → Bitmap → Type 0
IsRaster bytes dyn_f first w h raster =
    MatchBool (is_empty w h) (HasRows w h raster (replicate h []))
    ((rows : List (List Bool)) × HasRows w h raster rows
    × MatchBool (dyn_f == 14) (IsPlainRaster bytes w h rows)
    (IsRunRaster bytes dyn_f first w h rows))

-- why no number or repeat count can be added to items that do not complete the raster; nybbles are
-- those after the items
abbrev pub CantGoOn : ℕ → ℕ → ℕ → List Item → List ℕ → RunFault → Type 0
CantGoOn dyn_f w h items nybbles fault.Short =
    CutsNumber dyn_f nybbles
    ⊎ (IsFalse (has_repeat w items (next_row w items)) × (number : List ℕ) × (nybbles ≡ 14 ∷ number)
    × CutsNumber dyn_f number)
CantGoOn dyn_f w h items nybbles (fault.SecondRepeat row) = (row ≡ rows_complete w items)
    × (((i : ℕ) × (more : List ℕ) × (nybbles ≡ i ∷ more) × IsRepeatMark i
    × IsTrue (has_repeat w items (next_row w items)))
    ⊎ ((i : ℕ) × (more : List ℕ) × (nybbles ≡ 14 ∷ i ∷ more) × IsRepeatMark i))
CantGoOn dyn_f w h items nybbles fault.TooManyRows =
    (n : ℕ) × (number : List ℕ) × (more : List ℕ) × (nybbles ≡ number ++ more)
    × SpellsItem dyn_f number (Repeat n) × IsFalse (has_repeat w items (next_row w items))
    × (h < rows_complete w items + 1 + n)
CantGoOn dyn_f w h items nybbles fault.Overrun =
    (n : ℕ) × (number : List ℕ) × (more : List ℕ) × (nybbles ≡ number ++ more)
    × SpellsItem dyn_f number (Run n) × (pixels_left w h items < n)

-- items that were read and do not complete the raster, after which none can be added
pub record IsStuck (bytes : List ℕ) (dyn_f w h : ℕ) (f : RunFault) : Type 0 where
  pub items : List Item
  pub used : List ℕ
  pub rest : List ℕ
  pub nybbles : nybbles_of bytes ≡ used ++ rest
  pub spelled : SpellsItems dyn_f used items
  pub fits : ItemsFit w h items
  pub incomplete : rows_complete w items < h
  pub because : CantGoOn dyn_f w h items rest f

-- the fault of bytes that stand for no raster
abbrev pub IsRunFault : List ℕ → ℕ → ℕ → ℕ → RunFault → Type 0
IsRunFault bytes dyn_f w h f = IsFalse (is_empty w h)
    × MatchBool (dyn_f == 14) ((8 * length bytes < w * h) × (f ≡ fault.Short))
    (IsStuck bytes dyn_f w h f)

-- ---- laws

-- bytes stand for at most one raster
abbrev pub RunRastersAreOne : Type 0
RunRastersAreOne =
    (bytes : List ℕ) (dyn_f w h : ℕ) (first : Bool) (r s : List (List Bool)) → dyn_f ≤ 13
    → IsRunRaster bytes dyn_f first w h r → IsRunRaster bytes dyn_f first w h s → r ≡ s

-- a raster of runs has as many rows as it is high, each as long as it is wide
abbrev pub RunRastersHaveTheirSize : Type 0
RunRastersHaveTheirSize =
    (bytes : List ℕ) (dyn_f w h : ℕ) (first : Bool) (rows : List (List Bool)) → 1 ≤ w
    → IsRunRaster bytes dyn_f first w h rows
    → (length rows ≡ h) × ((y : ℕ) → y < h → length (slice_index_or rows y []) ≡ w)

-- where the runs that bytes stand for make a raster, nothing stops them
abbrev pub RunRastersAreNeverStuck : Type 0
RunRastersAreNeverStuck =
    (bytes : List ℕ) (dyn_f w h : ℕ) (first : Bool) (rows : List (List Bool)) (f : RunFault)
    → dyn_f ≤ 13
    → IsRunRaster bytes dyn_f first w h rows → IsStuck bytes dyn_f w h f → ⊥

-- bytes that stand for a raster have no fault
abbrev pub RastersHaveNoFault : Type 0
RastersHaveNoFault =
    (bytes : List ℕ) (dyn_f w h : ℕ) (first : Bool) (raster : Bitmap) (f : RunFault) → dyn_f ≤ 14
    → IsRaster bytes dyn_f first w h raster → IsRunFault bytes dyn_f w h f → ⊥

-- bytes have at most one fault
abbrev pub RunFaultsAreOne : Type 0
RunFaultsAreOne =
    (bytes : List ℕ) (dyn_f w h : ℕ) (f g : RunFault) → dyn_f ≤ 14 → IsRunFault bytes dyn_f w h f
    → IsRunFault bytes dyn_f w h g → f ≡ g

-- bytes stand for at most one raster, in either form
abbrev pub RastersAreOne : Type 0
RastersAreOne = (bytes : List ℕ) (dyn_f w h : ℕ) (first : Bool) (r s : Bitmap) → dyn_f ≤ 14
    → IsRaster bytes dyn_f first w h r → IsRaster bytes dyn_f first w h s → r ≡ s

-- bytes stand for a raster or have a fault
abbrev pub BytesHaveARasterOrAFault : Type 0
BytesHaveARasterOrAFault =
    (bytes : List ℕ) (dyn_f w h : ℕ) (first : Bool) → dyn_f ≤ 14
    → AllByRecursion (λ b. b < 256) bytes
    → ((raster : Bitmap) × IsRaster bytes dyn_f first w h raster)
    ⊎ ((f : RunFault) × IsRunFault bytes dyn_f w h f)
