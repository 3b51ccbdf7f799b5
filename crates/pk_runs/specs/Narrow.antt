-- A raster whose next row is kept in a word while it is painted.
use Rattle.std.specs.Prelude.{◌≡◌, ℕ, ◌-◌, ◌*◌, ◌/◌, ◌^◌, ◌<◌, ◌≤◌, Bool, false, List}
use Rattle.packed_rows.specs.Bitmap.{Bitmap, is_black}
use Rattle.packed_rows.specs.Joined.{IsWhiteFrom}
use Rattle.packed_rows.specs.Stamped.{word_pixel}
use Rattle.pk_runs.specs.Reading.{IsItemRead, IsPaintedTo}
use Rattle.pk_runs.specs.declared.items.PackedNumber.{PackedNumber}
use Rattle.pk_runs.specs.declared.painter.Painter.{Painter}

-- the raster is white from a row on, and the word from a column on
pub record IsKept (bits : Bitmap) (word row column : ℕ) : Type 0 where
  pub narrow : bits.width < 64
  pub inside : column ≤ bits.width
  pub white : (x y : ℕ) → row ≤ y → x < bits.width → y < bits.height → is_black bits x y ≡ false
  pub after : IsWhiteFrom column word

-- the pixels of a word before a column, the others white
abbrev pub prefix : ℕ → ℕ → ℕ
prefix word column = word / 2 ^ (64 - column) * 2 ^ (64 - column)

-- from a column on, the word has one colour
abbrev pub IsAhead : ℕ → ℕ → Bool → Type 0
IsAhead word column black = (i : ℕ) → column ≤ i → i < 64 → word_pixel word i ≡ black

-- the item was read after items that are painted
abbrev pub IsNextItem : List ℕ → ℕ → Bool → ℕ → ℕ → List ℕ → Painter → PackedNumber → Type 0
IsNextItem bytes dyn_f first w h rest p item =
    (middle : List ℕ) × IsPaintedTo bytes dyn_f first w h middle p
    × IsItemRead dyn_f middle rest p.repeated item
