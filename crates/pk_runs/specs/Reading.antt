-- What is read next, and what is read and painted so far.
use Rattle.std.specs.Prelude.{◌≡◌, ℕ, ◌-◌, ◌^◌, ◌⊎◌, Bool, List, ◌∷◌, ◌++◌, min, IsTrue, IsFalse}
use Rattle.pk_runs.specs.Numbers.{nybbles_of, Item, Run, Repeat, SpellsItem, SpellsItems, CutsNumber, IsRepeatMark}
use Rattle.pk_runs.specs.Raster.{pixels, copies, has_repeat, colour_after, ItemsFit}
use Rattle.pk_runs.specs.Painting.{IsDrawn}
use Rattle.pk_runs.specs.declared.faults.RunFault.{RunFault}
use Rattle.pk_runs.specs.declared.faults.RunFault.TheVariants as fault
use Rattle.pk_runs.specs.declared.items.PackedNumber.{PackedNumber}
use Rattle.pk_runs.specs.declared.items.PackedNumber.TheVariants as read
use Rattle.pk_runs.specs.declared.painter.Painter.{Painter}

-- an item was read from the beginning of the nybbles; numbers from 2 ^ 32 - 1 on are all alike
abbrev pub IsItemRead : ℕ → List ℕ → List ℕ → Bool → PackedNumber → Type 0
IsItemRead dyn_f nybbles rest repeated (read.Run m) =
    (n : ℕ) × (number : List ℕ) × (nybbles ≡ number ++ rest) × SpellsItem dyn_f number (Run n)
    × (m ≡ min n (2 ^ 32 - 1))
IsItemRead dyn_f nybbles rest repeated (read.Repeat m) =
    IsFalse repeated × (n : ℕ) × (number : List ℕ) × (nybbles ≡ number ++ rest)
    × SpellsItem dyn_f number (Repeat n) × (m ≡ min n (2 ^ 32 - 1))

-- no item can be read there
abbrev pub CantRead : ℕ → List ℕ → ℕ → Bool → RunFault → Type 0
CantRead dyn_f nybbles row repeated fault.Short =
    CutsNumber dyn_f nybbles ⊎ (IsFalse repeated × (number : List ℕ) × (nybbles ≡ 14 ∷ number)
    × CutsNumber dyn_f number)
CantRead dyn_f nybbles row repeated (fault.SecondRepeat r) = (r ≡ row)
    × (((i : ℕ) × (more : List ℕ) × (nybbles ≡ i ∷ more) × IsRepeatMark i × IsTrue repeated)
    ⊎ ((i : ℕ) × (more : List ℕ) × (nybbles ≡ 14 ∷ i ∷ more) × IsRepeatMark i))
CantRead dyn_f nybbles row repeated fault.Overrun = ⊥
CantRead dyn_f nybbles row repeated fault.TooManyRows = ⊥

-- items were read up to the rest of the nybbles, and what they stand for is painted
pub record IsPaintedTo (bytes : List ℕ) (dyn_f : ℕ) (first : Bool) (w h : ℕ) (rest : List ℕ)
    (p : Painter) : Type 0 where
  pub items : List Item
  pub used : List ℕ
  pub nybbles : nybbles_of bytes ≡ used ++ rest
  pub spelled : SpellsItems dyn_f used items
  pub fits : ItemsFit w h items
  pub drawn : IsDrawn (pixels first items) (copies w items) (has_repeat w items) w h p
  pub colour : p.black ≡ colour_after first items
