-- Numbers that no integer of 32 bits holds, and so none of the code.
use Rattle.std.specs.Prelude.{◌≡◌, ℕ, ◌^◌, ◌<◌, ◌≤◌, List, ◌++◌, IsFalse}
use Rattle.pk_runs.specs.Limits.{MAX_GLYPH_SIDE}
use Rattle.pk_runs.specs.Numbers.{nybbles_of, Item, Run, Repeat, SpellsItem, SpellsItems}
use Rattle.pk_runs.specs.Raster.{IsRunFault, ItemsFit, has_repeat, next_row, rows_complete}
use Rattle.pk_runs.specs.declared.faults.RunFault.TheVariants as fault

-- after items that do not complete the raster an item is spelled
pub record Follows (bytes : List ℕ) (dyn_f w h : ℕ) (items : List Item) (item : Item) : Type 0 where
  pub used : List ℕ
  pub number : List ℕ
  pub more : List ℕ
  pub nybbles : nybbles_of bytes ≡ used ++ (number ++ more)
  pub before : SpellsItems dyn_f used items
  pub fits : ItemsFit w h items
  pub incomplete : rows_complete w items < h
  pub spelled : SpellsItem dyn_f number item

-- ---- laws: such a number is judged as itself

-- a run length of 2 ^ 32 or more is an overrun
abbrev pub HugeRunsOverrun : Type 0
HugeRunsOverrun =
    (bytes : List ℕ) (dyn_f w h n : ℕ) (items : List Item) → dyn_f ≤ 13 → 1 ≤ w
    → w ≤ MAX_GLYPH_SIDE → h ≤ MAX_GLYPH_SIDE → 2 ^ 32 ≤ n → Follows bytes dyn_f w h items (Run n)
    → IsRunFault bytes dyn_f w h fault.Overrun

-- a repeat count of 2 ^ 32 or more gives too many rows, where its row has no other
abbrev pub HugeRepeatsAreTooManyRows : Type 0
HugeRepeatsAreTooManyRows =
    (bytes : List ℕ) (dyn_f w h n : ℕ) (items : List Item) → dyn_f ≤ 13 → 1 ≤ w
    → w ≤ MAX_GLYPH_SIDE → h ≤ MAX_GLYPH_SIDE → 2 ^ 32 ≤ n
    → IsFalse (has_repeat w items (next_row w items)) → Follows bytes dyn_f w h items (Repeat n)
    → IsRunFault bytes dyn_f w h fault.TooManyRows
