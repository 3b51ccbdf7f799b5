-- The local fonts of a VF file: Knuth, VFtoVP, "Virtual fonts".
use Rattle.std.specs.Prelude.{ℕ, ℤ, pos, Bool, true, not, ◌&&◌, ◌==◌, List, [], ◌∷◌, ◌++◌, nat_eq, int_lt, unsigned_abs, if◌then◌else◌, Option, Some, None}
use Rattle.std.specs.Cmp.Lexicographic.{pointwise}
use Rattle.big_endian.specs.Numbers.{int_eq}
use Rattle.dvi_commands.specs.Spelling.{Definition}
use Rattle.fix_word.specs.FixWords.{FIX_WORDS}
use Rattle.vf_reader.specs.Items.{definition_of, is_packet}
use Rattle.vf_reader.specs.declared.locals.LocalDef.{LocalDef}
use Rattle.vf_reader.specs.declared.faults.VfFault.{VfFault}
use Rattle.vf_reader.specs.declared.faults.VfFault.TheVariants as fault

-- the checksum is passed over
abbrev pub local_of : Definition → LocalDef
local_of d = record {
  number = d.number;
  area = d.area;
  name = d.name;
  factor = unsigned_abs d.size;
  points = unsigned_abs d.design;
}

-- the first with a number
abbrev pub local_with : List LocalDef → ℤ → Option LocalDef
local_with [] k = None
local_with (d ∷ locals) k = if int_eq d.number k then Some d else local_with locals k

-- after the local fonts up to here, one more, unless its number was defined before
abbrev pub with_local : List LocalDef → LocalDef → Option LocalDef → List LocalDef
with_local locals d None = locals ++ d ∷ []
with_local locals d (Some known) = locals

-- the local fonts that items define, in the order of the file and each number once; the last item
-- stands first
abbrev pub locals_of : List (List ℕ) → List LocalDef
locals_of [] = []
locals_of (item ∷ before) =
    if is_packet item then locals_of before
    else with_local (locals_of before) (local_of (definition_of item))
    (local_with (locals_of before) (definition_of item).number)

-- ---- what is wrong with a definition

-- a factor is more than 0 and less than 16, as a fix_word
abbrev pub is_factor : ℤ → Bool
is_factor z = int_lt (pos 0) z && int_lt z (pos FIX_WORDS)

-- two definitions say the same
abbrev pub is_same_local : LocalDef → LocalDef → Bool
is_same_local a b =
    a.factor == b.factor && a.points == b.points && a.area == b.area
    && pointwise nat_eq a.name b.name

abbrev pub agrees_with : Option LocalDef → LocalDef → Bool
agrees_with None d = true
agrees_with (Some known) d = is_same_local known d

-- against what the number was defined to be before
abbrev pub definition_fault : Option LocalDef → Definition → Option VfFault
definition_fault known d =
    if not (is_factor d.size && int_lt (pos 0) d.design) then Some (fault.LocalDef d.number)
    else if not (agrees_with known (local_of d)) then Some (fault.LocalDef d.number)
    else None

-- after these items
abbrev pub local_fault : List (List ℕ) → List ℕ → Option VfFault
local_fault before item =
    definition_fault (local_with (locals_of before) (definition_of item).number)
    (definition_of item)
