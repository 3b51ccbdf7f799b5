-- What is wrong with an item of a GF file.
use Rattle.std.specs.Prelude.{ℕ, ◌+◌, negsuc, Bool, ◌&&◌, ◌||◌, List, [], ◌∷◌, length, take, nat_lt, nat_le, ◌==◌, if◌then◌else◌, Option, Some, None}
use Rattle.pk_runs.specs.Limits.{MAX_GLYPH_SIDE, MAX_RASTER_BYTES}
use Rattle.big_endian.specs.Numbers.{int_eq}
use Rattle.gf_reader.specs.Items.{begins_character, is_misplaced, is_open, is_paint, item_size, opcode}
use Rattle.gf_reader.specs.Commands.{column_after, is_black_after, paint_length, row_after}
use Rattle.gf_reader.specs.Characters.{Character, characters_of, code_of, columns_of, min_m, raster_size, raster_sum, rows_of}
use Rattle.gf_reader.specs.declared.faults.GfFault.{GfFault}
use Rattle.gf_reader.specs.declared.faults.GfFault.TheVariants.{FontTooBig, Misplaced, Outside, Short, TooBig}

-- the item that begins here may not stand here, or isn't whole, or isn't there
abbrev pub place_fault : Bool → List ℕ → Option GfFault
place_fault in_character rest =
    if length rest == 0 then Some Short
    else if is_misplaced in_character (opcode rest) then Some (Misplaced (opcode rest))
    else if nat_lt (length rest) (item_size rest) then Some Short
    else None

-- a side is longer than 16,384 dots, or no i32 holds the offset to the right
abbrev pub is_too_big : List ℕ → Bool
is_too_big head =
    nat_lt MAX_GLYPH_SIDE (columns_of head) || nat_lt MAX_GLYPH_SIDE (rows_of head)
    || int_eq (min_m head) (negsuc 2147483647)

-- what is wrong with the beginning of a character after these items
abbrev pub head_fault : List (List ℕ) → List ℕ → Option GfFault
head_fault before head =
    if is_too_big head then Some (TooBig (code_of head))
    else if nat_lt MAX_RASTER_BYTES (raster_sum before + raster_size head) then Some FontTooBig
    else None

-- a paint after a character's commands has a black pixel right of the last column or below the last
-- row
abbrev pub is_outside : Character → List ℕ → Bool
is_outside ch item =
    is_black_after ch.commands && nat_lt 0 (paint_length item)
    && (nat_lt (columns_of ch.head) (column_after ch.commands + paint_length item)
    || nat_le (rows_of ch.head) (row_after ch.commands))

abbrev pub paint_fault : List Character → List ℕ → Option GfFault
paint_fault [] item = None
paint_fault (ch ∷ earlier) item =
    if is_outside ch item then Some (Outside (code_of ch.head)) else None

-- what is wrong with a whole item after these items
abbrev pub fault_of_item : List (List ℕ) → List ℕ → Option GfFault
fault_of_item before item =
    if begins_character (opcode item) then head_fault before item
    else if is_paint (opcode item) then paint_fault (characters_of before) item
    else None

-- the first of two faults
abbrev pub earlier_fault : Option GfFault → Option GfFault → Option GfFault
earlier_fault None second = second
earlier_fault (Some f) second = Some f

-- what is wrong after these items, where these bytes stand
abbrev pub fault_after : List (List ℕ) → List ℕ → Option GfFault
fault_after before rest =
    earlier_fault (place_fault (is_open before) rest)
    (fault_of_item before (take (item_size rest) rest))
