-- What the commands of a character paint: Knuth, GFtype, "Generic font file format". Commands are a
-- list with the last one first, so that behind each stand the commands before it. A column is
-- counted to the right from min_m, a row downwards from max_n.
use Rattle.std.specs.Prelude.{ℕ, ◌+◌, ◌-◌, ◌%◌, Bool, false, ◌&&◌, ◌||◌, List, [], ◌∷◌, nat_lt, ◌==◌, if◌then◌else◌}
use Rattle.big_endian.specs.Fields.{unsigned_at}
use Rattle.packed_rows.specs.Changes.{is_within}
use Rattle.gf_reader.specs.Items.{field_size, is_new_row, is_paint, is_skip, opcode}

-- a sum over commands
abbrev pub sum_of : (List ℕ → ℕ) → List (List ℕ) → ℕ
sum_of f [] = 0
sum_of f (item ∷ before) = sum_of f before + f item

-- ---- single commands

-- the number that follows the opcode, 0 where none does
abbrev pub number_of : List ℕ → ℕ
number_of item = unsigned_at item 1 (field_size (opcode item))

-- how many pixels a paint gives a colour
abbrev pub paint_length : List ℕ → ℕ
paint_length item = if nat_lt (opcode item) 64 then opcode item else number_of item

abbrev pub begins_row : List ℕ → Bool
begins_row item = is_skip (opcode item) || is_new_row (opcode item)

-- by how much a command goes right, in its row
abbrev pub columns_moved : List ℕ → ℕ
columns_moved item =
    if is_paint (opcode item) then paint_length item
    else if is_new_row (opcode item) then opcode item - 74
    else 0

-- by how much it goes down
abbrev pub rows_moved : List ℕ → ℕ
rows_moved item =
    if is_skip (opcode item) then 1 + number_of item
    else if is_new_row (opcode item) then 1
    else 0

-- a row begins white; each paint changes the colour, and so does the command of a new row
abbrev pub colour_changes : List ℕ → ℕ
colour_changes item = if is_paint (opcode item) || is_new_row (opcode item) then 1 else 0

-- ---- sums over the commands before a place

-- the commands of the row that a place lies in, with the one that begins the row
abbrev pub row_commands : List (List ℕ) → List (List ℕ)
row_commands [] = []
row_commands (item ∷ before) = item ∷ (if begins_row item then [] else row_commands before)

abbrev pub column_after : List (List ℕ) → ℕ
column_after commands = sum_of columns_moved (row_commands commands)

abbrev pub row_after : List (List ℕ) → ℕ
row_after commands = sum_of rows_moved commands

abbrev pub is_black_after : List (List ℕ) → Bool
is_black_after commands = sum_of colour_changes (row_commands commands) % 2 == 1

-- ---- pixels

-- a command after others covers a pixel in black
abbrev pub covers : List (List ℕ) → List ℕ → ℕ → ℕ → Bool
covers before item x y =
    is_paint (opcode item) && is_black_after before && y == row_after before
    && is_within (column_after before) (column_after before + paint_length item) x

-- some command does
abbrev pub is_painted : List (List ℕ) → ℕ → ℕ → Bool
is_painted [] x y = false
is_painted (item ∷ before) x y = covers before item x y || is_painted before x y
