-- The items of a GF file, each as its bytes: Knuth, GFtype, "Generic font file format".
-- Items that were read are a list with the last one first.
use Rattle.std.specs.Prelude.{◌≡◌, ℕ, ◌+◌, ◌-◌, Bool, true, false, not, ◌&&◌, ◌||◌, List, [], ◌∷◌, ◌++◌, length, nat_lt, nat_le, ◌==◌, if◌then◌else◌, slice_index, IsFalse}
use Rattle.big_endian.specs.Fields.{unsigned_at}

-- the opcode of the item that begins here
abbrev pub opcode : List ℕ → ℕ
opcode bytes = slice_index bytes 0

-- ---- the kinds of items

abbrev pub is_paint : ℕ → Bool
is_paint op = nat_le op 66

abbrev pub begins_character : ℕ → Bool
begins_character op = op == 67 || op == 68

abbrev pub ends_character : ℕ → Bool
ends_character op = op == 69

abbrev pub is_skip : ℕ → Bool
is_skip op = nat_le 70 op && nat_le op 73

abbrev pub is_new_row : ℕ → Bool
is_new_row op = nat_le 74 op && nat_le op 238

abbrev pub is_special : ℕ → Bool
is_special op = nat_le 239 op && nat_le op 242

-- an opcode that may not stand here, in a character or between characters
abbrev pub is_misplaced : Bool → ℕ → Bool
is_misplaced in_character op =
    if nat_le 239 op && nat_le op 244 then false
    else if begins_character op || op == 248 then in_character
    else if nat_le op 238 then not in_character
    else true

-- ---- sizes

-- how many bytes the fields have that follow the opcode
abbrev pub field_size : ℕ → ℕ
field_size op =
    if nat_lt op 64 then 0
    else if nat_le op 66 then op - 63
    else if op == 67 then 24
    else if op == 68 then 5
    else if nat_le op 70 then 0
    else if nat_le op 73 then op - 70
    else if nat_le op 238 then 0
    else if nat_le op 242 then op - 238
    else if op == 243 then 4
    else 0

-- a special has a text after its field, as long as the field tells
abbrev pub text_size : List ℕ → ℕ
text_size bytes =
    if is_special (opcode bytes) then unsigned_at bytes 1 (field_size (opcode bytes)) else 0

abbrev pub item_size : List ℕ → ℕ
item_size bytes = 1 + field_size (opcode bytes) + text_size bytes

-- ---- items

-- the bytes of one whole item that may stand here, other than the closing command
pub record IsItem (in_character : Bool) (bytes : List ℕ) : Type 0 where
  pub placed : is_misplaced in_character (opcode bytes) ≡ false
  pub not_closing : IsFalse (opcode bytes == 248)
  pub whole : length bytes ≡ item_size bytes

-- the bytes of items, one after another
abbrev pub text_of : List (List ℕ) → List ℕ
text_of [] = []
text_of (item ∷ before) = text_of before ++ item

-- a character is open after these items: it has begun and not ended
abbrev pub is_open : List (List ℕ) → Bool
is_open [] = false
is_open (item ∷ before) =
    if begins_character (opcode item) then true
    else if ends_character (opcode item) then false
    else is_open before
