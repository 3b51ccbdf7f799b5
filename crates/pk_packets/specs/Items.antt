-- The items of a PK file, each as its bytes: Rokicki, PKtype, "Packed file format".
-- Items that were read are a list with the last one first.
use Rattle.std.specs.Prelude.{◌≡◌, ℕ, ◌+◌, ◌-◌, ◌*◌, ◌%◌, ◌<◌, ◌≤◌, Bool, List, [], ◌∷◌, ◌++◌, length, nat_lt, nat_le, ◌==◌, if◌then◌else◌, slice_index, IsFalse}
use Rattle.big_endian.specs.Fields.{unsigned_at}

-- the opcode of the item that begins here; that of a character packet is its flag
abbrev pub opcode : List ℕ → ℕ
opcode bytes = slice_index bytes 0

-- a character packet, whose flag is below 240
abbrev pub is_packet : List ℕ → Bool
is_packet bytes = nat_lt (opcode bytes) 240

-- the low three bits of a flag choose the short, the extended or the long form
abbrev pub by_form : {A : Type 0} → ℕ → A → A → A → A
by_form flag short extended long =
    if nat_le (flag % 8) 3 then short else if nat_le (flag % 8) 6 then extended else long

-- after its opcode an item has a count of n bytes: the length of a packet, or that of a special
abbrev pub count_size : ℕ → ℕ
count_size op = if nat_lt op 240 then by_form op 1 2 4 else if nat_le op 243 then op - 239 else 0

-- a packet has its code there
abbrev pub code_size : ℕ → ℕ
code_size op = if nat_lt op 240 then by_form op 1 1 4 else 0

abbrev pub head_size : ℕ → ℕ
head_size op = 1 + count_size op + code_size op

-- then as many bytes follow as the opcode and the count give. The low two bits of a flag are the
-- high bits of the length, in the short and the extended form; a y is a number of four bytes
abbrev pub given_by_opcode : ℕ → ℕ
given_by_opcode op =
    if nat_lt op 240 then by_form op (op % 4 * 256) (op % 4 * 65536) 0 else if op == 244 then 4
    else 0

abbrev pub given_size : List ℕ → ℕ
given_size bytes = given_by_opcode (opcode bytes) + unsigned_at bytes 1 (count_size (opcode bytes))

abbrev pub item_size : List ℕ → ℕ
item_size bytes = head_size (opcode bytes) + given_size bytes

-- the bytes of one whole item, other than the closing command
pub record IsItem (bytes : List ℕ) : Type 0 where
  pub known : opcode bytes ≤ 246
  pub not_closing : IsFalse (opcode bytes == 245)
  pub whole : length bytes ≡ item_size bytes

-- the file ends within the item that begins here, or before it
abbrev pub IsCut : List ℕ → Type 0
IsCut rest = (opcode rest ≤ 246) × (length rest < item_size rest)

-- the bytes of items, one after another
abbrev pub text_of : List (List ℕ) → List ℕ
text_of [] = []
text_of (item ∷ before) = text_of before ++ item
