-- The items of a VF file, each as its bytes: Knuth, VFtoVP, "Virtual fonts". Items that were read
-- are a list with the last one first.
use Rattle.std.specs.Prelude.{◌≡◌, ℕ, ◌+◌, ◌-◌, ◌<◌, ◌≤◌, Bool, List, [], ◌∷◌, ◌++◌, length, drop, nat_le, if◌then◌else◌, slice_index}
use Rattle.big_endian.specs.Fields.{unsigned_at}
use Rattle.dvi_commands.specs.Spelling.{Definition}
use Rattle.dvi_commands.specs.Reading.{definition_in}

-- the opcode of the item that begins here; that of a short packet is its length
abbrev pub opcode : List ℕ → ℕ
opcode bytes = slice_index bytes 0

-- a packet: the short ones up to 241, and the long one
abbrev pub is_packet : List ℕ → Bool
is_packet bytes = nat_le (opcode bytes) 242

-- a short packet, a long packet, or the definition of a local font
abbrev pub by_kind : {A : Type 0} → ℕ → A → A → A → A
by_kind op short long local = if nat_le op 241 then short else if nat_le op 242 then long else local

-- a short packet begins with the opcode, a code of one byte and a width of three; a long one with
-- the opcode, the length, the code and the width of four bytes each; a local font is defined as a
-- font of a DVI file, by a number of one to four bytes, a checksum, two sizes and the lengths of
-- the area and of the name
abbrev pub head_size : ℕ → ℕ
head_size op = by_kind op 5 13 (op - 242 + 15)

-- then as many bytes follow as the length, or the lengths of area and name, tell
abbrev pub given_size : List ℕ → ℕ
given_size bytes =
    by_kind (opcode bytes) (opcode bytes) (unsigned_at bytes 1 4)
    (slice_index bytes (opcode bytes - 242 + 13) + slice_index bytes (opcode bytes - 242 + 14))

abbrev pub item_size : List ℕ → ℕ
item_size bytes = head_size (opcode bytes) + given_size bytes

-- the bytes of one whole item
pub record IsItem (bytes : List ℕ) : Type 0 where
  pub known : opcode bytes ≤ 246
  pub whole : length bytes ≡ item_size bytes

-- the file ends within the item that begins here, or before it
abbrev pub IsCut : List ℕ → Type 0
IsCut rest = (opcode rest ≤ 246) × (length rest < item_size rest)

-- the bytes of items, one after another
abbrev pub text_of : List (List ℕ) → List ℕ
text_of [] = []
text_of (item ∷ before) = text_of before ++ item

-- ---- what a whole item says

-- the character of a packet
abbrev pub code_of : List ℕ → ℕ
code_of bytes = if nat_le (opcode bytes) 241 then slice_index bytes 1 else unsigned_at bytes 5 4

-- the commands of a packet
abbrev pub program_of : List ℕ → List ℕ
program_of bytes = drop (head_size (opcode bytes)) bytes

-- the definition of a local font, whose sizes are fix_words: the size as a factor of the font's,
-- the design size in points
abbrev pub definition_of : List ℕ → Definition
definition_of bytes = definition_in (opcode bytes - 242) (drop 1 bytes)
