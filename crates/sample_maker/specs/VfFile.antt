-- The VF file of given local fonts and packets: Knuth, VFtoVP, "Virtual fonts".
use Rattle.std.specs.Prelude.{◌≡◌, ℕ, ◌+◌, ◌-◌, ◌%◌, ◌^◌, ◌<◌, ◌≤◌, ℤ, pos, Bool, true, not, ◌&&◌, ◌==◌, List, [], ◌∷◌, ◌++◌, length, nat_le, replicate, if◌then◌else◌, Option, Some, None}
use Rattle.std.specs.List.{flat_map, list_any}
use Rattle.big_endian.specs.Numbers.{IsUnsigned, int_eq, number_bytes}
use Rattle.dvi_commands.specs.Spelling.{Definition, Define, DviCommand, Spells}
use Rattle.dvi_commands.specs.ShortestSpelling.{shortest_spelling}
use Rattle.fix_word.specs.FixWords.{FIX_WORDS}
use Rattle.vf_reader.specs.Fonts.{IsVfFile, program_with}
use Rattle.vf_reader.specs.Locals.{locals_of}
use Rattle.vf_reader.specs.Programs.{AreCommandsOf}
use Rattle.vf_reader.specs.declared.locals.LocalDef.{LocalDef}

-- ---- what is given

-- a code, a width and commands
abbrev pub VfPacket : Type 0
VfPacket = ℕ × ℤ × List ℕ

pub record IsLocalWritable (d : LocalDef) : Type 0 where
  pub factor : d.factor < 2 ^ 31
  pub points : d.points < 2 ^ 31
  pub area : d.area ≤ length d.name
  pub rest : length d.name - d.area ≤ 255

pub record IsPacketWritable (p : VfPacket) : Type 0 where
  pub code : p.0 < 256
  pub width : IsUnsigned 3 p.1
  pub commands : length p.2 < 2 ^ 32

-- the factor is above 0 and below 16, as a fix_word, and the design size above 0
pub record IsLocalSound (d : LocalDef) : Type 0 where
  pub factor : 0 < d.factor
  pub below : d.factor < FIX_WORDS
  pub points : 0 < d.points

-- the bytes are commands of a packet, with nothing wrong
abbrev pub IsPacketSound : VfPacket → Type 0
IsPacketSound p = (commands : List DviCommand) × AreCommandsOf p.0 p.2 commands

-- no two local fonts have one number, and no two packets one code
abbrev pub have_own_numbers : List LocalDef → Bool
have_own_numbers [] = true
have_own_numbers (d ∷ locals) =
    not (list_any (λ e. int_eq d.number e.number) locals) && have_own_numbers locals

abbrev pub have_own_codes : List VfPacket → Bool
have_own_codes [] = true
have_own_codes (p ∷ packets) = not (list_any (λ q. q.0 == p.0) packets) && have_own_codes packets

-- the commands of a code, where a packet has it
abbrev pub program_given : List VfPacket → ℕ → Option (List ℕ)
program_given [] c = None
program_given (p ∷ packets) c = if p.0 == c then Some p.2 else program_given packets c

-- ---- the items

-- with the checksum 0
abbrev pub local_definition : LocalDef → Definition
local_definition d = record {
  number = d.number;
  check = 0;
  size = pos d.factor;
  design = pos d.points;
  area = d.area;
  name = d.name;
}

abbrev pub local_item : LocalDef → List ℕ
local_item d = shortest_spelling (Define (local_definition d))

-- a local font's definition has a spelling
pub record IsLocalSpelled (d : LocalDef) : Type 0 where
  pub spelled : Spells (Define (local_definition d)) (local_item d)

abbrev pub short_packet : VfPacket → List ℕ
short_packet p = length p.2 ∷ p.0 ∷ number_bytes 3 p.1 ++ p.2

abbrev pub long_packet : VfPacket → List ℕ
long_packet p =
    242 ∷ number_bytes 4 (pos (length p.2)) ++ number_bytes 4 (pos p.0) ++ number_bytes 4 p.1 ++ p.2

-- the short form up to 241 bytes of commands
unfoldable pub packet_item : VfPacket → List ℕ
packet_item p = if nat_le (length p.2) 241 then short_packet p else long_packet p

-- ---- the file

-- no comment, the checksum 0, and a design size of ten points
abbrev pub vf_preamble : List ℕ
vf_preamble = 0xf7 ∷ 0xca ∷ 0 ∷ 0 ∷ 0 ∷ 0 ∷ 0 ∷ 0 ∷ 0xa0 ∷ 0 ∷ 0 ∷ []

-- n closing commands after these bytes make a multiple of four
abbrev pub closing_after : ℕ → ℕ
closing_after n = 1 + (4 - (n + 1) % 4) % 4

unfoldable pub vf_items : List LocalDef → List VfPacket → List ℕ
vf_items locals packets = vf_preamble ++ flat_map local_item locals ++ flat_map packet_item packets

unfoldable pub vf_file : List LocalDef → List VfPacket → List ℕ
vf_file locals packets =
    vf_items locals packets ++ replicate (closing_after (length (vf_items locals packets))) 248

-- ---- read again

-- the items of a VF file give the local fonts, in their order, and the commands of each packet
pub record GivesFont (locals : List LocalDef) (packets : List VfPacket)
    (items : List (List ℕ)) : Type 0 where
  pub local : locals_of items ≡ locals
  pub program : (c : ℕ) → program_with items c ≡ program_given packets c

-- the bytes are a VF file, and the items that it has give the local fonts and the packets
pub record IsFileOf (locals : List LocalDef) (packets : List VfPacket)
    (bytes : List ℕ) : Type 0 where
  pub items : List (List ℕ)
  pub file : IsVfFile bytes items
  pub gives : GivesFont locals packets items
