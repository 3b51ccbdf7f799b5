-- A VF file, its packets and its local fonts: Knuth, VFtoVP, "Virtual fonts".
use Rattle.std.specs.Prelude.{◌≡◌, ℕ, ◌++◌, ◌&&◌, List, [], ◌∷◌, drop, nat_lt, ◌==◌, if◌then◌else◌, Option, Some, None, IsTrue, IsFalse, slice_range, get_or}
use Rattle.std.specs.Map.{lookup}
use Rattle.std.specs.Option.{option_map}
use Rattle.dvi_commands.specs.Spelling.{DviCommand}
use Rattle.vf_reader.specs.Preamble.{preamble_fault, preamble_size}
use Rattle.vf_reader.specs.Items.{IsItem, code_of, is_packet, program_of, text_of}
use Rattle.vf_reader.specs.Programs.{AreCommandsOf}
use Rattle.vf_reader.specs.Locals.{local_fault, locals_of}
use Rattle.vf_reader.specs.declared.locals.LocalDef.{LocalDef}
use Rattle.vf_reader.specs.declared.packet_table.Span.{Span}

-- ---- the file

-- nothing is wrong with a whole item after these items
pub record IsItemSound (before : List (List ℕ)) (item : List ℕ) : Type 0 where
  pub packet : IsTrue (is_packet item) → (commands : List DviCommand) × AreCommandsOf (code_of item)
      (program_of item) commands
  pub local : IsFalse (is_packet item) → local_fault before item ≡ None

-- each item is whole and sound
abbrev pub AreSound : List (List ℕ) → Type 0
AreSound [] = Unit {0}
AreSound (item ∷ before) = AreSound before × IsItem item × IsItemSound before item

-- the bytes are a VF file with these items; what stands after the closing command isn't looked at
pub record IsVfFile (bytes : List ℕ) (items : List (List ℕ)) : Type 0 where
  pub begins : preamble_fault bytes ≡ None
  pub sound : AreSound items
  pub unused : List ℕ
  pub whole : drop (preamble_size bytes) bytes ≡ text_of items ++ 248 ∷ unused

-- ---- its packets

-- the commands of the last packet of a code
abbrev pub program_with : List (List ℕ) → ℕ → Option (List ℕ)
program_with [] c = None
program_with (item ∷ before) c =
    if is_packet item && code_of item == c then Some (program_of item) else program_with before c

-- ---- what is kept of it

-- where the packets of the codes from 0 to 255 stand, by their places, and those of others by their
-- codes
pub record Spans : Type 0 where
  pub table : List (Option Span)
  pub others : List (ℕ × Span)

abbrev pub span_of : Spans → ℕ → Option Span
span_of spans c =
    if nat_lt c 256 then get_or spans.table c None else lookup (λ k. c == k) spans.others

-- the file's bytes, where its packets stand in them, and the local fonts
pub record Virtual : Type 0 where
  pub bytes : List ℕ
  pub spans : Spans
  pub locals : List LocalDef

abbrev pub text_at : List ℕ → Span → List ℕ
text_at bytes s = slice_range bytes s.start s.end

-- the packet of a code
abbrev pub packet_of : Virtual → ℕ → Option (List ℕ)
packet_of font c = option_map (text_at font.bytes) (span_of font.spans c)

-- the font has the packets and the local fonts of the items
pub record HasPacketsOf (items : List (List ℕ)) (font : Virtual) : Type 0 where
  pub packets : (c : ℕ) → packet_of font c ≡ program_with items c
  pub locals : font.locals ≡ locals_of items
