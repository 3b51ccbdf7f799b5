-- The preamble of a VF file: Knuth, VFtoVP, "Virtual fonts", the command pre.
use Rattle.std.specs.Prelude.{ℕ, ◌+◌, List, [], ◌∷◌, length, ◌==◌, slice_index, Option, Some}
use Rattle.big_endian.specs.Fields.{judge, whole_until}
use Rattle.vf_reader.specs.declared.faults.VfFault.{VfFault}
use Rattle.vf_reader.specs.declared.faults.VfFault.TheVariants.{Short, Preamble}

-- the opcode, the identifier, the length of the comment, the comment, the checksum and the design
-- size
abbrev pub preamble_size : List ℕ → ℕ
preamble_size bytes = 3 + slice_index bytes 2 + 8

-- judged from the left: a wrong opcode or identifier counts before the bytes that are missing after
-- it
abbrev pub preamble_fault : List ℕ → Option VfFault
preamble_fault bytes = judge (length bytes) Short (
    record { until = 1; right = slice_index bytes 0 == 247; fault = Some Preamble }
    ∷ record { until = 2; right = slice_index bytes 1 == 202; fault = Some Preamble }
    ∷ whole_until 3
    ∷ whole_until (preamble_size bytes)
    ∷ [])
