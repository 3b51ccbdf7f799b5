-- The preamble of a PK file: Rokicki, PKtype, "Packed file format", the command pre.
use Rattle.std.specs.Prelude.{ℕ, ◌+◌, List, [], ◌∷◌, length, ◌==◌, slice_index, Option, Some}
use Rattle.big_endian.specs.Fields.{judge, whole_until}
use Rattle.pk_packets.specs.declared.faults.PkFault.{PkFault}
use Rattle.pk_packets.specs.declared.faults.PkFault.TheVariants.{Short, Preamble}

-- the opcode, the identifier, the length of the comment, the comment, and four numbers of four
-- bytes
abbrev pub preamble_size : List ℕ → ℕ
preamble_size bytes = 3 + slice_index bytes 2 + 16

-- judged from the left: a wrong opcode or identifier counts before the bytes that are missing after
-- it
abbrev pub preamble_fault : List ℕ → Option PkFault
preamble_fault bytes = judge (length bytes) Short (
    record { until = 1; right = slice_index bytes 0 == 247; fault = Some Preamble }
    ∷ record { until = 2; right = slice_index bytes 1 == 89; fault = Some Preamble }
    ∷ whole_until 3
    ∷ whole_until (preamble_size bytes)
    ∷ [])
