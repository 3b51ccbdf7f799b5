use Rattle.std.proofs.Common.{◌≡◌, ◌-◌}
use Rattle.tfm_reader.specs.Tfm.{is_width_byte_wrong, least_from, nw}
use Rattle.tfm_reader.proofs.tables.byte_fault.Given as goal

abbrev pub invariant-loop-i : goal.invariant-loop-i
invariant-loop-i l = least_from (is_width_byte_wrong l.bytes) 1 (nw l.bytes - 1) ≡ least_from (is_width_byte_wrong l.bytes) l.i (nw l.bytes - l.i)
