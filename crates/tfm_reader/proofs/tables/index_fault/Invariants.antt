use Rattle.std.proofs.Common.{◌≡◌, ◌-◌}
use Rattle.tfm_reader.specs.Tfm.{codes_of, is_index_wrong, least_from}
use Rattle.tfm_reader.proofs.tables.index_fault.Given as goal

abbrev pub invariant-loop-i : goal.invariant-loop-i
invariant-loop-i l = least_from (is_index_wrong l.bytes) 0 (codes_of l.bytes) ≡ least_from (is_index_wrong l.bytes) l.i (codes_of l.bytes - l.i)
