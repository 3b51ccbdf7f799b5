use Rattle.std.proofs.Common.{◌≤◌, ◌-◌, length, drop}
use Rattle.vf_reader.proofs.Steps.{IsReadTo}
use Rattle.vf_reader.proofs.program.judge_program.Given as goal

abbrev pub invariant-loop-at : goal.invariant-loop-at
invariant-loop-at l = record {
  place : l.at ≤ length l.bytes;
  shallow : l.depth ≤ l.at;
  read : IsReadTo l.code l.bytes l.depth (drop l.at l.bytes);
}

abbrev pub decreases-loop-at : goal.decreases-loop-at
decreases-loop-at l = length l.bytes - l.at
