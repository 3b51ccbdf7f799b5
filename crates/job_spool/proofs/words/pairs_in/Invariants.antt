use Rattle.std.proofs.Common.{◌≡◌, ◌≤◌, ◌-◌, ◌%◌, ◌++◌, length, map, drop}
use Rattle.std.specs.Prelude.{string_bytes}
use Rattle.job_spool.specs.Words.{names_of, pairs_of}
use Rattle.job_spool.proofs.words.pairs_in.Given as goal

-- the pairs so far, and those of the names behind them, are all
abbrev pub invariant-loop-at : goal.invariant-loop-at
invariant-loop-at l = record {
  inside : l.at ≤ length l.names;
  even : l.at % 2 ≡ 0;
  pairs : map names_of l.pairs.items ++ pairs_of (drop l.at (map string_bytes l.names)) ≡ pairs_of (map string_bytes l.names);
}

abbrev pub decreases-loop-at : goal.decreases-loop-at
decreases-loop-at l = length l.names - l.at
