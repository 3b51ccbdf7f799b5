use Rattle.std.proofs.Common.{ℕ, ◌<◌, length, get_or}
use Rattle.page_workers.specs.Claims.{HasRoom, DrewNothingAtCounter}
use Rattle.page_workers.proofs.round.reserve_all.Given as goal

abbrev pub invariant-loop-j : goal.invariant-loop-j
invariant-loop-j g l = record {
  kept : (k : ℕ) (d : _) → k < length l.initial.workers → DrewNothingAtCounter (get_or l.initial.workers k d) (get_or l.workers k d);
  room : (k : ℕ) (d : _) → k < l.j → HasRoom l.count (get_or l.workers k d);
}
