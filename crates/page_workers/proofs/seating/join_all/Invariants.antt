use Rattle.std.proofs.Common.{◌≡◌, ℕ, ◌+◌, ◌<◌, ◌≤◌, get_or}
use Rattle.turn_lock.specs.declared.view.Stage.TheVariants.{Idle}
use Rattle.cache_core.specs.Histories.{own}
use Rattle.page_workers.specs.Seating.{HasLeft, numbers}
use Rattle.page_workers.proofs.seating.join_all.Given as goal

abbrev pub invariant-loop-k : goal.invariant-loop-k
invariant-loop-k g l = record {
  lock : l.first.lock ≡ l.initial.first.lock;
  count : l.number ≡ l.k;
  number : l.first.view.number ≡ 0;
  idle : l.first.view.stage ≡ Idle;
  part : l.first.view.part ≡ l.initial.first.view.part;
  made : l.first.view.made ≡ l.initial.first.view.made;
  mine : own 0 l.first.view.seen ≡ own 0 l.initial.first.view.seen;
  joined : l.first.view.joined ≡ numbers l.k;
  gone : (k : ℕ) (d : _) → k < l.k → HasLeft l.first.view.seen (k + 1) (get_or l.initial.workers k d) (get_or l.workers k d);
  left : (k : ℕ) (d : _) → l.k ≤ k → get_or l.workers k d ≡ get_or l.initial.workers k d;
}
