use Rattle.std.proofs.Common.{◌≡◌, ℕ, ◌+◌, ◌<◌, ◌≤◌, get_or}
use Rattle.turn_lock.specs.declared.view.Stage.TheVariants.{Idle}
use Rattle.page_workers.specs.Seating.{WasSeated}
use Rattle.page_workers.proofs.seating.seat_all.Given as goal

abbrev pub invariant-loop-k : goal.invariant-loop-k
invariant-loop-k g l = record {
  lock : l.first.lock ≡ l.initial.first.lock;
  number : l.first.view.number ≡ 0;
  idle : l.first.view.stage ≡ Idle;
  part : l.first.view.part ≡ l.initial.first.view.part;
  seen : l.first.view.seen ≡ l.initial.first.view.seen;
  joined : l.first.view.joined ≡ l.initial.first.view.joined;
  made : l.first.view.made ≡ l.k + 1;
  seated : (k : ℕ) (d : _) → k < l.k → WasSeated l.cache l.initial.first.view.part (k + 1) (get_or l.initial.workers k d) (get_or l.workers k d);
  left : (k : ℕ) (d : _) → l.k ≤ k → get_or l.workers k d ≡ get_or l.initial.workers k d;
}
