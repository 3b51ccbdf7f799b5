use Rattle.std.proofs.Common.{◌≡◌, ℕ, ◌+◌, ◌<◌, ◌≤◌, None, get_or, length}
use Rattle.std.specs.Prelude.{IsSome}
use Rattle.cache_core.specs.Histories.{own}
use Rattle.cache_core.specs.Views.{calls_of}
use Rattle.font_decode.specs.Desks.{misses}
use Rattle.dvi_run.specs.CacheLimits.{cache_limits}
use Rattle.dvi_run.specs.Pages.{setup_with}
use Rattle.job_spool.specs.Caches.{KeepsCache}
use Rattle.job_spool.specs.Drawn.{drawing_with}
use Rattle.job_spool.specs.Sharing.{document_at, sharer}
use Rattle.job_spool.specs.Sums.{sum_below}
use Rattle.job_spool.specs.Workers.{FewSourceEnds, IsResting}
use Rattle.job_spool.proofs.drawing.draw_caches.Given as goal

abbrev pub invariant-loop-first : goal.invariant-loop-first
invariant-loop-first g l = record {
  caches : (d : _) (j : ℕ) → j < l.first
      → KeepsCache (drawing_with (setup_with g.known l.plan.settings.now) (cache_limits l.plan.settings.now) (record { library = g.F.FontSource.library; faults = g.F.FontSource.faults; loads = g.F.FontSource.loads })
      (record { left = g.I.Input.left; taken = g.I.Input.taken; ended = g.I.Input.ended; reads = g.I.Input.faults; written = g.O.Output.written; writes = g.O.Output.faults }) l.initial.jobs l.jobs d l.initial.workers l.workers) l.plan.documents.now j;
  untouched : (j k : ℕ) (d : _) → l.first ≤ j → IsSome (sharer l.plan.documents.now j k) → get_or l.jobs k d ≡ get_or l.initial.jobs k d;
  others : (k : ℕ) (d : _) → document_at l.plan.documents.now k ≡ None → get_or l.jobs k d ≡ get_or l.initial.jobs k d;
  input : (k : ℕ) (d : _) → (get_or l.jobs k d).input ≡ (get_or l.initial.jobs k d).input;
  history : (k : ℕ) (d : _) → l.first ≤ k → (get_or l.jobs k d).history ≡ (get_or l.initial.jobs k d).history;
  few : FewSourceEnds g.F.FontSource.faults (length l.initial.workers) (length l.initial.jobs) l.initial.workers l.workers l.initial.jobs l.jobs;
  resting : (k : ℕ) (d : _) (e : _) → k < length l.initial.workers
      → IsResting (record { library = g.F.FontSource.library; faults = g.F.FontSource.faults; loads = g.F.FontSource.loads }) g.known (sum_below (λ j. misses (own (k + 1) (calls_of (get_or l.jobs j e).history.items))) l.first)
      (get_or l.initial.workers k d) (get_or l.workers k d);
}

abbrev pub ghost-draw_cache : goal.ghost-draw_cache
ghost-draw_cache g a = g.known
