use Rattle.std.proofs.Common.{◌≡◌, ℕ, ◌≤◌, None, get_or, length}
use Rattle.dvi_run.specs.CacheLimits.{cache_limits}
use Rattle.dvi_run.specs.Pages.{setup_with}
use Rattle.job_spool.specs.Drawn.{SharersDrew, drawing_with}
use Rattle.job_spool.specs.Sharing.{sharer}
use Rattle.job_spool.specs.Workers.{FewSourceEnds}
use Rattle.job_spool.proofs.drawing.draw_sharers.Given as goal

abbrev pub invariant-loop-k : goal.invariant-loop-k
invariant-loop-k g l = record {
  drew : (d : _)
      → SharersDrew (drawing_with (setup_with g.known l.plan.settings.now) (cache_limits l.plan.settings.now) (record { library = g.F.FontSource.library; faults = g.F.FontSource.faults; loads = g.F.FontSource.loads })
      (record { left = g.I.Input.left; taken = g.I.Input.taken; ended = g.I.Input.ended; reads = g.I.Input.faults; written = g.O.Output.written; writes = g.O.Output.faults }) l.initial.jobs l.jobs d l.initial.workers l.workers) g.known l.bench l.plan.documents.now l.first l.k;
  kept : (j : ℕ) (d : _) → l.k ≤ j → get_or l.jobs j d ≡ get_or l.initial.jobs j d;
  others : (j : ℕ) (d : _) → sharer l.plan.documents.now l.first j ≡ None → get_or l.jobs j d ≡ get_or l.initial.jobs j d;
  input : (j : ℕ) (d : _) → (get_or l.jobs j d).input ≡ (get_or l.initial.jobs j d).input;
  history : (j : ℕ) (d : _) → (get_or l.jobs j d).history ≡ (get_or l.initial.jobs j d).history;
  few : FewSourceEnds g.F.FontSource.faults (length l.initial.workers) (length l.initial.jobs) l.initial.workers l.workers l.initial.jobs l.jobs;
}

abbrev pub ghost-draw_one : goal.ghost-draw_one
ghost-draw_one g a = g.known
