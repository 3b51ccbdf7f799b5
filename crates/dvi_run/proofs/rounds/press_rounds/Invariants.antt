use Rattle.std.proofs.Common.{◌≡◌, ◌≤◌, ◌-◌, ◌*◌, ℕ, List, length, Contains}
use Rattle.std.specs.Prelude.{None}
use Rattle.page_workers.specs.Rounds.{HasBitmap}
use Rattle.page_workers.specs.declared.worker.PageResult.{PageResult}
use Rattle.dvi_run.specs.Noted.{NotedLacks}
use Rattle.dvi_run.specs.Outside.{change_of}
use Rattle.dvi_run.specs.Rounds.{site}
use Rattle.dvi_run.proofs.RoundsInProgress.{RoundInProgress}
use Rattle.dvi_run.proofs.PagesWritten.{IsWrittenTo}
use Rattle.dvi_run.proofs.rounds.press_rounds.Given as goal

-- the last round was drawn and written whole
abbrev pub invariant-loop-first : goal.invariant-loop-first
invariant-loop-first g l = record {
  hand : (done : ℕ) × (rs : List PageResult)
      × RoundInProgress (site g.F.FontSource.library g.F.FontSource.faults g.F.FontSource.loads l.job.bench.now g.known l.job.index.now l.job.sheet.now) (length l.initial.workers) l.initial.workers l.workers l.first done rs
      × ((r : PageResult) → Contains rs r → HasBitmap r);
  written : IsWrittenTo (record { library = g.known; res = l.job.index.now.res; sheet = l.job.sheet.now }) l.job.index.now.reading (g.O.Output.written l.initial.out) (g.O.Output.written l.out) l.press.tally.pages l.initial.press.counted l.press.tally.black
      (NotedLacks (change_of g.N.Output.written g.N.Output.faults l.initial.press.notes.now l.press.notes.now) l.press.tally.noted);
  at : l.press.tally.pages ≡ l.first;
  goes_on : l.press.stopped ≡ None;
  counted : l.press.counted ≡ l.initial.press.counted;
  black : l.press.tally.black ≤ l.press.tally.pages * (20000 * 20000);
  output : g.O.Output.faults l.initial.out ≤ g.O.Output.faults l.out;
  same_notes : l.press.notes.ghost_name ≡ l.initial.press.notes.ghost_name;
}

abbrev pub decreases-loop-first : goal.decreases-loop-first
decreases-loop-first g l = l.pages - l.first
