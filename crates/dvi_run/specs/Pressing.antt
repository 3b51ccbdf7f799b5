-- What taking a result does to the press, to the output on which it writes, and to its notes.
use Rattle.std.specs.Prelude.{◌≡◌, ℕ, ◌+◌, ◌-◌, ◌^◌, ◌≤◌, min, Bool, List, [], ◌∷◌, Option, None, Some, Result, Ok, Err}
use Rattle.outside.specs.Counts.{Rose}
use Rattle.page_draw.specs.Lacks.{LackValue, values_of}
use Rattle.page_draw.specs.Values.{DrawnValue, value_of_drawn}
use Rattle.page_draw.specs.declared.stop.PageStop.{PageStop}
use Rattle.page_draw.specs.declared.drawn.Drawn.{Drawn}
use Rattle.page_workers.specs.declared.worker.PageResult.{PageResult}
use Rattle.dvi_run.specs.Lines.{lack_lines}
use Rattle.dvi_run.specs.Noted.{TookAfter}
use Rattle.dvi_run.specs.Outside.{StreamChange, change_of}
use Rattle.dvi_run.specs.Rounds.{WroteOutcome}
use Rattle.dvi_run.specs.declared.pages.Press.{Press}
use Rattle.dvi_run.specs.declared.pages.WriteStop.{WriteStop}
use Rattle.dvi_run.specs.declared.tally.Tally.{Tally}

-- what a page lacks that was drawn
abbrev pub lacks_in : Result Drawn PageStop → List LackValue
lacks_in (Ok drawn) = values_of drawn.lacks.items
lacks_in (Err reason) = []

-- a count rose, or stands still at the last value of its type
abbrev pub RoseBy : (before more after : ℕ) → Type 0
RoseBy before more after = after ≡ min (before + more) (2 ^ 64 - 1)

-- a page was written whole, and counted with its black pixels where they are counted; then what it
-- lacks was printed to the notes
pub record WroteOne (counted : Bool) (old new : Option (List ℕ)) (notes : StreamChange)
    (outcome : Result Drawn PageStop) (before after : Tally) : Type 0 where
  pub black : ℕ
  pub wrote : WroteOutcome counted old new ⊥ outcome (Ok black)
  pub pages_are : RoseBy before.pages 1 after.pages
  pub black_is : RoseBy before.black black after.black
  pub noted : TookAfter before.noted after.noted notes (lack_lines after.pages (lacks_in outcome))

-- once a page isn't written, none is written after it, and nothing is noted
abbrev pub TookBy : (counted : Bool) (old new : Option (List ℕ)) (Kept OutputFails : Type 0)
    (notes : StreamChange)
    → Result Drawn PageStop → (before after : Tally) → (stopped stops : Option WriteStop) → Type 0
TookBy counted old new Kept OutputFails notes outcome before after (Some why) stops =
    (stops ≡ Some why) × Kept × notes.Kept × (after ≡ before)
TookBy counted old new Kept OutputFails notes outcome before after None None =
    WroteOne counted old new notes outcome before after
TookBy counted old new Kept OutputFails notes outcome before after None (Some why) =
    WroteOutcome counted old new OutputFails outcome (Err why) × notes.Kept × (after ≡ before)

pub record TookPage {O N : Type 0} (written : O → Option (List ℕ)) (faults : O → ℕ)
    (noted : N → Option (List ℕ)) (failures : N → ℕ) (p : Press N) (o : O) (r : PageResult)
    (q : Press N) (n : O) : Type 0 where
  pub counted : q.counted ≡ p.counted
  pub output : faults o ≤ faults n
  pub same_notes : q.notes.ghost_name ≡ p.notes.ghost_name
  pub notes : failures p.notes.now ≤ failures q.notes.now
  pub step : TookBy p.counted (written o) (written n) (n ≡ o) (Rose (faults o) (faults n))
      (change_of noted failures p.notes.now q.notes.now) r.outcome p.tally q.tally p.stopped
      q.stopped

-- the pages of results that have bitmaps
abbrev pub with_outcome : Result Drawn PageStop → List DrawnValue → List DrawnValue
with_outcome (Ok drawn) pages = value_of_drawn drawn ∷ pages
with_outcome (Err reason) pages = pages

abbrev pub drawn_in : List PageResult → List DrawnValue
drawn_in [] = []
drawn_in (r ∷ results) = with_outcome r.outcome (drawn_in results)
