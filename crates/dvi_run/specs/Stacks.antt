-- The results of a round, and how they are written.
use Rattle.std.specs.Prelude.{◌≡◌, ℕ, ◌+◌, ◌*◌, ◌<◌, ◌≤◌, ◌++◌, Bool, List, [], ◌∷◌, length, IfOk, Option, Ok, Err, slice_index_or}
use Rattle.page_draw.specs.Values.{value_of_drawn}
use Rattle.page_workers.specs.Rounds.{DrewNothing}
use Rattle.page_workers.specs.declared.worker.PageResult.{PageResult}
use Rattle.page_workers.specs.declared.worker.Worker.{Worker}
use Rattle.dvi_run.specs.Rounds.{WroteOutcome}
use Rattle.dvi_run.specs.declared.pages.WriteStop.{WriteStop}
use Rattle.dvi_run.specs.declared.tally.Tally.{Tally}
use Rattle.raster_page.specs.Limits.{MAX_PAGE_SIDE}
use Rattle.dvi_run.specs.Pages.{black_in}

-- ---- a round

-- no worker drew anything
abbrev pub AllDrewNothing : {F : Type 0} (before after : List (Worker F)) → Type 0
AllDrewNothing {F} before after = (k : ℕ) (d : Worker F) → k < length before
    → DrewNothing (slice_index_or before k d) (slice_index_or after k d)

-- ---- a round's results, written

-- no page has more black pixels than the largest sheet has dots
abbrev pub HasFewDots : PageResult → Type 0
HasFewDots r =
    IfOk r.outcome (λ drawn. black_in (value_of_drawn drawn) ≤ MAX_PAGE_SIDE * MAX_PAGE_SIDE)

-- the texts of these results' pages were written, one after another, with n black pixels,
-- where they are counted
abbrev pub WroteEach : (counted : Bool) (old new : Option (List ℕ)) (black : ℕ)
    → List PageResult → Type 0
WroteEach counted old new black [] = (new ≡ old) × (black ≡ 0)
WroteEach counted old new black (r ∷ results) = (mid : Option (List ℕ)) × (here : ℕ) × (rest : ℕ)
    × WroteOutcome counted old mid ⊥ r.outcome (Ok here) × (black ≡ here + rest)
    × WroteEach counted mid new rest results

-- and were counted
pub record WroteWhole (counted : Bool) (old new : Option (List ℕ)) (results : List PageResult)
    (before after : Tally) : Type 0 where
  pub black : ℕ
  pub wrote : WroteEach counted old new black results
  pub pages_are : after.pages ≡ before.pages + length results
  pub black_is : after.black ≡ before.black + black

-- those before one that wasn't, since it has no bitmap or its write failed
pub record WroteUpTo (counted : Bool) (old new : Option (List ℕ)) (OutputFails : Type 0)
    (results : List PageResult) (before after : Tally) (why : WriteStop) : Type 0 where
  pub written : List PageResult
  pub refused : PageResult
  pub rest : List PageResult
  pub are : results ≡ written ++ refused ∷ rest
  pub mid : Option (List ℕ)
  pub whole : WroteWhole counted old mid written before after
  pub cause : WroteOutcome counted mid new OutputFails refused.outcome (Err why)
