-- The keys that were looked up, by the pages that were drawn.
use Rattle.std.specs.Prelude.{◌≡◌, ◌≢◌, ◌⊎◌, ◌≤◌, ℕ, suc, List, [], ◌∷◌, ◌++◌, Option, Some, None}
use Rattle.outside.specs.declared.keys.FontKey.{FontKey}
use Rattle.page_index.specs.Pages.{Indexed}
use Rattle.page_draw.specs.Members.{Finding}
use Rattle.page_draw.specs.Values.{PageValue}
use Rattle.page_draw.specs.Drawn.{IsBroken, IsPageValue}
use Rattle.page_draw.specs.declared.sheet.Sheet.{Sheet}
use Rattle.dvi_run.specs.Endings.{EndingValue, Written, Page, Source, Output, Notes, Memory}
use Rattle.dvi_run.specs.declared.tally.Tally.{Tally}

-- all look-ups of a page that came to its value
abbrev pub IsLookedUp : Finding → Indexed → Sheet → ℕ → List FontKey → Type 0
IsLookedUp Finds indexed sheet p keys =
    (value : PageValue) × IsPageValue Finds indexed sheet p value keys

-- those of a page that was broken off
abbrev pub IsLookedUpSoFar : Finding → Indexed → Sheet → ℕ → List FontKey → Type 0
IsLookedUpSoFar Finds indexed sheet p keys =
    IsBroken Finds indexed sheet p (Some []) (Some keys)

-- all look-ups of these pages, one page after another
abbrev pub WholeLooks : Finding → Indexed → Sheet → List ℕ → List FontKey → Type 0
WholeLooks Finds indexed sheet [] keys = keys ≡ []
WholeLooks Finds indexed sheet (p ∷ pages) keys =
    (first : List FontKey) × (others : List FontKey) × (keys ≡ first ++ others)
    × IsLookedUp Finds indexed sheet p first × WholeLooks Finds indexed sheet pages others

-- the last of these pages is one that may have been broken off
pub record EndsBroken (MayBreak : ℕ → Type 0) (pages : List ℕ) : Type 0 where
  pub before : List ℕ
  pub page : ℕ
  pub pages_are : pages ≡ before ++ page ∷ []
  pub may_break : MayBreak page

-- the same as all look-ups, but that the last of these pages was broken off, which may have been
pub record BrokenLooks (MayBreak : ℕ → Type 0) (Finds : Finding) (indexed : Indexed) (sheet : Sheet)
    (pages : List ℕ) (keys : List FontKey) : Type 0 where
  pub before : List ℕ
  pub page : ℕ
  pub pages_are : pages ≡ before ++ page ∷ []
  pub may_break : MayBreak page
  pub first : List FontKey
  pub others : List FontKey
  pub keys_are : keys ≡ first ++ others
  pub whole : WholeLooks Finds indexed sheet before first
  pub broken : IsLookedUpSoFar Finds indexed sheet page others

-- ---- by the end of the run

-- neither the source failed nor did memory run out
abbrev pub WasNotCutOff : EndingValue → Type 0
WasNotCutOff (Source page) = ⊥
WasNotCutOff Memory = ⊥
WasNotCutOff _ = Unit {0}

-- How many pages, from the first on, surely came to their end in a run that ended so and wrote n of
-- them whole: these, and the one whose fault or whose failed write ended it.
abbrev pub sure_pages : EndingValue → (written : ℕ) → ℕ
sure_pages (Page page) written = suc written
sure_pages (Output page) written = suc written
sure_pages _ written = written

-- and so this page, from 0, may have been broken off, by a source that failed or for want of
-- memory. None was where no cache was made
abbrev pub MayBreakOff : EndingValue → Option Tally → ℕ → Type 0
MayBreakOff e None page = ⊥
MayBreakOff e (Some t) page = sure_pages e t.pages ≤ page

-- all pages were written
abbrev pub IsAllWritten : EndingValue → Type 0
IsAllWritten Written = Unit {0}
IsAllWritten Notes = Unit {0}
IsAllWritten _ = ⊥

-- each page that was drawn came to its end: all were written, or there is one worker, and neither
-- its source failed nor was memory wanting
abbrev pub EveryPageCameToItsEnd : ℕ → EndingValue → Type 0
EveryPageCameToItsEnd n e = IsAllWritten e ⊎ ((n ≡ 1) × WasNotCutOff e)

-- a page that was drawn may have been broken off for want of memory: none was where all were
-- written, and the one of one worker ends the run
abbrev pub MayWantMemory : ℕ → EndingValue → Type 0
MayWantMemory n e = (IsAllWritten e → ⊥) × (n ≡ 1 → e ≡ Memory)

-- by its status: neither the source failed (5) nor did memory run out (9)
abbrev pub WasNotCutOffBy : ℕ → Type 0
WasNotCutOffBy status = (status ≢ 5) × (status ≢ 9)

-- an end before the first page
abbrev pub IsIdle : EndingValue → Type 0
IsIdle Written = ⊥
IsIdle (Page page) = ⊥
IsIdle (Source page) = ⊥
IsIdle (Output page) = ⊥
IsIdle Notes = ⊥
IsIdle _ = Unit {0}
