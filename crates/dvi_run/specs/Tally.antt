-- What a run wrote whole: how many pages, and how many of their pixels are black.
use Rattle.std.specs.Prelude.{◌≡◌, ◌≤◌, ℕ, suc, Bool, true, List, [], length, take, Option, Some, None}
use Rattle.std.specs.List.{flat_map, sum_by}
use Rattle.std.specs.Io.KnownBytes.{Appends}
use Rattle.cache_core.specs.declared.calls.Call.{Call}
use Rattle.page_draw.specs.Values.{DrawnValue, PageValue}
use Rattle.dvi_run.specs.Pages.{black_in, text_of, whole_pages}
use Rattle.dvi_run.specs.Endings.{EndingValue, Written, Usage, Document, Page, Source, Input}
use Rattle.dvi_run.specs.Endings.{Output, Notes, Memory}
use Rattle.dvi_run.specs.Looked.{IsIdle}
use Rattle.dvi_run.specs.declared.tally.Tally.{Tally}

-- the page that the end names, from 1, is the one after n
abbrev pub IsAfter : ℕ → EndingValue → Type 0
IsAfter pages (Page page) = page.page ≡ suc pages
IsAfter pages (Source page) = page ≡ suc pages
IsAfter pages (Output page) = page ≡ suc pages
IsAfter pages _ = Unit {0}

-- n pages are what was written: all of them where all were, and where memory ran out the output
-- grew by the texts of these alone
abbrev pub AreWritten : (old new : Option (List ℕ)) → ℕ → EndingValue → List PageValue
    → Type 0
AreWritten old new pages Written values = pages ≡ length (whole_pages values)
AreWritten old new pages Notes values = pages ≡ length (whole_pages values)
AreWritten old new pages Memory values =
    Appends old new (flat_map text_of (take pages (whole_pages values)))
AreWritten old new pages _ values = Unit {0}

-- what was written whole of a document whose first pages have these values, in a run that ended so;
-- black pixels where they were counted; and `Are` holds of the pages that were written whole
pub record TallyMatches (counted : Bool) (Are : List DrawnValue → Type 0)
    (old new : Option (List ℕ)) (t : Tally) (e : EndingValue)
    (values : List PageValue) : Type 0 where
  pub few : t.pages ≤ length (whole_pages values)
  pub black : counted ≡ true
      → t.black ≡ sum_by black_in (take t.pages (whole_pages values))
  pub next : IsAfter t.pages e
  pub written : AreWritten old new t.pages e values
  pub are : Are (take t.pages (whole_pages values))

-- and there is no tally where no cache was made, since memory ran out before: so no call was made
abbrev pub TallyMatchesRun : Bool → (Are : List DrawnValue → Type 0)
    → (old new : Option (List ℕ)) → (history : List Call)
    → Option Tally → EndingValue → List PageValue → Type 0
TallyMatchesRun counted Are old new history None e values =
    (e ≡ Memory) × (new ≡ old) × (history ≡ []) × Are []
TallyMatchesRun counted Are old new history (Some t) e values =
    TallyMatches counted Are old new t e values

-- a cache was made before a run ended so, or may have been
abbrev pub HadCache : EndingValue → Type 0
HadCache Usage = ⊥
HadCache (Document fault) = ⊥
HadCache Input = ⊥
HadCache _ = Unit {0}

-- whatever was read: there is no tally where the run ended before a cache was made, so that no call
-- was, and else pages are counted up to the one that the end names
abbrev pub CountsTo : (history : List Call) → Option Tally → EndingValue → Type 0
CountsTo history None e = IsIdle e × (history ≡ [])
CountsTo history (Some t) e = HadCache e × IsAfter t.pages e
