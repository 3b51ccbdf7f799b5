-- Laws over the values of runs.
use Rattle.std.specs.Prelude.{◌≡◌, ◌<◌, ◌≤◌, ℕ, suc, Option, List, ◌∷◌, ◌++◌, length, map, Some, None, Ok, Err, unwrap_or}
use Rattle.std.specs.List.{flat_map}
use Rattle.std.specs.Io.KnownBytes.{Appends}
use Rattle.outside.specs.Library.{FileTable}
use Rattle.page_index.specs.Document.{IsDocument, Reading}
use Rattle.page_index.specs.Pages.{eop_at}
use Rattle.page_index.specs.Faults.{IsFirstFault}
use Rattle.page_index.specs.declared.faults.DocFault.{DocFault}
use Rattle.font_decode.specs.Laws.{AreByteFiles}
use Rattle.page_draw.specs.Values.{DrawnValue, PageValue, PlacedFault}
use Rattle.sample_maker.specs.Sample.{sample_document}
use Rattle.dvi_run.specs.Reading.{read_of}
use Rattle.dvi_run.specs.Shares.{ArePartitioned, EachPageIsDrawnOnce}
use Rattle.dvi_run.specs.Endings.{HoldsOfDocument, Stopped, Wrote}
use Rattle.dvi_run.specs.Pages.{FailingPage, Setup, IsRun, IsWholeRun, failing_page, run_fault, run_text, text_of}

abbrev pub good : DrawnValue → PageValue
good page = Ok page

-- ---- lists of values

-- where each page has a bitmap the run's text is that of all, and no page fails
abbrev pub RunsOfGoodPages : Type 0
RunsOfGoodPages =
    (pages : List DrawnValue) → (run_text (map good pages) ≡ flat_map text_of pages) × (run_fault
    (map good pages) ≡ None)

-- else it is that of the pages before the first that has none, and that page fails, whatever
-- follows it
abbrev pub RunsEndAtTheFirstFault : Type 0
RunsEndAtTheFirstFault = (pages : List DrawnValue) (f : PlacedFault) (rest : List PageValue)
    → (run_text (map good pages ++ Err f ∷ rest) ≡ flat_map text_of pages)
    × (run_fault (map good pages ++ Err f ∷ rest) ≡ Some (failing_page (suc (length pages)) f))

-- a page that fails among the first ones ends the run, whatever pages follow
abbrev pub FaultsEndTheRun : Type 0
FaultsEndTheRun = (values rest : List PageValue) (page : FailingPage) → run_fault values ≡ Some page
    → (run_fault (values ++ rest) ≡ Some page) × (run_text (values ++ rest) ≡ run_text values)

-- ---- documents

-- bytes are one document
abbrev pub OneReading : Type 0
OneReading = (g : Setup) (bytes : List ℕ) (r s : Reading) (v w : List PageValue) → IsRun g bytes r v
    → IsRun g bytes s w → r ≡ s

-- where the font files are known, its pages have one value each: of two lists the longer one begins
-- with the other
abbrev pub OneRun : Type 0
OneRun = (g : Setup) (files : FileTable) (bytes : List ℕ) (r s : Reading) (v w : List PageValue)
    → g.library ≡ Some files
    → IsRun g bytes r v → IsRun g bytes s w → length v ≤ length w
    → (rest : List PageValue) × (w ≡ v ++ rest)

-- these are the values of all pages of a document, and there are no others
pub record HasOneRun (g : Setup) (bytes : List ℕ) (reading : Reading) : Type 0 where
  pub values : List PageValue
  pub whole : IsWholeRun g bytes reading values
  pub only : (s : Reading) (others : List PageValue) → IsWholeRun g bytes s others
      → others ≡ values

-- where the font files are known, and are files of bytes, a document has exactly one list of the
-- values of all its pages
abbrev pub EachDocumentHasOneRun : Type 0
EachDocumentHasOneRun = (g : Setup) (files : FileTable) (bytes : List ℕ) (reading : Reading)
    → AreByteFiles files → g.library ≡ Some files → IsDocument g.res bytes reading
    → HasOneRun g bytes reading

-- the first of some values are values too
abbrev pub RunsHavePrefixes : Type 0
RunsHavePrefixes =
    (g : Setup) (bytes : List ℕ) (reading : Reading) (values rest : List PageValue)
    → IsRun g bytes reading (values ++ rest)
    → IsRun g bytes reading values

-- each page has an end, so that its value is that of commands up to there
abbrev pub EachPageHasItsEop : Type 0
EachPageHasItsEop =
    (g : Setup) (bytes : List ℕ) (reading : Reading) (values : List PageValue) (i : ℕ)
    → IsRun g bytes reading values → i < length values
    → eop_at i reading ≡ Some (unwrap_or (eop_at i reading) 0)

-- and no bytes are a document and have a fault
abbrev pub RunsHaveNoFault : Type 0
RunsHaveNoFault =
    (g : Setup) (bytes : List ℕ) (reading : Reading) (values : List PageValue) (fault : DocFault)
    → IsRun g bytes reading values
    → IsFirstFault g.res bytes fault → ⊥

-- ---- two runs

-- two outputs grew by one text
abbrev pub GrewAlike : (old new other later : Option (List ℕ)) → Type 0
GrewAlike old new other later = (text : List ℕ) × Appends old new text × Appends other later text

-- where the font files are known, runs over one document for one sheet that end well wrote one
-- text, whatever their workers, caches and schedules
abbrev pub GoodRunsWriteAlike : Type 0
GoodRunsWriteAlike =
    (g : Setup) (files : FileTable) (bytes : List ℕ) (old new other later : Option (List ℕ))
    → g.library ≡ Some files
    → HoldsOfDocument g bytes (Wrote old new) → HoldsOfDocument g bytes (Wrote other later)
    → GrewAlike old new other later

-- and those that end at a page without a bitmap end at the same one, by the same fault, and wrote
-- one text
abbrev pub StoppedRunsWriteAlike : Type 0
StoppedRunsWriteAlike =
    (g : Setup) (files : FileTable) (bytes : List ℕ) (old new other later : Option (List ℕ))
    (p q : FailingPage) → g.library ≡ Some files
    → HoldsOfDocument g bytes (λ _. Stopped old new p) → HoldsOfDocument g bytes
    (λ _. Stopped other later q) → (p ≡ q) × GrewAlike old new other later

-- ---- the sample

-- what is read of it, to the limit of a document, is all of it
abbrev pub SamplesAreReadWhole : Type 0
SamplesAreReadWhole = (pages : ℕ) → pages ≤ 1000
    → read_of (sample_document pages) ≡ sample_document pages

-- ---- workers

-- pages that workers share are the numbers from 0 to one less than their count, each once
abbrev pub PagesAreShared : Type 0
PagesAreShared = (total n : ℕ) (pages : ℕ → List ℕ)
    → ArePartitioned total n pages → EachPageIsDrawnOnce total n pages
