-- What holds of a run: why it ended as its status says, what it wrote and noted, and what was
-- drawn.
use Rattle.std.specs.Prelude.{◌≡◌, ◌⊎◌, ◌≤◌, ◌+◌, ℕ, List, [], ◌∷◌, length, Option, Some, None, IfSome}
use Rattle.outside.specs.Counts.{Rose}
use Rattle.outside.specs.Library.{FileTable}
use Rattle.cache_core.specs.Histories.{own}
use Rattle.page_index.specs.Document.{Reading}
use Rattle.page_index.specs.Faults.{IsFirstFault}
use Rattle.page_index.specs.declared.faults.DocFault.{DocFault}
use Rattle.page_draw.specs.Values.{DrawnValue, PageValue}
use Rattle.command_line.specs.declared.settings.Settings.{Settings}
use Rattle.dvi_run.specs.Reading.{HoldsOfInput, WasRead}
use Rattle.dvi_run.specs.Pages.{FailingPage, Setup, IsRun, IsUntolerated, IsWholeRun, run_fault}
use Rattle.dvi_run.specs.Lines.{line_of}
use Rattle.dvi_run.specs.Noted.{AreLacking, whole_count}
use Rattle.dvi_run.specs.Report.{loads_of, notes_text}
use Rattle.dvi_run.specs.Tally.{CountsTo}
use Rattle.dvi_run.specs.Endings.{EndingValue, Source, IsAmong, IsPlaced, HoldsOfDocument, Stopped, Prints, PrintsBy, Wrote, WroteAll, WroteBefore, WrotePrefix, WroteSome, page_status, status_of, statuses}
use Rattle.dvi_run.specs.Rounds.{FailedAt}
use Rattle.dvi_run.specs.Shares.{PartitionPages}
use Rattle.dvi_run.specs.Sampled.{FailedForSettings, UsesTheSample, document_for_settings}
use Rattle.dvi_run.specs.Outside.{FaultsRose, Run, StreamChange, Streams, drawing_of, setup_of}
use Rattle.dvi_run.specs.Together.{PagesMatchHistory, EachUsed, GaveUpOnlyBroken, IsOneHistory, IsUnread, RestIsKept, SomeUsed, SourceRose, WorkerDone}
use Rattle.dvi_run.specs.declared.tally.Tally.{Tally}

-- ---- parts of the claims: what holds of the bytes that were read

-- they have a first fault
abbrev pub HasFault : Setup → List ℕ → Type 0
HasFault g bytes = (fault : DocFault) × IsFirstFault g.res bytes fault

-- if they have a first fault the status is 2, 6 or 9
abbrev pub FaultIsNamed : Setup → ℕ → List ℕ → Type 0
FaultIsNamed g status bytes =
    (fault : DocFault) → IsFirstFault g.res bytes fault → IsAmong status (2 ∷ 6 ∷ 9 ∷ [])

-- they are a document with a page that has no bitmap, which has this status. On a tolerant sheet
-- its fault is no missing font, character, glyph or packet
abbrev pub HasFailingPage : Setup → ℕ → List ℕ → Type 0
HasFailingPage g status bytes = (page : FailingPage) × (status ≡ page_status page.fault)
    × IsUntolerated g page
    × HoldsOfDocument g bytes (λ _ values. run_fault values ≡ Some page)

-- if they are a document with a page that has no bitmap the status is the first such page's, or
-- something failed before
abbrev pub FailingPageIsNamed : Setup → ℕ → List ℕ → Type 0
FailingPageIsNamed g status bytes =
    (reading : Reading) (values : List PageValue) (page : FailingPage)
    → IsRun g bytes reading values → run_fault values ≡ Some page
    → IsAmong status (page_status page.fault ∷ 5 ∷ 6 ∷ 7 ∷ 9 ∷ [])

-- if they are a document whose pages all have a bitmap all of them are written: the status is 0, or
-- 8, unless memory runs out
abbrev pub GoodRunIsWritten : Setup → ℕ → List ℕ → Type 0
GoodRunIsWritten g status bytes = (reading : Reading) (values : List PageValue)
    → IsWholeRun g bytes reading values → run_fault values ≡ None → IsAmong status (0 ∷ 8 ∷ 9 ∷ [])

-- if they are a document whose pages all have a bitmap the status is 0 or 9
abbrev pub GoodRunIsWhole : Setup → ℕ → List ℕ → Type 0
GoodRunIsWhole g status bytes = (reading : Reading) (values : List PageValue)
    → IsWholeRun g bytes reading values → run_fault values ≡ None → IsAmong status (0 ∷ 9 ∷ [])

-- they are a document, and all pages before the first that has no bitmap were written, and nothing
-- else
abbrev pub StoppedAt : Setup → ℕ → (output : StreamChange) → List ℕ → Type 0
StoppedAt g status output bytes = (page : FailingPage) × (status ≡ page_status page.fault)
    × HoldsOfDocument g bytes (λ _. Stopped output.before.bytes output.after.bytes page)

-- they are a document, and the pages before some page were written, which have bitmaps
abbrev pub StoppedBefore : Setup → (output : StreamChange) → List ℕ → Type 0
StoppedBefore g output bytes =
    (page : ℕ) × HoldsOfDocument g bytes (WroteBefore output.before.bytes output.after.bytes page)

-- they are a document, and the pages before some page were written, and a prefix of its own text;
-- it and they have bitmaps
abbrev pub StoppedIn : Setup → (output : StreamChange) → List ℕ → Type 0
StoppedIn g output bytes =
    (page : ℕ) × HoldsOfDocument g bytes (λ _. WrotePrefix output.before.bytes output.after.bytes
    page)

-- ---- what a run is given by its settings

-- the bytes of its document, where they are known
abbrev pub document_of : {F : Type 0} → Run F → Option (List ℕ)
document_of run = document_for_settings run.task.settings run.streams.input.bytes

-- the input failed, if it is used
abbrev pub InputFailed : {F : Type 0} → Run F → Type 0
InputFailed run = FailedForSettings run.task.settings
    (Rose run.streams.input.before.faults run.streams.input.after.faults)

-- the source of a used worker failed, if any is used
abbrev pub SourceFailed : {F : Type 0} → Run F → Type 0
SourceFailed run = FailedForSettings run.task.settings
    (SomeUsed run.task.settings.workers run.before run.after (SourceRose run.sources.faults))

-- ---- the claims

-- The causes of each status, both ways. Notes that fail decide nothing but between 0 and 8:
-- `refused`, `stopped` and `whole` don't ask about them.
pub record StatusIsTrue {F : Type 0} (run : Run F) (status : ℕ) : Type 0 where
  -- which statuses there are
  pub answers : IsAmong status statuses
  -- 2: exactly where the bytes that were read have a first fault
  pub document : status ≡ 2 → HoldsOfInput (document_of run) (HasFault (setup_of run.task))
  pub refused : HoldsOfInput (document_of run) (FaultIsNamed (setup_of run.task) status)
  -- 3 and 4: exactly where a page of the document has no bitmap, 4 where the fault is its font's,
  -- and neither a write nor the source failed before
  pub page : IsAmong status (3 ∷ 4 ∷ [])
      → HoldsOfInput (document_of run) (HasFailingPage (setup_of run.task) status)
  pub stopped : (files : FileTable) → (setup_of run.task).library ≡ Some files
      → HoldsOfInput (document_of run) (FailingPageIsNamed (setup_of run.task) status)
  -- 5: only where the source failed
  pub source : status ≡ 5 → SourceFailed run
  -- 6: only where the input failed
  pub input : status ≡ 6 → InputFailed run
  -- 7: only where the output failed
  pub output : status ≡ 7 → FaultsRose run.streams.output
  -- 8: only where the notes failed
  pub notes : status ≡ 8 → FaultsRose run.streams.notes
  -- 0 or 8, but for want of memory: where all pages have a bitmap and nothing failed but the notes
  pub whole : (files : FileTable) → (setup_of run.task).library ≡ Some files
      → ¬ InputFailed run → ¬ SourceFailed run → ¬ FaultsRose run.streams.output
      → HoldsOfInput (document_of run) (GoodRunIsWritten (setup_of run.task) status)
  -- 0, but for want of memory: where all pages have a bitmap and nothing failed
  pub complete : (files : FileTable) → (setup_of run.task).library ≡ Some files
      → ¬ InputFailed run → ¬ SourceFailed run → ¬ FaultsRose run.streams.output
      → ¬ FaultsRose run.streams.notes
      → HoldsOfInput (document_of run) (GoodRunIsWhole (setup_of run.task) status)

-- What was written where the run ended well.
pub record IsWritten {F : Type 0} (run : Run F) (status : ℕ) : Type 0 where
  -- 0 and 8: exactly the texts of all pages, which have a bitmap
  pub whole : WroteAll status → HoldsOfInput (document_of run)
      (λ bytes. HoldsOfDocument (setup_of run.task) bytes (Wrote run.streams.output.before.bytes
      run.streams.output.after.bytes))

-- What was written where the run was refused, by the status.
pub record IsCutShort {F : Type 0} (run : Run F) (status : ℕ) : Type 0 where
  -- 2 and 6: nothing
  pub nothing : IsAmong status (2 ∷ 6 ∷ []) → run.streams.output.Kept
  -- 3 and 4: all pages before the first that has no bitmap, and nothing else
  pub stopped : IsAmong status (3 ∷ 4 ∷ [])
      → HoldsOfInput (document_of run) (StoppedAt (setup_of run.task) status run.streams.output)
  -- 5: the pages before some page, which have bitmaps, and nothing of that page
  pub before : status ≡ 5
      → HoldsOfInput (document_of run) (StoppedBefore (setup_of run.task) run.streams.output)
  -- 7: the pages before some page with a bitmap, and a prefix of its own text
  pub prefix : status ≡ 7
      → HoldsOfInput (document_of run) (StoppedIn (setup_of run.task) run.streams.output)
  -- 9: nothing, or some pages from the first on, each whole
  pub memory : status ≡ 9 → run.streams.output.Kept
      ⊎ HoldsOfInput (document_of run) (λ bytes. HoldsOfDocument (setup_of run.task) bytes
      (λ _. WroteSome run.streams.output.before.bytes run.streams.output.after.bytes))

-- What the notes took of the text of a run that ends so, and that its last line is true.
pub record IsNoted {F : Type 0} (run : Run F) (e : EndingValue) (text : List ℕ) : Type 0 where
  -- what the line names is the document's: its first fault, its page without a bitmap with the
  -- fault and its place, or the page that the source or the output failed at
  pub placed : IsPlaced (setup_of run.task) e (document_of run) run.streams.output.before.bytes
      run.streams.output.after.bytes
  -- 0: the notes grew by the text; 8: they failed, and grew by a prefix of it, never all; else they
  -- grew by it, or by a prefix of it where they failed
  pub printed : PrintsBy e run.streams.notes.before.bytes run.streams.notes.after.bytes
      run.streams.notes.before.faults run.streams.notes.after.faults text

-- The end of a run over the workers that its settings name: what it read and noted, whose source
-- failed, what was written whole, and what was drawn.
pub record ReportMatchesRun {F : Type 0} (run : Run F) (status : ℕ) (e : EndingValue)
    (tally : Option Tally) : Type 0 where
  -- unless the document is the sample: reads gave all that the input had left, where that is known,
  -- and one of them saw the end, or they gave one byte more than a document may have; else the
  -- status is 6 or 9, and nothing was written or drawn
  pub read : run.task.settings.sample ≡ None
      → WasRead run.streams.input (IsUnread (drawing_of run) status tally)
  -- the pages that were written whole, as many as the tally counts; they lack nothing, unless the
  -- sheet is tolerant
  pub whole : List DrawnValue
  pub count : length whole ≡ whole_count tally
  pub lacking : AreLacking run.task.settings.sheet.tolerant whole
  -- the notes took the text of this end: a line for each lack of these pages, in their order; the
  -- history's lines and the summary where they are asked for, with the tally and all loads of the
  -- used workers; and the line of the end, which is true
  pub noted : IsNoted run e (notes_text whole run.task.settings tally
      (loads_of run.task.settings.workers run.after) run.history e)
  -- there is no tally where the run ended before a cache was made, so that there is no call, and
  -- else it counts pages up to the one that the line names
  pub counted : CountsTo run.history tally e
  -- 5: the count that rose is that of the source whose worker drew the page named, as its last one
  pub failed : (page : ℕ) → e ≡ Source page
      → SomeUsed run.task.settings.workers run.before run.after (FailedAt run.sources.faults page)
  -- a worker gave a claim up only where its last page was broken off: one that was neither written
  -- nor named with its fault, and whose write didn't fail
  pub gave_up : EachUsed run.task.settings.workers run.before run.after
      (λ k _ now. GaveUpOnlyBroken e tally (own (k + 1) run.history) now)
  -- nothing was drawn where no cache was made. Else each look-up found what the known files have
  -- for its key: the pages have the values that this gives them, which say what was written; the
  -- workers drew the first pages, each page once, to the end of the round of the page named at
  -- most, or of the next one where its write failed; the calls of each worker answer what its pages
  -- looked up; and the tally is that of the pages written whole, which are those above, with their
  -- black pixels if the summary is asked for
  pub drew : HoldsOfInput (document_of run) (PagesMatchHistory run.task (drawing_of run) status e
      tally whole)

-- The counts of faults of the input, the output and the notes didn't fall.
pub record NoCountFalls (streams : Streams) : Type 0 where
  pub input : streams.input.before.faults ≤ streams.input.after.faults
  pub output : streams.output.before.faults ≤ streams.output.after.faults
  pub notes : streams.notes.before.faults ≤ streams.notes.after.faults

-- ---- all of a run's promises

-- What a run with such settings promises, by its status.
pub record KeepsPromises {F : Type 0} (run : Run F) (status : ℕ) : Type 0 where
  -- why it ended so: the causes of each status, both ways
  pub caused : StatusIsTrue run status
  -- the bytes written where it ended well
  pub written : IsWritten run status
  -- what was read, the text in the notes, what was written whole, the worker whose source failed,
  -- and the pages drawn, with what each look-up found and the calls that it made, of one and the
  -- same end
  pub ended : (ending : EndingValue) × (tally : Option Tally) × (status ≡ status_of ending)
      × ReportMatchesRun run status ending tally
  -- the history, one legal list
  pub history : IsOneHistory run.task.settings status run.history
  -- each call of each used worker, once, and its loads
  pub called : EachUsed run.task.settings.workers run.before run.after
      (λ k was now. WorkerDone run.task run.sources status (own (k + 1) run.history) was now)
  -- what was written where it was refused: pages from the first on, and a prefix of one at most
  pub cut_short : IsCutShort run status
  -- the pages that were drawn, the first n, each once and by one worker
  pub shares : (total : ℕ) × PartitionPages total run.task.settings.workers run.after
  -- the workers that aren't used are as they were
  pub rest : RestIsKept run.task.settings.workers run.before run.after
  -- with the sample neither the input nor a source of the workers is used
  pub sample : IfSome run.task.settings.sample
      (λ pages. UsesTheSample status run.streams.input.Kept run.before run.after)

-- ---- arguments

-- what holds under the settings that the arguments give, where they give any
abbrev pub ForSettings : (given : Option Settings) → (Settings → Type 0) → Type 0
ForSettings given P = (s : Settings) → given ≡ Some s → P s

-- A run whose words give no settings: nothing was read, written, loaded, drawn or asked of a cache.
pub record WasRefused (streams : Streams) (WorkersKept HistoryKept : Type 0) (status : ℕ)
    : Type 0 where
  -- 1, unless memory ran out
  pub answers : IsAmong status (1 ∷ 9 ∷ [])
  pub input : streams.input.Kept
  pub output : streams.output.Kept
  pub workers : WorkersKept
  pub history : HistoryKept
  -- the notes grew by the line of this end alone, or by a prefix of it where they failed
  pub printed : (e : EndingValue) × (status ≡ status_of e)
      × Prints streams.notes.before.bytes streams.notes.after.bytes streams.notes.before.faults
      streams.notes.after.faults (line_of e)
