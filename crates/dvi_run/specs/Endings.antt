-- How a run ends: what it wrote, and why.
use Rattle.std.specs.Prelude.{◌≡◌, ◌⊎◌, ◌≤◌, ◌<◌, ◌++◌, ℕ, suc, Bool, true, false, List, [], ◌∷◌, length, take, Option, Some, None, Ok}
use Rattle.std.specs.List.{flat_map}
use Rattle.std.specs.Io.KnownBytes.{Appends}
use Rattle.outside.specs.Counts.{Rose}
use Rattle.outside.specs.Streams.{AppendsPrefix}
use Rattle.page_index.specs.Document.{Reading, pages_begun}
use Rattle.page_index.specs.Faults.{IsFirstFault}
use Rattle.page_index.specs.declared.faults.DocFault.{DocFault}
use Rattle.vf_expand.specs.Faults.{PageFaultValue, Font, value_of_fault}
use Rattle.page_draw.specs.Values.{DrawnValue, PageValue, fault_at}
use Rattle.page_draw.specs.declared.stop.PageStop.TheVariants as draw
use Rattle.dvi_run.specs.Reading.{HoldsOfInput}
use Rattle.dvi_run.specs.Pages.{FailingPage, Setup, IsRun, run_fault, run_text, text_of, whole_pages}
use Rattle.dvi_run.specs.declared.ending.Ending.{Ending}
use Rattle.dvi_run.specs.declared.ending.Ending.TheVariants as code
use Rattle.dvi_run.specs.declared.pages.WriteStop.{WriteStop}
use Rattle.dvi_run.specs.declared.pages.WriteStop.TheVariants as stop

-- how a run ends: all pages were written, and the report; the words are no line; the bytes are no
-- document; a page has no bitmap; the source of the fonts failed at a page, or the input, or the
-- output at a page; all pages were written, and the notes failed to take the report; or memory ran
-- out. Pages are counted from 1
pub data EndingValue : Type 0 where
  Written : EndingValue
  Usage : EndingValue
  Document : DocFault → EndingValue
  Page : FailingPage → EndingValue
  Source : ℕ → EndingValue
  Input : EndingValue
  Output : ℕ → EndingValue
  Notes : EndingValue
  Memory : EndingValue

abbrev pub value_of_ending : Ending → EndingValue
value_of_ending code.Written = Written
value_of_ending code.Usage = Usage
value_of_ending (code.Document fault) = Document fault
value_of_ending (code.Page page fault at) =
    Page (record { page = page; fault = value_of_fault fault; at = at })
value_of_ending (code.Source page) = Source page
value_of_ending code.Input = Input
value_of_ending (code.Output page) = Output page
value_of_ending code.Memory = Memory

-- how a run ends that came to such an end, by whether the notes took its report. That they fail
-- matters only where all pages were written
abbrev pub with_notes : EndingValue → (taken : Bool) → EndingValue
with_notes Written true = Written
with_notes Written false = Notes
with_notes e taken = e

-- ---- statuses

-- of a page without a bitmap: 4 where its fault is that of a font's files
abbrev pub page_status : PageFaultValue → ℕ
page_status (Font k f) = 4
page_status _ = 3

abbrev pub status_of : EndingValue → ℕ
status_of Written = 0
status_of Usage = 1
status_of (Document fault) = 2
status_of (Page page) = page_status page.fault
status_of (Source page) = 5
status_of Input = 6
status_of (Output page) = 7
status_of Notes = 8
status_of Memory = 9

abbrev pub IsAmong : ℕ → List ℕ → Type 0
IsAmong n [] = ⊥
IsAmong n (x ∷ xs) = (n ≡ x) ⊎ IsAmong n xs

-- of a run whose words are a line
abbrev pub statuses : List ℕ
statuses = 0 ∷ 2 ∷ 3 ∷ 4 ∷ 5 ∷ 6 ∷ 7 ∷ 8 ∷ 9 ∷ []

-- all pages were written: 0, and 8 where the notes failed
abbrev pub WroteAll : ℕ → Type 0
WroteAll status = (status ≡ 0) ⊎ (status ≡ 8)

-- ---- what was written, by the values of a document's pages

-- all pages, and each has a bitmap
pub record Wrote (old new : Option (List ℕ)) (reading : Reading)
    (values : List PageValue) : Type 0 where
  pub all : length values ≡ pages_begun reading
  pub good : run_fault values ≡ None
  pub grew : Appends old new (run_text values)

-- all pages before the first that has no bitmap
pub record Stopped (old new : Option (List ℕ)) (page : FailingPage)
    (values : List PageValue) : Type 0 where
  pub fails : run_fault values ≡ Some page
  pub grew : Appends old new (run_text values)

-- all pages before the one with this number, from 1, and nothing of its own; they have bitmaps
pub record WroteBefore (old new : Option (List ℕ)) (page : ℕ) (reading : Reading)
    (values : List PageValue) : Type 0 where
  pub there : page ≤ pages_begun reading
  pub number : page ≡ suc (length values)
  pub good : run_fault values ≡ None
  pub grew : Appends old new (run_text values)

-- all pages before the one with this number, from 1, and a prefix of its own text, never all; it
-- and they have bitmaps
pub record WrotePrefix (old new : Option (List ℕ)) (page : ℕ)
    (values : List PageValue) : Type 0 where
  pub before : List DrawnValue
  pub own : DrawnValue
  pub rest : List DrawnValue
  pub pages : whole_pages values ≡ before ++ own ∷ rest
  pub number : page ≡ suc (length before)
  pub size : ℕ
  pub within : size < length (text_of own)
  pub grew : Appends old new (flat_map text_of before ++ take size (text_of own))

-- n pages, which have bitmaps, and none before them has none
pub record WroteSome (old new : Option (List ℕ)) (values : List PageValue) : Type 0 where
  pub count : ℕ
  pub grew : Appends old new (flat_map text_of (take count (whole_pages values)))

-- the bytes are a document, and its reading and the values of its first pages have P
abbrev pub HoldsOfDocument : Setup → List ℕ → (Reading → List PageValue → Type 0) → Type 0
HoldsOfDocument g bytes P =
    (reading : Reading) × (values : List PageValue) × IsRun g bytes reading values
    × P reading values

-- ---- the fonts' source

module _ {F : Type 0} (faults : F → ℕ) where
  -- it was given back, and it had failed
  abbrev pub HasFailed : F → Option F → Type 0
  HasFailed source None = ⊥
  HasFailed source (Some back) = Rose (faults source) (faults back)

-- ---- the line and its cause

-- what the line says is so, where the input's bytes are known
abbrev pub IsPlaced : Setup → EndingValue → Option (List ℕ) → Option (List ℕ) → Option (List ℕ)
    → Type 0
IsPlaced g (Document fault) left old new =
    HoldsOfInput left (λ bytes. IsFirstFault g.res bytes fault)
IsPlaced g (Page page) left old new =
    HoldsOfInput left (λ bytes. HoldsOfDocument g bytes (λ _. Stopped old new page))
IsPlaced g (Source page) left old new =
    HoldsOfInput left (λ bytes. HoldsOfDocument g bytes (WroteBefore old new page))
IsPlaced g (Output page) left old new =
    HoldsOfInput left (λ bytes. HoldsOfDocument g bytes (λ _. WrotePrefix old new page))
IsPlaced g _ left old new = Unit {0}

-- the text was written, or a prefix of it, never all, where the count rose
abbrev pub Prints : Option (List ℕ) → Option (List ℕ) → ℕ → ℕ → List ℕ → Type 0
Prints old new before now text =
    Appends old new text ⊎ (AppendsPrefix old new text × Rose before now)

-- and the count didn't fall
pub record IsPrinted (old new : Option (List ℕ)) (before now : ℕ) (text : List ℕ) : Type 0 where
  pub prints : Prints old new before now text
  pub count : before ≤ now

-- what the notes took of the report of a run that ends so: where all pages were written the end
-- says whether all of it
abbrev pub PrintsBy : EndingValue → Option (List ℕ) → Option (List ℕ) → ℕ → ℕ → List ℕ → Type 0
PrintsBy Written old new before now text = Appends old new text
PrintsBy Notes old new before now text = AppendsPrefix old new text × Rose before now
PrintsBy _ old new before now text = Prints old new before now text

-- ---- the parts of a run

-- how a run ends that doesn't write the page with this number, from 1
abbrev pub ending_at : ℕ → WriteStop → EndingValue
ending_at page (stop.Draw (draw.Fault fault at)) =
    Page (record { page = page; fault = value_of_fault fault; at = at })
ending_at page (stop.Draw draw.SourceFault) = Source page
ending_at page (stop.Draw draw.NoMemory) = Memory
ending_at page stop.Output = Output page

-- what is known before and after, and whether the output and the source failed
module _ (old new : Option (List ℕ)) (OutputFailed SourceFailed : Type 0) where
  -- why a page was not written, which was drawn so or was broken off; only a failed write leaves
  -- something of it
  abbrev pub IsWriteStop : (Draws : PageValue → Type 0) (Breaks : Type 0) → WriteStop → Type 0
  IsWriteStop Draws Breaks (stop.Draw (draw.Fault fault at)) =
      Draws (fault_at (value_of_fault fault) at) × (new ≡ old)
  IsWriteStop Draws Breaks (stop.Draw draw.SourceFault) = SourceFailed × Breaks × (new ≡ old)
  IsWriteStop Draws Breaks (stop.Draw draw.NoMemory) = Breaks × (new ≡ old)
  IsWriteStop Draws Breaks stop.Output =
      (drawn : DrawnValue) × Draws (Ok drawn) × AppendsPrefix old new (text_of drawn)
      × OutputFailed

  -- how the writing of a document's pages ended
  abbrev pub EndsPages : EndingValue → Reading → List PageValue → Type 0
  EndsPages Written reading values = Wrote old new reading values
  EndsPages (Page page) reading values = Stopped old new page values
  EndsPages (Source page) reading values = WroteBefore old new page reading values × SourceFailed
  EndsPages (Output page) reading values = WrotePrefix old new page values × OutputFailed
  EndsPages Notes reading values = Wrote old new reading values
  EndsPages Memory reading values = WroteSome old new values
  EndsPages _ reading values = ⊥

  -- what holds of bytes that were read and led to this end; nothing was written where the output is
  -- kept
  abbrev pub EndsBytes : (OutputKept : Type 0) → Setup → List ℕ → EndingValue → Type 0
  EndsBytes OutputKept g bytes Written = HoldsOfDocument g bytes (Wrote old new)
  EndsBytes OutputKept g bytes (Document fault) = IsFirstFault g.res bytes fault × OutputKept
  EndsBytes OutputKept g bytes (Page page) = HoldsOfDocument g bytes (λ _. Stopped old new page)
  EndsBytes OutputKept g bytes (Source page) =
      HoldsOfDocument g bytes (WroteBefore old new page) × SourceFailed
  EndsBytes OutputKept g bytes (Output page) =
      HoldsOfDocument g bytes (λ _. WrotePrefix old new page) × OutputFailed
  EndsBytes OutputKept g bytes Notes = HoldsOfDocument g bytes (Wrote old new)
  EndsBytes OutputKept g bytes Memory =
      OutputKept ⊎ HoldsOfDocument g bytes (λ _. WroteSome old new)
  EndsBytes OutputKept g bytes _ = ⊥

  -- what holds of a run over these bytes, where they are known, that ends so
  abbrev pub IsEnding : (OutputKept InputFailed : Type 0) → Setup → Option (List ℕ)
      → EndingValue → Type 0
  IsEnding OutputKept InputFailed g known Written =
      HoldsOfInput known (λ bytes. HoldsOfDocument g bytes (Wrote old new))
  IsEnding OutputKept InputFailed g known Usage = ⊥
  IsEnding OutputKept InputFailed g known (Document fault) =
      HoldsOfInput known (λ bytes. IsFirstFault g.res bytes fault) × OutputKept
  IsEnding OutputKept InputFailed g known (Page page) =
      HoldsOfInput known (λ bytes. HoldsOfDocument g bytes (λ _. Stopped old new page))
  IsEnding OutputKept InputFailed g known (Source page) =
      HoldsOfInput known (λ bytes. HoldsOfDocument g bytes (WroteBefore old new page))
      × SourceFailed
  IsEnding OutputKept InputFailed g known Input = InputFailed × OutputKept
  IsEnding OutputKept InputFailed g known (Output page) =
      HoldsOfInput known (λ bytes. HoldsOfDocument g bytes (λ _. WrotePrefix old new page))
      × OutputFailed
  IsEnding OutputKept InputFailed g known Notes =
      HoldsOfInput known (λ bytes. HoldsOfDocument g bytes (Wrote old new))
  IsEnding OutputKept InputFailed g known Memory =
      OutputKept ⊎ HoldsOfInput known (λ bytes. HoldsOfDocument g bytes (λ _. WroteSome old new))
