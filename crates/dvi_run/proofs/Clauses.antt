-- From how a run ends to what its status says.
use Rattle.std.proofs.Common.{◌≡◌, ◌∙◌, ◌⊎◌, inl, inr, ℕ, List, [], ◌∷◌, Option, Some, None, refl, sym, ap}
use Rattle.outside.specs.Library.{FileTable}
use Rattle.page_index.specs.Document.{Reading}
use Rattle.page_index.specs.Faults.{IsFirstFault}
use Rattle.page_index.specs.declared.faults.DocFault.{DocFault}
use Rattle.vf_expand.specs.Faults.{PageFaultValue}
use Rattle.vf_expand.specs.Faults as fault
use Rattle.page_draw.specs.Values.{PageValue}
use Rattle.dvi_run.specs.Reading.{HoldsOfInput}
use Rattle.dvi_run.specs.Pages.{FailingPage, Setup, IsRun, run_fault}
use Rattle.dvi_run.specs.Endings.{EndingValue, Written, Usage, Document, Page, Source, Input, Output, Notes, Memory, EndsPages, IsAmong, IsEnding, IsPlaced, HoldsOfDocument, Stopped, Wrote, WroteBefore, WroteAll, WrotePrefix, WroteSome, page_status, status_of, statuses}
use Rattle.dvi_run.specs.Promises.{GoodRunIsWhole, GoodRunIsWritten}
use Rattle.dvi_run.specs.Laws.{OneReading, OneRun, RunsHaveNoFault}
use Rattle.dvi_run.proofs.OneRun.{all_good, ends_once}

pub of_each : (P Q : List ℕ → Type 0) (old : Option (List ℕ)) → ((bytes : List ℕ) → P bytes → Q bytes) → HoldsOfInput old P → HoldsOfInput old Q
of_each P Q None f p = tt
of_each P Q (Some bytes) f p = f _ p

pub of_all : (Q : List ℕ → Type 0) (old : Option (List ℕ)) → ((bytes : List ℕ) → Q bytes) → HoldsOfInput old Q
of_all Q None f = tt
of_all Q (Some bytes) f = f _

-- a page's status is 3 or 4
abbrev pub AtPage : ℕ → Type 0
AtPage n = (n ≡ 3) ⊎ (n ≡ 4)

pub at_page : (f : PageFaultValue) → AtPage (page_status f)
at_page (fault.NoFont n) = inl refl
at_page fault.NoCurrentFont = inl refl
at_page (fault.NoCharacter k c) = inl refl
at_page (fault.NoGlyph k c) = inl refl
at_page (fault.NoPacket k c) = inl refl
at_page (fault.NoLocalFont k n) = inl refl
at_page (fault.Depth k c) = inl refl
at_page fault.TooLong = inl refl
at_page (fault.Font k f) = inr refl
at_page (fault.Pen f) = inl refl

status_at : (n : ℕ) → AtPage n → IsAmong n statuses
status_at n (inl three) = inr (inr (inl three))
status_at n (inr four) = inr (inr (inr (inl four)))

-- a number is none of three
is_no_early : (n : ℕ) → (n ≡ 1 → ⊥) → (n ≡ 2 → ⊥) → (n ≡ 6 → ⊥) → IsAmong n (1 ∷ 2 ∷ 6 ∷ []) → ⊥
is_no_early n a b c (inl is) = a is
is_no_early n a b c (inr (inl is)) = b is
is_no_early n a b c (inr (inr (inl is))) = c is
is_no_early n a b c (inr (inr (inr none))) = none

page_is_late : (n : ℕ) → AtPage n → IsAmong n (1 ∷ 2 ∷ 6 ∷ []) → ⊥
page_is_late n (inl three) =
    is_no_early n (λ is. let e : 3 ≡ 1 = sym three ∙ is in cc) (λ is. let e : 3 ≡ 2 = sym three ∙ is in cc)
    (λ is. let e : 3 ≡ 6 = sym three ∙ is in cc)
page_is_late n (inr four) =
    is_no_early n (λ is. let e : 4 ≡ 1 = sym four ∙ is in cc) (λ is. let e : 4 ≡ 2 = sym four ∙ is in cc)
    (λ is. let e : 4 ≡ 6 = sym four ∙ is in cc)

-- a run whose pages were begun ends neither with 1 nor with 2 nor with 6
pub ends_late : (old new : Option (List ℕ)) (P Q : Type 0) (reading : Reading) (values : List PageValue) (e : EndingValue) → EndsPages old new P Q e reading values
    → IsAmong (status_of e) (1 ∷ 2 ∷ 6 ∷ []) → ⊥
ends_late old new P Q reading values Written h = is_no_early 0 (λ is. cc) (λ is. cc) (λ is. cc)
ends_late old new P Q reading values Usage h = absurd h
ends_late old new P Q reading values (Document fault) h = absurd h
ends_late old new P Q reading values (Page page) h = page_is_late (page_status page.fault) (at_page page.fault)
ends_late old new P Q reading values (Source page) h = is_no_early 5 (λ is. cc) (λ is. cc) (λ is. cc)
ends_late old new P Q reading values Input h = absurd h
ends_late old new P Q reading values (Output page) h = is_no_early 7 (λ is. cc) (λ is. cc) (λ is. cc)
ends_late old new P Q reading values Notes h = is_no_early 8 (λ is. cc) (λ is. cc) (λ is. cc)
ends_late old new P Q reading values Memory h = is_no_early 9 (λ is. cc) (λ is. cc) (λ is. cc)

-- ---- what is owed for each, where the input's bytes are known

module _ (old new : Option (List ℕ)) (OutputFailed SourceFailed OutputKept InputFailed : Type 0) (g : Setup) (known : Option (List ℕ)) where
  abbrev Ends : EndingValue → Type 0
  Ends e = IsEnding old new OutputFailed SourceFailed OutputKept InputFailed g known e

  pub has_status : (e : EndingValue) → Ends e → IsAmong (status_of e) statuses
  has_status Written h = inl refl
  has_status Usage h = absurd h
  has_status (Document fault) h = inr (inl refl)
  has_status (Page page) h = status_at (page_status page.fault) (at_page page.fault)
  has_status (Source page) h = inr (inr (inr (inr (inl refl))))
  has_status Input h = inr (inr (inr (inr (inr (inl refl)))))
  has_status (Output page) h = inr (inr (inr (inr (inr (inr (inl refl))))))
  has_status Notes h = inr (inr (inr (inr (inr (inr (inr (inl refl)))))))
  has_status Memory h = inr (inr (inr (inr (inr (inr (inr (inr (inl refl))))))))

  -- a page's status is no other
  no_other : {A : Type 0} (page : FailingPage) (n : ℕ) → page_status page.fault ≡ n → (n ≡ 3 → ⊥) → (n ≡ 4 → ⊥) → A
  no_other page n is not_three not_four = elim (at_page page.fault) [ inl three ↦ absurd (not_three (sym is ∙ three)) | inr four ↦ absurd (not_four (sym is ∙ four)) ]

  module _ (reading : OneReading) (one_run : OneRun) (no_fault : RunsHaveNoFault) where
    -- a document has no fault
    not_both : (bytes : List ℕ) (P : Reading → List PageValue → Type 0) (fault : DocFault) → HoldsOfDocument g bytes P → IsFirstFault g.res bytes fault → ⊥
    not_both bytes P fault run first = no_fault g bytes run.0 run.1 fault run.2 first

    abbrev IsRefused : EndingValue → List ℕ → Type 0
    IsRefused e bytes = (fault : DocFault) → IsFirstFault g.res bytes fault → IsAmong (status_of e) (2 ∷ 6 ∷ 9 ∷ [])

    pub refused_by : (e : EndingValue) → Ends e → HoldsOfInput known (IsRefused e)
    refused_by Usage h = absurd h
    refused_by (Document fault) h = of_all (IsRefused (Document fault)) known (λ bytes f first. inl refl)
    refused_by (Page page) h =
        let P : Reading → List PageValue → Type 0 = λ _. Stopped old new page in
        of_each (λ bytes. HoldsOfDocument g bytes P) (IsRefused (Page page)) known (λ bytes run f first. absurd (not_both bytes P f run first)) h
    refused_by (Source page) h =
        let P : Reading → List PageValue → Type 0 = WroteBefore old new page in
        of_each (λ bytes. HoldsOfDocument g bytes P) (IsRefused (Source page)) known (λ bytes run f first. absurd (not_both bytes P f run first)) h.0
    refused_by Input h = of_all (IsRefused Input) known (λ bytes f first. inr (inl refl))
    refused_by (Output page) h =
        let P : Reading → List PageValue → Type 0 = λ _. WrotePrefix old new page in
        of_each (λ bytes. HoldsOfDocument g bytes P) (IsRefused (Output page)) known (λ bytes run f first. absurd (not_both bytes P f run first)) h.0
    refused_by Written h =
        let P : Reading → List PageValue → Type 0 = Wrote old new in
        of_each (λ bytes. HoldsOfDocument g bytes P) (IsRefused Written) known (λ bytes run f first. absurd (not_both bytes P f run first)) h
    refused_by Notes h =
        let P : Reading → List PageValue → Type 0 = Wrote old new in
        of_each (λ bytes. HoldsOfDocument g bytes P) (IsRefused Notes) known (λ bytes run f first. absurd (not_both bytes P f run first)) h
    refused_by Memory h = of_all (IsRefused Memory) known (λ bytes f first. inr (inr (inl refl)))

    module _ (files : FileTable) (library : g.library ≡ Some files) where
      abbrev IsStopped : EndingValue → List ℕ → Type 0
      IsStopped e bytes = (r : Reading) (values : List PageValue) (page : FailingPage) → IsRun g bytes r values → run_fault values ≡ Some page
          → IsAmong (status_of e) (page_status page.fault ∷ 5 ∷ 6 ∷ 7 ∷ 9 ∷ [])

      pub stopped_by : (e : EndingValue) → Ends e → HoldsOfInput known (IsStopped e)
      stopped_by Usage h = absurd h
      stopped_by (Document fault) h =
          of_each (λ bytes. IsFirstFault g.res bytes fault) (IsStopped (Document fault)) known
          (λ bytes first r values page run is. absurd (no_fault g bytes r values fault run first)) h.0
      stopped_by (Page own) h =
          of_each (λ bytes. HoldsOfDocument g bytes (λ _. Stopped old new own)) (IsStopped (Page own)) known
          (λ bytes run r values page other is.
          let same : own ≡ page = ends_once reading one_run g files library bytes run.0 r run.1 values own page run.2 other run.3.fails is in
          inl (ap (λ (p : FailingPage). page_status p.fault) same)) h
      stopped_by (Source n) h = of_all (IsStopped (Source n)) known (λ bytes r values page run is. inr (inl refl))
      stopped_by Input h = of_all (IsStopped Input) known (λ bytes r values page run is. inr (inr (inl refl)))
      stopped_by (Output n) h = of_all (IsStopped (Output n)) known (λ bytes r values page run is. inr (inr (inr (inl refl))))
      stopped_by Written h =
          of_each (λ bytes. HoldsOfDocument g bytes (Wrote old new)) (IsStopped Written) known
          (λ bytes run r values page other is.
          let none : run_fault values ≡ None =
          all_good reading one_run g files library bytes run.0 r run.1 values (record { run = run.2; all = run.3.all }) run.3.good other in
          let bad : Some page ≡ None = sym is ∙ none in absurd cc) h
      stopped_by Notes h =
          of_each (λ bytes. HoldsOfDocument g bytes (Wrote old new)) (IsStopped Notes) known
          (λ bytes run r values page other is.
          let none : run_fault values ≡ None =
          all_good reading one_run g files library bytes run.0 r run.1 values (record { run = run.2; all = run.3.all }) run.3.good other in
          let bad : Some page ≡ None = sym is ∙ none in absurd cc) h
      stopped_by Memory h = of_all (IsStopped Memory) known (λ bytes r values page run is. inr (inr (inr (inr (inl refl)))))

      abbrev IsWritten : EndingValue → List ℕ → Type 0
      IsWritten e = GoodRunIsWritten g (status_of e)

      pub whole_by : (InputFailed → ⊥) → (SourceFailed → ⊥) → (OutputFailed → ⊥) → (e : EndingValue) → Ends e → HoldsOfInput known (IsWritten e)
      whole_by i s o Usage h = absurd h
      whole_by i s o (Document fault) h =
          of_each (λ bytes. IsFirstFault g.res bytes fault) (IsWritten (Document fault)) known
          (λ bytes first r values whole is. absurd (no_fault g bytes r values fault whole.run first)) h.0
      whole_by i s o (Page own) h =
          of_each (λ bytes. HoldsOfDocument g bytes (λ _. Stopped old new own)) (IsWritten (Page own)) known
          (λ bytes run r values whole is.
          let none : run_fault run.1 ≡ None = all_good reading one_run g files library bytes r run.0 values run.1 whole is run.2 in
          let bad : Some own ≡ None = sym run.3.fails ∙ none in absurd cc) h
      whole_by i s o (Source n) h = of_all (IsWritten (Source n)) known (λ bytes r values whole is. absurd (s h.1))
      whole_by i s o Input h = of_all (IsWritten Input) known (λ bytes r values whole is. absurd (i h.0))
      whole_by i s o (Output n) h = of_all (IsWritten (Output n)) known (λ bytes r values whole is. absurd (o h.1))
      whole_by i s o Written h = of_all (IsWritten Written) known (λ bytes r values whole is. inl refl)
      whole_by i s o Notes h = of_all (IsWritten Notes) known (λ bytes r values whole is. inr (inl refl))
      whole_by i s o Memory h = of_all (IsWritten Memory) known (λ bytes r values whole is. inr (inr (inl refl)))

      not_eight : (status : ℕ) → (status ≡ 8 → ⊥) → IsAmong status (0 ∷ 8 ∷ 9 ∷ []) → IsAmong status (0 ∷ 9 ∷ [])
      not_eight status not (inl is) = inl is
      not_eight status not (inr (inl is)) = absurd (not is)
      not_eight status not (inr (inr (inl is))) = inr (inl is)
      not_eight status not (inr (inr (inr none))) = absurd none

      pub complete_by : (InputFailed → ⊥) → (SourceFailed → ⊥) → (OutputFailed → ⊥) → (e : EndingValue) → (status_of e ≡ 8 → ⊥) → Ends e → HoldsOfInput known (GoodRunIsWhole g (status_of e))
      complete_by i s o e n h =
          of_each (IsWritten e) (GoodRunIsWhole g (status_of e)) known
          (λ bytes written r values whole is. not_eight (status_of e) n (written r values whole is)) (whole_by i s o e h)

  -- ---- what a status has

  abbrev HasFault : List ℕ → Type 0
  HasFault bytes = (fault : DocFault) × IsFirstFault g.res bytes fault

  pub document_for_sample : (e : EndingValue) → status_of e ≡ 2 → Ends e → HoldsOfInput known HasFault × OutputKept
  document_for_sample Written is h = cc
  document_for_sample Usage is h = cc
  document_for_sample (Document fault) is h = (of_each (λ bytes. IsFirstFault g.res bytes fault) HasFault known (λ bytes first. (fault, first)) h.0, h.1)
  document_for_sample (Page page) is h = no_other page 2 is (λ three. cc) (λ four. cc)
  document_for_sample (Source page) is h = cc
  document_for_sample Input is h = cc
  document_for_sample (Output page) is h = cc
  document_for_sample Notes is h = cc
  document_for_sample Memory is h = cc

  abbrev HasPage : ℕ → List ℕ → Type 0
  HasPage status bytes = (page : FailingPage) × (status ≡ page_status page.fault) × HoldsOfDocument g bytes (λ _. Stopped old new page)

  not_page : {A : Type 0} (n : ℕ) → (n ≡ 3 → ⊥) → (n ≡ 4 → ⊥) → IsAmong n (3 ∷ 4 ∷ []) → A
  not_page n not_three not_four (inl three) = absurd (not_three three)
  not_page n not_three not_four (inr (inl four)) = absurd (not_four four)
  not_page n not_three not_four (inr (inr none)) = absurd none

  pub page_by : (e : EndingValue) → IsAmong (status_of e) (3 ∷ 4 ∷ []) → Ends e → HoldsOfInput known (HasPage (status_of e))
  page_by Written is h = not_page 0 (λ three. cc) (λ four. cc) is
  page_by Usage is h = not_page 1 (λ three. cc) (λ four. cc) is
  page_by (Document fault) is h = not_page 2 (λ three. cc) (λ four. cc) is
  page_by (Page page) is h =
      of_each (λ bytes. HoldsOfDocument g bytes (λ _. Stopped old new page)) (HasPage (page_status page.fault)) known (λ bytes run. (page, refl, run)) h
  page_by (Source page) is h = not_page 5 (λ three. cc) (λ four. cc) is
  page_by Input is h = not_page 6 (λ three. cc) (λ four. cc) is
  page_by (Output page) is h = not_page 7 (λ three. cc) (λ four. cc) is
  page_by Notes is h = not_page 8 (λ three. cc) (λ four. cc) is
  page_by Memory is h = not_page 9 (λ three. cc) (λ four. cc) is

  abbrev HasBefore : List ℕ → Type 0
  HasBefore bytes = (page : ℕ) × HoldsOfDocument g bytes (WroteBefore old new page)

  pub source_by : (e : EndingValue) → status_of e ≡ 5 → Ends e → HoldsOfInput known HasBefore × SourceFailed
  source_by Written is h = cc
  source_by Usage is h = cc
  source_by (Document fault) is h = cc
  source_by (Page page) is h = no_other page 5 is (λ three. cc) (λ four. cc)
  source_by (Source page) is h = (of_each (λ bytes. HoldsOfDocument g bytes (WroteBefore old new page)) HasBefore known (λ bytes run. (page, run)) h.0, h.1)
  source_by Input is h = cc
  source_by (Output page) is h = cc
  source_by Notes is h = cc
  source_by Memory is h = cc

  pub input_by : (e : EndingValue) → status_of e ≡ 6 → Ends e → InputFailed × OutputKept
  input_by Written is h = cc
  input_by Usage is h = cc
  input_by (Document fault) is h = cc
  input_by (Page page) is h = no_other page 6 is (λ three. cc) (λ four. cc)
  input_by (Source page) is h = cc
  input_by Input is h = h
  input_by (Output page) is h = cc
  input_by Notes is h = cc
  input_by Memory is h = cc

  abbrev HasPrefix : List ℕ → Type 0
  HasPrefix bytes = (page : ℕ) × HoldsOfDocument g bytes (λ _. WrotePrefix old new page)

  pub output_by : (e : EndingValue) → status_of e ≡ 7 → Ends e → HoldsOfInput known HasPrefix × OutputFailed
  output_by Written is h = cc
  output_by Usage is h = cc
  output_by (Document fault) is h = cc
  output_by (Page page) is h = no_other page 7 is (λ three. cc) (λ four. cc)
  output_by (Source page) is h = cc
  output_by Input is h = cc
  output_by (Output page) is h = (of_each (λ bytes. HoldsOfDocument g bytes (λ _. WrotePrefix old new page)) HasPrefix known (λ bytes run. (page, run)) h.0, h.1)
  output_by Notes is h = cc
  output_by Memory is h = cc

  not_all : {A : Type 0} (n : ℕ) → (n ≡ 0 → ⊥) → (n ≡ 8 → ⊥) → WroteAll n → A
  not_all n not_zero not_eight (inl is) = absurd (not_zero is)
  not_all n not_zero not_eight (inr is) = absurd (not_eight is)

  pub written_by : (e : EndingValue) → WroteAll (status_of e) → Ends e → HoldsOfInput known (λ bytes. HoldsOfDocument g bytes (Wrote old new))
  written_by Written is h = h
  written_by Usage is h = not_all 1 (λ zero. cc) (λ eight. cc) is
  written_by (Document fault) is h = not_all 2 (λ zero. cc) (λ eight. cc) is
  written_by (Page page) is h = elim is [ inl zero ↦ no_other page 0 zero (λ three. cc) (λ four. cc) | inr eight ↦ no_other page 8 eight (λ three. cc) (λ four. cc) ]
  written_by (Source page) is h = not_all 5 (λ zero. cc) (λ eight. cc) is
  written_by Input is h = not_all 6 (λ zero. cc) (λ eight. cc) is
  written_by (Output page) is h = not_all 7 (λ zero. cc) (λ eight. cc) is
  written_by Notes is h = h
  written_by Memory is h = not_all 9 (λ zero. cc) (λ eight. cc) is

  pub memory_by : (e : EndingValue) → status_of e ≡ 9 → Ends e → (OutputKept ⊎ HoldsOfInput known (λ bytes. HoldsOfDocument g bytes (λ _. WroteSome old new)))
  memory_by Written is h = cc
  memory_by Usage is h = cc
  memory_by (Document fault) is h = cc
  memory_by (Page page) is h = no_other page 9 is (λ three. cc) (λ four. cc)
  memory_by (Source page) is h = cc
  memory_by Input is h = cc
  memory_by (Output page) is h = cc
  memory_by Notes is h = cc
  memory_by Memory is h = h

  -- what the line says is so
  pub placed_by : (e : EndingValue) → Ends e → IsPlaced g e known old new
  placed_by (Document fault) h = h.0
  placed_by (Page page) h = h
  placed_by (Source page) h = h.0
  placed_by (Output page) h = h.0
  placed_by Written h = tt
  placed_by Usage h = tt
  placed_by Input h = tt
  placed_by Notes h = tt
  placed_by Memory h = tt
