-- Every end of a run keeps what a run promises.
use Rattle.std.proofs.Common.{◌≡◌, ◌∙◌, inl, inr, ℕ, List, [], ◌∷◌, Option, Some, None, IfSome, refl, sym, subst}
use Rattle.dvi_run.specs.Pages.{Setup}
use Rattle.dvi_run.specs.Endings.{EndingValue, IsAmong, IsEnding, PrintsBy, WroteAll, status_of, statuses}
use Rattle.dvi_run.specs.Laws.{OneReading, OneRun, RunsHaveNoFault}
use Rattle.page_workers.specs.declared.worker.Worker.{Worker}
use Rattle.dvi_run.specs.Sampled.{UsesTheSample}
use Rattle.dvi_run.specs.Outside.{FaultsRose, Run, StreamChange, setup_of}
use Rattle.dvi_run.specs.Promises.{FailingPageIsNamed, FaultIsNamed, GoodRunIsWhole, GoodRunIsWritten, HasFailingPage, InputFailed, StatusIsTrue, IsCutShort, IsNoted, IsWritten, SourceFailed, StoppedAt, document_of}
use Rattle.dvi_run.proofs.Lacking.{untolerated}
use Rattle.dvi_run.proofs.Clauses as end
use Rattle.dvi_run.proofs.Clauses.{of_all, of_each}

-- ---- how it ended

module _ {F : Type 0} (run : Run F) where
  abbrev g : Setup
  g = setup_of run.task

  abbrev known : Option (List ℕ)
  known = document_of run

  abbrev output : StreamChange
  output = run.streams.output

  abbrev old : Option (List ℕ)
  old = output.before.bytes

  abbrev new : Option (List ℕ)
  new = output.after.bytes

  abbrev O : Type 0
  O = FaultsRose output

  abbrev S : Type 0
  S = SourceFailed run

  abbrev I : Type 0
  I = InputFailed run

  abbrev K : Type 0
  K = output.Kept

  -- how the run ended
  abbrev pub RunEnds : EndingValue → Type 0
  RunEnds e = IsEnding run.streams.output.before.bytes run.streams.output.after.bytes (FaultsRose run.streams.output) (SourceFailed run) run.streams.output.Kept (InputFailed run) (setup_of run.task) (document_of run) e

  nothing_by : (e : EndingValue) → RunEnds e → IsAmong (status_of e) (2 ∷ 6 ∷ []) → K
  nothing_by e h (inl two) = (end.document_for_sample old new O S K I g known e two h).1
  nothing_by e h (inr (inl six)) = (end.input_by old new O S K I g known e six h).1
  nothing_by e h (inr (inr none)) = absurd none

  failing : (status : ℕ) (bytes : List ℕ) → StoppedAt g status output bytes → HasFailingPage g status bytes
  failing status bytes at = (at.0, at.1, untolerated g at.2.0 at.2.1 at.0 at.2.2.pages.are at.2.3.fails, (at.2.0, at.2.1, at.2.2, at.2.3.fails))

  written_by : (e : EndingValue) → RunEnds e → IsWritten run (status_of e)
  written_by e h = record { whole = λ is. end.written_by old new O S K I g known e is h }

  cut_short_by : (e : EndingValue) → RunEnds e → IsCutShort run (status_of e)
  cut_short_by e h = record {
    nothing = nothing_by e h;
    stopped = λ is. end.page_by old new O S K I g known e is h;
    before = λ is. (end.source_by old new O S K I g known e is h).0;
    prefix = λ is. (end.output_by old new O S K I g known e is h).0;
    memory = λ is. end.memory_by old new O S K I g known e is h;
  }

  module _ (reading : OneReading) (one_run : OneRun) (no_fault : RunsHaveNoFault) where
    caused_by : (e : EndingValue) → (status_of e ≡ 8 → FaultsRose run.streams.notes) → RunEnds e → StatusIsTrue run (status_of e)
    caused_by e failed h = record {
      answers = end.has_status old new O S K I g known e h;
      document = λ is. (end.document_for_sample old new O S K I g known e is h).0;
      refused = end.refused_by old new O S K I g known reading one_run no_fault e h;
      page = λ is. of_each (StoppedAt g (status_of e) output) (HasFailingPage g (status_of e)) known (failing (status_of e)) (end.page_by old new O S K I g known e is h);
      stopped = λ files library. end.stopped_by old new O S K I g known reading one_run no_fault files library e h;
      source = λ is. (end.source_by old new O S K I g known e is h).1;
      input = λ is. (end.input_by old new O S K I g known e is h).0;
      output = λ is. (end.output_by old new O S K I g known e is h).1;
      notes = failed;
      whole = λ files library i s o. end.whole_by old new O S K I g known reading one_run no_fault files library i s o e h;
      complete = λ files library i s o n. end.complete_by old new O S K I g known reading one_run no_fault files library i s o e (λ eight. n (failed eight)) h;
    }

    pub caused_at : (e : EndingValue) → (status_of e ≡ 8 → FaultsRose run.streams.notes) → RunEnds e → (status : ℕ) → status ≡ status_of e → StatusIsTrue run status
    caused_at e failed h status is = subst (λ (n : ℕ). StatusIsTrue run n) (sym is) (caused_by e failed h)

  pub written_at : (e : EndingValue) → RunEnds e → (status : ℕ) → status ≡ status_of e → IsWritten run status
  written_at e h status is = subst (λ (n : ℕ). IsWritten run n) (sym is) (written_by e h)

  pub cut_short_at : (e : EndingValue) → RunEnds e → (status : ℕ) → status ≡ status_of e → IsCutShort run status
  cut_short_at e h status is = subst (λ (n : ℕ). IsCutShort run n) (sym is) (cut_short_by e h)

  pub noted_at : (e : EndingValue) → RunEnds e → (report : List ℕ)
      → PrintsBy e run.streams.notes.before.bytes run.streams.notes.after.bytes run.streams.notes.before.faults run.streams.notes.after.faults report → IsNoted run e report
  noted_at e h report prints = record { placed = end.placed_by old new O S K I g known e h; printed = prints }

-- ---- a run that ends with 9 before anything was read

not_early : IsAmong 9 (2 ∷ 6 ∷ []) → ⊥
not_early (inl is) = cc
not_early (inr (inl is)) = cc
not_early (inr (inr none)) = none

not_page : IsAmong 9 (3 ∷ 4 ∷ []) → ⊥
not_page (inl is) = cc
not_page (inr (inl is)) = cc
not_page (inr (inr none)) = none

not_all : WroteAll 9 → ⊥
not_all (inl is) = cc
not_all (inr is) = cc

module _ {F : Type 0} (run : Run F) where
  pub idle_wrote : IsWritten run 9
  idle_wrote = record { whole = λ is. absurd (not_all is) }

  pub idle_cut_short : run.streams.output.Kept → IsCutShort run 9
  idle_cut_short kept = record {
    nothing = λ is. absurd (not_early is);
    stopped = λ is. absurd (not_page is);
    before = λ is. cc;
    prefix = λ is. cc;
    memory = λ is. inl kept;
  }

  pub idle_caused : StatusIsTrue run 9
  idle_caused = record {
    answers = inr (inr (inr (inr (inr (inr (inr (inr (inl refl))))))));
    document = λ is. cc;
    refused = of_all (FaultIsNamed (setup_of run.task) 9) (document_of run) (λ bytes fault first. inr (inr (inl refl)));
    page = λ is. absurd (not_page is);
    stopped = λ files known. of_all (FailingPageIsNamed (setup_of run.task) 9) (document_of run) (λ bytes r values page run is. inr (inr (inr (inr (inl refl)))));
    source = λ is. cc;
    input = λ is. cc;
    output = λ is. cc;
    notes = λ is. cc;
    whole = λ files known i s o. of_all (GoodRunIsWritten (setup_of run.task) 9) (document_of run) (λ bytes r values whole is. inr (inr (inl refl)));
    complete = λ files known i s o n. of_all (GoodRunIsWhole (setup_of run.task) 9) (document_of run) (λ bytes r values whole is. inr (inl refl));
  }

pub idle_sample : {F : Type 0} (sample : Option ℕ) (Kept : Type 0) (ws : List (Worker F)) → Kept → IfSome sample (λ pages. UsesTheSample 9 Kept ws ws)
idle_sample None Kept ws kept = tt
idle_sample (Some pages) Kept ws kept = record { input = kept; sources = λ k d. refl; answers = inr (inr (inr (inr (inr (inl refl))))) }

-- ---- a run of words that give settings

pub not_usage : (n : ℕ) → IsAmong n statuses → n ≡ 1 → ⊥
not_usage n (inl is) one = let e : 0 ≡ 1 = sym is ∙ one in cc
not_usage n (inr (inl is)) one = let e : 2 ≡ 1 = sym is ∙ one in cc
not_usage n (inr (inr (inl is))) one = let e : 3 ≡ 1 = sym is ∙ one in cc
not_usage n (inr (inr (inr (inl is)))) one = let e : 4 ≡ 1 = sym is ∙ one in cc
not_usage n (inr (inr (inr (inr (inl is))))) one = let e : 5 ≡ 1 = sym is ∙ one in cc
not_usage n (inr (inr (inr (inr (inr (inl is)))))) one = let e : 6 ≡ 1 = sym is ∙ one in cc
not_usage n (inr (inr (inr (inr (inr (inr (inl is))))))) one = let e : 7 ≡ 1 = sym is ∙ one in cc
not_usage n (inr (inr (inr (inr (inr (inr (inr (inl is)))))))) one = let e : 8 ≡ 1 = sym is ∙ one in cc
not_usage n (inr (inr (inr (inr (inr (inr (inr (inr (inl is))))))))) one = let e : 9 ≡ 1 = sym is ∙ one in cc
not_usage n (inr (inr (inr (inr (inr (inr (inr (inr (inr none))))))))) one = none
