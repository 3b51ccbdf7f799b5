-- What holds of a job that ended so is what holds of a run of its document alone.
use Rattle.std.proofs.Common.{◌≡◌, inl, inr, ℕ, List, [], ◌∷◌, Option, None, refl, sym, subst, ◌∙◌}
use Rattle.outside.specs.Counts.{Rose}
use Rattle.outside.specs.Library.{FileTable}
use Rattle.page_index.specs.Document.{IsDocument, Reading}
use Rattle.page_draw.specs.Values.{PageValue}
use Rattle.command_line.specs.declared.settings.Settings.{Settings}
use Rattle.dvi_run.specs.Endings.{EndingValue, Written, Usage, Document, Page, Source, Input, Output, Notes, Memory, EndsPages, HoldsOfDocument, IsAmong, IsEnding, Stopped, Wrote, WroteBefore, WrotePrefix, WroteSome, status_of}
use Rattle.dvi_run.specs.Laws.{OneReading, OneRun, RunsHaveNoFault}
use Rattle.dvi_run.specs.Looked.{IsIdle}
use Rattle.dvi_run.specs.Outside.{FaultsRose}
use Rattle.dvi_run.specs.Pages.{AreValues, IsRun, Setup, setup_with}
use Rattle.dvi_run.specs.Reading.{IsRead, WasRead}
use Rattle.dvi_run.specs.Sampled.{FailedForSample, document_for_sample, library_for_sample}
use Rattle.dvi_run.specs.Together.{SomeUsed, SourceRose}
use Rattle.dvi_run.proofs.InputRead.{of_read}
use Rattle.dvi_run.proofs.PromisesKept.{RunEnds, caused_at, cut_short_at, written_at}
use Rattle.job_spool.specs.Caches.{Drawing}
use Rattle.job_spool.specs.Jobs.{JobChange}
use Rattle.job_spool.specs.Promises.{IsUnread, KeepsJob, run_of}

-- ---- which statuses there are

abbrev pub Answers : ℕ → Type 0
Answers status = IsAmong status (0 ∷ 2 ∷ 3 ∷ 4 ∷ 5 ∷ 6 ∷ 7 ∷ 9 ∷ [])

pub drawn_answers : (n : ℕ) → IsAmong n (0 ∷ 3 ∷ 4 ∷ 5 ∷ 7 ∷ 9 ∷ []) → Answers n
drawn_answers n (inl is) = inl is
drawn_answers n (inr (inl is)) = inr (inr (inl is))
drawn_answers n (inr (inr (inl is))) = inr (inr (inr (inl is)))
drawn_answers n (inr (inr (inr (inl is)))) = inr (inr (inr (inr (inl is))))
drawn_answers n (inr (inr (inr (inr (inl is))))) = inr (inr (inr (inr (inr (inr (inl is))))))
drawn_answers n (inr (inr (inr (inr (inr (inl is)))))) = inr (inr (inr (inr (inr (inr (inr (inl is)))))))
drawn_answers n (inr (inr (inr (inr (inr (inr none)))))) = absurd none

pub memory_answers : (n : ℕ) → n ≡ 9 → Answers n
memory_answers n is = inr (inr (inr (inr (inr (inr (inr (inl is)))))))

not_notes : (n : ℕ) → Answers n → n ≡ 8 → ⊥
not_notes n (inl is) eight = let e : 0 ≡ 8 = sym is ∙ eight in cc
not_notes n (inr (inl is)) eight = let e : 2 ≡ 8 = sym is ∙ eight in cc
not_notes n (inr (inr (inl is))) eight = let e : 3 ≡ 8 = sym is ∙ eight in cc
not_notes n (inr (inr (inr (inl is)))) eight = let e : 4 ≡ 8 = sym is ∙ eight in cc
not_notes n (inr (inr (inr (inr (inl is))))) eight = let e : 5 ≡ 8 = sym is ∙ eight in cc
not_notes n (inr (inr (inr (inr (inr (inl is)))))) eight = let e : 6 ≡ 8 = sym is ∙ eight in cc
not_notes n (inr (inr (inr (inr (inr (inr (inl is))))))) eight = let e : 7 ≡ 8 = sym is ∙ eight in cc
not_notes n (inr (inr (inr (inr (inr (inr (inr (inl is)))))))) eight = let e : 9 ≡ 8 = sym is ∙ eight in cc
not_notes n (inr (inr (inr (inr (inr (inr (inr (inr none)))))))) eight = none

-- ---- how a job ends

module _ (old new : Option (List ℕ)) (O S K I : Type 0) (g : Setup) (known : Option (List ℕ)) where
  -- that has no document
  pub idle_answers : (e : EndingValue) → IsIdle e → IsEnding old new O (Unit {0}) K I g known e → Answers (status_of e)
  idle_answers Written idle h = absurd idle
  idle_answers Usage idle h = absurd h
  idle_answers (Document fault) idle h = inr (inl refl)
  idle_answers (Page page) idle h = absurd idle
  idle_answers (Source page) idle h = absurd idle
  idle_answers Input idle h = inr (inr (inr (inr (inr (inl refl)))))
  idle_answers (Output page) idle h = absurd idle
  idle_answers Notes idle h = absurd idle
  idle_answers Memory idle h = memory_answers 9 refl

  pub unread_answers : (e : EndingValue) → IsIdle e → IsEnding old new O (Unit {0}) K I g known e → IsAmong (status_of e) (2 ∷ 6 ∷ 9 ∷ [])
  unread_answers Written idle h = absurd idle
  unread_answers Usage idle h = absurd h
  unread_answers (Document fault) idle h = inl refl
  unread_answers (Page page) idle h = absurd idle
  unread_answers (Source page) idle h = absurd idle
  unread_answers Input idle h = inr (inl refl)
  unread_answers (Output page) idle h = absurd idle
  unread_answers Notes idle h = absurd idle
  unread_answers Memory idle h = inr (inr (inl refl))

  pub idle_ends : (e : EndingValue) → IsIdle e → IsEnding old new O (Unit {0}) K I g known e → IsEnding old new O S K I g known e
  idle_ends Written idle h = absurd idle
  idle_ends Usage idle h = absurd h
  idle_ends (Document fault) idle h = h
  idle_ends (Page page) idle h = absurd idle
  idle_ends (Source page) idle h = absurd idle
  idle_ends Input idle h = h
  idle_ends (Output page) idle h = absurd idle
  idle_ends Notes idle h = absurd idle
  idle_ends Memory idle h = h

  -- and that has one
  module _ (rest : Option (List ℕ)) (bytes : List ℕ) (read : IsRead known rest bytes) (reading : Reading) (document : IsDocument g.res bytes reading) (values : List PageValue) (are : AreValues g reading values) where
    run : IsRun g bytes reading values
    run = record { document = document; pages = are }

    pub drawn_ends : (e : EndingValue) → EndsPages old new O (Unit {0}) e reading values → (status_of e ≡ 5 → S) → IsEnding old new O S K I g known e
    drawn_ends Written h failed = of_read (λ bs. HoldsOfDocument g bs (Wrote old new)) known rest bytes read (reading, values, run, h)
    drawn_ends Usage h failed = absurd h
    drawn_ends (Document fault) h failed = absurd h
    drawn_ends (Page page) h failed = of_read (λ bs. HoldsOfDocument g bs (λ _. Stopped old new page)) known rest bytes read (reading, values, run, h)
    drawn_ends (Source page) h failed = (of_read (λ bs. HoldsOfDocument g bs (WroteBefore old new page)) known rest bytes read (reading, values, run, h.0), failed refl)
    drawn_ends Input h failed = absurd h
    drawn_ends (Output page) h failed = (of_read (λ bs. HoldsOfDocument g bs (λ _. WrotePrefix old new page)) known rest bytes read (reading, values, run, h.0), h.1)
    drawn_ends Notes h failed = of_read (λ bs. HoldsOfDocument g bs (Wrote old new)) known rest bytes read (reading, values, run, h)
    drawn_ends Memory h failed = inr (of_read (λ bs. HoldsOfDocument g bs (λ _. WroteSome old new)) known rest bytes read (reading, values, run, h))

-- ---- a run of its document alone

module _ {F : Type 0} (settings : Settings) (known : Option FileTable) (drawing : Drawing F) (job : JobChange) (plain : settings.sample ≡ None) where
  abbrev pub UsedFailed : Type 0
  UsedFailed = SomeUsed settings.workers drawing.before drawing.after (SourceRose drawing.sources.faults)

  abbrev InputRose : Type 0
  InputRose = Rose job.input.before.faults job.input.after.faults

  abbrev EndsFor : Option ℕ → EndingValue → Type 0
  EndsFor s e =
      IsEnding job.output.before.bytes job.output.after.bytes (FaultsRose job.output) (FailedForSample s UsedFailed) job.output.Kept (FailedForSample s InputRose) (setup_with (library_for_sample settings.packed s known) settings)
      (document_for_sample s job.input.bytes) e

  abbrev pub JobEnds : EndingValue → Type 0
  JobEnds e =
      IsEnding job.output.before.bytes job.output.after.bytes (FaultsRose job.output) UsedFailed job.output.Kept InputRose (setup_with known settings) job.input.bytes e

  run_ends : (e : EndingValue) → JobEnds e → RunEnds (run_of settings known drawing job) e
  run_ends e ends = subst (λ (s : Option ℕ). EndsFor s e) (sym plain) ends

  pub keeps_job : OneReading → OneRun → RunsHaveNoFault → (e : EndingValue) → Answers job.status → WasRead job.input (IsUnread (run_of settings known drawing job) job.status) → JobEnds e → job.status ≡ status_of e → KeepsJob (run_of settings known drawing job) job.status
  keeps_job reading one no_fault e among read ends is = record {
    answers = among;
    read = read;
    caused = caused_at (run_of settings known drawing job) reading one no_fault e (λ eight. absurd (not_notes job.status among (is ∙ eight))) (run_ends e ends) job.status is;
    written = written_at (run_of settings known drawing job) e (run_ends e ends) job.status is;
    cut_short = cut_short_at (run_of settings known drawing job) e (run_ends e ends) job.status is;
  }
