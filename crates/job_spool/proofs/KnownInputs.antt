-- Where the bytes of a job's input are known, what is promised of those that reads gave holds of these.
use Rattle.std.proofs.Common.{◌≡◌, ◌∙◌, ◌⊎◌, inl, inr, ℕ, ◌<◌, List, [], ◌∷◌, Option, Some, None, refl, sym, subst}
use Rattle.std.specs.Prelude.{MatchOption}
use Rattle.outside.specs.Library.{FileTable}
use Rattle.page_index.specs.Document.{IsDocument}
use Rattle.page_index.specs.Pages.{Indexed}
use Rattle.command_line.specs.declared.settings.Settings.{Settings}
use Rattle.dvi_run.specs.Endings.{HoldsOfDocument, IsAmong, Wrote, WroteAll, WroteSome, page_status}
use Rattle.dvi_run.specs.KnownInputs.{of_known_input}
use Rattle.dvi_run.specs.Outside.{Run, setup_of}
use Rattle.dvi_run.specs.Pages.{FailingPage, Setup}
use Rattle.dvi_run.specs.Promises.{FailingPageIsNamed, FaultIsNamed, GoodRunIsWhole, GoodRunIsWritten, HasFailingPage, HasFault, InputFailed, IsCutShort, IsWritten, StatusIsTrue, StoppedAt, StoppedBefore, StoppedIn, document_of}
use Rattle.dvi_run.specs.Reading.{HoldsOfInput, InputChange, IsAllRead, ReadsGave, WasRead, read_since}
use Rattle.dvi_run.specs.Sampled.{document_for_sample}
use Rattle.dvi_run.proofs.Clauses.{at_page, of_all}
use Rattle.dvi_run.proofs.InputRead.{all_read, of_known, of_read}
use Rattle.job_spool.specs.Caches.{Drawing}
use Rattle.job_spool.specs.Jobs.{JobChange}
use Rattle.job_spool.specs.KnownInputs.{HoldsOfKnownInput}
use Rattle.job_spool.specs.Promises.{HasNoDocument, IsDocumentOf, IsUnread, KeepsJob, KeepsSpool, run_of}
use Rattle.job_spool.specs.Sharing.{document_at}

-- ---- statuses

neither : (n k : ℕ) → n ≡ k → ¬ (k ≡ 6) → ¬ (k ≡ 9) → ¬ (IsAmong n (6 ∷ 9 ∷ []))
neither n k is not_6 not_9 (inl h) = not_6 (sym is ∙ h)
neither n k is not_6 not_9 (inr (inl h)) = not_9 (sym is ∙ h)
neither n k is not_6 not_9 (inr (inr h)) = h

-- the statuses of jobs that read their input are neither 6 nor 9
read_all_of : (n : ℕ) → IsAmong n (0 ∷ 2 ∷ 3 ∷ 4 ∷ 5 ∷ 7 ∷ []) → ¬ (IsAmong n (6 ∷ 9 ∷ []))
read_all_of n (inl h) = neither n 0 h (λ e. cc) (λ e. cc)
read_all_of n (inr (inl h)) = neither n 2 h (λ e. cc) (λ e. cc)
read_all_of n (inr (inr (inl h))) = neither n 3 h (λ e. cc) (λ e. cc)
read_all_of n (inr (inr (inr (inl h)))) = neither n 4 h (λ e. cc) (λ e. cc)
read_all_of n (inr (inr (inr (inr (inl h))))) = neither n 5 h (λ e. cc) (λ e. cc)
read_all_of n (inr (inr (inr (inr (inr (inl h)))))) = neither n 7 h (λ e. cc) (λ e. cc)
read_all_of n (inr (inr (inr (inr (inr (inr h)))))) = absurd h

not_at_page : (n : ℕ) → IsAmong n (3 ∷ 4 ∷ []) → ¬ (IsAmong n (6 ∷ 9 ∷ []))
not_at_page n (inl h) = neither n 3 h (λ e. cc) (λ e. cc)
not_at_page n (inr (inl h)) = neither n 4 h (λ e. cc) (λ e. cc)
not_at_page n (inr (inr h)) = absurd h

not_all : (n : ℕ) → WroteAll n → ¬ (IsAmong n (6 ∷ 9 ∷ []))
not_all n (inl h) = neither n 0 h (λ e. cc) (λ e. cc)
not_all n (inr h) = neither n 8 h (λ e. cc) (λ e. cc)

-- ---- the document

abbrev Gave : InputChange → Type 0
Gave input = (bytes : List ℕ) × ReadsGave input bytes

-- by whether it is a sample
of_document : (o : Option ℕ) (input : InputChange) (P : List ℕ → Type 0) → input.bytes ≡ read_since input.before.taken input.after.taken → Gave input
    → HoldsOfInput (document_for_sample o input.bytes) P → HoldsOfInput (document_for_sample o input.before.left) P
of_document None input P is gave h = of_known P input gave.0 gave.1 (subst (λ (k : Option (List ℕ)). HoldsOfInput k P) is h)
of_document (Some pages) input P is gave h = h

-- it was read so whatever is said of it
gave_still : (input : InputChange) (other : Option (List ℕ)) (bytes : List ℕ) → ReadsGave input bytes → ReadsGave (record input { bytes = other }) bytes
gave_still input other bytes gave = record { grew = gave.grew; known = gave.known; ends = gave.ends }

read_still : {F : Type 0} (run : Run F) (status : ℕ) → WasRead run.streams.input (IsUnread run status) → WasRead (of_known_input run).streams.input (IsUnread (of_known_input run) status)
read_still run status (inl gave) = inl (gave.0, gave_still run.streams.input run.streams.input.before.left gave.0 gave.1)
read_still run status (inr u) = inr (record { answers = u.answers; output = u.output; history = u.history })

-- ---- the input was read

module _ {F : Type 0} (run : Run F) (status : ℕ) (is : run.streams.input.bytes ≡ read_since run.streams.input.before.taken run.streams.input.after.taken) (gave : Gave run.streams.input) where
  abbrev g : Setup
  g = setup_of run.task

  abbrev old : Option (List ℕ)
  old = run.streams.output.before.bytes

  abbrev new : Option (List ℕ)
  new = run.streams.output.after.bytes

  abbrev there : Run F
  there = of_known_input run

  to_known : (P : List ℕ → Type 0) → HoldsOfInput (document_of run) P → HoldsOfInput (document_of there) P
  to_known P h = of_document run.task.settings.sample run.streams.input P is gave h

  caused_read : StatusIsTrue run status → StatusIsTrue there status
  caused_read c = record {
    answers = c.answers;
    document = λ two. to_known (HasFault g) (c.document two);
    refused = to_known (FaultIsNamed g status) c.refused;
    page = λ at. to_known (HasFailingPage g status) (c.page at);
    stopped = λ files library. to_known (FailingPageIsNamed g status) (c.stopped files library);
    source = c.source;
    input = c.input;
    output = c.output;
    notes = c.notes;
    whole = λ files library i s o. to_known (GoodRunIsWritten g status) (c.whole files library i s o);
    complete = λ files library i s o n. to_known (GoodRunIsWhole g status) (c.complete files library i s o n);
  }

  written_read : IsWritten run status → IsWritten there status
  written_read w = record { whole = λ all. to_known (λ bytes. HoldsOfDocument g bytes (Wrote old new)) (w.whole all) }

  cut_short_read : IsCutShort run status → IsCutShort there status
  cut_short_read w = record {
    nothing = w.nothing;
    stopped = λ at. to_known (StoppedAt g status run.streams.output) (w.stopped at);
    before = λ five. to_known (StoppedBefore g run.streams.output) (w.before five);
    prefix = λ seven. to_known (StoppedIn g run.streams.output) (w.prefix seven);
    memory = λ nine. elim (w.memory nine) [ inl kept ↦ inl kept | inr some ↦ inr (to_known (λ bytes. HoldsOfDocument g bytes (λ _. WroteSome old new)) some) ];
  }

-- ---- it was not, and nothing was done

module _ {F : Type 0} (run : Run F) (status : ℕ) (answers : IsAmong status (6 ∷ 9 ∷ [])) where
  abbrev given : Setup
  given = setup_of run.task

  abbrev same : Run F
  same = of_known_input run

  caused_unread : StatusIsTrue run status → StatusIsTrue same status
  caused_unread c = record {
    answers = c.answers;
    document = λ two. absurd (neither status 2 two (λ e. cc) (λ e. cc) answers);
    refused = of_all (FaultIsNamed given status) (document_of same) (λ bytes fault first. inr answers);
    page = λ at. absurd (not_at_page status at answers);
    stopped = λ files library. of_all (FailingPageIsNamed given status) (document_of same) (λ bytes reading values page are fails. stopped_so page answers);
    source = c.source;
    input = c.input;
    output = c.output;
    notes = c.notes;
    whole = λ files library i s o. of_all (GoodRunIsWritten given status) (document_of same) (λ bytes reading values are good. written_so i answers);
    complete = λ files library i s o n. of_all (GoodRunIsWhole given status) (document_of same) (λ bytes reading values are good. whole_so i answers);
  }
    where
      stopped_so : (page : FailingPage) → IsAmong status (6 ∷ 9 ∷ []) → IsAmong status (page_status page.fault ∷ 5 ∷ 6 ∷ 7 ∷ 9 ∷ [])
      stopped_so page (inl h) = inr (inr (inl h))
      stopped_so page (inr (inl h)) = inr (inr (inr (inr (inl h))))
      stopped_so page (inr (inr h)) = absurd h

      written_so : ¬ (InputFailed run) → IsAmong status (6 ∷ 9 ∷ []) → IsAmong status (0 ∷ 8 ∷ 9 ∷ [])
      written_so i (inl h) = absurd (i (c.input h))
      written_so i (inr (inl h)) = inr (inr (inl h))
      written_so i (inr (inr h)) = absurd h

      whole_so : ¬ (InputFailed run) → IsAmong status (6 ∷ 9 ∷ []) → IsAmong status (0 ∷ 9 ∷ [])
      whole_so i (inl h) = absurd (i (c.input h))
      whole_so i (inr (inl h)) = inr (inl h)
      whole_so i (inr (inr h)) = absurd h

  written_unread : IsWritten same status
  written_unread = record { whole = λ all. absurd (not_all status all answers) }

  cut_short_unread : run.streams.output.Kept → IsCutShort same status
  cut_short_unread kept = record {
    nothing = λ early. kept;
    stopped = λ at. absurd (not_at_page status at answers);
    before = λ five. absurd (neither status 5 five (λ e. cc) (λ e. cc) answers);
    prefix = λ seven. absurd (neither status 7 seven (λ e. cc) (λ e. cc) answers);
    memory = λ nine. inl kept;
  }

-- ---- a job

job_of_known : {F : Type 0} (run : Run F) (status : ℕ) → run.streams.input.bytes ≡ read_since run.streams.input.before.taken run.streams.input.after.taken → KeepsJob run status → KeepsJob (of_known_input run) status
job_of_known run status is kept = elim kept.read [
  | inl gave ↦ record {
    answers = kept.answers;
    read = read_still run status kept.read;
    caused = caused_read run status is gave kept.caused;
    written = written_read run status is gave kept.written;
    cut_short = cut_short_read run status is gave kept.cut_short;
  }
  | inr u ↦ record {
    answers = kept.answers;
    read = read_still run status kept.read;
    caused = caused_unread run status u.answers kept.caused;
    written = written_unread run status u.answers;
    cut_short = cut_short_unread run status u.answers u.output;
  }
]

read_whole : (input : InputChange) (status : ℕ) (Unread : Type 0) → (Unread → IsAmong status (6 ∷ 9 ∷ [])) → WasRead input Unread → IsAmong status (0 ∷ 2 ∷ 3 ∷ 4 ∷ 5 ∷ 7 ∷ []) → IsAllRead input.before.left input.after.left
read_whole input status U answers (inl gave) among = all_read input.before.left input.after.left gave.0 gave.1.known
read_whole input status U answers (inr u) among = absurd (read_all_of status among (answers u))

found : (o : Option Indexed) (A : Type 0) (B : Indexed → Type 0) (x : Indexed) → o ≡ Some x → MatchOption o A B → B x
found o A B x is m = subst (λ (p : Option Indexed). MatchOption p A B) is m

document_of_known : (res : ℕ) (job : JobChange) (x : Indexed) → IsDocumentOf res job x → HoldsOfInput job.input.before.left (λ bytes. IsDocument res bytes x.reading)
document_of_known res job x is =
    let gave = is.1 in
    of_read (λ bytes. IsDocument res bytes x.reading) job.input.before.left job.input.after.left gave.0 gave.1.known gave.2

-- ---- all jobs

pub of_known_inputs : {F : Type 0} (settings : Settings) (known : Option FileTable) (drawing : Drawing F) (kept : KeepsSpool settings known drawing) (k : ℕ) → k < drawing.count
    → (drawing.jobs k).input.bytes ≡ read_since (drawing.jobs k).input.before.taken (drawing.jobs k).input.after.taken → HoldsOfKnownInput settings known drawing kept.documents k
of_known_inputs settings known drawing kept k lt is =
    let job = drawing.jobs k in
    let run = run_of settings known drawing job in
    let one : KeepsJob run job.status = kept.jobs k lt in
    record {
      alone = job_of_known run job.status is one;
      read = read_whole job.input job.status (IsUnread run job.status) (λ u. u.answers) one.read;
      document = λ x at. document_of_known settings.res job x (found (document_at kept.documents k) (HasNoDocument job) (IsDocumentOf settings.res job) x at (kept.read k lt));
    }
