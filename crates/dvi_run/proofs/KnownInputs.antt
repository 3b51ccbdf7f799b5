-- Where the bytes of an input are known, what is promised of those that reads gave holds of these.
use Rattle.std.proofs.Common.{◌≡◌, ◌∙◌, ◌⊎◌, inl, inr, ℕ, List, [], ◌∷◌, Option, Some, None, refl, sym, subst}
use Rattle.page_index.specs.Faults.{IsFirstFault}
use Rattle.dvi_run.specs.Reading.{HoldsOfInput, InputChange, IsAllRead, ReadsGave, WasRead, read_since}
use Rattle.dvi_run.specs.Pages.{FailingPage, Setup}
use Rattle.dvi_run.specs.Endings.{EndingValue, Written, Usage, Document, Page, Source, Input, Output, Notes, Memory, HoldsOfDocument, IsAmong, IsPlaced, Stopped, Wrote, WroteAll, WroteBefore, WrotePrefix, WroteSome, page_status, status_of}
use Rattle.dvi_run.specs.Sampled.{document_for_sample}
use Rattle.dvi_run.specs.Tally.{CountsTo}
use Rattle.dvi_run.specs.Looked.{IsIdle}
use Rattle.dvi_run.specs.Outside.{Run, drawing_of, setup_of}
use Rattle.dvi_run.specs.Together.{IsUnread, PagesMatchHistory}
use Rattle.dvi_run.specs.Promises.{FailingPageIsNamed, FaultIsNamed, GoodRunIsWhole, GoodRunIsWritten, HasFailingPage, HasFault, InputFailed, IsCutShort, IsWritten, ReportMatchesRun, StatusIsTrue, StoppedAt, StoppedBefore, StoppedIn, document_of}
use Rattle.dvi_run.specs.KnownInputs.{HoldsOfKnownInput, of_known_input}
use Rattle.dvi_run.specs.declared.tally.Tally.{Tally}
use Rattle.dvi_run.proofs.Clauses.{at_page, of_all}
use Rattle.dvi_run.proofs.InputRead.{all_read, of_known}

-- ---- statuses

neither : (n k : ℕ) → n ≡ k → ¬ (k ≡ 6) → ¬ (k ≡ 9) → ¬ (IsAmong n (6 ∷ 9 ∷ []))
neither n k is not_6 not_9 (inl h) = not_6 (sym is ∙ h)
neither n k is not_6 not_9 (inr (inl h)) = not_9 (sym is ∙ h)
neither n k is not_6 not_9 (inr (inr h)) = h

-- the statuses of runs that read their input are neither 6 nor 9
read_all_of : (n : ℕ) → IsAmong n (0 ∷ 2 ∷ 3 ∷ 4 ∷ 5 ∷ 7 ∷ 8 ∷ []) → ¬ (IsAmong n (6 ∷ 9 ∷ []))
read_all_of n (inl h) = neither n 0 h (λ e. cc) (λ e. cc)
read_all_of n (inr (inl h)) = neither n 2 h (λ e. cc) (λ e. cc)
read_all_of n (inr (inr (inl h))) = neither n 3 h (λ e. cc) (λ e. cc)
read_all_of n (inr (inr (inr (inl h)))) = neither n 4 h (λ e. cc) (λ e. cc)
read_all_of n (inr (inr (inr (inr (inl h))))) = neither n 5 h (λ e. cc) (λ e. cc)
read_all_of n (inr (inr (inr (inr (inr (inl h)))))) = neither n 7 h (λ e. cc) (λ e. cc)
read_all_of n (inr (inr (inr (inr (inr (inr (inl h))))))) = neither n 8 h (λ e. cc) (λ e. cc)
read_all_of n (inr (inr (inr (inr (inr (inr (inr h))))))) = absurd h

not_at_page : (n : ℕ) → IsAmong n (3 ∷ 4 ∷ []) → ¬ (IsAmong n (6 ∷ 9 ∷ []))
not_at_page n (inl h) = neither n 3 h (λ e. cc) (λ e. cc)
not_at_page n (inr (inl h)) = neither n 4 h (λ e. cc) (λ e. cc)
not_at_page n (inr (inr h)) = absurd h

not_all : (n : ℕ) → WroteAll n → ¬ (IsAmong n (6 ∷ 9 ∷ []))
not_all n (inl h) = neither n 0 h (λ e. cc) (λ e. cc)
not_all n (inr h) = neither n 8 h (λ e. cc) (λ e. cc)

-- ---- the document

abbrev Gave : InputChange → Type 0
Gave input = (bytes : List ℕ) × ReadsGave input bytes

-- by whether it is a sample
of_document : (o : Option ℕ) (input : InputChange) (P : List ℕ → Type 0) → input.bytes ≡ read_since input.before.taken input.after.taken → (o ≡ None → Gave input)
    → HoldsOfInput (document_for_sample o input.bytes) P → HoldsOfInput (document_for_sample o input.before.left) P
of_document None input P is gave h = let g = gave refl in of_known P input g.0 g.1 (subst (λ (k : Option (List ℕ)). HoldsOfInput k P) is h)
of_document (Some pages) input P is gave h = h

some_none : (n : ℕ) → Some n ≡ None → ⊥
some_none n is = cc

read_or_not : (o : Option ℕ) (input : InputChange) (Unread : Type 0) → (o ≡ None → WasRead input Unread) → (o ≡ None → Gave input) ⊎ Unread
read_or_not None input U read = elim (read refl) [ inl gave ↦ inl (λ none. gave) | inr u ↦ inr u ]
read_or_not (Some pages) input U read = inl (λ none. absurd (some_none pages none))

-- it was read so whatever is said of it
gave_still : (input : InputChange) (other : Option (List ℕ)) (bytes : List ℕ) → ReadsGave input bytes → ReadsGave (record input { bytes = other }) bytes
gave_still input other bytes gave = record { grew = gave.grew; known = gave.known; ends = gave.ends }

read_still : (input : InputChange) (other : Option (List ℕ)) (Unread : Type 0) → WasRead input Unread → WasRead (record input { bytes = other }) Unread
read_still input other U (inl gave) = inl (gave.0, gave_still input other gave.0 gave.1)
read_still input other U (inr u) = inr u

-- ---- the input was read

module _ {F : Type 0} (run : Run F) (status : ℕ) (is : run.streams.input.bytes ≡ read_since run.streams.input.before.taken run.streams.input.after.taken) (gave : run.task.settings.sample ≡ None → Gave run.streams.input) where
  abbrev g : Setup
  g = setup_of run.task

  abbrev old : Option (List ℕ)
  old = run.streams.output.before.bytes

  abbrev new : Option (List ℕ)
  new = run.streams.output.after.bytes

  abbrev there : Run F
  there = of_known_input run

  to_known : (P : List ℕ → Type 0) → HoldsOfInput (document_of run) P → HoldsOfInput (document_of there) P
  to_known P h = of_document run.task.settings.sample run.streams.input P is gave h

  caused_read : StatusIsTrue run status → StatusIsTrue there status
  caused_read c = record {
    answers = c.answers;
    document = λ two. to_known (HasFault g) (c.document two);
    refused = to_known (FaultIsNamed g status) c.refused;
    page = λ at. to_known (HasFailingPage g status) (c.page at);
    stopped = λ files library. to_known (FailingPageIsNamed g status) (c.stopped files library);
    source = c.source;
    input = c.input;
    output = c.output;
    notes = c.notes;
    whole = λ files library i s o. to_known (GoodRunIsWritten g status) (c.whole files library i s o);
    complete = λ files library i s o n. to_known (GoodRunIsWhole g status) (c.complete files library i s o n);
  }

  written_read : IsWritten run status → IsWritten there status
  written_read w = record { whole = λ all. to_known (λ bytes. HoldsOfDocument g bytes (Wrote old new)) (w.whole all) }

  cut_short_read : IsCutShort run status → IsCutShort there status
  cut_short_read w = record {
    nothing = w.nothing;
    stopped = λ at. to_known (StoppedAt g status run.streams.output) (w.stopped at);
    before = λ five. to_known (StoppedBefore g run.streams.output) (w.before five);
    prefix = λ seven. to_known (StoppedIn g run.streams.output) (w.prefix seven);
    memory = λ nine. elim (w.memory nine) [ inl kept ↦ inl kept | inr some ↦ inr (to_known (λ bytes. HoldsOfDocument g bytes (λ _. WroteSome old new)) some) ];
  }

  placed_read : (e : EndingValue) → IsPlaced g e (document_of run) old new → IsPlaced g e (document_of there) old new
  placed_read (Document fault) h = to_known (λ bytes. IsFirstFault g.res bytes fault) h
  placed_read (Page page) h = to_known (λ bytes. HoldsOfDocument g bytes (λ _. Stopped old new page)) h
  placed_read (Source page) h = to_known (λ bytes. HoldsOfDocument g bytes (WroteBefore old new page)) h
  placed_read (Output page) h = to_known (λ bytes. HoldsOfDocument g bytes (λ _. WrotePrefix old new page)) h
  placed_read Written h = h
  placed_read Usage h = h
  placed_read Input h = h
  placed_read Notes h = h
  placed_read Memory h = h

  report_read : (e : EndingValue) (tally : Option Tally) → ReportMatchesRun run status e tally → ReportMatchesRun there status e tally
  report_read e tally r = record {
    read = λ none. read_still run.streams.input run.streams.input.before.left (IsUnread (drawing_of run) status tally) (r.read none);
    whole = r.whole;
    count = r.count;
    lacking = r.lacking;
    noted = record { placed = placed_read e r.noted.placed; printed = r.noted.printed };
    counted = r.counted;
    failed = r.failed;
    gave_up = r.gave_up;
    drew = to_known (PagesMatchHistory run.task (drawing_of run) status e tally r.whole) r.drew;
  }

-- ---- it was not, and nothing was done

placed_unread : (g : Setup) (e : EndingValue) (known old new : Option (List ℕ)) → IsAmong (status_of e) (6 ∷ 9 ∷ []) → IsPlaced g e known old new
placed_unread g (Document fault) known old new is = absurd (neither 2 2 refl (λ e. cc) (λ e. cc) is)
placed_unread g (Page page) known old new is = absurd (elim (at_page page.fault) [
  | inl three ↦ neither (page_status page.fault) 3 three (λ e. cc) (λ e. cc) is
  | inr four ↦ neither (page_status page.fault) 4 four (λ e. cc) (λ e. cc) is
])
placed_unread g (Source page) known old new is = absurd (neither 5 5 refl (λ e. cc) (λ e. cc) is)
placed_unread g (Output page) known old new is = absurd (neither 7 7 refl (λ e. cc) (λ e. cc) is)
placed_unread g Written known old new is = tt
placed_unread g Usage known old new is = tt
placed_unread g Input known old new is = tt
placed_unread g Notes known old new is = tt
placed_unread g Memory known old new is = tt

module _ {F : Type 0} (run : Run F) (status : ℕ) (answers : IsAmong status (6 ∷ 9 ∷ [])) where
  abbrev given : Setup
  given = setup_of run.task

  abbrev same : Run F
  same = of_known_input run

  caused_unread : StatusIsTrue run status → StatusIsTrue same status
  caused_unread c = record {
    answers = c.answers;
    document = λ two. absurd (neither status 2 two (λ e. cc) (λ e. cc) answers);
    refused = of_all (FaultIsNamed given status) (document_of same) (λ bytes fault first. inr answers);
    page = λ at. absurd (not_at_page status at answers);
    stopped = λ files library. of_all (FailingPageIsNamed given status) (document_of same) (λ bytes reading values page are fails. stopped_so page answers);
    source = c.source;
    input = c.input;
    output = c.output;
    notes = c.notes;
    whole = λ files library i s o. of_all (GoodRunIsWritten given status) (document_of same) (λ bytes reading values are good. written_so i answers);
    complete = λ files library i s o n. of_all (GoodRunIsWhole given status) (document_of same) (λ bytes reading values are good. whole_so i answers);
  }
    where
      stopped_so : (page : FailingPage) → IsAmong status (6 ∷ 9 ∷ []) → IsAmong status (page_status page.fault ∷ 5 ∷ 6 ∷ 7 ∷ 9 ∷ [])
      stopped_so page (inl h) = inr (inr (inl h))
      stopped_so page (inr (inl h)) = inr (inr (inr (inr (inl h))))
      stopped_so page (inr (inr h)) = absurd h

      written_so : ¬ (InputFailed run) → IsAmong status (6 ∷ 9 ∷ []) → IsAmong status (0 ∷ 8 ∷ 9 ∷ [])
      written_so i (inl h) = absurd (i (c.input h))
      written_so i (inr (inl h)) = inr (inr (inl h))
      written_so i (inr (inr h)) = absurd h

      whole_so : ¬ (InputFailed run) → IsAmong status (6 ∷ 9 ∷ []) → IsAmong status (0 ∷ 9 ∷ [])
      whole_so i (inl h) = absurd (i (c.input h))
      whole_so i (inr (inl h)) = inr (inl h)
      whole_so i (inr (inr h)) = absurd h

  written_unread : IsWritten same status
  written_unread = record { whole = λ all. absurd (not_all status all answers) }

  cut_short_unread : run.streams.output.Kept → IsCutShort same status
  cut_short_unread kept = record {
    nothing = λ early. kept;
    stopped = λ at. absurd (not_at_page status at answers);
    before = λ five. absurd (neither status 5 five (λ e. cc) (λ e. cc) answers);
    prefix = λ seven. absurd (neither status 7 seven (λ e. cc) (λ e. cc) answers);
    memory = λ nine. inl kept;
  }

  report_unread : (e : EndingValue) (tally : Option Tally) → status ≡ status_of e → IsUnread (drawing_of run) status tally → ReportMatchesRun run status e tally → ReportMatchesRun same status e tally
  report_unread e tally is u r =
      let idle : IsIdle e = (subst (λ (t : Option Tally). CountsTo run.history t e) u.no_tally r.counted).0 in
      record {
        read = λ none. read_still run.streams.input run.streams.input.before.left (IsUnread (drawing_of run) status tally) (r.read none);
        whole = r.whole;
        count = r.count;
        lacking = r.lacking;
        noted = record {
          placed = placed_unread given e (document_of same) run.streams.output.before.bytes run.streams.output.after.bytes (subst (λ (n : ℕ). IsAmong n (6 ∷ 9 ∷ [])) is answers);
          printed = r.noted.printed;
        };
        counted = r.counted;
        failed = r.failed;
        gave_up = r.gave_up;
        drew = of_all (PagesMatchHistory run.task (drawing_of run) status e tally r.whole) (document_of same) (λ bytes. inl (idle, u.no_tally, u.history, u.workers));
      }

-- ---- all of it

all_of_known : (o : Option ℕ) (input : InputChange) (status : ℕ) (Unread : Type 0) → (Unread → IsAmong status (6 ∷ 9 ∷ [])) → (o ≡ None → WasRead input Unread)
    → o ≡ None → IsAmong status (0 ∷ 2 ∷ 3 ∷ 4 ∷ 5 ∷ 7 ∷ 8 ∷ []) → IsAllRead input.before.left input.after.left
all_of_known o input status U answers read none among = elim (read none) [
  | inl gave ↦ all_read input.before.left input.after.left gave.0 gave.1.known
  | inr u ↦ absurd (read_all_of status among (answers u))
]

pub of_known_inputs : {F : Type 0} (run : Run F) (status : ℕ) → HoldsOfKnownInput run status
of_known_inputs run status is kept =
    let e : EndingValue = kept.ended.0 in
    let tally : Option Tally = kept.ended.1 in
    let at : status ≡ status_of e = kept.ended.2 in
    let report : ReportMatchesRun run status e tally = kept.ended.3 in
    let sample = run.task.settings.sample in (
      elim (read_or_not sample run.streams.input (IsUnread (drawing_of run) status tally) report.read) [
        | inl gave ↦ record {
          caused = caused_read run status is gave kept.caused;
          written = written_read run status is gave kept.written;
          ended = (e, tally, at, report_read run status is gave e tally report);
          history = kept.history;
          called = kept.called;
          cut_short = cut_short_read run status is gave kept.cut_short;
          shares = kept.shares;
          rest = kept.rest;
          sample = kept.sample;
        }
        | inr u ↦ record {
          caused = caused_unread run status u.answers kept.caused;
          written = written_unread run status u.answers;
          ended = (e, tally, at, report_unread run status u.answers e tally at u report);
          history = kept.history;
          called = kept.called;
          cut_short = cut_short_unread run status u.answers u.output;
          shares = kept.shares;
          rest = kept.rest;
          sample = kept.sample;
        }
      ],
      all_of_known sample run.streams.input status (IsUnread (drawing_of run) status tally) (λ u. u.answers) report.read,
    )
