-- The end of a run after its report: it is as it was, but where all pages were written and the
-- notes failed.
use Rattle.std.proofs.Common.{◌≡◌, ◌∙◌, inl, inr, ℕ, ◌+◌, Bool, true, false, List, [], ◌∷◌, ◌++◌, Option, Some, None, Result, Ok, Err, refl, sym, ap, get_or}
use Rattle.std.specs.Prelude.{IfSome}
use Rattle.outside.specs.Streams.{Writes}
use Rattle.cache_core.specs.Histories.{own}
use Rattle.cache_core.specs.declared.calls.Call.{Call}
use Rattle.page_draw.specs.Values.{DrawnValue, PageValue}
use Rattle.page_index.specs.Document.{Reading}
use Rattle.page_workers.specs.declared.worker.Worker.{Worker}
use Rattle.vf_expand.specs.Faults.{value_of_fault}
use Rattle.dvi_run.specs.Reading.{HoldsOfInput, InputChange, WasRead}
use Rattle.dvi_run.specs.Pages.{Setup}
use Rattle.dvi_run.specs.Endings.{EndingValue, Written, Notes, IsAmong, IsEnding, IsPrinted, PrintsBy, Prints, page_status, value_of_ending, status_of, with_notes}
use Rattle.dvi_run.specs.Lines.{line_of}
use Rattle.dvi_run.specs.Report.{report_text, trace_and_summary}
use Rattle.dvi_run.specs.Tally.{CountsTo, TallyMatchesRun}
use Rattle.dvi_run.specs.Sampled.{UsesTheSample}
use Rattle.dvi_run.specs.Noted.{Took}
use Rattle.dvi_run.specs.Outside.{Drawing, FaultsRose, StreamChange, Task, setup_of}
use Rattle.dvi_run.specs.Looked.{MayBreakOff}
use Rattle.dvi_run.specs.Together.{Answered, run_end, GaveUpOnlyBroken, IsUnread, WorkersAreDone, PagesMatchHistory, IsOneHistory, WorkerDone}
use Rattle.dvi_run.specs.declared.ending.Ending.{Ending}
use Rattle.dvi_run.specs.declared.ending.Ending.TheVariants as code
use Rattle.command_line.specs.declared.settings.Settings.{Settings}
use Rattle.dvi_run.specs.declared.tally.Tally.{Tally}
use Rattle.dvi_run.proofs.Clauses.{AtPage, at_page, of_each}
use Rattle.dvi_run.proofs.FilesLoaded.{loads_as}
use Rattle.dvi_run.proofs.Looks.{broken_as}

-- ---- how it ended

module _ (old new : Option (List ℕ)) (OutputFailed SourceFailed OutputKept InputFailed : Type 0) (g : Setup) (known : Option (List ℕ)) where
  abbrev Ends : EndingValue → Type 0
  Ends e = IsEnding old new OutputFailed SourceFailed OutputKept InputFailed g known e

  pub ends_on : (x : Ending) (taken : Bool) → Ends (value_of_ending x) → Ends (with_notes (value_of_ending x) taken)
  ends_on code.Written true h = h
  ends_on code.Written false h = h
  ends_on code.Usage taken h = h
  ends_on (code.Document fault) taken h = h
  ends_on (code.Page page fault at) taken h = h
  ends_on (code.Source page) taken h = h
  ends_on code.Input taken h = h
  ends_on (code.Output page) taken h = h
  ends_on code.Memory taken h = h

-- ---- what was read

unread_status : (x : Ending) (taken : Bool) → IsAmong (status_of (value_of_ending x)) (6 ∷ 9 ∷ []) → IsAmong (status_of (with_notes (value_of_ending x) taken)) (6 ∷ 9 ∷ [])
unread_status code.Written true h = h
unread_status code.Written false (inl is) = absurd cc
unread_status code.Written false (inr (inl is)) = absurd cc
unread_status code.Written false (inr (inr none)) = absurd none
unread_status code.Usage taken h = h
unread_status (code.Document fault) taken h = h
unread_status (code.Page page fault at) taken h = h
unread_status (code.Source page) taken h = h
unread_status code.Input taken h = h
unread_status (code.Output page) taken h = h
unread_status code.Memory taken h = h

pub read_on : {F : Type 0} (input : InputChange) (drawing : Drawing F) (tally : Option Tally) (x : Ending) (taken : Bool) → WasRead input (IsUnread drawing (status_of (value_of_ending x)) tally)
    → WasRead input (IsUnread drawing (status_of (with_notes (value_of_ending x) taken)) tally)
read_on input drawing tally x taken (inl gave) = inl gave
read_on input drawing tally x taken (inr u) =
    inr (record { answers = unread_status x taken u.answers; output = u.output; workers = u.workers; history = u.history; no_tally = u.no_tally })

-- ---- what the notes took

-- a page's status isn't 8
no_page : (n : ℕ) → AtPage n → n ≡ 8 → ⊥
no_page n (inl three) is = let e : 3 ≡ 8 = sym three ∙ is in cc
no_page n (inr four) is = let e : 4 ≡ 8 = sym four ∙ is in cc

module _ {T E : Type 0} (old new : Option (List ℕ)) (before now : ℕ) (text : List ℕ) where
  printed_by : (r : Result T E) → Writes old new before now text r → Prints old new before now text
  printed_by (Ok v) w = inl w.grew
  printed_by (Err v) w = inr (w.grew, w.cause.rose refl)

  pub line_printed : (r : Result T E) → Writes old new before now text r → IsPrinted old new before now text
  line_printed r w = record { prints = printed_by r w; count = w.cause.never_falls }

module _ (notes : StreamChange) (text : List ℕ) where
  abbrev PrintedBy : EndingValue → Type 0
  PrintedBy e = PrintsBy e notes.before.bytes notes.after.bytes notes.before.faults notes.after.faults text

  printed_all : (taken : Bool) → Took taken notes text → Prints notes.before.bytes notes.after.bytes notes.before.faults notes.after.faults text
  printed_all true took = inl took
  printed_all false took = inr took

  pub prints_on : (x : Ending) (taken : Bool) → Took taken notes text → PrintedBy (with_notes (value_of_ending x) taken)
  prints_on code.Written true took = took
  prints_on code.Written false took = took
  prints_on code.Usage taken took = printed_all taken took
  prints_on (code.Document fault) taken took = printed_all taken took
  prints_on (code.Page page fault at) taken took = printed_all taken took
  prints_on (code.Source page) taken took = printed_all taken took
  prints_on code.Input taken took = printed_all taken took
  prints_on (code.Output page) taken took = printed_all taken took
  prints_on code.Memory taken took = printed_all taken took

  pub failed_on : (x : Ending) (taken : Bool) → Took taken notes text → status_of (with_notes (value_of_ending x) taken) ≡ 8 → FaultsRose notes
  failed_on code.Written true took is = cc
  failed_on code.Written false took is = took.1
  failed_on code.Usage taken took is = cc
  failed_on (code.Document fault) taken took is = cc
  failed_on (code.Page page fault at) taken took is = absurd (no_page (page_status (value_of_fault fault)) (at_page (value_of_fault fault)) is)
  failed_on (code.Source page) taken took is = cc
  failed_on code.Input taken took is = cc
  failed_on (code.Output page) taken took is = cc
  failed_on code.Memory taken took is = cc

-- ---- the report

line_on : (x : Ending) (taken : Bool) → line_of (value_of_ending x) ≡ line_of (with_notes (value_of_ending x) taken)
line_on code.Written true = refl
line_on code.Written false = refl
line_on code.Usage taken = refl
line_on (code.Document fault) taken = refl
line_on (code.Page page fault at) taken = refl
line_on (code.Source page) taken = refl
line_on code.Input taken = refl
line_on (code.Output page) taken = refl
line_on code.Memory taken = refl

-- it is the same whether the notes took it or not
pub report_on : (settings : Settings) (tally : Option Tally) (loads : ℕ) (history : List Call) (x : Ending) (taken : Bool)
    → report_text settings tally loads history (value_of_ending x) ≡ report_text settings tally loads history (with_notes (value_of_ending x) taken)
report_on settings None loads history x taken = line_on x taken
report_on settings (Some t) loads history x taken = ap (λ (line : List ℕ). trace_and_summary settings t loads history ++ line) (line_on x taken)

-- ---- what was drawn

not_idle : IsAmong 8 (1 ∷ 2 ∷ 6 ∷ []) → ⊥
not_idle (inl is) = cc
not_idle (inr (inl is)) = cc
not_idle (inr (inr (inl is))) = cc
not_idle (inr (inr (inr none))) = none

counts_8 : (history : List Call) (tally : Option Tally) → CountsTo history tally Written → CountsTo history tally Notes
counts_8 history None h = h
counts_8 history (Some t) h = h

tallied_8 : (counted : Bool) (Are : List DrawnValue → Type 0) (old new : Option (List ℕ)) (history : List Call) (tally : Option Tally) (values : List PageValue) → TallyMatchesRun counted Are old new history tally Written values
    → TallyMatchesRun counted Are old new history tally Notes values
tallied_8 counted Are old new history None values h = let is = h.0 in absurd cc
tallied_8 counted Are old new history (Some t) values h = record { few = h.few; black = h.black; next = tt; written = h.written; are = h.are }

one_8 : (settings : Settings) (history : List Call) → IsOneHistory settings 0 history → IsOneHistory settings 8 history
one_8 settings history one = record {
  legal = one.legal;
  made = one.made;
  none_of_first = one.none_of_first;
  few_claims = one.few_claims;
  kept = λ is. one.kept (inl refl);
  idle = λ among. absurd (not_idle among);
}

may_break_8 : (tally : Option Tally) (p : ℕ) → MayBreakOff Written tally p → MayBreakOff Notes tally p
may_break_8 None p may = may
may_break_8 (Some t) p may = may

gave_up_8 : {F : Type 0} (tally : Option Tally) (calls : List Call) (w : Worker F) → GaveUpOnlyBroken Written tally calls w → GaveUpOnlyBroken Notes tally calls w
gave_up_8 tally calls w gave = elim gave [
  | inl none ↦ inl none
  | inr b ↦ inr (record { before = b.before; page = b.page; pages_are = b.pages_are; may_break = may_break_8 tally b.page b.may_break })
]

module _ {F : Type 0} (task : Task) (drawing : Drawing F) (tally : Option Tally) where
  worked_8 : (calls : List Call) (was now : Worker F) → WorkerDone task drawing.sources 0 calls was now → WorkerDone task drawing.sources 8 calls was now
  worked_8 calls was now w = record {
    seat = w.seat;
    none = w.none;
    counter = w.counter;
    spare_pages = w.spare_pages;
    knows_library = w.knows_library;
    count = w.count;
    keys = w.keys;
    answered = w.answered;
    last = w.last;
    kept = λ is. w.kept (inl (inl refl));
    loaded = w.loaded;
  }

  pub done_on : (x : Ending) (taken : Bool) → WorkersAreDone task drawing (value_of_ending x) tally → WorkersAreDone task drawing (with_notes (value_of_ending x) taken) tally
  done_on code.Written true h = h
  done_on code.Written false h = record {
    counts = counts_8 drawing.history tally h.counts;
    failed = λ page is. absurd cc;
    one = one_8 task.settings drawing.history h.one;
    gave_up = λ k d lt. gave_up_8 tally (own (k + 1) drawing.history) (get_or drawing.after k d) (h.gave_up k d lt);
    worked = λ k d lt. worked_8 (own (k + 1) drawing.history) (get_or drawing.before k d) (get_or drawing.after k d) (h.worked k d lt);
    shares = h.shares;
    rest = h.rest;
  }
  done_on code.Usage taken h = h
  done_on (code.Document fault) taken h = h
  done_on (code.Page page fault at) taken h = h
  done_on (code.Source page) taken h = h
  done_on code.Input taken h = h
  done_on (code.Output page) taken h = h
  done_on code.Memory taken h = h

  abbrev Drew : (whole : List DrawnValue) → EndingValue → List ℕ → Type 0
  Drew whole e bytes = PagesMatchHistory task drawing (status_of e) e tally whole bytes

  answered_8 : (reading : Reading) (k : ℕ) (w : Worker F) → Answered task reading drawing.history (run_end 0 Written tally) k w → Answered task reading drawing.history (run_end 8 Notes tally) k w
  answered_8 reading k w a = record {
    keys = a.keys;
    looked = elim a.looked [
      | inl whole ↦ inl whole
      | inr b ↦ inr (broken_as (MayBreakOff Written tally) (MayBreakOff Notes tally) _ _ _ _ _ (may_break_8 tally) b)
    ];
    through = λ is. a.through (inl (inl refl));
    answered = a.answered;
    weighed = a.weighed;
    loads = loads_as (setup_of task) reading _ _ (own (k + 1) drawing.history) w.loads (λ is. inl (inl refl)) a.loads;
    one = λ single unbroken. a.one single (λ is. cc, λ is. cc);
  }

  drew_8 : (whole : List DrawnValue) (bytes : List ℕ) → Drew whole Written bytes → Drew whole Notes bytes
  drew_8 whole bytes (inl idle) = absurd idle.0
  drew_8 whole bytes (inr run) =
      inr (
        run.0,
        run.1,
        run.2,
        (
          run.3.0,
          tallied_8 task.settings.summary (λ pages. whole ≡ pages) drawing.output.before.bytes drawing.output.after.bytes drawing.history tally run.1 run.3.1,
          record { drawn = run.3.2.drawn; few = run.3.2.few; shares = run.3.2.shares; reach = run.3.2.reach; written = run.3.2.written },
          λ k d lt. answered_8 run.0 k (get_or drawing.after k d) (run.3.3 k d lt),
        ),
      )

  pub drew_on : (whole : List DrawnValue) (x : Ending) (taken : Bool) (left : Option (List ℕ)) → HoldsOfInput left (Drew whole (value_of_ending x)) → HoldsOfInput left (Drew whole (with_notes (value_of_ending x) taken))
  drew_on whole code.Written true left h = h
  drew_on whole code.Written false left h = of_each (Drew whole Written) (Drew whole Notes) left (drew_8 whole) h
  drew_on whole code.Usage taken left h = h
  drew_on whole (code.Document fault) taken left h = h
  drew_on whole (code.Page page fault at) taken left h = h
  drew_on whole (code.Source page) taken left h = h
  drew_on whole code.Input taken left h = h
  drew_on whole (code.Output page) taken left h = h
  drew_on whole code.Memory taken left h = h

-- ---- a run of the sample

module _ {F : Type 0} (Kept : Type 0) (before after : List (Worker F)) where
  abbrev Uses : ℕ → Type 0
  Uses status = UsesTheSample status Kept before after

  uses_on : (x : Ending) (taken : Bool) → Uses (status_of (value_of_ending x)) → Uses (status_of (with_notes (value_of_ending x) taken))
  uses_on code.Written true h = h
  uses_on code.Written false h = record { input = h.input; sources = h.sources; answers = inr (inr (inr (inr (inl refl)))) }
  uses_on code.Usage taken h = h
  uses_on (code.Document fault) taken h = h
  uses_on (code.Page page fault at) taken h = h
  uses_on (code.Source page) taken h = h
  uses_on code.Input taken h = h
  uses_on (code.Output page) taken h = h
  uses_on code.Memory taken h = h

  pub sample_on : (sample : Option ℕ) (x : Ending) (taken : Bool) → IfSome sample (λ pages. Uses (status_of (value_of_ending x))) → IfSome sample (λ pages. Uses (status_of (with_notes (value_of_ending x) taken)))
  sample_on None x taken h = h
  sample_on (Some pages) x taken h = uses_on x taken h
