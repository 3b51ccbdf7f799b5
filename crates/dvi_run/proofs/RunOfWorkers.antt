-- From the pages that workers drew to what holds of their run.
use Rattle.std.proofs.Common.{◌≡◌, inl, inr, ℕ, ◌+◌, ◌-◌, ◌<◌, Bool, List, [], ◌∷◌, ◌++◌, length, get_or, take, drop, Option, Some, None, refl, sym, ap, subst, ◌∙◌, arith, eq-eqb, ne_eqb}
use Rattle.std.proofs.lemmas.Bool.{cases_lt}
use Rattle.std.proofs.lemmas.List.{get_or_append_left, get_or_push, get_or-append-add, get_or-drop, get_or-take}
use Rattle.outside.specs.Library.{FileTable}
use Rattle.outside.specs.declared.keys.FontKey.{FontKey}
use mathlib.Core.Logic.{dite}
use native.Mathlib.Decide.{ℕ_discrete}
use Rattle.cache_core.specs.declared.calls.Call.{Call}
use Rattle.cache_core.specs.Histories.{WeighSo, own, AreOf, SeatCalls, NoneReleased}
use Rattle.cache_core.specs.Laws.{FewClaims, SoloIsOne}
use Rattle.cache_core.specs.Machine.{Legal}
use Rattle.cache_core.specs.Solo.{solo_history}
use Rattle.turn_lock.specs.Histories.{AllMade}
use Rattle.turn_lock.specs.Laws.{AloneIsHistory}
use Rattle.page_index.specs.Document.{IsDocument, Reading}
use Rattle.page_draw.specs.Values.{DrawnValue, PageValue}
use Rattle.page_workers.specs.declared.worker.Worker.{Worker}
use Rattle.dvi_run.specs.CacheLimits.{cache_limits}
use Rattle.dvi_run.specs.Pages.{Setup, setup_with, whole_pages}
use Rattle.dvi_run.specs.Sampled.{LoadedForSample}
use Rattle.dvi_run.specs.Outside.{Drawing, FaultsRose, Run, Sources, StreamChange, Task, drawing_of, setup_of, task_for_sample}
use Rattle.dvi_run.specs.Promises.{ReportMatchesRun, IsNoted, document_of}
use Rattle.dvi_run.specs.Noted.{AreLacking, LackNothing, NotedLacks, WrotePages, is_noted, whole_count}
use Rattle.dvi_run.specs.Report.{loads_of, notes_text}
use Rattle.dvi_run.specs.Reading.{HoldsOfInput, WasRead}
use Rattle.dvi_run.specs.Endings.{EndingValue, Written, Usage, Document, Page, Source, Input, Output, Notes, Memory, EndsPages, status_of}
use Rattle.dvi_run.specs.Looked.{EveryPageCameToItsEnd, IsIdle, MayBreakOff, WasNotCutOffBy}
use Rattle.dvi_run.specs.Tally.{CountsTo, HadCache, TallyMatchesRun}
use Rattle.command_line.specs.declared.settings.Settings.{Settings}
use Rattle.dvi_run.specs.declared.tally.Tally.{Tally}
use Rattle.dvi_run.specs.Rounds.{FailedAt, WorkerRan}
use Rattle.dvi_run.proofs.FilesLoaded.{loads_as}
use Rattle.dvi_run.proofs.Lacking.{AreCounted, are_counted, first_strictly, whole_strictly}
use Rattle.dvi_run.proofs.Clauses.{ends_late}
use Rattle.dvi_run.proofs.StatusOfEnd.{is_written, not_cut_off_by, to_its_end_by}
use Rattle.page_workers.specs.Seating.{IsUnused}
use Rattle.dvi_run.proofs.Shares.{none_shared, shared_as}
use Rattle.dvi_run.specs.Together.{Answered, run_end, WorkersAreDone, DrewDocument, PagesMatchHistory, EachUsed, GaveUpOnlyBroken, IsOneHistory, IsReadyWorker, IsUnread, RestIsKept, SomeUsed, SourceRose, WorkerDone}

-- ---- whose source failed

-- whatever failed
ends_so : (old new : Option (List ℕ)) (P Q : Type 0) (reading : Reading) (values : List PageValue) (e : EndingValue) → EndsPages old new P Q e reading values
    → EndsPages old new (Unit {0}) (Unit {0}) e reading values
ends_so old new P Q reading values Written h = h
ends_so old new P Q reading values Usage h = h
ends_so old new P Q reading values (Document fault) h = h
ends_so old new P Q reading values (Page page) h = h
ends_so old new P Q reading values (Source page) h = (h.0, tt)
ends_so old new P Q reading values Input h = h
ends_so old new P Q reading values (Output page) h = (h.0, tt)
ends_so old new P Q reading values Notes h = h
ends_so old new P Q reading values Memory h = h

pub ends_by : (old new : Option (List ℕ)) (P Q : Type 0) (reading : Reading) (values : List PageValue) (e : EndingValue) → EndsPages old new P (Unit {0}) e reading values
    → ((page : ℕ) → e ≡ Source page → Q) → EndsPages old new P Q e reading values
ends_by old new P Q reading values Written h failed = h
ends_by old new P Q reading values Usage h failed = h
ends_by old new P Q reading values (Document fault) h failed = h
ends_by old new P Q reading values (Page page) h failed = h
ends_by old new P Q reading values (Source page) h failed = (h.0, failed page refl)
ends_by old new P Q reading values Input h failed = h
ends_by old new P Q reading values (Output page) h failed = h
ends_by old new P Q reading values Notes h failed = h
ends_by old new P Q reading values Memory h failed = h

pub some_rose : {F : Type 0} (faults : F → ℕ) (n : ℕ) (before after : List (Worker F)) (page : ℕ) → SomeUsed n before after (FailedAt faults page) → SomeUsed n before after (SourceRose faults)
some_rose faults n before after page s = (s.0, s.1, λ d. (s.2 d).rose)

-- ---- the tally

had_cache : (old new : Option (List ℕ)) (P Q : Type 0) (reading : Reading) (values : List PageValue) (e : EndingValue) → EndsPages old new P Q e reading values → HadCache e
had_cache old new P Q reading values Written h = tt
had_cache old new P Q reading values Usage h = h
had_cache old new P Q reading values (Document fault) h = h
had_cache old new P Q reading values (Page page) h = tt
had_cache old new P Q reading values (Source page) h = tt
had_cache old new P Q reading values Input h = h
had_cache old new P Q reading values (Output page) h = tt
had_cache old new P Q reading values Notes h = tt
had_cache old new P Q reading values Memory h = tt

counts_to : (counted : Bool) (Are : List DrawnValue → Type 0) (old new : Option (List ℕ)) (history : List Call) (P Q : Type 0) (reading : Reading) (values : List PageValue) (e : EndingValue) (tally : Option Tally)
    → EndsPages old new P Q e reading values → TallyMatchesRun counted Are old new history tally e values → CountsTo history tally e
counts_to counted Are old new history P Q reading values e None h none = (subst IsIdle (sym none.0) tt, none.2)
counts_to counted Are old new history P Q reading values e (Some t) h tallied = (had_cache old new P Q reading values e h, tallied.next)

-- ---- one seat

-- a history with calls of one seat alone
are_of : (history : List Call) → AllMade 2 history → own 0 history ≡ [] → AreOf 1 history
are_of [] made none = tt
are_of (c ∷ calls) made none = dite (ℕ_discrete c.seat 0)
    (λ e. let mine : own 0 (c ∷ calls) ≡ c ∷ own 0 calls = rw (eq-eqb c.seat 0 e) refl in absurd (cc (sym mine ∙ none)))
    (λ not. let rest : own 0 (c ∷ calls) ≡ own 0 calls = rw (ne_eqb c.seat 0 not) refl in (omega (arith, made.0, not), are_of calls made.1 (sym rest ∙ none)))

-- where no seat has given a claim up
later_kept : (seat : ℕ) (c : Call) (calls : List Call) → NoneReleased (own seat (c ∷ calls)) → NoneReleased (own seat calls)
later_kept seat c calls kept = dite (ℕ_discrete c.seat seat)
    (λ e. let mine : own seat (c ∷ calls) ≡ c ∷ own seat calls = rw (eq-eqb c.seat seat e) refl in (subst NoneReleased mine kept).1)
    (λ not. let other : own seat (c ∷ calls) ≡ own seat calls = rw (ne_eqb c.seat seat not) refl in subst NoneReleased other kept)

pub each_kept : (n : ℕ) (history : List Call) → AllMade (n + 1) history → own 0 history ≡ [] → ((k : ℕ) → k < n → NoneReleased (own (k + 1) history)) → NoneReleased history
each_kept n [] made none kept = tt
each_kept n (c ∷ calls) made none kept = dite (ℕ_discrete c.seat 0)
    (λ e. let mine : own 0 (c ∷ calls) ≡ c ∷ own 0 calls = rw (eq-eqb c.seat 0 e) refl in absurd (cc (sym mine ∙ none)))
    (λ not.
    let k = c.seat - 1 in
    let at : c.seat ≡ k + 1 = omega (arith, not) in
    let below : k < n = omega (arith, made.0, not) in
    let mine : own (k + 1) (c ∷ calls) ≡ c ∷ own (k + 1) calls = rw (eq-eqb c.seat (k + 1) at) refl in
    let rest : own 0 (c ∷ calls) ≡ own 0 calls = rw (ne_eqb c.seat 0 not) refl in
    ((subst NoneReleased mine (kept k below)).0, each_kept n calls made.1 (sym rest ∙ none) (λ j lt. later_kept (j + 1) c calls (kept j lt))))

-- ---- what a worker did

module _ {F : Type 0} (known : Option FileTable) (settings : Settings) (sources : Sources F) (reading : Reading) (e : EndingValue) (tally : Option Tally) (history : List Call) (k : ℕ) (before after : Worker F)
    (ran : WorkerRan (MayBreakOff e tally) (EveryPageCameToItsEnd settings.workers e) sources.library sources.faults sources.loads (setup_with known settings) reading history (k + 1) before after) where
  worked : WorkerDone (task_for_sample None known settings) sources (status_of e) (own (k + 1) history) before after
  worked = record {
    seat = ran.seat;
    none = ran.none;
    counter = ran.counter;
    spare_pages = ran.spare_pages;
    knows_library = ran.knows_library;
    count = ran.faults_rose;
    keys = ran.keys;
    answered = ran.answered;
    last = ran.last;
    kept = λ h. ran.whole (to_its_end_by settings.workers e h);
    loaded = ran.loaded;
  }

  gave_up : GaveUpOnlyBroken e tally (own (k + 1) history) after
  gave_up = elim ran.looked [
    | inl w ↦ inl w.0
    | inr b ↦ inr (record { before = b.before; page = b.page; pages_are = b.pages_are; may_break = b.may_break })
  ]

  module _ (one : IsOneHistory (task_for_sample None known settings).settings (status_of e) history) (alone : AloneIsHistory) (law : SoloIsOne) (below : k < settings.workers) where
    solo : settings.workers ≡ 1 → WasNotCutOffBy (status_of e) → (weight : FontKey → ℕ) → WeighSo weight (own (k + 1) history) → history ≡ solo_history (cache_limits settings) 1 weight ran.keys
    solo single unbroken weight weighed =
        let first : k + 1 ≡ 1 = omega arith in
        let made : AllMade 2 history = subst (λ (m : ℕ). AllMade (m + 1) history) single one.made in
        let whole : own 1 history ≡ history = alone 2 1 history made (λ other lt not. let zero_is : 0 ≡ other = omega (arith, lt, not) in subst (λ (m : ℕ). own m history ≡ []) zero_is one.none_of_first) in
        let mine : own (k + 1) history ≡ history = subst (λ (m : ℕ). own m history ≡ history) (sym first) whole in
        law (cache_limits settings) 1 weight ran.keys history (record {
          legal = one.legal;
          own = are_of history made one.none_of_first;
          for_keys = subst (SeatCalls ran.keys) mine ran.answered;
          kept = subst NoneReleased mine (ran.whole (inr (single, not_cut_off_by e unbroken)));
          weighed = subst (WeighSo weight) mine weighed;
        })

    answered : Answered (task_for_sample None known settings) reading history (run_end (status_of e) e tally) k after
    answered = record {
      keys = ran.keys;
      looked = ran.looked;
      through = λ h. ran.drawn_out (to_its_end_by settings.workers e h);
      answered = ran.answered;
      weighed = ran.weighed;
      loads = loads_as (setup_with known settings) reading _ _ (own (k + 1) history) after.loads (λ h. to_its_end_by settings.workers e h) ran.loads_are;
      one = solo;
    }

-- ---- the history of all

-- whatever sample is asked for
pub history_for_sample : (sample : Option ℕ) (settings : Settings) (status : ℕ) (history : List Call) → IsOneHistory settings status history → IsOneHistory (record settings { sample = sample }) status history
history_for_sample sample settings status history one = record {
  legal = one.legal;
  made = one.made;
  none_of_first = one.none_of_first;
  few_claims = one.few_claims;
  kept = one.kept;
  idle = one.idle;
}

-- one of some workers
pub one_of : {A : Type 0} (xs : List A) (k : ℕ) → k < length xs → A
one_of [] k lt = absurd (omega arith)
one_of (x ∷ xs) k lt = x

pub one_history : {F : Type 0} (settings : Settings) (g : Setup) (reading : Reading) (drawing : Drawing F) (P : Type 0) (values : List PageValue) (e : EndingValue) (tally : Option Tally)
    → EndsPages drawing.output.before.bytes drawing.output.after.bytes P (Unit {0}) e reading values → Legal (cache_limits settings) drawing.history → AllMade (settings.workers + 1) drawing.history → own 0 drawing.history ≡ [] → FewClaims drawing.history
    → EachUsed settings.workers drawing.before drawing.after (λ k was now. WorkerRan (MayBreakOff e tally) (EveryPageCameToItsEnd settings.workers e) drawing.sources.library drawing.sources.faults drawing.sources.loads g reading drawing.history (k + 1) was now)
    → ((k : ℕ) → k < settings.workers → Worker F) → IsOneHistory settings (status_of e) drawing.history
one_history settings g reading drawing P values e tally ends legal made first few ran some = record {
  legal = legal;
  made = made;
  none_of_first = first;
  few_claims = few;
  kept = λ is. each_kept settings.workers drawing.history made first (λ k lt. (ran k (some k lt) lt).whole (inl (is_written e is)));
  idle = λ among. absurd (ends_late drawing.output.before.bytes drawing.output.after.bytes P (Unit {0}) reading values e ends among);
}

-- ---- the pages of a document

module _ {F : Type 0} (known : Option FileTable) (settings : Settings) (reading : Reading) (drawing : Drawing F) (notes : StreamChange) (e : EndingValue) (tally : Option Tally) (drew : DrewDocument (task_for_sample None known settings) reading drawing notes e tally) where
  abbrev old : Option (List ℕ)
  old = drawing.output.before.bytes

  abbrev new : Option (List ℕ)
  new = drawing.output.after.bytes

  pub are_done : RestIsKept settings.workers drawing.before drawing.after → WorkersAreDone (task_for_sample None known settings) drawing e tally
  are_done rest = record {
    counts = counts_to settings.summary (NotedLacks notes (is_noted tally)) old new drawing.history (FaultsRose drawing.output) (Unit {0}) reading drew.ends.0 e tally drew.ends.2 drew.ends.3;
    failed = drew.failed;
    one = drew.one;
    worked = λ k d lt. worked known settings drawing.sources reading e tally drawing.history k (get_or drawing.before k d) (get_or drawing.after k d) (drew.ran k d lt);
    gave_up = λ k d lt. gave_up known settings drawing.sources reading e tally drawing.history k (get_or drawing.before k d) (get_or drawing.after k d) (drew.ran k d lt);
    shares = (drew.shares.drawn, drew.shares.shares);
    rest = rest;
  }

  -- the pages that were written whole
  counted : AreCounted settings.summary (NotedLacks notes (is_noted tally)) old new drawing.history tally e drew.ends.0
  counted = are_counted settings.summary (NotedLacks notes (is_noted tally)) old new drawing.history tally e drew.ends.0 drew.ends.3

  lacking : AreLacking settings.sheet.tolerant counted.whole
  lacking strict =
      subst LackNothing (sym counted.first)
      (first_strictly (whole_count tally) (whole_pages drew.ends.0) (whole_strictly (setup_with known settings) reading 0 drew.ends.0 strict drew.ends.1.are))

  pub drew_together : (bytes : List ℕ) → IsDocument settings.res bytes reading → AloneIsHistory → SoloIsOne
      → WrotePages notes settings.sheet.tolerant tally (λ whole. PagesMatchHistory (task_for_sample None known settings) drawing (status_of e) e tally whole bytes)
  drew_together bytes document alone law = record {
    whole = counted.whole;
    count = counted.count;
    lacking = lacking;
    noted = counted.are;
    are = inr (
      reading,
      drew.ends.0,
      record { document = document; pages = drew.ends.1 },
      (
        ends_so old new (FaultsRose drawing.output) (Unit {0}) reading drew.ends.0 e drew.ends.2,
        counted.tallied,
        drew.shares,
        λ k d lt. answered known settings drawing.sources reading e tally drawing.history k (get_or drawing.before k d) (get_or drawing.after k d) (drew.ran k d lt) drew.one alone law lt,
      ),
    );
  }

  pub ends_used : EndsPages drawing.output.before.bytes drawing.output.after.bytes (FaultsRose drawing.output) (SomeUsed settings.workers drawing.before drawing.after (SourceRose drawing.sources.faults)) e reading drew.ends.0
  ends_used =
      ends_by old new (FaultsRose drawing.output) (SomeUsed settings.workers drawing.before drawing.after (SourceRose drawing.sources.faults)) reading drew.ends.0 e drew.ends.2
      (λ page is. some_rose drawing.sources.faults settings.workers drawing.before drawing.after page (drew.failed page is))

-- the end of a run
pub ended_at : {F : Type 0} (run : Run F) (e : EndingValue) (tally : Option Tally) (whole : List DrawnValue) → length whole ≡ whole_count tally → AreLacking run.task.settings.sheet.tolerant whole
    → (run.task.settings.sample ≡ None → WasRead run.streams.input (IsUnread (drawing_of run) (status_of e) tally))
    → IsNoted run e (notes_text whole run.task.settings tally (loads_of run.task.settings.workers run.after) run.history e) → WorkersAreDone run.task (drawing_of run) e tally
    → HoldsOfInput (document_of run) (PagesMatchHistory run.task (drawing_of run) (status_of e) e tally whole) → (status : ℕ) → status ≡ status_of e → ReportMatchesRun run status e tally
ended_at run e tally whole count lacking read noted done drew status is =
    subst (λ (m : ℕ). ReportMatchesRun run m e tally) (sym is)
    (record { read = read; whole = whole; count = count; lacking = lacking; noted = noted; counted = done.counts; failed = done.failed; gave_up = done.gave_up; drew = drew })

-- a worker as it was made is ready for a run that knows no library
pub ready_unknown : {F : Type 0} (library : F → Option FileTable) (w : Worker F) → IsUnused w → IsReadyWorker library None w
ready_unknown library w unused = record { fresh = record { knows_library = tt; none = unused.none; counter = unused.counter; loads = unused.loads; pages = unused.pages }; seat = unused.seat }

-- what is so of each element of a list, and of one more that is added, is so of all then
pub more_each : {A : Type 0} (P : A → Type 0) (n : ℕ) (xs : List A) (x : A) → length xs ≡ n → P x → ((k : ℕ) (d : A) → k < n → P (get_or xs k d)) → (k : ℕ) (d : A) → k < n + 1 → P (get_or (xs ++ x ∷ []) k d)
more_each P n xs x long one each k d lt = elim (cases_lt k n) [
  | inl below ↦ subst P (sym (get_or_append_left xs (x ∷ []) d k (omega arith))) (each k d below)
  | inr at ↦ subst P (sym (get_or_push xs x d k (omega arith))) one
]

-- and so are those of a list that one more was added to
pub more_unused : {F : Type 0} (n : ℕ) (ws : List (Worker F)) (w : Worker F) → length ws ≡ n → IsUnused w → ((k : ℕ) (d : Worker F) → k < n → IsUnused (get_or ws k d))
    → (k : ℕ) (d : Worker F) → k < n + 1 → IsUnused (get_or (ws ++ w ∷ []) k d)
more_unused n ws w long unused each k d lt = more_each IsUnused n ws w long unused each k d lt

-- ---- a run in which no cache was made

idle_loaded : (sample : Option ℕ) (before count : ℕ) → LoadedForSample sample 0 before before count count
idle_loaded None before count = record {
  loads = record { most = omega arith; never_falls = omega arith };
  counted = record { most = omega arith; never_falls = omega arith };
  same = λ low. omega arith;
}
idle_loaded (Some pages) before count = record { most = omega arith; never_falls = omega arith }

idle_worked : {F : Type 0} (task : Task) (sources : Sources F) (status : ℕ) (w : Worker F) → IsReadyWorker sources.library task.known w → WorkerDone task sources status [] w w
idle_worked task sources status w ready = record {
  seat = ready.seat;
  none = ready.fresh.none;
  counter = ready.fresh.counter;
  spare_pages = λ none. none;
  knows_library = ready.fresh.knows_library;
  count = omega arith;
  keys = [];
  answered = refl;
  last = tt;
  kept = λ h. tt;
  loaded = idle_loaded task.settings.sample (sources.loads w.source) w.loads;
}

not_source : (e : EndingValue) → IsIdle e → (page : ℕ) → e ≡ Source page → ⊥
not_source e idle page is = subst IsIdle is idle

-- the workers stayed as they were, and there is no call
abbrev no_drawing : {F : Type 0} → Sources F → StreamChange → List (Worker F) → List Call → Drawing F
no_drawing sources output ws history = record { sources = sources; output = output; before = ws; after = ws; history = history }

pub idle_done : {F : Type 0} (task : Task) (sources : Sources F) (output : StreamChange) (ws : List (Worker F)) (history : List Call) (e : EndingValue)
    → ((k : ℕ) (d : Worker F) → k < task.settings.workers → IsReadyWorker sources.library task.known (get_or ws k d)) → IsIdle e → history ≡ [] → WorkersAreDone task (no_drawing sources output ws history) e None
idle_done task sources output ws history e ready is_idle none =
    subst (λ (h : List Call). WorkersAreDone task (no_drawing sources output ws h) e None) (sym none) (record {
      counts = (is_idle, refl);
      failed = λ page is. absurd (not_source e is_idle page is);
      one = record { legal = refl; made = tt; none_of_first = refl; few_claims = λ k. omega arith; kept = λ is. tt; idle = λ among. refl };
      gave_up = λ k d lt. inl tt;
      worked = λ k d lt. idle_worked task sources (status_of e) (get_or ws k d) (ready k d lt);
      shares = (0, λ d. none_shared task.settings.workers (λ k. (get_or ws k d).pages.items) (λ k lt. (ready k d lt).fresh.pages));
      rest = λ k d le. refl;
    })

pub idle_drew : {F : Type 0} (task : Task) (sources : Sources F) (output : StreamChange) (ws : List (Worker F)) (history : List Call) (status : ℕ) (e : EndingValue) (left : Option (List ℕ)) (whole : List DrawnValue) → IsIdle e → history ≡ []
    → HoldsOfInput left (PagesMatchHistory task (no_drawing sources output ws history) status e None whole)
idle_drew task sources output ws history status e None whole is_idle none = tt
idle_drew task sources output ws history status e (Some bytes) whole is_idle none = inl (is_idle, refl, none, refl)

-- ---- the first of some workers

module _ {F : Type 0} (task : Task) (reading : Reading) (drawing : Drawing F) (notes : StreamChange) (e : EndingValue) (tally : Option Tally) (rest : List (Worker F)) (long : length drawing.after ≡ task.settings.workers) where
  abbrev n : ℕ
  n = task.settings.workers

  abbrev before : List (Worker F)
  before = drawing.before

  abbrev prefix : List (Worker F)
  prefix = drawing.after

  was : (k : ℕ) (d : Worker F) → k < n → get_or (take n before) k d ≡ get_or before k d
  was k d lt = get_or-take n before k d lt

  is : (k : ℕ) (d : Worker F) → k < n → get_or prefix k d ≡ get_or (prefix ++ rest) k d
  is k d lt = sym (get_or_append_left prefix rest d k (omega arith))

  pub of_prefix : DrewDocument task reading (record drawing { before = take task.settings.workers drawing.before }) notes e tally → DrewDocument task reading (record drawing { after = drawing.after ++ rest }) notes e tally
  of_prefix d = record {
    ends = d.ends;
    failed = λ page at.
        let faults = drawing.sources.faults in
        let f = d.failed page at in
        (f.0, f.1, λ w. subst (λ (x : Worker F). FailedAt faults page x (get_or (prefix ++ rest) f.0 w)) (was f.0 w f.1) (subst (λ (x : Worker F). FailedAt faults page (get_or (take n before) f.0 w) x) (is f.0 w f.1) (f.2 w)));
    shares = record {
      drawn = d.shares.drawn;
      few = d.shares.few;
      shares = λ w. shared_as d.shares.drawn n (λ k. (get_or prefix k w).pages.items) (λ k. (get_or (prefix ++ rest) k w).pages.items) (λ k lt. sym (ap (λ (x : Worker F). x.pages.items) (is k w lt))) (d.shares.shares w);
      reach = d.shares.reach;
      written = d.shares.written;
    };
    one = d.one;
    ran = λ k w lt.
        let Did : Worker F → Worker F → Type 0 = WorkerRan (MayBreakOff e tally) (EveryPageCameToItsEnd n e) drawing.sources.library drawing.sources.faults drawing.sources.loads (setup_of task) reading drawing.history (k + 1) in
        subst (λ (x : Worker F). Did x (get_or (prefix ++ rest) k w)) (was k w lt) (subst (λ (x : Worker F). Did (get_or (take n before) k w) x) (is k w lt) (d.ran k w lt));
  }

-- and the others are as they were
pub rest_of_prefix : {F : Type 0} (n : ℕ) (before prefix : List (Worker F)) → length prefix ≡ n → RestIsKept n before (prefix ++ drop n before)
rest_of_prefix n before prefix long k d le =
    let j = k - n in
    let at : k ≡ length prefix + j = omega arith in
    let back : n + j ≡ k = omega arith in
    ap (λ (i : ℕ). get_or (prefix ++ drop n before) i d) at ∙ get_or-append-add prefix (drop n before) j d ∙ get_or-drop n before j d ∙ ap (λ (i : ℕ). get_or before i d) back
