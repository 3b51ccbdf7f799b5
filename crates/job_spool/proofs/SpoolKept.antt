-- A run over several documents keeps what it promises, whether its jobs were drawn or not.
use Rattle.std.proofs.Common.{◌≡◌, ◌⊎◌, inl, inr, ℕ, zero, suc, ◌+◌, ◌<◌, ◌≤◌, Bool, true, false, List, [], ◌∷◌, ◌++◌, length, get_or, Option, Some, None, refl, sym, ap, subst, ◌∙◌, arith, eq-eqb}
use Rattle.std.specs.Prelude.{◌==◌, if◌then◌else◌, IsSome, MatchOption, option_map, option_to_list}
use Rattle.std.proofs.lemmas.Bool.{cases_lt}
use Rattle.std.proofs.lemmas.List.{get_or-map, get_or_append_left, get_or_push, length-append, length-map}
use Rattle.outside.specs.Counts.{Rose}
use Rattle.outside.specs.Library.{FileTable}
use Rattle.cache_core.specs.Histories.{own}
use Rattle.cache_core.specs.Views.{calls_of}
use Rattle.font_decode.specs.Desks.{misses}
use Rattle.page_index.specs.Pages.{Indexed}
use Rattle.page_workers.specs.declared.worker.Worker.{Worker}
use Rattle.command_line.specs.declared.settings.Settings.{Settings}
use Rattle.dvi_run.specs.Endings.{IsAmong, Memory}
use Rattle.dvi_run.specs.Laws.{OneReading, OneRun, RunsHaveNoFault}
use Rattle.dvi_run.specs.Outside.{Sources}
use Rattle.dvi_run.specs.Pages.{Setup, setup_with}
use Rattle.dvi_run.specs.Reading.{ReadsGave, WasRead as InputWasRead, read_since}
use Rattle.dvi_run.specs.Rounds.{indexed_of}
use Rattle.dvi_run.specs.Together.{IsReadyWorker}
use Rattle.dvi_run.proofs.InputRead.{gave_whole}
use Rattle.dvi_run.proofs.RunOfWorkers.{one_of}
use Rattle.page_index.specs.Document.{IsDocument}
use Rattle.job_spool.specs.Caches.{Drawing, HasFailed, KeepsCache}
use Rattle.job_spool.specs.Jobs.{JobView, WasRead, job_change, job_input, jobs_change}
use Rattle.job_spool.specs.Parts.{IsPart, Part}
use Rattle.job_spool.specs.Promises.{HasNoDocument, IsDocumentOf, IsUnread, KeepsJob, KeepsSpool, run_of, spool_drawing}
use Rattle.job_spool.specs.Sharing.{Documents, caches_of, document_at, sharer, sharers}
use Rattle.job_spool.specs.Sums.{sum_below}
use Rattle.job_spool.specs.Workers.{CountIsFull, FewSourceEnds, IsResting, failures, source_end}
use Rattle.job_spool.specs.declared.job.Job.{Job}
use Rattle.job_spool.proofs.CachesKept.{cache_since, machine_run}
use Rattle.job_spool.proofs.JobsKept.{Answers, UsedFailed, drawn_answers, drawn_ends, idle_answers, idle_ends, keeps_job, memory_answers}
use Rattle.job_spool.proofs.OthersKept.{document_of, gave_then, no_history, without}
use Rattle.job_spool.proofs.SharedPages.{placed_below}
use Rattle.job_spool.proofs.SourcesFailed.{not_drawn, source_failed, sum_none}

-- ---- where a job's part stands

sharer_place : (docs : Documents) (first n k : ℕ) (x : Indexed) → k < n → sharer docs first k ≡ Some x → (i : ℕ) × (i < length (sharers docs first n)) × (get_or (sharers docs first n) i 0 ≡ k)
sharer_place docs first zero k x lt is = absurd (omega arith)
sharer_place docs first (suc n) k x lt is = elim (cases_lt k n) [
  | inl below ↦
      let rest = sharer_place docs first n k x below is in
      let more = option_to_list (option_map (λ (_ : Indexed). n) (sharer docs first n)) in
      let size = length-append (sharers docs first n) more in
      let inside = rest.1 in
      (rest.0, omega (arith, inside, size), get_or_append_left (sharers docs first n) more 0 rest.0 rest.1 ∙ rest.2)
  | inr at ↦
      let same : k ≡ n = omega arith in
      let here : sharer docs first n ≡ Some x = subst (λ (m : ℕ). sharer docs first m ≡ Some x) same is in
      let one : sharers docs first (suc n) ≡ sharers docs first n ++ n ∷ [] = ap (λ (o : Option Indexed). sharers docs first n ++ option_to_list (option_map (λ (_ : Indexed). n) o)) here in
      let size = length-append (sharers docs first n) (n ∷ []) in
      subst (λ (l : List ℕ). (i : ℕ) × (i < length l) × (get_or l i 0 ≡ k)) (sym one) (length (sharers docs first n), omega (arith, size), get_or_push (sharers docs first n) n 0 (length (sharers docs first n)) refl ∙ sym same)
]

-- each job with a document shares the cache of some job
abbrev SharesCache : Documents → ℕ → Indexed → Type 0
SharesCache docs k x = (first : ℕ) × (first ≤ k) × (sharer docs first k ≡ Some x)

own_cache : (docs : Documents) (k : ℕ) (x : Indexed) → k < length docs → document_at docs k ≡ Some x → SharesCache docs k x
own_cache docs k x lt is =
    let at = placed_below docs (length docs) k lt in
    let mine : (get_or (caches_of docs) k 0 == at.0) ≡ true = eq-eqb (get_or (caches_of docs) k 0) at.0 at.1.is in
    (at.0, at.1.before, ap (λ (b : Bool). if b then document_at docs k else None) mine ∙ is)

shared_document : (docs : Documents) (k : ℕ) (x : Indexed) (b : Bool) → (if b then document_at docs k else None) ≡ Some x → document_at docs k ≡ Some x
shared_document docs k x true is = is
shared_document docs k x false is = absurd cc

-- ---- the jobs

module _ {F I O : Type 0} (settings : Settings) (known : Option FileTable) (view : JobView I O) (drawing : Drawing F) (plain : settings.sample ≡ None) (reading : OneReading) (one : OneRun) (no_fault : RunsHaveNoFault) where
  abbrev g : Setup
  g = setup_with known settings

  abbrev Keeps : Job I O → Job I O → Type 0
  Keeps a b = KeepsJob (run_of settings known drawing (job_change view a b)) b.status

  -- what was read of one without a document
  read_unread : (a b : Job I O) → WasRead view g None a b → a.history.items ≡ [] → InputWasRead (job_input view a b) (IsUnread (run_of settings known drawing (job_change view a b)) b.status)
  read_unread a b read empty = elim read.came.2.2 [
    | inl gave ↦ inl gave
    | inr among ↦ inr (record {
      answers = subst (λ (n : ℕ). IsAmong n (6 ∷ 9 ∷ [])) (sym read.came.1) among;
      output = read.out;
      history = ap (λ h. calls_of h.items) read.history ∙ ap calls_of empty;
    })
  ]

  -- one without a document
  keeps_unread : (a b : Job I O) → WasRead view g None a b → a.history.items ≡ [] → Keeps a b
  keeps_unread a b read empty =
      let came = read.came in
      let e = came.0 in
      let old = view.written a.out in
      let new = view.written b.out in
      let input = read_since (view.taken a.input) (view.taken b.input) in
      let O = Rose (view.writes a.out) (view.writes b.out) in
      let I = Rose (view.reads a.input) (view.reads b.input) in
      let S = UsedFailed settings known drawing (job_change view a b) plain in
      keeps_job settings known drawing (job_change view a b) plain reading one no_fault e (subst (λ (n : ℕ). Answers n) (sym came.1) (idle_answers old new O S (b.out ≡ a.out) I g input e came.2.0 came.2.1)) (read_unread a b read empty)
      (idle_ends old new O S (b.out ≡ a.out) I g input e came.2.0 came.2.1) came.1

  -- one that wasn't drawn for want of memory
  keeps_memory : (a b : Job I O) → (bytes : List ℕ) → ReadsGave (job_input view a b) bytes → b.status ≡ 9 → b.out ≡ a.out → Keeps a b
  keeps_memory a b bytes gave is kept =
      keeps_job settings known drawing (job_change view a b) plain reading one no_fault Memory (memory_answers b.status is) (inl (bytes, gave)) (inl kept) is

  -- one that was drawn
  module _ (workers : ℕ) (Failed : ℕ → Type 0) (documents : Documents) (first : ℕ) (a r b : Job I O) (p : Part) (part : IsPart g workers Failed documents first (job_change view a b) p) (input : b.input ≡ r.input) where
    keeps_read : (bytes : List ℕ) → ReadsGave (job_input view a r) bytes → IsDocument g.res bytes p.reading → (b.status ≡ 5 → UsedFailed settings known drawing (job_change view a b) plain) → Keeps a b
    keeps_read bytes read document failed =
        let old = view.written a.out in
        let new = view.written b.out in
        let taken = read_since (view.taken a.input) (view.taken b.input) in
        let O = Rose (view.writes a.out) (view.writes b.out) in
        let I = Rose (view.reads a.input) (view.reads b.input) in
        let S = UsedFailed settings known drawing (job_change view a b) plain in
        let gave = gave_then view a r b bytes input read in
        let was = gave_whole (job_input view a b) bytes gave in
        keeps_job settings known drawing (job_change view a b) plain reading one no_fault p.ending (drawn_answers b.status part.answers) (inl (bytes, gave))
        (drawn_ends old new O S (b.out ≡ a.out) I g taken (Some []) bytes was p.reading document part.ends.0 part.ends.1 p.ending part.ends.2 (λ five. failed (part.status ∙ five))) part.status

    keeps_drawn : WasRead view g (document_at documents p.job) a r → (b.status ≡ 5 → UsedFailed settings known drawing (job_change view a b) plain) → Keeps a b
    keeps_drawn read failed =
        let document : document_at documents p.job ≡ Some (indexed_of g p.reading) = shared_document documents p.job (indexed_of g p.reading) (get_or (caches_of documents) p.job 0 == first) part.document in
        let was : WasRead view g (Some (indexed_of g p.reading)) a r = subst (λ (o : Option Indexed). WasRead view g o a r) document read in
        keeps_read was.came.3.0 was.came.3.1 was.came.3.2 failed

-- ---- a run whose jobs were drawn

module _ {F I O : Type 0} (settings : Settings) (known : Option FileTable) (sources : Sources F) (view : JobView I O) (jobs read now : List (Job I O)) (d : Job I O) (before after : List (Worker F)) (documents : Documents) where
  -- what is known of the jobs before they were drawn, and of their drawing
  pub record WasDrawn : Type 0 where
    pub plain : settings.sample ≡ None
    pub some : 1 ≤ settings.workers
    pub empty : (k : ℕ) → k < length jobs → (get_or jobs k d).history.items ≡ []
    pub many : length documents ≡ length jobs
    pub long : length before ≡ settings.workers
    pub same : length after ≡ settings.workers
    pub was : (k : ℕ) → k < length jobs → WasRead view (setup_with known settings) (document_at documents k) (get_or jobs k d) (get_or read k d)
    pub input : (k : ℕ) → (get_or now k d).input ≡ (get_or read k d).input
    pub others : (k : ℕ) → document_at documents k ≡ None → get_or now k d ≡ get_or read k d
    pub caches : (first : ℕ) → first < length jobs → KeepsCache (spool_drawing settings known sources (length jobs) (jobs_change view read now d) before after) documents first
    pub few : FewSourceEnds sources.faults settings.workers (length jobs) before after read now
    pub resting : (k : ℕ) (w : Worker F) → k < settings.workers
        → IsResting sources known (sum_below (λ j. misses (own (k + 1) (calls_of (get_or now j d).history.items))) (length jobs)) (get_or before k w) (get_or after k w)

  module _ (reading : OneReading) (one : OneRun) (no_fault : RunsHaveNoFault) (drew : WasDrawn) where
    abbrev drawing : Drawing F
    drawing = spool_drawing settings known sources (length jobs) (jobs_change view jobs now d) before after

    abbrev Kept : ℕ → Type 0
    Kept k = KeepsJob (run_of settings known drawing (job_change view (get_or jobs k d) (get_or now k d))) (get_or now k d).status

    none_ended : (j : ℕ) → j < length jobs → source_end (get_or read j d).status ≡ 0
    none_ended j lt = not_drawn view (setup_with known settings) (document_at documents j) (get_or jobs j d) (get_or read j d) (drew.was j lt)

    caches : (first : ℕ) → first < length jobs → KeepsCache drawing documents first
    caches first lt = cache_since drawing view jobs read now d documents first (λ k l. (drew.was k l).out) (drew.caches first lt)

    failed : (k : ℕ) → k < length jobs → (get_or now k d).status ≡ 5 → UsedFailed settings known drawing (job_change view (get_or jobs k d) (get_or now k d)) drew.plain
    failed k lt five =
        let inside : 0 < length before = (let a = drew.some in let b = drew.long in omega (arith, a, b)) in
        source_failed sources.faults settings.workers (length jobs) before after read now (one_of before 0 inside) d drew.long drew.same drew.few none_ended k lt five

    at_part : (first : ℕ) (p : Part) → p.job < length jobs → IsPart (setup_with known settings) settings.workers (HasFailed drawing) documents first (job_change view (get_or jobs p.job d) (get_or now p.job d)) p → Kept p.job
    at_part first p lt part =
        keeps_drawn settings known view drawing drew.plain reading one no_fault settings.workers (HasFailed drawing) documents first (get_or jobs p.job d) (get_or read p.job d) (get_or now p.job d) p part (drew.input p.job) (drew.was p.job lt)
        (failed p.job lt)

    by_cache : (k : ℕ) (x : Indexed) (first : ℕ) → k < length jobs → sharer documents first k ≡ Some x → KeepsCache drawing documents first → Kept k
    by_cache k x first lt shares (inl none) =
        let end = none.ended k lt (subst IsSome (sym shares) refl) in
        let document : document_at documents k ≡ Some x = shared_document documents k x (get_or (caches_of documents) k 0 == first) shares in
        let was : WasRead view (setup_with known settings) (Some x) (get_or jobs k d) (get_or read k d) =
        subst (λ (o : Option Indexed). WasRead view (setup_with known settings) o (get_or jobs k d) (get_or read k d)) document (drew.was k lt) in
        let gave = gave_then view (get_or jobs k d) (get_or read k d) (get_or now k d) was.came.3.0 (drew.input k) was.came.3.1 in
        keeps_memory settings known view drawing drew.plain reading one no_fault (get_or jobs k d) (get_or now k d) was.came.3.0 gave end.0 end.1
    by_cache k x first lt shares (inr cache) =
        let parts = cache.parts in
        let place = sharer_place documents first (length jobs) k x lt shares in
        let size = length-map parts (λ (p : Part). p.job) in
        let long = ap length cache.shared in
        let there = place.1 in
        let inside : place.0 < length parts = omega (arith, there, size, long) in
        let p = one_of parts place.0 inside in
        let is : (get_or parts place.0 p).job ≡ k = sym (get_or-map (λ (q : Part). q.job) parts place.0 p 0 inside) ∙ ap (λ (l : List ℕ). get_or l place.0 0) cache.shared ∙ place.2 in
        let at = cache.each place.0 p inside in
        subst Kept is (at_part first (get_or parts place.0 p) at.0 at.1)

    by_document : (k : ℕ) → k < length jobs → (o : Option Indexed) → document_at documents k ≡ o → Kept k
    by_document k lt None none =
        keeps_unread settings known view drawing drew.plain reading one no_fault (get_or jobs k d) (get_or now k d)
        (subst (λ (y : Job I O). WasRead view (setup_with known settings) None (get_or jobs k d) y) (sym (drew.others k none))
        (subst (λ (o : Option Indexed). WasRead view (setup_with known settings) o (get_or jobs k d) (get_or read k d)) none (drew.was k lt))) (drew.empty k lt)
    by_document k lt (Some x) some =
        let many = drew.many in
        let share = own_cache documents k x (omega (arith, many, lt)) some in
        let low = share.1 in
        by_cache k x share.0 lt share.2 (caches share.0 (omega (arith, low, lt)))

    few_failed : (w : Worker F) → CountIsFull sources.faults settings.workers before after
        ⊎ (sum_below (λ k. source_end (get_or now k d).status) (length jobs) + failures sources.faults settings.workers before w ≤ failures sources.faults settings.workers after w)
    few_failed w = elim (drew.few w d) [
      | inl full ↦ inl full
      | inr fits ↦ let none = sum_none (λ j. source_end (get_or read j d).status) (length jobs) none_ended in inr (omega (arith, fits, none))
    ]

    pub keeps_drawn_jobs : KeepsSpool settings known drawing
    keeps_drawn_jobs = record {
      jobs = λ k lt. by_document k lt (document_at documents k) refl;
      documents = documents;
      many = drew.many;
      read = λ k lt. document_of view (setup_with known settings) (document_at documents k) (get_or jobs k d) (get_or read k d) (get_or now k d) (drew.was k lt) (drew.input k) (drew.others k) (drew.empty k lt);
      caches = caches;
      others = λ k lt not. no_history documents drawing drew.many k not (caches k lt);
      machine = λ first lt. machine_run drawing documents first;
      failed = few_failed;
      workers = drew.resting;
    }

-- ---- a run whose jobs weren't drawn

abbrev nothing : ℕ → Documents
nothing zero = []
nothing (suc n) = None ∷ nothing n

nothing_long : (n : ℕ) → length (nothing n) ≡ n
nothing_long zero = refl
nothing_long (suc n) = ap suc (nothing_long n)

nothing_at : (n k : ℕ) → document_at (nothing n) k ≡ None
nothing_at zero k = refl
nothing_at (suc n) zero = refl
nothing_at (suc n) (suc k) = nothing_at n k

no_sharer : (b : Bool) (o : Option Indexed) → o ≡ None → IsSome {T = Indexed} (if b then o else None) → ⊥
no_sharer true o none some = let bad : IsSome {T = Indexed} None = subst (λ (x : Option Indexed). IsSome x) none some in cc
no_sharer false o none some = cc

if_none : (o : Option Indexed) (P : Type 0) (Q : Indexed → Type 0) → o ≡ None → P → MatchOption o P Q
if_none None P Q none p = p
if_none (Some x) P Q none p = absurd cc

-- a worker that may be used
pub ready_rests : {F : Type 0} (sources : Sources F) (known : Option FileTable) (w : Worker F) → IsReadyWorker sources.library known w → IsResting sources known 0 w w
ready_rests sources known w ready = record {
  seat = ready.seat;
  none = ready.fresh.none;
  counter = ready.fresh.counter;
  library = ready.fresh.knows_library;
  faults = omega arith;
  loaded = record { loads = record { most = omega arith; never_falls = omega arith }; counted = record { most = omega arith; never_falls = omega arith }; same = λ lt. omega arith };
}

module _ {F I O : Type 0} (settings : Settings) (known : Option FileTable) (sources : Sources F) (view : JobView I O) (jobs now : List (Job I O)) (d : Job I O) (before : List (Worker F)) (plain : settings.sample ≡ None) (reading : OneReading) (one : OneRun)
    (no_fault : RunsHaveNoFault) (ready : (k : ℕ) (w : Worker F) → k < settings.workers → IsReadyWorker sources.library known (get_or before k w)) (empty : (k : ℕ) → k < length jobs → (get_or jobs k d).history.items ≡ [])
    (was : (k : ℕ) → k < length jobs → WasRead view (setup_with known settings) None (get_or jobs k d) (get_or now k d)) where
  abbrev still : Drawing F
  still = spool_drawing settings known sources (length jobs) (jobs_change view jobs now d) before before

  no_history_yet : (k : ℕ) → k < length jobs → (get_or now k d).history.items ≡ []
  no_history_yet k lt = ap (λ h. h.items) (was k lt).history ∙ empty k lt

  none_missed : (seat : ℕ) → sum_below (λ j. misses (own (seat + 1) (calls_of (get_or now j d).history.items))) (length jobs) ≡ 0
  none_missed seat = sum_none (λ j. misses (own (seat + 1) (calls_of (get_or now j d).history.items))) (length jobs) (λ j lt. ap (λ es. misses (own (seat + 1) (calls_of es))) (no_history_yet j lt))

  pub keeps_undrawn_jobs : KeepsSpool settings known still
  keeps_undrawn_jobs = record {
    jobs = λ k lt. keeps_unread settings known view still plain reading one no_fault (get_or jobs k d) (get_or now k d) (was k lt) (empty k lt);
    documents = nothing (length jobs);
    many = nothing_long (length jobs);
    read = λ k lt.
        if_none (document_at (nothing (length jobs)) k) (HasNoDocument (still.jobs k)) (IsDocumentOf settings.res (still.jobs k)) (nothing_at (length jobs) k) (without view (setup_with known settings) (get_or jobs k d) (get_or now k d) (was k lt) (empty k lt));
    caches = λ first lt.
        inl (record {
          history = ap calls_of (no_history_yet first lt);
          ended = λ k l some. absurd (no_sharer (get_or (caches_of (nothing (length jobs))) k 0 == first) (document_at (nothing (length jobs)) k) (nothing_at (length jobs) k) some);
        });
    others = λ k lt not. ap calls_of (no_history_yet k lt);
    machine = λ first lt. machine_run still (nothing (length jobs)) first;
    failed = λ w.
        let none = sum_none (λ k. source_end (get_or now k d).status) (length jobs) (λ k lt. not_drawn view (setup_with known settings) None (get_or jobs k d) (get_or now k d) (was k lt)) in inr (omega (arith, none));
    workers = λ k w lt.
        subst (λ (n : ℕ). IsResting sources known n (get_or before k w) (get_or before k w)) (sym (none_missed k)) (ready_rests sources known (get_or before k w) (ready k w lt));
  }
