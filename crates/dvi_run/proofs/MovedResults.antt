-- From the workers of a run's own to those that what they drew is handed to.
use Rattle.std.proofs.Common.{◌≡◌, ◌∙◌, inl, inr, ℕ, ◌+◌, ◌*◌, ◌<◌, ◌≤◌, List, [], ◌∷◌, length, get_or, Option, Some, None, IfSome, refl, sym, ap, subst, arith}
use Rattle.std.proofs.lemmas.Bool.{cases_lt}
use Rattle.std.proofs.lemmas.List.{ext_get_or}
use Rattle.outside.specs.Counts.{Rose}
use Rattle.outside.specs.Library.{FileTable}
use Rattle.cache_core.specs.declared.calls.Call.{Call}
use Rattle.cache_core.specs.Histories.{own}
use Rattle.font_decode.specs.Desks.{misses}
use Rattle.font_decode.specs.Loads.{RoseUpTo, MAX_LOADS}
use Rattle.page_index.specs.Document.{Reading}
use Rattle.page_draw.specs.Values.{DrawnValue}
use Rattle.page_workers.specs.declared.worker.Worker.{Worker}
use Rattle.sample_maker.specs.Sample.{made_files}
use Rattle.command_line.specs.declared.settings.Settings.{Settings}
use Rattle.dvi_run.specs.Pages.{finding, setup_with}
use Rattle.dvi_run.specs.Endings.{EndingValue, status_of}
use Rattle.dvi_run.specs.Looked.{BrokenLooks, EndsBroken, MayBreakOff, WholeLooks}
use Rattle.dvi_run.specs.Rounds.{LoadsAreOf, indexed_of}
use Rattle.dvi_run.specs.Sampled.{SourcesAreKept, TookResults}
use Rattle.dvi_run.specs.Outside.{Drawing, Sources, StreamChange, task_for_sample}
use Rattle.dvi_run.specs.Together.{Answered, EveryPageCameToItsEndBy, run_end, GaveUpOnlyBroken, WorkersAreDone, PagesMatchHistory, IsReadyWorker, RestIsKept, SomeUsed, SourceRose, WorkerDone}
use Rattle.dvi_run.specs.declared.tally.Tally.{Tally}
use Rattle.dvi_run.specs.Shares.{PartitionPages}
use Rattle.dvi_run.proofs.Shares.{shared_as}
use Rattle.dvi_run.proofs.RunOfWorkers.{history_for_sample, one_of, some_rose}

-- two lists with the same elements are one
ext_by : {A : Type 0} (xs ys : List A) → length xs ≡ length ys → ((k : ℕ) (d : A) → k < length xs → get_or xs k d ≡ get_or ys k d) → xs ≡ ys
ext_by [] [] long each = refl
ext_by [] (y ∷ ys) long each = cc
ext_by (x ∷ xs) ys long each = ext_get_or x (x ∷ xs) ys long (λ k lt. each k x lt)

-- a count that stands at 0 never rose
never_rose : (before now : ℕ) → now ≡ 0 → Rose before now → ⊥
never_rose before now none (inl lt) = omega (arith, lt, none)
never_rose before now none (inr at) = omega (arith, at, none)

-- ---- one worker

module _ {F G : Type 0} (mine : Worker G) (was now : Worker F) (h : TookResults mine was now) where
  worked_handed : (gtold known : Option FileTable) (pages : ℕ) (settings : Settings) (gsources : Sources G) (sources : Sources F) (status : ℕ) (calls : List Call) (first : Worker G) → first.loads ≡ 0 → IsReadyWorker sources.library known was
      → WorkerDone (task_for_sample None gtold settings) gsources status calls first mine → WorkerDone (task_for_sample (Some pages) known settings) sources status calls was now
  worked_handed gtold known pages settings gsources sources status calls first none ready w = record {
    seat = h.seat ∙ ready.seat;
    none = ap (λ v. v.items) h.results ∙ ready.fresh.none;
    counter = h.counter ∙ ready.fresh.counter;
    spare_pages = λ none. ap (λ v. v.items) h.spare_pages ∙ none;
    knows_library = subst (λ (s : F). IfSome known (λ l. sources.library s ≡ Some l)) (sym h.source) ready.fresh.knows_library;
    count = subst (λ (s : F). sources.faults was.source ≤ sources.faults s) (sym h.source) (omega arith);
    keys = w.keys;
    answered = w.answered;
    last = w.last;
    kept = w.kept;
    loaded = subst (λ (m : ℕ). RoseUpTo (MAX_LOADS * misses calls) m now.loads) (none ∙ sym ready.fresh.loads) (subst (λ (m : ℕ). RoseUpTo (MAX_LOADS * misses calls) first.loads m) (sym h.loads) w.loaded.counted);
  }

  gave_up_handed : (e : EndingValue) (tally : Option Tally) (calls : List Call) → GaveUpOnlyBroken e tally calls mine → GaveUpOnlyBroken e tally calls now
  gave_up_handed e tally calls gave = elim gave [
    | inl none ↦ inl none
    | inr b ↦ inr (subst (λ (ps : List ℕ). EndsBroken (MayBreakOff e tally) ps) (sym h.pages) b)
  ]

  answered_handed : (known : Option FileTable) (pages : ℕ) (settings : Settings) (reading : Reading) (history : List Call) (status : ℕ) (e : EndingValue) (tally : Option Tally) (k : ℕ)
      → Answered (task_for_sample None (Some (made_files settings.packed)) settings) reading history (run_end status e tally) k mine → Answered (task_for_sample (Some pages) known settings) reading history (run_end status e tally) k now
  answered_handed known pages settings reading history status e tally k a =
      let g = setup_with (Some (made_files settings.packed)) settings in
      record {
        keys = a.keys;
        looked = elim a.looked [
          | inl w ↦ inl (w.0, subst (λ (ps : List ℕ). WholeLooks (finding g reading) (indexed_of g reading) g.sheet ps a.keys) (sym h.pages) w.1)
          | inr b ↦ inr (subst (λ (ps : List ℕ). BrokenLooks (MayBreakOff e tally) (finding g reading) (indexed_of g reading) g.sheet ps a.keys) (sym h.pages) b)
        ];
        through = λ is. subst (λ (ps : List ℕ). WholeLooks (finding g reading) (indexed_of g reading) g.sheet ps a.keys) (sym h.pages) (a.through is);
        answered = a.answered;
        weighed = a.weighed;
        loads = subst (λ (n : ℕ). LoadsAreOf (EveryPageCameToItsEndBy settings.workers status) g reading (own (k + 1) history) n) (sym h.loads) a.loads;
        one = a.one;
      }

-- ---- all of them

module _ {F G : Type 0} (settings : Settings) (first last : List (Worker G)) (before after : List (Worker F)) (long : length first ≡ settings.workers) (long_last : length last ≡ settings.workers)
    (handed : (k : ℕ) (e : Worker G) (d : Worker F) → k < settings.workers → TookResults (get_or last k e) (get_or before k d) (get_or after k d)) where
  abbrev n : ℕ
  n = settings.workers

  at_first : (k : ℕ) → k < n → Worker G
  at_first k lt = one_of first k (omega (arith, lt, long))

  at_last : (k : ℕ) → k < n → Worker G
  at_last k lt = one_of last k (omega (arith, lt, long_last))

  pub none_rose : (gfaults : G → ℕ) → ((s : G) → gfaults s ≡ 0) → SomeUsed n first last (SourceRose gfaults) → ⊥
  none_rose gfaults sure s = let d = at_first s.0 s.1 in never_rose (gfaults (get_or first s.0 d).source) (gfaults (get_or last s.0 d).source) (sure _) (s.2 d)

  module _ (rest : RestIsKept n before after) where
    pub sources_kept : SourcesAreKept before after
    sources_kept k d = elim (cases_lt k n) [
      | inl lt ↦ (handed k (at_last k lt) d lt).source
      | inr le ↦ ap (λ (w : Worker F). w.source) (rest k d le)
    ]

    module _ (library : F → Option FileTable) (known : Option FileTable) (ready : (k : ℕ) (d : Worker F) → k < n → IsReadyWorker library known (get_or before k d))
        (glibrary : G → Option FileTable) (own_ready : (k : ℕ) (d : Worker G) → k < n → IsReadyWorker glibrary (Some (made_files settings.packed)) (get_or first k d)) where
      -- where the run's own workers are as they were, the others are too
      same_workers : length before ≡ length after → last ≡ first → after ≡ before
      same_workers sizes same =
          sym (ext_by before after sizes (λ k d within. elim (cases_lt k n) [
            | inl lt ↦
                let e = at_first k lt in
                let is : get_or last k e ≡ get_or first k e = ap (λ (ws : List (Worker G)). get_or ws k e) same in
                let unused = (own_ready k e lt).fresh in
                sym ((handed k e d lt).same (ap (λ (w : Worker G). w.pages.items) is ∙ unused.pages) (ap (λ (w : Worker G). w.loads) is ∙ unused.loads ∙ sym (ready k d lt).fresh.loads))
            | inr le ↦ sym (rest k d le)
          ]))

      -- what the run's own workers shared is shared by the others
      shares_handed : 0 < n → (total : ℕ) → PartitionPages total n last → PartitionPages total n after
      shares_handed some total shared d =
          let e = at_last 0 some in
          shared_as total n (λ k. (get_or last k e).pages.items) (λ k. (get_or after k d).pages.items) (λ k lt. (handed k e d lt).pages) (shared e)

      module _ (some : 0 < n) (gfaults gloads : G → ℕ) (faults loads : F → ℕ) (output : StreamChange) (history : List Call) (e : EndingValue) (tally : Option Tally) where
        -- what the run's own workers drew
        abbrev mine : Drawing G
        mine = record { sources = record { library = glibrary; faults = gfaults; loads = gloads }; output = output; before = first; after = last; history = history }

        -- and the same of the others
        abbrev theirs : Drawing F
        theirs = record { sources = record { library = library; faults = faults; loads = loads }; output = output; before = before; after = after; history = history }

        pub drew_handed : length before ≡ length after → (pages status : ℕ) (whole : List DrawnValue) (bytes : List ℕ) → PagesMatchHistory (task_for_sample None (Some (made_files settings.packed)) settings) mine status e tally whole bytes
            → PagesMatchHistory (task_for_sample (Some pages) known settings) theirs status e tally whole bytes
        drew_handed sizes pages status whole bytes (inl idle) = inl (idle.0, idle.1, idle.2, same_workers sizes idle.3)
        drew_handed sizes pages status whole bytes (inr run) =
            inr (
              run.0,
              run.1,
              run.2,
              (
                run.3.0,
                run.3.1,
                record {
                  drawn = run.3.2.drawn;
                  few = run.3.2.few;
                  shares = shares_handed some run.3.2.drawn run.3.2.shares;
                  reach = run.3.2.reach;
                  written = run.3.2.written;
                },
                λ k d lt.
                    answered_handed (get_or last k (at_last k lt)) (get_or before k d) (get_or after k d) (handed k (at_last k lt) d lt) known pages settings run.0 history status e tally k (run.3.3 k (at_last k lt) lt),
              ),
            )

        pub done_handed : ((s : G) → gfaults s ≡ 0) → (pages : ℕ) → WorkersAreDone (task_for_sample None (Some (made_files settings.packed)) settings) mine e tally → WorkersAreDone (task_for_sample (Some pages) known settings) theirs e tally
        done_handed sure pages done = record {
          counts = done.counts;
          failed = λ page is. absurd (none_rose gfaults sure (some_rose gfaults n first last page (done.failed page is)));
          one = history_for_sample (Some pages) (task_for_sample None (Some (made_files settings.packed)) settings).settings (status_of e) history done.one;
          gave_up = λ k d lt.
              gave_up_handed (get_or last k (at_last k lt)) (get_or before k d) (get_or after k d) (handed k (at_last k lt) d lt) e tally (own (k + 1) history) (done.gave_up k (at_last k lt) lt);
          worked = λ k d lt.
              worked_handed (get_or last k (at_last k lt)) (get_or before k d) (get_or after k d) (handed k (at_last k lt) d lt) (Some (made_files settings.packed)) known pages settings mine.sources theirs.sources (status_of e)
              (own (k + 1) history) (get_or first k (at_last k lt)) (own_ready k (at_last k lt) lt).fresh.loads (ready k d lt) (done.worked k (at_last k lt) lt);
          shares = (done.shares.0, shares_handed some done.shares.0 done.shares.1);
          rest = rest;
        }
