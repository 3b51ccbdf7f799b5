-- Jobs that share a cache are drawn, one after another.
use Rattle.std.proofs.Common.{◌≡◌, ℕ, suc, ◌+◌, ◌<◌, ◌≤◌, Bool, true, false, List, [], ◌∷◌, ◌++◌, length, get_or, set, Option, Some, None, refl, sym, ap, ap₂, subst, ◌∙◌, append-nil, arith, eqb-true}
use Rattle.std.specs.Prelude.{◌==◌, if◌then◌else◌, IfSome, map, option_map, option_to_list}
use Rattle.std.specs.List.{flat_map}
use Rattle.std.proofs.lemmas.List.{get_or-set_same, get_or-set_other}
use Rattle.std.proofs.lemmas.List.Elements.{All-push, All-weaker}
use Rattle.outside.specs.Counts.{Rose}
use Rattle.outside.proofs.Growth.{rose_before, rose_later}
use Rattle.cache_core.specs.declared.calls.Call.{Call}
use Rattle.cache_core.specs.declared.limits.Limits.{Limits}
use Rattle.page_index.specs.Document.{pages_begun}
use Rattle.page_index.specs.Pages.{Indexed}
use Rattle.page_draw.specs.declared.sheet.Sheet.{Sheet}
use Rattle.page_workers.specs.declared.bench.Bench.{Bench}
use Rattle.page_workers.specs.declared.worker.Worker.{Worker}
use Rattle.page_workers.proofs.Lists.{same_default}
use Rattle.dvi_run.specs.Endings.{EndingValue, IsAmong, status_of}
use Rattle.dvi_run.specs.Jobs.{DrewJob, calls_since}
use Rattle.dvi_run.specs.Outside.{Sources, change_of}
use Rattle.dvi_run.specs.Pages.{Setup}
use Rattle.dvi_run.specs.Rounds.{Site, indexed_of, site}
use Rattle.job_spool.specs.Caches.{HasFailed}
use Rattle.job_spool.specs.Drawn.{AreFor, SharersDrew, drawing_with, left_for}
use Rattle.job_spool.specs.Jobs.{JobChange, JobView, job_change}
use Rattle.job_spool.specs.Parts.{IsPart, Part}
use Rattle.job_spool.specs.Sharing.{Documents, caches_of, document_at, pages_in, pages_sharing, sharer, sharers, units_in}
use Rattle.job_spool.specs.Workers.{IsSeated}
use Rattle.job_spool.specs.declared.job.Job.{Job}
use Rattle.job_spool.proofs.PartsDrawn.{drew_part, part_as, part_of}
use Rattle.job_spool.proofs.SeatsDrawn.{flat_more, seated_more, seated_on}
use Rattle.job_spool.proofs.SharedPages.{few_below, pages_rise, placed_below}

-- ---- a sharer

chosen : (b : Bool) (o : Option Indexed) (x : Indexed) → (if b then o else None) ≡ Some x → (b ≡ true) × (o ≡ Some x)
chosen true o x is = (refl, is)
chosen false o x is = absurd cc

few_pages : (res : ℕ) (o : Option Indexed) → IfSome o (λ x. (x.res ≡ res) × (pages_begun x.reading ≤ 1000000)) → pages_in o ≤ 1000000
few_pages res None for = omega arith
few_pages res (Some x) for = for.1

module _ (docs : Documents) (first k : ℕ) (x : Indexed) (shares : sharer docs first k ≡ Some x) where
  own_cache : (get_or (caches_of docs) k 0 == first) ≡ true
  own_cache = (chosen (get_or (caches_of docs) k 0 == first) (document_at docs k) x shares).0

  pub own_document : document_at docs k ≡ Some x
  own_document = (chosen (get_or (caches_of docs) k 0 == first) (document_at docs k) x shares).1

  pub in_cache : get_or (caches_of docs) k 0 ≡ first
  in_cache = eqb-true (get_or (caches_of docs) k 0) first own_cache

  -- it has the units of the cache's first document
  pub same_units : k < length docs → units_in (document_at docs k) ≡ units_in (document_at docs first)
  same_units lt =
      let at = placed_below docs (length docs) k lt in
      let same : at.0 ≡ first = sym at.1.is ∙ in_cache in
      sym at.1.units ∙ ap (λ (n : ℕ). units_in (document_at docs n)) same

  more_pages : pages_sharing docs (caches_of docs) first (suc k) ≡ pages_sharing docs (caches_of docs) first k + pages_begun x.reading
  more_pages =
      ap₂ (λ (b : Bool) (o : Option Indexed). pages_sharing docs (caches_of docs) first k + (if b then pages_in o else 0)) own_cache own_document

  -- and there is room for its pages
  pub room_for : (res : ℕ) → AreFor res docs → k < length docs → left_for docs first (k + 1) + pages_begun x.reading ≤ left_for docs first k
  room_for res for lt =
      let more = more_pages in
      let one : suc k ≡ k + 1 = omega arith in
      let next : pages_sharing docs (caches_of docs) first (k + 1) ≡ pages_sharing docs (caches_of docs) first k + pages_begun x.reading =
      subst (λ (n : ℕ). pages_sharing docs (caches_of docs) first n ≡ pages_sharing docs (caches_of docs) first k + pages_begun x.reading) one more in
      let all = few_below docs (λ j. few_pages res (document_at docs j) (for j)) (length docs) first in
      let rise = pages_rise docs (caches_of docs) first (k + 1) (length docs) (omega (arith, lt)) in
      omega (arith, next, all, rise)

  pub sharers_more : sharers docs first (k + 1) ≡ sharers docs first k ++ k ∷ []
  sharers_more =
      let one : k + 1 ≡ suc k = omega arith in
      ap (sharers docs first) one ∙ ap (λ (o : Option Indexed). sharers docs first k ++ option_to_list (option_map (λ _. k) o)) shares

pub sharers_same : (docs : Documents) (first k : ℕ) → sharer docs first k ≡ None → sharers docs first (k + 1) ≡ sharers docs first k
sharers_same docs first k none =
    let one : k + 1 ≡ suc k = omega arith in
    ap (sharers docs first) one ∙ ap (λ (o : Option Indexed). sharers docs first k ++ option_to_list (option_map (λ _. k) o)) none ∙ append-nil (sharers docs first k)

jobs_more : (parts : List Part) (p : Part) → map (λ (q : Part). q.job) (parts ++ p ∷ []) ≡ map (λ (q : Part). q.job) parts ++ p.job ∷ []
jobs_more [] p = refl
jobs_more (q ∷ parts) p = ap (λ (l : List ℕ). q.job ∷ l) (jobs_more parts p)

-- ---- one job after another

module _ {F I O : Type 0} (g : Setup) (limits : Limits) (sources : Sources F) (view : JobView I O) (bench : Bench) (docs : Documents) (first : ℕ) (jobs : List (Job I O)) (d : Job I O) (ws : List (Worker F)) where
  abbrev Drew : ℕ → List (Job I O) → List (Worker F) → Type 0
  Drew k now after = SharersDrew (drawing_with g limits sources view jobs now d ws after) g.library bench docs first k

  abbrev Failed : List (Worker F) → ℕ → Type 0
  Failed after = HasFailed (drawing_with g limits sources view jobs jobs d ws after)

  abbrev Seated : ℕ → ℕ → List Call → Worker F → Worker F → Type 0
  Seated seat left calls was now = IsSeated sources g.library bench (seat + 1) left calls was now

  pub drew_none : ((i : ℕ) (e : Worker F) → i < length ws → Seated i 1000000 [] (get_or ws i e) (get_or ws i e)) → Drew 0 jobs ws
  drew_none seated = record { parts = []; shared = refl; each = λ i q lt. absurd (omega (arith, lt)); seats = λ i e lt. seated i e lt }

  module _ (k : ℕ) (now : List (Job I O)) (after : List (Worker F)) (drew : Drew k now after) where
    abbrev PartNow : Part → Type 0
    PartNow p = (p.job < k) × IsPart g (length ws) (Failed after) docs first (job_change view (get_or jobs p.job d) (get_or now p.job d)) p

    pub drew_past : sharer docs first k ≡ None → Drew (k + 1) now after
    drew_past none = record {
      parts = drew.parts;
      shared = drew.shared ∙ sym (sharers_same docs first k none);
      each = All-weaker PartNow (λ p. (p.job < k + 1) × IsPart g (length ws) (Failed after) docs first (job_change view (get_or jobs p.job d) (get_or now p.job d)) p) (λ p part. (omega (arith, part.0), part.1)) drew.parts drew.each;
      seats = λ i e lt.
          let rise = pages_rise docs (caches_of docs) first k (k + 1) (omega arith) in
          seated_on sources g.library bench (i + 1) (left_for docs first k) (left_for docs first (k + 1)) (flat_map (λ (p : Part). p.calls i) drew.parts) (get_or ws i e) (get_or after i e) (omega (arith, rise)) (drew.seats i e lt);
    }

    module _ (x : Indexed) (sheet : Sheet) (v : Job I O) (later : List (Worker F)) (e : EndingValue) (w : Worker F) (shares : sharer docs first k ≡ Some x) (given : x.res ≡ g.res) (on : sheet ≡ g.sheet) (is : v.status ≡ status_of e)
        (among : IsAmong v.status (0 ∷ 3 ∷ 4 ∷ 5 ∷ 7 ∷ 9 ∷ []))
        (did : DrewJob (site sources.library sources.faults sources.loads bench g.library x sheet) (change_of view.written view.writes (get_or jobs k d).out v.out) after later e) (long : length after ≡ length ws) (there : k < length now) where
      abbrev here : Site F
      here = record { library = sources.library; faults = sources.faults; loads = sources.loads; bench = bench; given = g; reading = x.reading }

      abbrev change : JobChange
      change = job_change view (get_or jobs k d) v

      done : DrewJob here (change_of view.written view.writes (get_or jobs k d).out v.out) after later e
      done = subst (λ (s : Sheet). DrewJob (record here { given = record g { sheet = s } }) (change_of view.written view.writes (get_or jobs k d).out v.out) after later e) on
          (subst (λ (n : ℕ). DrewJob (record here { given = record g { res = n; sheet = sheet } }) (change_of view.written view.writes (get_or jobs k d).out v.out) after later e) given did)

      indexed : Some x ≡ Some (indexed_of g x.reading)
      indexed = ap (λ (n : ℕ). Some (indexed_of (record g { res = n }) x.reading)) given

      abbrev part : Part
      part = part_of here (change_of view.written view.writes (get_or jobs k d).out v.out) after later e done k w

      -- the source of a seat's worker that failed before, or in this job
      grew : (i : ℕ) (u : Worker F) → i < length ws → sources.faults (get_or ws i u).source ≤ sources.faults (get_or after i u).source
      grew i u lt = (drew.seats i u lt).faults

      grew_more : (i : ℕ) (u : Worker F) → i < length ws → sources.faults (get_or after i u).source ≤ sources.faults (get_or later i u).source
      grew_more i u lt = (done.worked i u (omega (arith, long, lt))).faults

      failed_before : (i : ℕ) → i < length ws → Failed after i → Failed later i
      failed_before i lt failed u = rose_before _ _ _ (grew i u lt) (failed u) (grew_more i u lt)

      failed_here : length later ≡ length ws → (i : ℕ) → i < length ws → Rose (sources.faults (get_or after i w).source) (sources.faults (get_or later i w).source) → Failed later i
      failed_here many i lt rose u =
          let a : get_or after i w ≡ get_or after i u = same_default after i w u (omega (arith, long, lt)) in
          let b : get_or later i w ≡ get_or later i u = same_default later i w u (omega (arith, many, lt)) in
          rose_later _ _ _ (grew i u lt) (subst (λ (y : Worker F). Rose (sources.faults (get_or after i u).source) (sources.faults y.source)) b
          (subst (λ (y : Worker F). Rose (sources.faults y.source) (sources.faults (get_or later i w).source)) a rose)) (grew_more i u lt)

      abbrev PartLater : Part → Type 0
      PartLater p = (p.job < k + 1) × IsPart g (length ws) (Failed later) docs first (job_change view (get_or jobs p.job d) (get_or (set now k v) p.job d)) p

      older : (p : Part) → PartNow p → PartLater p
      older p at = (
        omega (arith, at.0),
        subst (λ (y : Job I O). IsPart g (length ws) (Failed later) docs first (job_change view (get_or jobs p.job d) y) p) (sym (get_or-set_other now k p.job v d (λ same. omega (arith, same, at.0))))
            (part_as g (length ws) (Failed after) (Failed later) docs first (job_change view (get_or jobs p.job d) (get_or now p.job d)) p failed_before at.1),
      )

      newest : length later ≡ length ws → PartLater part
      newest many = (
        omega arith,
        subst (λ (y : Job I O). IsPart g (length ws) (Failed later) docs first (job_change view (get_or jobs k d) y) part) (sym (get_or-set_same now k v d there))
            (subst (λ (n : ℕ). IsPart g n (Failed later) docs first change part) long
            (drew_part here change after later e done k w docs first (Failed later) (shares ∙ indexed) is among (λ i lt. failed_here many i (omega (arith, long, lt))))),
      )

      calls_here : (i : ℕ) (u : Worker F) → i < length ws → length later ≡ length ws → calls_since (get_or after i u) (get_or later i u) ≡ part.calls i
      calls_here i u lt many = ap₂ (λ (a b : Worker F). calls_since a b) (same_default after i u w (omega (arith, long, lt))) (same_default later i u w (omega (arith, many, lt)))

      pub drew_more : length later ≡ length ws → (res : ℕ) → AreFor res docs → k < length docs → Drew (k + 1) (set now k v) later
      drew_more many res for lt = record {
        parts = drew.parts ++ part ∷ [];
        shared = jobs_more drew.parts part ∙ ap (λ (l : List ℕ). l ++ k ∷ []) drew.shared ∙ sym (sharers_more docs first k x shares);
        each = All-push PartLater drew.parts part (All-weaker PartNow PartLater older drew.parts drew.each) (newest many);
        seats = λ i u below.
            subst (λ (l : List Call). Seated i (left_for docs first (k + 1)) l (get_or ws i u) (get_or later i u))
            (ap (λ (l : List Call). flat_map (λ (p : Part). p.calls i) drew.parts ++ l) (calls_here i u below many) ∙ sym (flat_more (λ (p : Part). p.calls i) drew.parts part))
            (seated_more here _ _ (i + 1) (left_for docs first k) (left_for docs first (k + 1)) (flat_map (λ (p : Part). p.calls i) drew.parts) (get_or ws i u) (get_or after i u) (get_or later i u) (room_for docs first k x shares res for lt)
            (drew.seats i u below) (done.worked i u (omega (arith, long, below))));
      }
