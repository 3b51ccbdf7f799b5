-- From a job that workers drew to its part of the history of its cache.
use Rattle.std.proofs.Common.{◌≡◌, ◌⊎◌, inl, inr, ℕ, ◌<◌, List, [], ◌∷◌, length, get_or, Some, sym, subst}
use Rattle.outside.specs.Counts.{Rose}
use Rattle.outside.specs.declared.keys.FontKey.{FontKey}
use Rattle.cache_core.specs.declared.calls.Call.{Call}
use Rattle.cache_core.specs.Histories.{SeatCalls, looks}
use Rattle.cache_core.proofs.SeatCalls.{keys_are_looks}
use Rattle.page_index.specs.Document.{Reading}
use Rattle.page_workers.specs.declared.worker.Worker.{Worker}
use Rattle.dvi_run.specs.Pages.{Setup, finding}
use Rattle.dvi_run.specs.Endings.{EndingValue, IsAmong, status_of}
use Rattle.dvi_run.specs.Jobs.{DrewJob, WorkerDrewJob, calls_since}
use Rattle.dvi_run.specs.Looked.{BrokenLooks, MayBreakOff, MayWantMemory, WholeLooks}
use Rattle.dvi_run.specs.Outside.{StreamChange}
use Rattle.dvi_run.specs.Rounds.{Site, WasCut, indexed_of}
use Rattle.dvi_run.specs.Shares.{pages_since}
use Rattle.dvi_run.proofs.Looks.{broken_as}
use Rattle.job_spool.specs.Jobs.{JobChange}
use Rattle.job_spool.specs.Parts.{IsPart, Part, SeatPart}
use Rattle.job_spool.specs.Sharing.{Documents, sharer}

-- ---- a seat

module _ {F : Type 0} (s : Site F) (MayBreak : ℕ → Type 0) (MayWant Failed : Type 0) (a b : Worker F) (w : WorkerDrewJob s MayBreak MayWant a b) (failed : Rose (s.faults a.source) (s.faults b.source) → Failed) where
  abbrev pages : List ℕ
  pages = pages_since a b

  abbrev calls : List Call
  calls = calls_since a b

  abbrev May : ℕ → Type 0
  May page = MayBreak page × (Failed ⊎ MayWant)

  keys_are : looks calls ≡ w.keys
  keys_are = keys_are_looks w.keys calls w.answered

  abbrev Whole : List FontKey → Type 0
  Whole keys = WholeLooks (finding s.given s.reading) (indexed_of s.given s.reading) s.given.sheet pages keys

  abbrev Broke : List FontKey → Type 0
  Broke keys = BrokenLooks May (finding s.given s.reading) (indexed_of s.given s.reading) s.given.sheet pages keys

  cut : (page : ℕ) → MayBreak page × WasCut s MayWant a b → May page
  cut page c = (c.0, elim c.1 [ inl rose ↦ inl (failed rose) | inr want ↦ inr want ])

  pub seat_part : SeatPart s.given s.reading (λ page. MayBreak page × (Failed ⊎ MayWant)) (pages_since a b) (calls_since a b)
  seat_part = record {
    looked = elim w.looked [
      | inl whole ↦ inl (whole.0, subst Whole (sym keys_are) whole.1)
      | inr broke ↦
          inr (subst Broke (sym keys_are) (broken_as (λ page. MayBreak page × WasCut s MayWant a b) May (finding s.given s.reading) (indexed_of s.given s.reading) s.given.sheet pages w.keys cut broke))
    ];
    answered = subst (λ (keys : List FontKey). SeatCalls keys calls) (sym keys_are) w.answered;
    weighed = w.weighed;
    last = w.last;
  }

-- ---- a job

abbrev pub part_of : {F : Type 0} (s : Site F) (output : StreamChange) (before after : List (Worker F)) (e : EndingValue) (drew : DrewJob s output before after e) (job : ℕ) (d : Worker F) → Part
part_of s output before after e drew job d =
    record {
      job = job;
      reading = s.reading;
      ending = e;
      tally = drew.tally;
      drawn = drew.shares.drawn;
      pages = λ k. pages_since (get_or before k d) (get_or after k d);
      calls = λ k. calls_since (get_or before k d) (get_or after k d);
    }

pub drew_part : {F : Type 0} (s : Site F) (job : JobChange) (before after : List (Worker F)) (e : EndingValue) (drew : DrewJob s job.output before after e) (k : ℕ) (d : Worker F) (documents : Documents) (first : ℕ) (Failed : ℕ → Type 0)
    → sharer documents first k ≡ Some (indexed_of s.given s.reading) → job.status ≡ status_of e → IsAmong job.status (0 ∷ 3 ∷ 4 ∷ 5 ∷ 7 ∷ 9 ∷ [])
    → ((i : ℕ) → i < length before → Rose (s.faults (get_or before i d).source) (s.faults (get_or after i d).source) → Failed i)
    → IsPart s.given (length before) Failed documents first job (part_of s job.output before after e drew k d)
drew_part s job before after e drew k d documents first Failed shares is among failed = record {
  document = shares;
  status = is;
  answers = among;
  ends = drew.ends;
  few = drew.shares.few;
  dealt = drew.shares.shares d;
  written = drew.shares.written;
  seats = λ i lt.
      seat_part s (MayBreakOff e (Some drew.tally)) (MayWantMemory (length before) e) (Failed i) (get_or before i d) (get_or after i d) (drew.worked i d lt) (failed i lt);
}

-- ---- a source that failed later

seat_as : (g : Setup) (reading : Reading) (May Other : ℕ → Type 0) (pages : List ℕ) (calls : List Call) → ((page : ℕ) → May page → Other page) → SeatPart g reading May pages calls → SeatPart g reading Other pages calls
seat_as g reading May Other pages calls f p = record {
  looked = elim p.looked [
    | inl whole ↦ inl whole
    | inr broke ↦ inr (broken_as May Other (finding g reading) (indexed_of g reading) g.sheet pages (looks calls) f broke)
  ];
  answered = p.answered;
  weighed = p.weighed;
  last = p.last;
}

pub part_as : (g : Setup) (workers : ℕ) (Failed Other : ℕ → Type 0) (documents : Documents) (first : ℕ) (job : JobChange) (p : Part) → ((i : ℕ) → i < workers → Failed i → Other i)
    → IsPart g workers Failed documents first job p → IsPart g workers Other documents first job p
part_as g workers Failed Other documents first job p f part = record {
  document = part.document;
  status = part.status;
  answers = part.answers;
  ends = part.ends;
  few = part.few;
  dealt = part.dealt;
  written = part.written;
  seats = λ i lt.
      seat_as g p.reading (λ page. MayBreakOff p.ending (Some p.tally) page × (Failed i ⊎ MayWantMemory workers p.ending)) (λ page. MayBreakOff p.ending (Some p.tally) page × (Other i ⊎ MayWantMemory workers p.ending)) (p.pages i)
      (p.calls i) (λ page may. (may.0, elim may.1 [ inl failed ↦ inl (f i lt failed) | inr want ↦ inr want ])) (part.seats i lt);
}
