-- What is so of the workers when the rounds are over.
use Rattle.std.proofs.Common.{◌≡◌, inl, inr, ℕ, ◌+◌, ◌*◌, ◌/◌, ◌%◌, ◌<◌, ◌≤◌, Bool, true, false, cond, List, length, drop, get_or, Contains, ap, ◌∙◌, Err, arith}
use Rattle.std.specs.Prelude.{◌^◌, Option, None, Some, nat_lt}
use Rattle.std.proofs.lemmas.Bool.{cases_lt}
use Rattle.page_index.specs.Document.{pages_begun}
use Rattle.page_draw.specs.declared.stop.PageStop.TheVariants as draw
use Rattle.page_workers.specs.Rounds.{HasBitmap}
use Rattle.page_workers.specs.declared.worker.PageResult.{PageResult}
use Rattle.page_workers.specs.declared.worker.Worker.{Worker}
use Rattle.dvi_run.specs.Endings.{EndingValue, Written, Source, Memory, ending_at}
use Rattle.dvi_run.specs.Looked.{EveryPageCameToItsEnd, MayBreakOff, MayWantMemory}
use Rattle.dvi_run.specs.Shares.{PartitionPagesSince, WorkersDrewSince, DrewUpTo, pages_since, round_end}
use Rattle.dvi_run.specs.Stacks.{AllDrewNothing, WroteUpTo}
use Rattle.dvi_run.specs.Rounds.{AfterRounds, MayBegin, BetweenRounds, Site, WasCut}
use Rattle.dvi_run.specs.declared.tally.Tally.{Tally}
use Rattle.dvi_run.specs.declared.pages.WriteStop.{WriteStop}
use Rattle.dvi_run.specs.declared.pages.WriteStop.TheVariants as stop
use Rattle.page_workers.specs.Seats.{room_at}
use Rattle.dvi_run.proofs.RoundsInProgress.{CutHere, RoundInProgress, SomeFailed}
use Rattle.dvi_run.proofs.ResultsToWrite.{cause_up_to, cut_off, inside_hand, refused_alone, whole_alone}
use Rattle.dvi_run.proofs.Shares.{shared_as}
use Rattle.dvi_run.proofs.PagesDrawn.{AreWhole, CutAmong, bitmap_whole, cut_cases, memory_ends, never_written, none_cut}
use Rattle.dvi_run.proofs.WorkersInRounds.{Stood, ends, settles, stood_rest}

-- ---- rounds

several : (n : ℕ) → 1 < n → nat_lt 1 n ≡ true
several n lt = grind arith

single : (n : ℕ) → n ≤ 1 → nat_lt 1 n ≡ false
single n le = grind arith

-- a round that begins with page `done`, and has page p, both from 0, ends where it has 32 pages or
-- is one worker's
round_of : (n done p total : ℕ) → (n ≡ 1 → total ≤ done + 1) → (2 ≤ n → done % 32 ≡ 0) → 1 ≤ n → done ≤ p → p < done + 32 → total ≤ done + 32 → total ≤ round_end n (p + 1)
round_of n done p total alone even some low high near = elim (cases_lt 1 n) [
  | inl two ↦
      let begins : done % 32 ≡ 0 = even (omega arith) in
      let is : round_end n (p + 1) ≡ (p + 1 + 31) / 32 * 32 = ap (λ (b : Bool). cond b ((p + 1 + 31) / 32 * 32) (p + 1)) (several n two) in
      let end : (p + 1 + 31) / 32 * 32 ≡ done + 32 = omega arith in
      omega (arith, is, end)
  | inr one ↦
      let is : round_end n (p + 1) ≡ p + 1 = ap (λ (b : Bool). cond b ((p + 1 + 31) / 32 * 32) (p + 1)) (single n one) in
      let few = alone (omega arith) in
      omega (arith, is, few)
]

reach_at : (pages n drawn page : ℕ) (why : WriteStop) → page ≤ drawn → drawn ≤ round_end n page → DrewUpTo pages n drawn (ending_at page why)
reach_at pages n drawn page (stop.Draw (draw.Fault fault at)) low high = (low, high)
reach_at pages n drawn page (stop.Draw draw.SourceFault) low high = (low, high)
reach_at pages n drawn page (stop.Draw draw.NoMemory) low high = tt
reach_at pages n drawn page stop.Output low high = (low, high)

module _ {F : Type 0} (s : Site F) (n : ℕ) (xs : List (Worker F)) (some : 1 ≤ n) (ready : (k : ℕ) (d : Worker F) → k < n → MayBegin s (get_or xs k d)) where
  -- the rounds ended so
  pub record WorkersAfterRounds (now : List (Worker F)) (e : EndingValue) (tally : Tally) : Type 0 where
    pub whole : EveryPageCameToItsEnd n e → (k : ℕ) (d : Worker F) → k < n → BetweenRounds s (get_or xs k d) (get_or now k d)
    pub cause : (page : ℕ) → e ≡ Source page → SomeFailed s n xs now page
    pub shares : WorkersDrewSince (pages_begun s.reading) n e (Some tally) xs now
    pub workers : (k : ℕ) (d : Worker F) → k < n → AfterRounds s (MayBreakOff e (Some tally)) (MayWantMemory n e) (get_or xs k d) (get_or now k d)

  abbrev InProgress : List (Worker F) → ℕ → ℕ → List PageResult → Type 0
  InProgress ws next done rs = RoundInProgress s n xs ws next done rs

  -- with all pages written
  pub over_written : (ws : List (Worker F)) (next done : ℕ) (rs : List PageResult) (u : Tally) → InProgress ws next done rs → next ≡ pages_begun s.reading → ((r : PageResult) → Contains rs r → HasBitmap r) → u.pages ≡ next → WorkersAfterRounds ws Written u
  over_written ws next done rs u h last good at =
      let whole : AreWhole rs = λ r has. bitmap_whole r.outcome (good r has) in
      let all = h.full good in
      record {
        whole = λ through k d lt. settles s (CutHere s n xs rs (get_or xs k d) (get_or ws k d)) (get_or xs k d) (get_or ws k d) (λ p cut. none_cut rs whole p cut.0) (h.stand k d lt);
        cause = λ page e. absurd cc;
        shares = record {
          drawn = done + length rs;
          few = omega (arith, all, last);
          shares = h.shares;
          reach = omega (arith, all, last);
          written = omega (arith, at, all);
        };
        workers = λ k d lt.
            ends s (CutHere s n xs rs (get_or xs k d) (get_or ws k d)) (MayBreakOff Written (Some u)) (MayWantMemory n Written) (get_or xs k d) (get_or ws k d) next h.few (h.room k d lt) (λ p cut. absurd (none_cut rs whole p cut.0)) (h.stand k d lt);
      }

  -- at a page of the round at hand
  module _ (ws : List (Worker F)) (next : ℕ) (rs : List PageResult) (t u : Tally) (counted : Bool) (old new : Option (List ℕ)) (P : Type 0) (why : WriteStop) (h : InProgress ws next t.pages rs)
      (up : WroteUpTo counted old new P rs t u why) where
    abbrev e : EndingValue
    e = ending_at (u.pages + 1) why

    inside : (t.pages ≤ u.pages) × (u.pages < t.pages + length rs)
    inside = inside_hand s.given s.reading (SomeFailed s n xs ws) old counted rs old new t u why P h.held up

    reach_here : DrewUpTo (pages_begun s.reading) n (t.pages + length rs) e
    reach_here =
        let reach = h.reach in
        let near = h.near in
        let i = inside in
        reach_at (pages_begun s.reading) n (t.pages + length rs) (u.pages + 1) why (omega (arith, i.1))
        (round_of n t.pages u.pages (t.pages + length rs) (λ one. let few = h.alone one in omega (arith, few, reach)) h.even some i.0 (omega (arith, i.1, reach, near)) (omega (arith, reach, near)))

    -- of one worker the page that was broken off is the one that isn't written
    wants : (p : ℕ) (cut : CutAmong rs p) → cut.0.outcome ≡ Err draw.NoMemory → MayWantMemory n e
    wants p cut memory = (
      never_written (u.pages + 1) why,
      λ one.
          let few = h.alone one in
          let reach = h.reach in
          let alone = refused_alone s.given s.reading (SomeFailed s n xs ws) old counted rs old new t u why P h.held up (omega (arith, few, reach)) cut.0 cut.1 in
          memory_ends counted up.mid new P (u.pages + 1) up.refused.outcome why (ap (λ (r : PageResult). r.outcome) alone ∙ memory) up.cause,
    )

    was_cut : (start now : Worker F) (p : ℕ) → CutHere s n xs rs start now p → WasCut s (MayWantMemory n e) start now
    was_cut start now p cut = elim (cut_cases cut.0.0.outcome cut.0.3) [
      | inl failed ↦ inl (cut.1 failed)
      | inr memory ↦ inr (wants p cut.0 memory)
    ]

    pub over_here : WorkersAfterRounds ws e u
    over_here = record {
      whole = λ through k d lt. elim through [
        | inl all ↦ absurd (never_written (u.pages + 1) why all)
        | inr alone ↦
            let few = h.alone alone.0 in
            let reach = h.reach in
            let whole = whole_alone s.given s.reading (SomeFailed s n xs ws) old counted rs old new t u why P h.held up (omega (arith, few, reach)) alone.1 in
            settles s (CutHere s n xs rs (get_or xs k d) (get_or ws k d)) (get_or xs k d) (get_or ws k d) (λ p cut. none_cut rs whole p cut.0) (h.stand k d lt)
      ];
      cause = λ page is. cause_up_to s.given s.reading (SomeFailed s n xs ws) old counted rs old new t u why P h.held up page is;
      shares = record {
        drawn = t.pages + length rs;
        few = let few = h.few in let reach = h.reach in omega (arith, few, reach);
        shares = h.shares;
        reach = reach_here;
        written = let i = inside in omega (arith, i.1);
      };
      workers = λ k d lt.
          ends s (CutHere s n xs rs (get_or xs k d) (get_or ws k d)) (MayBreakOff e (Some u)) (MayWantMemory n e) (get_or xs k d) (get_or ws k d) next h.few (h.room k d lt)
          (λ p cut. (cut_off s.given s.reading (SomeFailed s n xs ws) old counted rs old new t u why P h.held up p cut.0, was_cut (get_or xs k d) (get_or ws k d) p cut)) (h.stand k d lt);
    }

  -- where the next round wasn't begun, for want of memory
  module _ (ws now : List (Worker F)) (next done : ℕ) (rs : List PageResult) (u : Tally) (h : InProgress ws next done rs) (good : (r : PageResult) → Contains rs r → HasBitmap r)
      (counters : (k : ℕ) (d : Worker F) → k < n → (get_or now k d).counter ≡ None) (long : length ws ≡ n) (rest : AllDrewNothing ws now) where
    same_shares : PartitionPagesSince (done + length rs) n xs now
    same_shares d =
        shared_as (done + length rs) n (λ k. pages_since (get_or xs k d) (get_or ws k d)) (λ k. pages_since (get_or xs k d) (get_or now k d))
        (λ k lt. ap (drop (length (get_or xs k d).pages.items)) (rest k d (omega arith)).pages) (h.shares d)

    whole : AreWhole rs
    whole r has = bitmap_whole r.outcome (good r has)

    still : (k : ℕ) (d : Worker F) → k < n → Stood s (CutHere s n xs rs (get_or xs k d) (get_or ws k d)) (get_or xs k d) (get_or now k d)
    still k d lt = stood_rest s (CutHere s n xs rs (get_or xs k d) (get_or ws k d)) (get_or xs k d) (get_or ws k d) (get_or now k d) (rest k d (omega arith)) (counters k d lt) (h.stand k d lt)

    still_room : (k : ℕ) (d : Worker F) → k < n → room_at (get_or xs k d).loads (get_or xs k d).seat ≤ room_at (get_or now k d).loads (get_or now k d).seat + next * 2 ^ 24
    still_room k d lt =
        let r = rest k d (omega arith) in
        let same : room_at (get_or now k d).loads (get_or now k d).seat ≡ room_at (get_or ws k d).loads (get_or ws k d).seat = ap (λ (c : ℕ). room_at c (get_or now k d).seat) r.loads ∙ ap (room_at (get_or ws k d).loads) r.seat in
        let room = h.room k d lt in
        omega (arith, same, room)

    pub over_rested : u.pages ≤ done + length rs → WorkersAfterRounds now Memory u
    over_rested few = record {
      whole = λ through k d lt. settles s (CutHere s n xs rs (get_or xs k d) (get_or ws k d)) (get_or xs k d) (get_or now k d) (λ p cut. none_cut rs whole p cut.0) (still k d lt);
      cause = λ page is. absurd cc;
      shares = record {
        drawn = done + length rs;
        few = let less = h.few in let reach = h.reach in omega (arith, less, reach);
        shares = same_shares;
        reach = tt;
        written = few;
      };
      workers = λ k d lt.
          ends s (CutHere s n xs rs (get_or xs k d) (get_or ws k d)) (MayBreakOff Memory (Some u)) (MayWantMemory n Memory) (get_or xs k d) (get_or now k d) next h.few (still_room k d lt) (λ p cut. absurd (none_cut rs whole p cut.0)) (still k d lt);
    }
