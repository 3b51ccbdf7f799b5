-- A round whose results are at hand, with the workers that drew it, and the round after it.
use Rattle.std.proofs.Common.{◌≡◌, ◌⊎◌, inl, inr, ℕ, zero, suc, ◌+◌, ◌-◌, ◌*◌, ◌%◌, min, ◌<◌, ◌≤◌, List, [], ◌∷◌, ◌++◌, length, get_or, Contains, Result, IsErr, IsOk, Ok, Err, refl, sym, ap, subst, ◌∙◌, arith}
use Rattle.std.specs.Prelude.{◌^◌, IsErrOf, None}
use Rattle.std.specs.List.Sorted.{IsStrictlyIncreasing}
use Rattle.std.proofs.lemmas.Bool.{cases_lt}
use Rattle.std.proofs.lemmas.List.{length-map}
use Rattle.std.proofs.lemmas.List.Elements.{Contains-get_or, Contains-append_right}
use Rattle.page_index.specs.Document.{pages_begun}
use Rattle.page_draw.specs.declared.stop.PageStop.{PageStop}
use Rattle.page_draw.specs.declared.drawn.Drawn.{Drawn}
use Rattle.page_workers.specs.Rounds.{HasBitmap, MayDraw, pages_of}
use Rattle.page_workers.specs.Seats.{room_at}
use Rattle.page_workers.specs.declared.worker.PageResult.{PageResult}
use Rattle.page_workers.specs.declared.worker.Worker.{Worker}
use Rattle.page_workers.proofs.Drawn.{drew_pages, drew_results}
use Rattle.dvi_run.specs.Shares.{PartitionPagesSince, pages_since}
use Rattle.page_workers.specs.Handing.{AreFrom, HandedRound}
use Rattle.dvi_run.specs.Rounds.{FailedAt, IsOutcomeOf, MayBegin, Site, indexed_of}
use Rattle.dvi_run.proofs.ResultsToWrite.{AreHeld}
use Rattle.dvi_run.proofs.Shares.{none_shared, shared_more}
use Rattle.dvi_run.proofs.PagesDrawn.{AreWhole, CutAmong, NeverCut, bitmap_whole, none_cut}
use Rattle.outside.specs.Counts.{Rose}
use Rattle.page_draw.specs.declared.stop.PageStop.TheVariants as draw
use Rattle.dvi_run.proofs.WorkersInRounds.{Came, Stood, begins, came_so, room_so, stood_as, stood_on}
use Rattle.dvi_run.proofs.Since.{more_since, none_since}

-- ---- how many pages the next round has

-- of a document with n pages, for n workers, from page `next` on
pub record IsCount (n next pages count : ℕ) : Type 0 where
  pub some : 1 ≤ count
  pub most : count ≤ 32
  pub inside : next + count ≤ pages
  pub one : n ≡ 1 → count ≤ 1
  pub more : 2 ≤ n → (count ≡ 32) ⊎ (next + count ≡ pages)

pub is_count : (n next pages most count : ℕ) → count ≡ min most (pages - next) → next < pages → 1 ≤ most → most ≤ 32 → (n ≡ 1 → most ≡ 1) → (2 ≤ n → most ≡ 32) → IsCount n next pages count
is_count n next pages most count is below some few alone several = record {
  some = omega arith;
  most = omega arith;
  inside = omega arith;
  one = λ single. let e = alone single in omega arith;
  more = λ two.
      let e = several two in
      elim (cases_lt (pages - next) 32) [
        | inl less ↦ inr (omega arith)
        | inr full ↦ inl (omega arith)
      ];
}

-- ---- numbers that rise

rises_by : (xs : List ℕ) (k : ℕ) → IsStrictlyIncreasing xs → k < length xs → get_or xs 0 0 + k ≤ get_or xs k 0
rises_by xs zero rises lt = omega arith
rises_by xs (suc k) rises lt =
    let before = rises_by xs k rises (omega arith) in
    let same : k + 1 ≡ suc k = omega arith in
    let step : get_or xs k 0 < get_or xs (suc k) 0 = subst (λ (i : ℕ). get_or xs k 0 < get_or xs i 0) same (rises k (omega arith)) in
    omega (arith, before, step)

few_that_rise : (xs : List ℕ) (low m : ℕ) → IsStrictlyIncreasing xs → ((p : ℕ) → Contains xs p → (low ≤ p) × (p < low + m)) → length xs ≤ m
few_that_rise [] low m rises inside = omega arith
few_that_rise (x ∷ xs) low m rises inside =
    let last = length xs in
    let there : last < length (x ∷ xs) = omega arith in
    let first = (inside x (0, omega arith, refl)).0 in
    let high = (inside (get_or (x ∷ xs) last 0) (Contains-get_or (x ∷ xs) last 0 there)).1 in
    let rise = rises_by (x ∷ xs) last rises there in
    omega (arith, first, high, rise)

some_of : {A : Type 0} (xs : List A) → 0 < length xs → A
some_of [] lt = absurd (omega arith)
some_of (x ∷ xs) lt = x

not_both : (outcome : Result Drawn PageStop) → IsOk outcome → IsErr outcome → ⊥
not_both (Ok page) ok err = cc
not_both (Err stop) ok err = cc

module _ {F : Type 0} (s : Site F) (n : ℕ) (xs : List (Worker F)) where
  -- a worker's source failed at this page, from 1
  abbrev pub SomeFailed : List (Worker F) → ℕ → Type 0
  SomeFailed ws page = (k : ℕ) × (k < n) × ((d : Worker F) → FailedAt s.faults page (get_or xs k d) (get_or ws k d))

  -- the page of one of these results was broken off, where it may have been
  abbrev pub CutHere : List PageResult → Worker F → Worker F → ℕ → Type 0
  CutHere rs start now p = (cut : CutAmong rs p) × (IsErrOf cut.0.outcome draw.SourceFault → Rose (s.faults start.source) (s.faults now.source))

  abbrev pub AllStood : List PageResult → List (Worker F) → Type 0
  AllStood rs ws = (k : ℕ) (d : Worker F) → k < n → Stood s (CutHere rs (get_or xs k d) (get_or ws k d)) (get_or xs k d) (get_or ws k d)

  -- the results of the pages from `done` on are at hand, and the rounds before page `next` were
  -- drawn
  pub record RoundInProgress (ws : List (Worker F)) (next done : ℕ) (rs : List PageResult) : Type 0 where
    pub few : next ≤ pages_begun s.reading
    pub reach : done + length rs ≤ next
    pub full : ((r : PageResult) → Contains rs r → HasBitmap r) → done + length rs ≡ next
    pub alone : n ≡ 1 → next ≤ done + 1
    pub near : next ≤ done + 32
    pub even : 2 ≤ n → done % 32 ≡ 0
    pub steps : 2 ≤ n → (next % 32 ≡ 0) ⊎ (next ≡ pages_begun s.reading)
    pub stand : AllStood rs ws
    pub room : (k : ℕ) (d : Worker F) → k < n
        → room_at (get_or xs k d).loads (get_or xs k d).seat ≤ room_at (get_or ws k d).loads (get_or ws k d).seat + next * 2 ^ 24
    pub shares : PartitionPagesSince (done + length rs) n xs ws
    pub held : AreHeld s.given s.reading (SomeFailed ws) done rs

  module _ (ready : (k : ℕ) (d : Worker F) → k < n → MayBegin s (get_or xs k d)) where
    pub nothing_at_hand : RoundInProgress xs 0 0 []
    nothing_at_hand = record {
      few = omega arith;
      reach = omega arith;
      full = λ all. omega arith;
      alone = λ one. omega arith;
      near = omega arith;
      even = λ two. omega arith;
      steps = λ two. inl (omega arith);
      stand = λ k d lt. stood_as s NeverCut (CutHere [] (get_or xs k d) (get_or xs k d)) (get_or xs k d) (get_or xs k d) (λ p cut. absurd cut) (begins s (get_or xs k d) (ready k d lt));
      room = λ k d lt. omega arith;
      shares = λ d. none_shared n (λ k. pages_since (get_or xs k d) (get_or xs k d)) (λ k lt. none_since (get_or xs k d).pages.items);
      held = tt;
    }

    module _ (ws : List (Worker F)) (next done count : ℕ) (rs : List PageResult) (h : RoundInProgress ws next done rs) (good : (r : PageResult) → Contains rs r → HasBitmap r) where
      whole : AreWhole rs
      whole r has = bitmap_whole r.outcome (good r has)

      pub may_draw : next + count ≤ pages_begun s.reading → (k : ℕ) (d : Worker F) → k < n → MayDraw s.library s.bench count (get_or ws k d)
      may_draw below k d lt =
          let st = h.stand k d lt in
          let room = h.room k d lt in
          let start = (ready k d lt).room in
          record { fits = st.drawn.kept.fits; no_result = st.none; no_counter = st.counter; room = omega (arith, room, start, below) }

      -- a round more
      module _ (now : List (Worker F)) (results : List PageResult) (drew : HandedRound s.library s.faults s.loads s.bench (indexed_of s.given s.reading) s.given.sheet next count ws now results) (long : length ws ≡ n)
          (counters : (k : ℕ) (d : Worker F) → k < n → (get_or now k d).counter ≡ None) where
        abbrev mid : List (Worker F)
        mid = drew.drawn

        abbrev drawn : ℕ → List PageResult
        drawn = drew.round.drawn

        in_ws : (k : ℕ) → k < n → k < length ws
        in_ws k lt = omega arith

        in_mid : (k : ℕ) → k < n → k < length mid
        in_mid k lt = let same = drew.long in omega (arith, same)

        from_mid : (k : ℕ) → k < length mid → k < n
        from_mid k lt = let same = drew.long in omega (arith, same)

        drawn_results : (k : ℕ) (d : Worker F) → k < n → (get_or mid k d).results.items ≡ drawn k
        drawn_results k d lt =
            drew_results s.library s.faults s.loads s.bench (indexed_of s.given s.reading) s.given.sheet (drawn k) (get_or ws k d) (get_or mid k d) (drew.round.each k d (in_ws k lt))
            ∙ ap (λ (l : List PageResult). l ++ drawn k) (h.stand k d lt).none

        grown : (k : ℕ) (d : Worker F) → k < n → (get_or now k d).pages.items ≡ (get_or ws k d).pages.items ++ pages_of (drawn k)
        grown k d lt =
            (drew.taken.cleared k d (in_mid k lt)).same.pages
            ∙ drew_pages s.library s.faults s.loads s.bench (indexed_of s.given s.reading) s.given.sheet (drawn k) (get_or ws k d) (get_or mid k d) (drew.round.each k d (in_ws k lt))

        drawn_pages : (k : ℕ) (d : Worker F) → k < n → pages_since (get_or xs k d) (get_or now k d) ≡ pages_since (get_or xs k d) (get_or ws k d) ++ pages_of (drawn k)
        drawn_pages k d lt = more_since (get_or xs k d).pages.items (get_or ws k d).pages.items (get_or now k d).pages.items (pages_of (drawn k)) (h.stand k d lt).drawn.pages (grown k d lt)

        -- each result of a worker is at hand
        in_results : (k : ℕ) (r : PageResult) → k < n → Contains (drawn k) r → Contains results r
        in_results k r lt has =
            let d : Worker F = some_of ws (omega arith) in
            drew.taken.all k d r (in_mid k lt) (subst (λ (l : List PageResult). Contains l r) (sym (drawn_results k d lt)) has)

        none_was_cut : (k : ℕ) (d : Worker F) (p : ℕ) → CutHere rs (get_or xs k d) (get_or ws k d) p → ⊥
        none_was_cut k d p cut = none_cut rs whole p cut.0

        came_to : (k : ℕ) (d : Worker F) → k < n → (r : PageResult) → Contains (drawn k) r → Came s (get_or xs k d) (get_or now k d) r
        came_to k d lt =
            came_so s (get_or xs k d) (get_or ws k d) (get_or mid k d) (get_or now k d) (ready k d lt) (drawn k) (drew.round.each k d (in_ws k lt)) (drew.round.stopped k (in_ws k lt)) (drew.taken.cleared k d (in_mid k lt))
            (CutHere rs (get_or xs k d) (get_or ws k d)) (none_was_cut k d) (h.stand k d lt)

        came : (r : PageResult) → Contains results r → (k : ℕ) × (k < n) × ((d : Worker F) → Came s (get_or xs k d) (get_or now k d) r)
        came r has =
            let own = drew.taken.owned r has in
            let k = own.0 in
            let lt : k < n = from_mid k own.1 in (
              k,
              lt,
              λ d. came_to k d lt r (subst (λ (l : List PageResult). Contains l r) (drawn_results k d lt) (own.2 d)),
            )

        held_from : (page : ℕ) (qs : List PageResult) → AreFrom page qs → ((r : PageResult) → Contains qs r → Contains results r) → AreHeld s.given s.reading (SomeFailed now) page qs
        held_from page [] from all = tt
        held_from page (r ∷ qs) from all =
            let c = came r (all r (0, omega arith, refl)) in
            let d : Worker F = some_of ws (omega (arith, c.1)) in (
              record {
                number = from.0;
                value = subst (λ (p : ℕ). IsOutcomeOf s.given s.reading p r.outcome) from.0 (c.2 d).value;
                failed = λ f. (c.0, c.1, λ e. subst (λ (p : ℕ). FailedAt s.faults (p + 1) (get_or xs c.0 e) (get_or now c.0 e)) from.0 ((c.2 e).failed f));
              },
              held_from (suc page) qs from.1 (λ q has. all q (Contains-append_right (r ∷ []) qs q has)),
            )

        few_drawn : (k : ℕ) → k < n → length (drawn k) ≤ count
        few_drawn k lt =
            let few = few_that_rise (pages_of (drawn k)) next drew.round.pages (drew.round.rising k (in_ws k lt)) (λ p has. drew.round.inside k p (in_ws k lt) has) in
            let same = length-map (drawn k) (λ (r : PageResult). r.page) in
            let most = drew.round.most in
            omega (arith, few, same, most)

        next_is : done + length rs ≡ next
        next_is = h.full good

        shares_now : PartitionPagesSince (next + drew.round.pages) n xs now
        shares_now d =
            shared_more next drew.round.pages n (λ k. pages_since (get_or xs k d) (get_or ws k d)) (λ k. pages_since (get_or xs k d) (get_or now k d)) (λ k. pages_of (drawn k)) (λ k lt. drawn_pages k d lt)
            (subst (λ (m : ℕ). PartitionPagesSince m n xs ws) next_is h.shares d) (λ k lt. drew.round.rising k (in_ws k lt)) (λ k page lt has. drew.round.inside k page (in_ws k lt) has)
            (λ i lt. let one = drew.round.shared i lt in (one.0, omega (arith, one.1), one.2, λ j below has. one.3 j (in_ws j below) has))

        full_now : ((r : PageResult) → Contains results r → HasBitmap r) → next + length results ≡ next + count
        full_now all =
            let pages = drew.round.pages in
            let size = drew.taken.long in
            let most = drew.round.most in
            elim (cases_lt pages count) [
              | inl less ↦
                  let lacks = drew.round.whole less in
                  let lt : lacks.0 < n = omega (arith, lacks.1) in
                  absurd (not_both lacks.2.0.outcome (all lacks.2.0 (in_results lacks.0 lacks.2.0 lt lacks.2.1)) lacks.2.2)
              | inr same ↦ omega (arith, size, most, same)
            ]

        module _ (sized : IsCount n next (pages_begun s.reading) count) where
          even_now : 2 ≤ n → next % 32 ≡ 0
          even_now two = elim (h.steps two) [ inl even ↦ even | inr last ↦ let a = sized.some in let b = sized.inside in absurd (omega (arith, last, a, b)) ]

          results_at_hand : RoundInProgress now (next + count) next results
          results_at_hand = record {
            few = sized.inside;
            reach = let size = drew.taken.long in let fits = drew.round.most in omega (arith, size, fits);
            full = full_now;
            alone = λ single. let few = sized.one single in omega arith;
            near = let few = sized.most in omega arith;
            even = even_now;
            steps = λ two. elim (sized.more two) [ inl all ↦ inl (let even = even_now two in omega (arith, even, all)) | inr last ↦ inr last ];
            stand = λ k d lt.
                stood_as s (CutAmong (drawn k)) (CutHere results (get_or xs k d) (get_or now k d)) (get_or xs k d) (get_or now k d) (λ p cut. ((cut.0, in_results k cut.0 lt cut.1, cut.2, cut.3), λ failed. ((came_to k d lt cut.0 cut.1).failed failed).rose))
                (stood_on s (get_or xs k d) (get_or ws k d) (get_or mid k d) (get_or now k d) (ready k d lt) (drawn k) (drew.round.each k d (in_ws k lt)) (drew.round.stopped k (in_ws k lt)) (drew.taken.cleared k d (in_mid k lt))
                (CutHere rs (get_or xs k d) (get_or ws k d)) (none_was_cut k d) (counters k d lt) (h.stand k d lt));
            room = λ k d lt.
                let before = h.room k d lt in
                let here = room_so s (get_or xs k d) (get_or ws k d) (get_or mid k d) (get_or now k d) (ready k d lt) (drawn k) (drew.round.each k d (in_ws k lt)) (drew.round.stopped k (in_ws k lt)) (drew.taken.cleared k d (in_mid k lt)) in
                let few = few_drawn k lt in
                omega (arith, before, here, few);
            shares = let size = drew.taken.long in let same : next + drew.round.pages ≡ next + length results = omega (arith, size) in subst (λ (m : ℕ). PartitionPagesSince m n xs now) same shares_now;
            held = held_from next results drew.taken.are (λ r has. has);
          }

          -- the results of the round
          pub next_at_hand : (after : ℕ) → after ≡ done + length rs → RoundInProgress now (next + count) after results
          next_at_hand after is =
              let at : next ≡ after = omega (arith, next_is, is) in
              subst (λ (m : ℕ). RoundInProgress now (next + count) m results) at results_at_hand
