-- A round whose results were handed on, from its beginning to its end.
use Rattle.std.proofs.Common.{◌≡◌, ◌⊎◌, inl, inr, ℕ, ◌+◌, ◌*◌, ◌<◌, ◌≤◌, List, [], ◌++◌, length, get_or, Contains, refl, sym, ap, subst, ◌∙◌, arith}
use Rattle.std.specs.Prelude.{◌^◌, false, Option, None, Some}
use Rattle.std.specs.Vec.{vec_len, vec_capacity}
use Rattle.std.proofs.lemmas.Bool.{cases_lt}
use Rattle.atomic_table.specs.Seated.{TableId}
use Rattle.outside.specs.Library.{FileTable}
use Rattle.page_counter.specs.declared.view.SeatClaims.{SeatClaims}
use Rattle.page_counter.specs.Numbers.{EachOnce}
use Rattle.page_counter.specs.Views.{claims_of}
use Rattle.page_index.specs.Pages.{Indexed}
use Rattle.page_draw.specs.declared.sheet.Sheet.{Sheet}
use Rattle.rtrb.specs.Ring.{sent, known_items, IsPair, SameConsumer}
use Rattle.turn_lock.specs.Seats.{SeatView}
use Rattle.page_workers.specs.declared.bench.Bench.{Bench}
use Rattle.page_workers.specs.declared.rings.Inlet.{Inlet}
use Rattle.page_workers.specs.declared.rings.Outlet.{Outlet}
use Rattle.page_workers.specs.declared.worker.PageResult.{PageResult}
use Rattle.page_workers.specs.declared.worker.Worker.{Worker}
use Rattle.page_workers.specs.Seats.{BenchFits, HoldsNoClaim, room_at}
use Rattle.page_workers.specs.Rounds.{DrewNothing, DrewRound, MayDraw}
use Rattle.page_workers.specs.Claims.{DrewNothingAtCounter, GaveSeat, GotSeat, HasRoom, HasSeat, MayTakePart, with_counter}
use Rattle.page_workers.specs.Handing.{AreLinked, AreNewlyLinked, HandedRound, HasAtHead, HasOutlet, TookSome, WasCleared, WithOutlet}
use Rattle.page_workers.specs.HandedParts.{HandedPart, as_kept}
use Rattle.page_workers.specs.SparePages.{SameButSparePages}
use Rattle.page_workers.proofs.Claims.{drew_free}
use Rattle.page_workers.proofs.Drawn.{drew_after_rest, drew_results}
use Rattle.page_workers.proofs.InOrder.{listed, listed_at, listed_long}
use Rattle.page_workers.proofs.Lists.{same_default}
use Rattle.page_workers.proofs.RoundHanded.{all_taken, each_in, each_owned}
use Rattle.page_workers.proofs.Sending.{pair_kept, some_is}
use Rattle.page_workers.proofs.Shares.{Share, drew_round, no_claims, share_of}
use Rattle.page_workers.proofs.Taken.{all_of}

module _ {F : Type 0} (library : F → Option FileTable) (faults loads : F → ℕ) (bench : Bench) (indexed : Indexed) (sheet : Sheet) (first count : ℕ) where
  abbrev Part : TableId → Worker F → Worker F → Type 0
  Part id a b = HandedPart library faults loads bench indexed sheet id first count a b

  -- ---- one worker, before it draws

  pub may_take_part : (id : TableId) (a b c d : Worker F) → MayDraw library bench count a → DrewNothingAtCounter a b → HasRoom count b → WithOutlet b c → GotSeat id c d → MayTakePart library bench id count d
  may_take_part id a b c d may kept room with got =
      let rest = kept.rested in
      let is : d ≡ with_counter (record b { outlet = with.0 }) (Some got.seat) = got.is ∙ ap (λ (w : Worker F). with_counter w (Some got.seat)) with.1 in
      subst (λ (w : Worker F). MayTakePart library bench id count w) (sym is) (record {
        fits = subst (λ (x : F). BenchFits (library x) bench b.seat) (sym rest.source) (subst (λ (s : Option SeatView). BenchFits (library a.source) bench s) (sym rest.seat) may.fits);
        look_ups = subst (λ (m : ℕ). count * 2 ^ 24 ≤ room_at m b.seat) (sym rest.loads) (subst (λ (s : Option SeatView). count * 2 ^ 24 ≤ room_at a.loads s) (sym rest.seat) may.room);
        space = record { results = room.results; pages = room.pages };
        seated = record { seat = got.seat; is = refl; counter = got.counter };
        unused = got.unused;
      })

  pub has_outlet : (id : TableId) (a b c d : Worker F) (inlet : Inlet) → 1 ≤ count → MayDraw library bench count a → DrewNothingAtCounter a b → HasRoom count b → WithOutlet b c → AreNewlyLinked count c inlet → GotSeat id c d → HasOutlet count d
  has_outlet id a b c d inlet some may kept room with linked got =
      subst (HasOutlet count) (sym got.is) (record {
        outlet = linked.outlet;
        is = linked.is;
        room = let is = linked.room in omega (arith, is);
        none = ap (λ (w : Worker F). w.results.items) with.1 ∙ (kept.rested.results ∙ may.no_result);
        space =
            let as_long = ap (λ (w : Worker F). vec_len w.results) with.1 in
            let as_large = ap (λ (w : Worker F). vec_capacity w.results) with.1 in
            let space = room.results in
            omega (arith, as_long, as_large, space, some);
      })

  at_counter : (id : TableId) (c d : Worker F) (inlet : Inlet) (linked : AreNewlyLinked count c inlet) → GotSeat id c d → d.outlet ≡ Some linked.outlet
  at_counter id c d inlet linked got = ap (λ (w : Worker F). w.outlet) got.is ∙ linked.is

  pub nothing_sent : (id : TableId) (c d : Worker F) (inlet : Inlet) → AreNewlyLinked count c inlet → GotSeat id c d → (o : Outlet) → d.outlet ≡ Some o → sent o.results ≡ []
  nothing_sent id c d inlet linked got o is = subst (λ (x : Outlet). sent x.results ≡ []) (some_is d.outlet linked.outlet o (at_counter id c d inlet linked got) is) linked.unsent

  pub rested_with : (a b c : Worker F) → DrewNothingAtCounter a b → WithOutlet b c → DrewNothing a c
  rested_with a b c kept with = record {
    source = ap (λ (w : Worker F). w.source) with.1 ∙ kept.rested.source;
    seat = ap (λ (w : Worker F). w.seat) with.1 ∙ kept.rested.seat;
    results = ap (λ (w : Worker F). w.results.items) with.1 ∙ kept.rested.results;
    loads = ap (λ (w : Worker F). w.loads) with.1 ∙ kept.rested.loads;
    pages = ap (λ (w : Worker F). w.pages.items) with.1 ∙ kept.rested.pages;
  }

  -- ---- one worker, after it drew

  pub are_linked : (id : TableId) (c d e : Worker F) (before after : Inlet) → AreNewlyLinked count c before → GotSeat id c d → Part id d e → SameConsumer before.results after.results → AreLinked e after
  are_linked id c d e before after linked got part same = record {
    outlet = part.new;
    is = part.is;
    pair = pair_kept part.old part.new before after
        (subst (λ (x : Outlet). IsPair x.results before.results) (some_is d.outlet linked.outlet part.old (at_counter id c d before linked got) part.was) linked.pair) part.ring same;
  }

  pub still_seated : (id : TableId) (d e f h : Worker F) → Part id d e → SameButSparePages e f → SameButSparePages f h → HasSeat id h
  still_seated id d e f h part closed rest = record { seat = part.part.seated.seat; is = rest.counter ∙ (closed.counter ∙ part.part.seated.is); counter = part.part.seated.counter }

  -- as if it had kept its results, until its seat was taken in
  abbrev mid_of : Worker F → Worker F → Worker F
  mid_of drawn kept = with_counter (as_kept drawn kept) None

  share_kept : (id : TableId) (a b c d e f h j : Worker F) (taken : SeatClaims) → DrewNothingAtCounter a b → WithOutlet b c → GotSeat id c d → (part : Part id d e) → SameButSparePages e f → SameButSparePages f h → GaveSeat taken h j
      → Share library faults loads bench indexed sheet first count a (mid_of e part.kept) taken
  share_kept id a b c d e f h j taken kept with got part closed rest gave =
      share_of library faults loads bench indexed sheet first count id id a (record b { outlet = None; no_threads = false }) (as_kept d d) (as_kept e part.kept) (mid_of e part.kept) taken
      (record {
        rested = record { source = kept.rested.source; seat = kept.rested.seat; results = kept.rested.results; loads = kept.rested.loads; pages = kept.rested.pages };
        counter = kept.counter;
        spare_pages = kept.spare_pages;
      })
      (record {
        seat = got.seat;
        is = ap (λ (w : Worker F). as_kept w w) (got.is ∙ ap (λ (w : Worker F). with_counter w (Some got.seat)) with.1);
        counter = got.counter;
        unused = got.unused;
      })
      part.part
      (record { seat = gave.seat; was = sym (rest.counter ∙ closed.counter) ∙ gave.was; claims = gave.claims; is = refl })

  cleared : (id : TableId) (d e f h j : Worker F) (taken : SeatClaims) (part : Part id d e) → SameButSparePages e f → SameButSparePages f h → GaveSeat taken h j → WasCleared (mid_of e part.kept) j
  cleared id d e f h j taken part closed rest gave = record {
    same = record {
      source = ap (λ (w : Worker F). w.source) gave.is ∙ (rest.source ∙ closed.source);
      seat = ap (λ (w : Worker F). w.seat) gave.is ∙ (rest.seat ∙ closed.seat);
      loads = ap (λ (w : Worker F). w.loads) gave.is ∙ (rest.loads ∙ closed.loads);
      pages = ap (λ (w : Worker F). w.pages.items) gave.is ∙ ap (λ v. v.items) (rest.pages ∙ closed.pages);
    };
    none = ap (λ (w : Worker F). w.results.items) gave.is ∙ (ap (λ v. v.items) (rest.results ∙ closed.results) ∙ part.none);
  }

  -- ---- all workers

  module _ (id : TableId) (xs bs os ss ds cs ts js : List (Worker F)) (seats : List SeatClaims) (n0 n2 n3 : List Inlet) (w : Worker F) (e : Inlet)
      (kept : (k : ℕ) (d : Worker F) → k < length xs → DrewNothingAtCounter (get_or xs k d) (get_or bs k d)) (with : (k : ℕ) (d : Worker F) → k < length xs → WithOutlet (get_or bs k d) (get_or os k d))
      (got : (k : ℕ) (d : Worker F) → k < length xs → GotSeat id (get_or os k d) (get_or ss k d)) (parts : (k : ℕ) (d : Worker F) → k < length xs → Part id (get_or ss k d) (get_or ds k d))
      (closed : (k : ℕ) (d : Worker F) → k < length xs → SameButSparePages (get_or ds k d) (get_or cs k d)) (rest : (k : ℕ) (d : Worker F) → k < length xs → SameButSparePages (get_or cs k d) (get_or ts k d))
      (gave : (k : ℕ) (d : Worker F) (t : SeatClaims) → k < length xs → GaveSeat (get_or seats k t) (get_or ts k d) (get_or js k d)) where
    abbrev kept_at : (k : ℕ) → (k < length xs) ⊎ (length xs ≤ k) → Worker F
    kept_at k (inl lt) = (parts k w lt).kept
    kept_at k (inr le) = w

    abbrev mid_at : ℕ → Worker F
    mid_at k = mid_of (get_or ds k w) (kept_at k (cases_lt k (length xs)))

    abbrev pub mids : List (Worker F)
    mids = listed (length xs) mid_at

    of_mid : (P : Worker F → Type 0) (k : ℕ) (d : Worker F) → k < length xs → ((lt : k < length xs) → P (mid_of (get_or ds k w) (parts k w lt).kept)) → P (get_or mids k d)
    of_mid P k d lt each = subst P (sym (listed_at (length xs) mid_at k d lt)) (go (cases_lt k (length xs)))
      where
        go : (at : (k < length xs) ⊎ (length xs ≤ k)) → P (mid_of (get_or ds k w) (kept_at k at))
        go (inl there) = each there
        go (inr le) = absurd (omega arith)

    mids_long : length mids ≡ length xs
    mids_long = listed_long (length xs) mid_at

    module _ (m : ℕ) (once : EachOnce m (claims_of seats)) (seats_long : length seats ≡ length xs) (some_worker : 1 ≤ length xs) (some_page : 1 ≤ count) where
      drew : DrewRound library faults loads bench indexed sheet first count xs mids
      drew =
          drew_round library faults loads bench indexed sheet first count m seats once xs mids w seats_long some_worker some_page
          (λ k lt. of_mid (λ x. Share library faults loads bench indexed sheet first count (get_or xs k w) x (get_or seats k no_claims)) k w lt
          (λ there. share_kept id (get_or xs k w) (get_or bs k w) (get_or os k w) (get_or ss k w) (get_or ds k w) (get_or cs k w) (get_or ts k w) (get_or js k w) (get_or seats k no_claims)
          (kept k w there) (with k w there) (got k w there) (parts k w there) (closed k w there) (rest k w there) (gave k w no_claims there)))
          mids_long

      module _ (known : (k : ℕ) (n : Inlet) (d : Worker F) (o : Outlet) → k < length xs → (get_or ds k d).outlet ≡ Some o → all_of (get_or n2 k n) ≡ sent o.results) (all : (k : ℕ) (n : Inlet) → k < length xs → all_of (get_or n3 k n) ≡ all_of (get_or n2 k n))
          (none : (k : ℕ) (d : Worker F) → k < length xs → (get_or xs k d).results.items ≡ []) where
        mid_results : (k : ℕ) (d : Worker F) (n : Inlet) → k < length xs → (get_or mids k d).results.items ≡ all_of (get_or n3 k n)
        mid_results k d n lt = of_mid (λ x. x.results.items ≡ all_of (get_or n3 k n)) k d lt
            (λ there. let part = parts k w there in part.are ∙ (sym (known k n w part.new there part.is) ∙ sym (all k n there)))

        mid_drawn : (k : ℕ) (d : Worker F) → k < length xs → (get_or mids k d).results.items ≡ drew.drawn k
        mid_drawn k d lt =
            drew_results library faults loads bench indexed sheet (drew.drawn k) (get_or xs k d) (get_or mids k d) (drew.each k d lt)
            ∙ ap (λ (l : List PageResult). l ++ drew.drawn k) (none k d lt)

        sends : (k : ℕ) (n : Inlet) → k < length xs → all_of (get_or n3 k n) ≡ drew.drawn k
        sends k n lt = sym (mid_results k w n lt) ∙ mid_drawn k w lt

        module _ {W O : Type 0} (Takes : W → O → PageResult → W → O → Type 0) (total : ℕ) (results : List PageResult) (tk : W) (ot : O) (tk' : W) (ot' : O) (took : TookSome Takes first total n0 n3 results tk ot tk' ot') (n_long : length n0 ≡ length xs)
            (ended : (total ≡ count) ⊎ ((k : ℕ) (n : Inlet) → k < length xs → HasAtHead (first + total) (known_items (get_or n3 k n).results) → ⊥)) (js_long : length js ≡ length xs) where
          pub handed_round : HandedRound library faults loads bench indexed sheet first count xs js results
          handed_round = record {
            drawn = mids;
            long = mids_long;
            round = drew;
            taken = record {
              cleared = λ k d lt.
                  let there : k < length xs = omega (arith, lt, mids_long) in
                  subst (λ x. WasCleared (get_or mids k d) x) (same_default js k w d (omega (arith, there, js_long)))
                  (of_mid (λ x. WasCleared x (get_or js k w)) k d there
                  (λ here. cleared id (get_or ss k w) (get_or ds k w) (get_or cs k w) (get_or ts k w) (get_or js k w) (get_or seats k no_claims) (parts k w here) (closed k w here) (rest k w here) (gave k w no_claims here)));
              long = took.long ∙ all_taken Takes first count drew.pages total (length xs) n0 n3 results tk ot tk' ot' took n_long e drew.most drew.drawn sends drew.rising drew.inside drew.shared ended;
              are = took.are;
              owned = λ r has.
                  let own = each_owned Takes first count drew.pages total (length xs) n0 n3 results tk ot tk' ot' took n_long e drew.most drew.drawn sends drew.rising drew.inside drew.shared ended r has in
                  (own.0, omega (arith, own.1, mids_long), λ d. subst (λ (l : List PageResult). Contains l r) (sym (mid_drawn own.0 d own.1)) own.2);
              all = λ k d r lt has.
                  let there : k < length xs = omega (arith, lt, mids_long) in
                  each_in Takes first count drew.pages total (length xs) n0 n3 results tk ot tk' ot' took n_long e drew.most drew.drawn sends drew.rising drew.inside drew.shared ended k r there
                  (subst (λ (l : List PageResult). Contains l r) (mid_drawn k d there) has);
            };
          }

-- a round of workers that were opened for it before
module _ {F : Type 0} (library : F → Option FileTable) (faults loads : F → ℕ) (bench : Bench) (indexed : Indexed) (sheet : Sheet) (first count : ℕ) where
  pub may_draw_opened : (a b c : Worker F) → MayDraw library bench count a → DrewNothingAtCounter a b → WithOutlet b c → MayDraw library bench count c
  may_draw_opened a b c may kept with = subst (λ (w : Worker F). MayDraw library bench count w) (sym with.1) (record {
    fits = subst (λ (x : F). BenchFits (library x) bench b.seat) (sym kept.rested.source) (subst (λ (s : Option SeatView). BenchFits (library a.source) bench s) (sym kept.rested.seat) may.fits);
    no_result = kept.rested.results ∙ may.no_result;
    no_counter = kept.counter ∙ may.no_counter;
    room = subst (λ (m : ℕ). count * 2 ^ 24 ≤ room_at m b.seat) (sym kept.rested.loads) (subst (λ (s : Option SeatView). count * 2 ^ 24 ≤ room_at a.loads s) (sym kept.rested.seat) may.room);
  })

  pub room_opened : (b c : Worker F) → HasRoom count b → WithOutlet b c → HasRoom count c
  room_opened b c room with = subst (HasRoom count) (sym with.1) (record { results = room.results; pages = room.pages })

  pub handed_opened : (xs os js : List (Worker F)) (results : List PageResult) → length os ≡ length xs → ((k : ℕ) (d : Worker F) → k < length xs → DrewNothing (get_or xs k d) (get_or os k d))
      → HandedRound library faults loads bench indexed sheet first count os js results → HandedRound library faults loads bench indexed sheet first count xs js results
  handed_opened xs os js results long rest h = record {
    drawn = h.drawn;
    long = h.long ∙ long;
    round = record {
      pages = h.round.pages;
      some = h.round.some;
      most = h.round.most;
      drawn = h.round.drawn;
      each = λ k d lt. drew_after_rest library faults loads bench indexed sheet (h.round.drawn k) (get_or xs k d) (get_or os k d) (get_or h.drawn k d) (rest k d lt) (h.round.each k d (omega (arith, lt, long)));
      rising = λ k lt. h.round.rising k (omega (arith, lt, long));
      inside = λ k page lt. h.round.inside k page (omega (arith, lt, long));
      shared = λ i lt. let s = h.round.shared i lt in (s.0, omega (arith, s.1, long), s.2, λ j below. s.3 j (omega (arith, below, long)));
      stopped = λ k lt. h.round.stopped k (omega (arith, lt, long));
      whole = λ few. let w = h.round.whole few in (w.0, omega (arith, w.1, long), w.2);
    };
    taken = h.taken;
  }

  -- ---- afterwards

  -- no worker's seat holds a claim
  pub handed_free : (xs js : List (Worker F)) (results : List PageResult) → ((k : ℕ) (d : Worker F) → k < length xs → MayDraw library bench count (get_or xs k d)) → HandedRound library faults loads bench indexed sheet first count xs js results
      → (k : ℕ) (d : Worker F) → k < length xs → HoldsNoClaim (get_or js k d).seat
  handed_free xs js results ready h k d lt =
      let long = h.long in
      subst HoldsNoClaim (sym (h.taken.cleared k d (omega (arith, lt, long))).same.seat) (drew_free library faults loads bench indexed sheet (h.round.drawn k) (get_or xs k d) (get_or h.drawn k d) (ready k d lt).fits (h.round.each k d lt))

  -- some spare pages are dropped
  pub handed_trimmed : (xs js ks : List (Worker F)) (results : List PageResult) → ((k : ℕ) (d : Worker F) → k < length xs → SameButSparePages (get_or js k d) (get_or ks k d)) → HandedRound library faults loads bench indexed sheet first count xs js results
      → HandedRound library faults loads bench indexed sheet first count xs ks results
  handed_trimmed xs js ks results same h = record {
    drawn = h.drawn;
    long = h.long;
    round = h.round;
    taken = record {
      cleared = λ k d lt.
          let long = h.long in
          let s = same k d (omega (arith, lt, long)) in
          let c = h.taken.cleared k d lt in
          record {
            same = record { source = s.source ∙ c.same.source; seat = s.seat ∙ c.same.seat; loads = s.loads ∙ c.same.loads; pages = ap (λ v. v.items) s.pages ∙ c.same.pages };
            none = ap (λ v. v.items) s.results ∙ c.none;
          };
      long = h.taken.long;
      are = h.taken.are;
      owned = h.taken.owned;
      all = h.taken.all;
    };
  }

pub kept_self : {F : Type 0} (w : Worker F) → DrewNothingAtCounter w w
kept_self w = record { rested = record { source = refl; seat = refl; results = refl; loads = refl; pages = refl }; counter = refl; spare_pages = refl }

pub with_self : {F : Type 0} (w : Worker F) → WithOutlet w w
with_self w = (w.outlet, refl)
