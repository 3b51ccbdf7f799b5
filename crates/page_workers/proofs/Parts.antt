-- A worker in the middle of its part of a round.
use Rattle.std.proofs.Common.{◌≡◌, inl, inr, ℕ, ◌+◌, ◌*◌, ◌-◌, ◌<◌, ◌≤◌, List, [], ◌∷◌, ◌++◌, length, map, Bool, true, false, refl, sym, ap, subst, ◌∙◌, arith, append-nil, length-append}
use Rattle.std.specs.Prelude.{◌^◌, All, Option, None, Some}
use Rattle.std.specs.List.Sorted.{IsStrictlyIncreasing}
use Rattle.std.proofs.lemmas.List.Elements.{All-push, All-nil}
use Rattle.atomic_table.specs.Seated.{TableId}
use Rattle.outside.specs.Library.{FileTable}
use Rattle.page_counter.specs.Seats.{SeatView}
use Rattle.page_counter.specs.Views.{claimed_view}
use Rattle.page_index.specs.Pages.{Indexed}
use Rattle.page_draw.specs.declared.sheet.Sheet.{Sheet}
use Rattle.page_workers.specs.declared.bench.Bench.{Bench}
use Rattle.page_workers.specs.declared.worker.PageResult.{PageResult}
use Rattle.page_workers.specs.declared.worker.Worker.{Worker}
use Rattle.page_workers.specs.Seats.{BenchFits, room_at}
use Rattle.page_workers.specs.Rounds.{DrewNothing, Drew, HasBitmap, pages_of}
use Rattle.page_workers.specs.Claims.{HasRoom, HasSeat, IsClaimOf, ClaimedPage, MayTakePart, DrewNext, TookPart, claims_at}
use Rattle.page_workers.specs.SparePages.{HasNoMoreSparePages}
use Rattle.page_workers.proofs.NothingDrawn.{rested_self}
use Rattle.page_workers.proofs.Drawn.{drew_before_rest, drew_more, bitmaps_all, bitmaps_before, lacks_last, pages_of-more}
use Rattle.page_workers.proofs.Rising.{rising_few, map-more}

-- what draw_page asks of the worker
pub record MayDrawNext {F : Type 0} (library : F → Option FileTable) (bench : Bench) (w : Worker F) : Type 0 where
  pub fits : BenchFits (library w.source) bench w.seat
  pub look_ups : 2 ^ 24 ≤ room_at w.loads w.seat
  pub space : HasRoom 1 w

module _ {F : Type 0} (library : F → Option FileTable) (faults loads : F → ℕ) (bench : Bench) (indexed : Indexed) (sheet : Sheet) (id : TableId) (first count : ℕ) where
  -- each page so far has a bitmap, and each claim gave a page
  pub record Midway (start now : Worker F) : Type 0 where
    pub drawn : List PageResult
    pub drew : Drew library faults loads bench indexed sheet drawn start now
    pub seated : HasSeat id now
    pub left : ℕ
    pub left_is : length (claims_at now.counter) + left ≡ count
    pub rises : IsStrictlyIncreasing (claims_at now.counter)
    pub below : All (λ claim. claim < count) (claims_at now.counter)
    pub pages : pages_of drawn ≡ map (λ claim. first + claim) (claims_at now.counter)
    pub bitmaps : All HasBitmap drawn
    pub space : HasRoom left now
    pub look_ups : left * 2 ^ 24 ≤ room_at now.loads now.seat
    pub fits : BenchFits (library now.source) bench now.seat
    pub spare_pages : HasNoMoreSparePages start now

  pub begins : (w : Worker F) → MayTakePart library bench id count w → Midway w w
  begins w may = record {
    drawn = [];
    drew = rested_self w;
    seated = may.seated;
    left = count;
    left_is = let none = ap (λ (l : List ℕ). length l) may.unused in omega arith;
    rises = subst IsStrictlyIncreasing (sym may.unused) (λ k lt. absurd (omega arith));
    below = subst (All (λ claim. claim < count)) (sym may.unused) (All-nil (λ claim. claim < count));
    pages = ap (map (λ claim. first + claim)) (sym may.unused);
    bitmaps = All-nil HasBitmap;
    space = may.space;
    look_ups = may.look_ups;
    fits = may.fits;
    spare_pages = omega arith;
  }

  -- ---- after a claim

  module _ (start now next : Worker F) (midway : Midway start now) (page : Option ℕ) (claimed : ClaimedPage first count page now next) where
    abbrev claims : List ℕ
    claims = claims_at now.counter

    was : claims_at now.counter ≡ claimed.seat.view.claims
    was = ap claims_at claimed.was

    pub are : claims_at next.counter ≡ claims_at now.counter ++ claimed.claim ∷ []
    are = ap (λ (w : Worker F). claims_at w.counter) claimed.is ∙ ap (λ (l : List ℕ). l ++ claimed.claim ∷ []) (sym was)

    rise : IsStrictlyIncreasing (claims_at now.counter ++ claimed.claim ∷ [])
    rise = subst (λ (l : List ℕ). IsStrictlyIncreasing (l ++ claimed.claim ∷ [])) (sym was) claimed.rises

    same_id : claimed.seat.counter ≡ id
    same_id =
        let e : Some midway.seated.seat ≡ Some claimed.seat = sym midway.seated.is ∙ claimed.was in
        let same : claimed.seat ≡ midway.seated.seat = cc e in
        ap (λ (s : SeatView). s.counter) same ∙ midway.seated.counter

    abbrev seat_after : SeatView
    seat_after = record claimed.seat { view = claimed_view claimed.seat.view claimed.claim }

    has_seat : HasSeat id next
    has_seat = record { seat = seat_after; is = ap (λ (w : Worker F). w.counter) claimed.is; counter = same_id }

    rested : DrewNothing now next
    rested = subst (λ (w : Worker F). DrewNothing now w) (sym claimed.is) (record { source = refl; seat = refl; results = refl; loads = refl; pages = refl })

    same_spare_pages : length next.spare_pages.items ≡ length now.spare_pages.items
    same_spare_pages = ap (λ (w : Worker F). length w.spare_pages.items) claimed.is

    -- the round has no further page
    pub ends_beyond : page ≡ None → TookPart library faults loads bench indexed sheet id first count start next
    ends_beyond none = record {
      drawn = midway.drawn;
      drew = drew_before_rest library faults loads bench indexed sheet midway.drawn start now next midway.drew rested;
      seated = has_seat;
      claimed = claims;
      beyond = claimed.claim ∷ [];
      claims = are;
      rises = subst IsStrictlyIncreasing (sym are) rise;
      below = midway.below;
      pages = midway.pages;
      stopped = bitmaps_all midway.drawn midway.bitmaps;
      over = inl (claimed.claim, refl, subst (IsClaimOf first count claimed.claim) none claimed.of_round);
      spare_pages = omega (arith, same_spare_pages, midway.spare_pages);
    }

    module _ (i : ℕ) (some : page ≡ Some i) where
      of_round : (claimed.claim < count) × (i ≡ first + claimed.claim)
      of_round = subst (IsClaimOf first count claimed.claim) some claimed.of_round

      pub inside : i < first + count
      inside = let lt = of_round.0 in let e = of_round.1 in omega arith

      below_more : All (λ claim. claim < count) (claims ++ claimed.claim ∷ [])
      below_more = All-push (λ claim. claim < count) claims claimed.claim midway.below of_round.0

      pub few : length (claims_at now.counter) < count
      few = let most = rising_few count (claims ++ claimed.claim ∷ []) rise below_more in let long = length-append claims (claimed.claim ∷ []) in omega arith

      pub may_draw_next : MayDrawNext library bench next
      may_draw_next = subst (MayDrawNext library bench) (sym claimed.is) (record {
        fits = midway.fits;
        look_ups = let lt = few in let is = midway.left_is in let room = midway.look_ups in omega arith;
        space = record {
          results = let lt = few in let is = midway.left_is in let room = midway.space.results in omega arith;
          pages = let lt = few in let is = midway.left_is in let room = midway.space.pages in omega arith;
        };
      })

      space : (n : ℕ) → n + 1 ≡ midway.left → HasRoom (n + 1) next
      space n e = subst (HasRoom (n + 1)) (sym claimed.is) (record {
        results = let room = midway.space.results in omega arith;
        pages = let room = midway.space.pages in omega arith;
      })

      -- ---- after the page was drawn

      module _ (after : Worker F) (has_bitmap : Bool) (drew : DrewNext library faults loads bench indexed sheet i has_bitmap next after) where
        abbrev result : PageResult
        result = record { page = i; outcome = drew.outcome }

        all_drew : Drew library faults loads bench indexed sheet (midway.drawn ++ result ∷ []) start after
        all_drew = drew_more library faults loads bench indexed sheet midway.drawn result start next after
            (drew_before_rest library faults loads bench indexed sheet midway.drawn start now next midway.drew rested) drew.drew

        seat_kept : HasSeat id after
        seat_kept = record { seat = seat_after; is = drew.counter ∙ ap (λ (w : Worker F). w.counter) claimed.is; counter = same_id }

        are_after : claims_at after.counter ≡ claims ++ claimed.claim ∷ []
        are_after = ap claims_at drew.counter ∙ are

        pages_after : pages_of (midway.drawn ++ result ∷ []) ≡ map (λ claim. first + claim) (claims ++ claimed.claim ∷ [])
        pages_after =
            pages_of-more midway.drawn result
            ∙ (ap (λ (l : List ℕ). l ++ i ∷ []) midway.pages
            ∙ (ap (λ (x : ℕ). map (λ claim. first + claim) claims ++ x ∷ []) of_round.1
            ∙ sym (map-more first claims claimed.claim)))

        pub one_claim_more : length (claims_at after.counter) ≡ length claims + 1
        one_claim_more = let e = ap (λ (l : List ℕ). length l) are_after in let long = length-append claims (claimed.claim ∷ []) in omega (arith, e, long)

        pub falls : count - length (claims_at after.counter) < count - length claims
        falls = let lt = few in let e = ap (λ (l : List ℕ). length l) are_after in let long = length-append claims (claimed.claim ∷ []) in omega arith

        no_more : HasNoMoreSparePages start after
        no_more = omega (arith, drew.spare_pages, same_spare_pages, midway.spare_pages)

        pub goes_on : has_bitmap ≡ true → Midway start after
        goes_on whole = record {
          drawn = midway.drawn ++ result ∷ [];
          drew = all_drew;
          seated = seat_kept;
          left = count - (length claims + 1);
          left_is = let lt = few in let e = ap (λ (l : List ℕ). length l) are_after in let long = length-append claims (claimed.claim ∷ []) in omega arith;
          rises = subst IsStrictlyIncreasing (sym are_after) rise;
          below = subst (All (λ claim. claim < count)) (sym are_after) below_more;
          pages = pages_after ∙ ap (map (λ claim. first + claim)) (sym are_after);
          bitmaps = All-push HasBitmap midway.drawn result midway.bitmaps (sym drew.bitmap ∙ whole);
          space = let lt = few in let is = midway.left_is in drew.space (count - (length claims + 1)) (space (count - (length claims + 1)) (omega arith));
          look_ups =
              let lt = few in
              let is = midway.left_is in
              let room = midway.look_ups in
              let same : room_at next.loads next.seat ≡ room_at now.loads now.seat = ap (λ (w : Worker F). room_at w.loads w.seat) claimed.is in
              let falls = drew.drew.room in omega arith;
          fits = drew.drew.fits;
          spare_pages = no_more;
        }

        -- the page has no bitmap
        pub ends_at : has_bitmap ≡ false → TookPart library faults loads bench indexed sheet id first count start after
        ends_at broken = record {
          drawn = midway.drawn ++ result ∷ [];
          drew = all_drew;
          seated = seat_kept;
          claimed = claims ++ claimed.claim ∷ [];
          beyond = [];
          claims = are_after ∙ sym (append-nil (claims ++ claimed.claim ∷ []));
          rises = subst IsStrictlyIncreasing (sym are_after) rise;
          below = below_more;
          pages = pages_after;
          stopped = bitmaps_before midway.drawn result midway.bitmaps;
          over = inr (refl, lacks_last midway.drawn result (sym drew.bitmap ∙ broken));
          spare_pages = no_more;
        }
