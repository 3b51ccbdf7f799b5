-- A worker in the middle of its part of a round whose results it hands on.
use Rattle.std.proofs.Common.{◌≡◌, ℕ, ◌+◌, ◌-◌, ◌<◌, ◌≤◌, [], length, Bool, true, false, refl, sym, ap, subst, ◌∙◌, arith}
use Rattle.std.specs.Prelude.{◌^◌, Option, None, Some}
use Rattle.std.specs.Vec.{vec_len, vec_capacity}
use Rattle.atomic_table.specs.Seated.{TableId}
use Rattle.outside.specs.Library.{FileTable}
use Rattle.page_index.specs.Pages.{Indexed}
use Rattle.page_draw.specs.declared.sheet.Sheet.{Sheet}
use Rattle.rtrb.specs.Ring.{sent, SameProducer}
use Rattle.page_workers.specs.declared.bench.Bench.{Bench}
use Rattle.page_workers.specs.declared.rings.Outlet.{Outlet}
use Rattle.page_workers.specs.declared.worker.Worker.{Worker}
use Rattle.page_workers.specs.Seats.{BenchFits, room_at}
use Rattle.page_workers.specs.Claims.{ClaimedPage, DrewNext, MayTakePart, claims_at}
use Rattle.page_workers.specs.Handing.{HasOutlet}
use Rattle.page_workers.specs.HandedParts.{HandedNext, HandedPart, as_kept}
use Rattle.page_workers.proofs.Parts.{Midway, MayDrawNext, begins, ends_at, ends_beyond, falls, few, goes_on, may_draw_next, one_claim_more}

module _ {F : Type 0} (library : F → Option FileTable) (faults loads : F → ℕ) (bench : Bench) (indexed : Indexed) (sheet : Sheet) (id : TableId) (first count : ℕ) where
  -- as if it had kept its results it is midway, and it has room for those to come
  pub record HandedMidway (start now : Worker F) : Type 0 where
    pub old : Outlet
    pub was : start.outlet ≡ Some old
    pub new : Outlet
    pub is : now.outlet ≡ Some new
    pub ring : SameProducer old.results new.results
    pub kept : Worker F
    pub are : kept.results.items ≡ sent new.results
    pub midway : Midway library faults loads bench indexed sheet id first count (as_kept start start) (as_kept now kept)
    pub outlet : HasOutlet (count - length (claims_at now.counter)) now

  pub hand_begins : (w : Worker F) → MayTakePart library bench id count w → HasOutlet count w → ((o : Outlet) → w.outlet ≡ Some o → sent o.results ≡ []) → HandedMidway w w
  hand_begins w may has unsent = record {
    old = has.outlet;
    was = has.is;
    new = has.outlet;
    is = has.is;
    ring = ((refl, refl, refl, refl), refl);
    kept = w;
    are = has.none ∙ sym (unsent has.outlet has.is);
    midway = begins library faults loads bench indexed sheet id first count (as_kept w w) (record { fits = may.fits; look_ups = may.look_ups; space = record { results = may.space.results; pages = may.space.pages }; seated = record { seat = may.seated.seat; is = may.seated.is; counter = may.seated.counter }; unused = may.unused });
    outlet = subst (λ (n : ℕ). HasOutlet n w) (let none = ap length may.unused in omega (arith, none)) has;
  }

  module _ (start now next : Worker F) (h : HandedMidway start now) (page : Option ℕ) (claimed : ClaimedPage first count page now next) where
    -- the same claim, as if it had kept its results
    claimed_kept : ClaimedPage first count page (as_kept now h.kept) (as_kept next h.kept)
    claimed_kept = record {
      claim = claimed.claim;
      seat = claimed.seat;
      was = claimed.was;
      is = ap (λ (w : Worker F). as_kept w h.kept) claimed.is;
      rises = claimed.rises;
      of_round = claimed.of_round;
    }

    same_outlet : next.outlet ≡ now.outlet
    same_outlet = ap (λ (w : Worker F). w.outlet) claimed.is

    next_has : HasOutlet (count - length (claims_at now.counter)) next
    next_has = subst (HasOutlet (count - length (claims_at now.counter))) (sym claimed.is) (record { outlet = h.outlet.outlet; is = h.outlet.is; room = h.outlet.room; none = h.outlet.none; space = h.outlet.space })

    pub hand_ends_beyond : page ≡ None → HandedPart library faults loads bench indexed sheet id first count start next
    hand_ends_beyond beyond = record {
      old = h.old;
      was = h.was;
      new = h.new;
      is = same_outlet ∙ h.is;
      ring = h.ring;
      none = next_has.none;
      kept = h.kept;
      are = h.are;
      part = ends_beyond library faults loads bench indexed sheet id first count (as_kept start start) (as_kept now h.kept) (as_kept next h.kept) h.midway page claimed_kept beyond;
    }

    module _ (i : ℕ) (some : page ≡ Some i) where
      may_next : MayDrawNext library bench (as_kept next h.kept)
      may_next = may_draw_next library faults loads bench indexed sheet id first count (as_kept start start) (as_kept now h.kept) (as_kept next h.kept) h.midway page claimed_kept i some

      few_claims : length (claims_at now.counter) < count
      few_claims = few library faults loads bench indexed sheet id first count (as_kept start start) (as_kept now h.kept) (as_kept next h.kept) h.midway page claimed_kept i some

      pub hand_may_fit : BenchFits (library next.source) bench next.seat
      hand_may_fit = may_next.fits

      pub hand_may_ask : 2 ^ 24 ≤ room_at next.loads next.seat
      hand_may_ask = may_next.look_ups

      pub hand_may_note : vec_len next.pages + 1 ≤ vec_capacity next.pages
      hand_may_note = may_next.space.pages

      one_less : count - length (claims_at now.counter) ≡ (count - (length (claims_at now.counter) + 1)) + 1
      one_less = let lt = few_claims in omega (arith, lt)

      pub hand_may_send : HasOutlet 1 next
      hand_may_send = record {
        outlet = next_has.outlet;
        is = next_has.is;
        room = let lt = few_claims in let room = next_has.room in omega (arith, lt, room);
        none = next_has.none;
        space = next_has.space;
      }

      module _ (after : Worker F) (has_bitmap : Bool) (drew : HandedNext library faults loads bench indexed sheet i has_bitmap next after) (outlet : (n : ℕ) → HasOutlet (n + 1) next → HasOutlet n after) where
        abbrev went : (p : Outlet) × (after.outlet ≡ Some p) × SameProducer h.new.results p.results × (more : Worker F) × (more.results.items ≡ sent p.results)
            × DrewNext library faults loads bench indexed sheet i has_bitmap (as_kept next h.kept) (as_kept after more)
        went = drew h.kept h.new (same_outlet ∙ h.is) h.are may_next.space

        ring_after : SameProducer h.old.results went.0.results
        ring_after =
            let p = h.ring in
            let q = went.2 in
            ((q.0.0 ∙ p.0.0, q.0.1 ∙ p.0.1, q.0.2 ∙ p.0.2, q.0.3 ∙ p.0.3), q.1 ∙ p.1)

        after_has : HasOutlet (count - (length (claims_at now.counter) + 1)) after
        after_has = outlet (count - (length (claims_at now.counter) + 1)) (subst (λ (n : ℕ). HasOutlet n next) one_less next_has)

        claims_grew : length (claims_at after.counter) ≡ length (claims_at now.counter) + 1
        claims_grew = one_claim_more library faults loads bench indexed sheet id first count (as_kept start start) (as_kept now h.kept) (as_kept next h.kept) h.midway page claimed_kept i some (as_kept after went.3) has_bitmap went.5

        pub hand_falls : count - length (claims_at after.counter) < count - length (claims_at now.counter)
        hand_falls = falls library faults loads bench indexed sheet id first count (as_kept start start) (as_kept now h.kept) (as_kept next h.kept) h.midway page claimed_kept i some (as_kept after went.3) has_bitmap went.5

        pub hand_goes_on : has_bitmap ≡ true → HandedMidway start after
        hand_goes_on whole =
            let on = goes_on library faults loads bench indexed sheet id first count (as_kept start start) (as_kept now h.kept) (as_kept next h.kept) h.midway page claimed_kept i some (as_kept after went.3) has_bitmap went.5 whole in
            record {
              old = h.old;
              was = h.was;
              new = went.0;
              is = went.1;
              ring = ring_after;
              kept = went.3;
              are = went.4;
              midway = on;
              outlet = subst (λ (n : ℕ). HasOutlet n after) (let more = claims_grew in omega (arith, more)) after_has;
            }

        pub hand_ends_at : has_bitmap ≡ false → HandedPart library faults loads bench indexed sheet id first count start after
        hand_ends_at broken = record {
          old = h.old;
          was = h.was;
          new = went.0;
          is = went.1;
          ring = ring_after;
          none = after_has.none;
          kept = went.3;
          are = went.4;
          part = ends_at library faults loads bench indexed sheet id first count (as_kept start start) (as_kept now h.kept) (as_kept next h.kept) h.midway page claimed_kept i some (as_kept after went.3) has_bitmap went.5 broken;
        }
