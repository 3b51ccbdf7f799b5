-- Workers that hand their results on, as if they had kept them.
use Rattle.std.proofs.Common.{◌≡◌, ℕ, ◌+◌, ◌≤◌, List, [], ◌∷◌, ◌++◌, Bool, refl, sym, ap, subst, ◌∙◌, arith, length-append}
use Rattle.std.specs.Prelude.{Option, None, Some}
use Rattle.std.specs.Vec.{vec_len, vec_capacity}
use Rattle.outside.specs.Library.{FileTable}
use Rattle.page_index.specs.Pages.{Indexed}
use Rattle.page_draw.specs.declared.sheet.Sheet.{Sheet}
use Rattle.rtrb.specs.Ring.{sent, known_free, SameProducer}
use Rattle.page_workers.specs.declared.bench.Bench.{Bench}
use Rattle.page_workers.specs.declared.rings.Outlet.{Outlet}
use Rattle.page_workers.specs.declared.worker.PageResult.{PageResult}
use Rattle.page_workers.specs.declared.worker.Worker.{Worker}
use Rattle.page_workers.specs.Claims.{DrewNext}
use Rattle.page_workers.specs.Handing.{HandedOn, HasOutlet, SendsOn}
use Rattle.page_workers.specs.HandedParts.{HandedNext, as_kept}
use Rattle.page_workers.specs.SparePages.{SameButSparePages}

-- a worker that noted one result more
abbrev pub noted : {F : Type 0} (kept : Worker F) (r : PageResult) → vec_len kept.results + 1 ≤ vec_capacity kept.results → Worker F
noted kept r room = record kept {
  results = record {
    ptr = kept.results.ptr;
    len = kept.results.len + 1;
    cap = kept.results.cap;
    alloc = kept.results.alloc;
    items = kept.results.items ++ r ∷ [];
    ok = (let is = kept.results.ok.0 in let long = length-append kept.results.items (r ∷ []) in omega (arith, is, long), room);
    small = kept.results.small;
  };
}

pub same_kept : {F : Type 0} (a b kept : Worker F) → b.source ≡ a.source → b.seat ≡ a.seat → b.loads ≡ a.loads → b.pages ≡ a.pages → b.counter ≡ a.counter → as_kept b kept ≡ as_kept a kept
same_kept a b kept source seat loads pages counter =
    ap (λ x. as_kept (record b { source = x }) kept) source
    ∙ (ap (λ x. as_kept (record b { source = a.source; seat = x }) kept) seat
    ∙ (ap (λ x. as_kept (record b { source = a.source; seat = a.seat; loads = x }) kept) loads
    ∙ (ap (λ x. as_kept (record b { source = a.source; seat = a.seat; loads = a.loads; pages = x }) kept) pages
    ∙ ap (λ x. as_kept (record b { source = a.source; seat = a.seat; loads = a.loads; pages = a.pages; counter = x }) kept) counter)))

sends_on : (a b : Option Outlet) (o : Outlet) → a ≡ Some o → SendsOn a b → (p : Outlet) × (b ≡ Some p) × (p.results ≡ o.results)
sends_on a b o is sends = subst (λ (x : Option Outlet). SendsOn x b) is sends

pub may_hand_on : {F : Type 0} (u f m : Worker F) → SendsOn u.outlet f.outlet → m.outlet ≡ f.outlet → HasOutlet 1 u → (o : Outlet) × (m.outlet ≡ Some o) × (1 ≤ known_free o.results)
may_hand_on u f m sends outlet has =
    let q = sends_on u.outlet f.outlet has.outlet has.is sends in
    (q.0, outlet ∙ q.1, subst (λ y. 1 ≤ known_free y) (sym q.2) has.room)

module _ {F : Type 0} (library : F → Option FileTable) (faults loads : F → ℕ) (bench : Bench) (indexed : Indexed) (sheet : Sheet) (page : ℕ) (has_bitmap : Bool) (u f m x : Worker F) (same : SameButSparePages u f)
    (sends : SendsOn u.outlet f.outlet) (drew : DrewNext library faults loads bench indexed sheet page has_bitmap f m) (outlet : m.outlet ≡ f.outlet)
    (results_room : (vec_len m.results ≡ vec_len f.results + 1) × (vec_capacity m.results ≡ vec_capacity f.results)) (pages_room : (vec_len m.pages ≡ vec_len f.pages + 1) × (vec_capacity m.pages ≡ vec_capacity f.pages))
    (none : u.results.items ≡ []) (on : HandedOn m x) where
  abbrev r : PageResult
  r = record { page = page; outcome = drew.outcome }

  pub one_result : m.results.items ≡ r ∷ []
  one_result = drew.drew.result ∙ ap (λ (l : List PageResult). l ++ r ∷ []) (ap (λ v. v.items) same.results ∙ none)

  -- as if it had kept its results
  drew_kept : (kept : Worker F) (room : vec_len kept.results + 1 ≤ vec_capacity kept.results) → DrewNext library faults loads bench indexed sheet page has_bitmap (as_kept f kept) (as_kept m (noted kept r room))
  drew_kept kept room = record {
    outcome = drew.outcome;
    bitmap = drew.bitmap;
    drew = record {
      result = refl;
      pages = drew.drew.pages;
      value = drew.drew.value;
      fits = drew.drew.fits;
      room = drew.drew.room;
      same_library = drew.drew.same_library;
      same_units = drew.drew.same_units;
      cause = drew.drew.cause;
      trail = drew.drew.trail;
    };
    counter = drew.counter;
    spare_pages = omega arith;
    space = λ n h. record {
      results = let before = h.results in omega (arith, before);
      pages = let before = h.pages in let longer = pages_room.0 in let as_large = pages_room.1 in omega (arith, before, longer, as_large);
    };
  }

  pub handed_next : HandedNext library faults loads bench indexed sheet page has_bitmap u x
  handed_next kept o is are room =
      let q = sends_on u.outlet f.outlet o is sends in
      let sent_on = on.sends q.0 r (outlet ∙ q.1) one_result in
      let p = sent_on.0 in
      let ring : SameProducer o.results p.results = subst (λ y. SameProducer y p.results) q.2 sent_on.2 in
      let more = noted kept r room.results in
      let before : as_kept f kept ≡ as_kept u kept = same_kept u f kept same.source same.seat same.loads same.pages same.counter in
      let after : as_kept x more ≡ as_kept m more = same_kept m x more on.source on.seat on.loads on.pages on.counter in
      let all : kept.results.items ++ r ∷ [] ≡ sent p.results = ap (λ (l : List PageResult). l ++ r ∷ []) (are ∙ ap (λ y. sent y) (sym q.2)) ∙ sym sent_on.3 in (
        p,
        sent_on.1,
        ring,
        more,
        all,
        subst (λ (w : Worker F). DrewNext library faults loads bench indexed sheet page has_bitmap w (as_kept x more)) before
            (subst (λ (w : Worker F). DrewNext library faults loads bench indexed sheet page has_bitmap (as_kept f kept) w) (sym after) (drew_kept kept room.results)),
      )

  pub still_has_outlet : (n : ℕ) → HasOutlet (n + 1) u → HasOutlet n x
  still_has_outlet n has =
      let q = sends_on u.outlet f.outlet has.outlet has.is sends in
      let sent_on = on.sends q.0 r (outlet ∙ q.1) one_result in
      let free : known_free has.outlet.results ≡ known_free q.0.results = ap (λ y. known_free y) (sym q.2) in
      let one = sent_on.4 in
      let room = has.room in
      let as_long = ap (λ v. vec_len v) same.results in
      let as_large = ap (λ v. vec_capacity v) same.results in
      let shorter = on.shorter in
      let space = on.space in
      let longer = results_room.0 in
      let larger = results_room.1 in
      let before = has.space in
      record {
        outlet = sent_on.0;
        is = sent_on.1;
        room = omega (arith, free, one, room);
        none = on.none;
        space = omega (arith, as_long, as_large, shorter, space, longer, larger, before);
      }

-- a worker that waited afterwards
module _ {F : Type 0} (library : F → Option FileTable) (faults loads : F → ℕ) (bench : Bench) (indexed : Indexed) (sheet : Sheet) (page : ℕ) (has_bitmap : Bool) (u x y : Worker F) (same : SameButSparePages x y) (sends : SendsOn x.outlet y.outlet) where
  pub handed_then : HandedNext library faults loads bench indexed sheet page has_bitmap u x → HandedNext library faults loads bench indexed sheet page has_bitmap u y
  handed_then next kept o is are room =
      let h = next kept o is are room in
      let q = sends_on x.outlet y.outlet h.0 h.1 sends in
      let more = h.3 in (
        q.0,
        q.1,
        subst (λ z. SameProducer o.results z) (sym q.2) h.2,
        more,
        h.4 ∙ ap (λ z. sent z) (sym q.2),
        subst (λ (w : Worker F). DrewNext library faults loads bench indexed sheet page has_bitmap (as_kept u kept) w) (sym (same_kept x y more same.source same.seat same.loads same.pages same.counter)) h.5,
      )

pub outlet_then : {F : Type 0} (x y : Worker F) → SameButSparePages x y → SendsOn x.outlet y.outlet → (n : ℕ) → HasOutlet n x → HasOutlet n y
outlet_then x y same sends n h =
    let q = sends_on x.outlet y.outlet h.outlet h.is sends in
    let as_long = ap (λ v. vec_len v) same.results in
    let as_large = ap (λ v. vec_capacity v) same.results in
    let before = h.space in
    record {
      outlet = q.0;
      is = q.1;
      room = subst (λ z. n ≤ known_free z) (sym q.2) h.room;
      none = ap (λ v. v.items) same.results ∙ h.none;
      space = omega (arith, as_long, as_large, before);
    }

pub sends_self : (a : Option Outlet) → SendsOn a a
sends_self None = refl
sends_self (Some o) = (o, refl, refl)
