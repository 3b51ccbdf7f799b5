-- What the workers of a round did, all together: each page was claimed by one of them.
use Rattle.std.proofs.Common.{◌≡◌, ◌⊎◌, inl, inr, ℕ, ◌+◌, ◌<◌, ◌≤◌, min, List, [], ◌∷◌, ◌++◌, length, map, get_or, refl, sym, ap, subst, ◌∙◌, ⊎_elim, arith, cond, eqb}
use Rattle.std.specs.Prelude.{All, Contains, Option}
use Rattle.std.specs.List.{sum_by}
use Rattle.std.specs.List.Sorted.{IsStrictlyIncreasing}
use Rattle.std.proofs.lemmas.Bool.{cases_lt, cases_eq}
use Rattle.std.proofs.lemmas.List.{length-map}
use Rattle.std.proofs.lemmas.List.Elements.{Contains-append_cases, Contains-append_left, Contains-append_right}
use Rattle.atomic_table.specs.Seated.{TableId}
use Rattle.outside.specs.Library.{FileTable}
use Rattle.page_counter.specs.declared.view.SeatClaims.{SeatClaims}
use Rattle.page_counter.specs.Numbers.{times, EachOnce}
use Rattle.page_counter.specs.Views.{claims_of}
use Rattle.page_counter.proofs.Once.{times_of_contains, once_has_all, once_has_no_other, once_most}
use Rattle.page_counter.proofs.Sums.{sum_flat, sum_has_two}
use Rattle.page_counter.proofs.Says.{claims_are_of_seats, seats_have_claims}
use Rattle.page_index.specs.Pages.{Indexed}
use Rattle.page_draw.specs.declared.sheet.Sheet.{Sheet}
use Rattle.page_workers.specs.declared.bench.Bench.{Bench}
use Rattle.page_workers.specs.declared.worker.PageResult.{PageResult}
use Rattle.page_workers.specs.declared.worker.Worker.{Worker}
use Rattle.page_workers.specs.Rounds.{DrewNothing, Drew, DrewRound, BitmapsToLast, LacksBitmap, pages_of}
use Rattle.page_workers.specs.Claims.{DrewNothingAtCounter, GotSeat, GaveSeat, TookPart, ClaimsNoMore, claims_at}
use Rattle.page_workers.specs.SparePages.{HasNoMoreSparePages}
use Rattle.page_workers.proofs.NothingDrawn.{rests}
use Rattle.page_workers.proofs.Drawn.{drew_after_rest, drew_before_rest}
use Rattle.page_workers.proofs.Lists.{same_default}
use Rattle.page_workers.proofs.Rising.{rising_prefix, rising_from, claim_of_page, page_of_claim}

module _ {F : Type 0} (library : F → Option FileTable) (faults loads : F → ℕ) (bench : Bench) (indexed : Indexed) (sheet : Sheet) (first count : ℕ) where
  -- a worker's part of a round, by the claims that seat 0 took in
  pub record Share (before after : Worker F) (taken : SeatClaims) : Type 0 where
    pub drawn : List PageResult
    pub drew : Drew library faults loads bench indexed sheet drawn before after
    pub claimed : List ℕ
    pub beyond : List ℕ
    pub claims : taken.claims ≡ claimed ++ beyond
    pub rises : IsStrictlyIncreasing claimed
    pub below : All (λ claim. claim < count) claimed
    pub pages : pages_of drawn ≡ map (λ claim. first + claim) claimed
    pub stopped : BitmapsToLast drawn
    pub over : ClaimsNoMore count beyond drawn

  pub share_of : (id new : TableId) (a b c d e : Worker F) (taken : SeatClaims) → DrewNothingAtCounter a b → GotSeat id b c → TookPart library faults loads bench indexed sheet new first count c d → GaveSeat taken d e
      → Share a e taken
  share_of id new a b c d e taken kept got part gave =
      let seated : DrewNothing b c = subst (λ (w : Worker F). DrewNothing b w) (sym got.is) (record { source = refl; seat = refl; results = refl; loads = refl; pages = refl }) in
      let left : DrewNothing d e = subst (λ (w : Worker F). DrewNothing d w) (sym gave.is) (record { source = refl; seat = refl; results = refl; loads = refl; pages = refl }) in
      record {
        drawn = part.drawn;
        drew = drew_after_rest library faults loads bench indexed sheet part.drawn a c e (rests a b c kept.rested seated)
            (drew_before_rest library faults loads bench indexed sheet part.drawn c d e part.drew left);
        claimed = part.claimed;
        beyond = part.beyond;
        claims = gave.claims ∙ (sym (ap claims_at gave.was) ∙ part.claims);
        rises = rising_prefix part.claimed part.beyond (subst IsStrictlyIncreasing part.claims part.rises);
        below = part.below;
        pages = part.pages;
        stopped = part.stopped;
        over = part.over;
      }

-- over a whole round a worker gets no spare page
pub fewer_in_round : {F : Type 0} (id : TableId) (a b c d e : Worker F) (taken : SeatClaims) → DrewNothingAtCounter a b → GotSeat id b c → HasNoMoreSparePages c d → GaveSeat taken d e → HasNoMoreSparePages a e
fewer_in_round {F} id a b c d e taken kept got fewer gave =
    let reserved : length b.spare_pages.items ≡ length a.spare_pages.items = ap (λ v. length v.items) kept.spare_pages in
    let seated : length c.spare_pages.items ≡ length b.spare_pages.items = ap (λ (w : Worker F). length w.spare_pages.items) got.is in
    let joined : length e.spare_pages.items ≡ length d.spare_pages.items = ap (λ (w : Worker F). length w.spare_pages.items) gave.is in
    omega (arith, fewer, reserved, seated, joined)

pub some_of : {A : Type 0} (xs : List A) → 1 ≤ length xs → A
some_of [] some = absurd (omega arith)
some_of (x ∷ xs) some = x

-- ---- the claims of two seats

abbrev pub no_claims : SeatClaims
no_claims = record { number = 0; claims = [] }

only : (c x : ℕ) → Contains (c ∷ []) x → x ≡ c
only c x has = let at : has.0 ≡ 0 = (let h = has.1 in omega arith) in sym (subst (λ (i : ℕ). get_or (c ∷ []) i x ≡ x) at has.2)

apart : (m : ℕ) (seats : List SeatClaims) → EachOnce m (claims_of seats) → (j k x : ℕ) (e : SeatClaims) → j < length seats → k < length seats
    → Contains (get_or seats j e).claims x → Contains (get_or seats k e).claims x → j ≡ k
apart m seats once j k x e j_in k_in j_has k_has = ⊎_elim (λ same. same) (λ other.
    let f = λ (s : SeatClaims). times x s.claims in
    let two = sum_has_two f seats j k e j_in k_in other in
    let flat : times x (claims_of seats) ≡ sum_by f seats = sum_flat (λ (y : ℕ). cond (eqb y x) 1 0) (λ (s : SeatClaims). s.claims) seats in
    let most = once_most m (claims_of seats) once x in
    let one = times_of_contains (get_or seats j e).claims x j_has in
    let another = times_of_contains (get_or seats k e).claims x k_has in
    absurd (omega arith))
    (cases_eq j k)

module _ {F : Type 0} (library : F → Option FileTable) (faults loads : F → ℕ) (bench : Bench) (indexed : Indexed) (sheet : Sheet) (first count m : ℕ) (seats : List SeatClaims)
    (once : EachOnce m (claims_of seats)) where
  abbrev ShareOf : Worker F → Worker F → SeatClaims → Type 0
  ShareOf before after taken = Share library faults loads bench indexed sheet first count before after taken

  abbrev claims_of_seat : ℕ → List ℕ
  claims_of_seat k = (get_or seats k no_claims).claims

  -- a claim of one of the seats is below m
  claim_below : (k c : ℕ) → k < length seats → Contains (claims_of_seat k) c → c < m
  claim_below k c inside has = once_has_no_other m (claims_of seats) once c
      (seats_have_claims seats (get_or seats k no_claims) c (k, inside, same_default seats k (get_or seats k no_claims) no_claims inside) has)

  -- and each number below m is a claim of one of them
  claim_found : (c : ℕ) → c < m → (k : ℕ) × (k < length seats) × Contains (claims_of_seat k) c
  claim_found c lt =
      let found = claims_are_of_seats seats c (once_has_all m (claims_of seats) once c lt) in
      let at = found.1 in
      let same : get_or seats at.0 no_claims ≡ found.0 = same_default seats at.0 no_claims found.0 at.1 ∙ at.2 in
      (at.0, at.1, subst (λ (s : SeatClaims). Contains s.claims c) (sym same) found.2)

  module _ (k : ℕ) (inside : k < length seats) (before after : Worker F) (share : ShareOf before after (get_or seats k no_claims)) where
    claimed_has : (c : ℕ) → Contains share.claimed c → Contains (claims_of_seat k) c
    claimed_has c has = subst (λ (l : List ℕ). Contains l c) (sym share.claims) (Contains-append_left share.claimed share.beyond c has)

    pub page_inside : (page : ℕ) → Contains (pages_of share.drawn) page → (c : ℕ) × Contains (claims_of_seat k) c × (c < min m count) × (first + c ≡ page)
    page_inside page has =
        let found = claim_of_page first share.claimed page (subst (λ (l : List ℕ). Contains l page) share.pages has) in
        let c = found.0 in
        let low = share.below found.1.0 c found.1.1 in
        let same = found.1.2 in
        let less = claim_below k c inside (claimed_has c found.1) in
        (c, claimed_has c found.1, omega arith, found.2)

    pub page_claimed : (c : ℕ) → c < count → Contains (claims_of_seat k) c → Contains (pages_of share.drawn) (first + c)
    page_claimed c lt has =
        subst (λ (l : List ℕ). Contains l (first + c)) (sym share.pages) (page_of_claim first share.claimed c (⊎_elim
        (λ h. h)
        (λ h. ⊎_elim
        (λ out. let same : c ≡ out.0 = only out.0 c (subst (λ (l : List ℕ). Contains l c) out.1 h) in let high = out.2 in absurd (omega arith))
        (λ none. let h' = subst (λ (l : List ℕ). Contains l c) none.0 h in let lt' = h'.1 in absurd (omega arith))
        share.over)
        (Contains-append_cases share.claimed share.beyond c (subst (λ (l : List ℕ). Contains l c) share.claims has))))

    pub rises_share : IsStrictlyIncreasing (pages_of share.drawn)
    rises_share = subst IsStrictlyIncreasing (sym share.pages) (rising_from first share.claimed share.rises)

    -- each worker claims once at least, and none beyond the round where some page of it was not
    -- claimed
    beyond_below : (c : ℕ) → share.beyond ≡ c ∷ [] → c < m
    beyond_below c is = claim_below k c inside (subst (λ (l : List ℕ). Contains l c) (sym share.claims)
        (Contains-append_right share.claimed share.beyond c (subst (λ (l : List ℕ). Contains l c) (sym is) (0, omega arith, refl))))

    pub some_claim : 1 ≤ m
    some_claim = ⊎_elim
        (λ out. let below = beyond_below out.0 out.1 in omega arith)
        (λ last.
        let has = last.1.1.1 in
        let long = ap (λ (l : List ℕ). length l) share.pages in
        let a = length-map share.drawn (λ (r : PageResult). r.page) in
        let b = length-map share.claimed (λ claim. first + claim) in
        let one : 0 < length share.claimed = omega arith in
        let c = get_or share.claimed 0 0 in
        let below = claim_below k c inside (claimed_has c (0, one, same_default share.claimed 0 c 0 one)) in omega arith)
        share.over

    pub lacks : m < count → LacksBitmap share.drawn
    lacks few = ⊎_elim
        (λ out. let below = beyond_below out.0 out.1 in let high = out.2 in absurd (omega arith))
        (λ last. last.1)
        share.over

  -- ---- all workers

  module _ (before after : List (Worker F)) (w : Worker F) (long : length seats ≡ length before) (some_worker : 1 ≤ length before) (some_page : 1 ≤ count)
      (shares : (k : ℕ) → k < length before → ShareOf (get_or before k w) (get_or after k w) (get_or seats k no_claims)) (same : length after ≡ length before) where
    abbrev part : (k : ℕ) → (k < length before) ⊎ (length before ≤ k) → List PageResult
    part k (inl lt) = (shares k lt).drawn
    part k (inr le) = []

    abbrev drawn : ℕ → List PageResult
    drawn k = part k (cases_lt k (length before))

    in_seats : (k : ℕ) → k < length before → k < length seats
    in_seats k lt = omega arith

    of_part : (P : ℕ → List PageResult → Type 0) → ((k : ℕ) (lt : k < length before) → P k (shares k lt).drawn) → (k : ℕ) (at : (k < length before) ⊎ (length before ≤ k)) → k < length before
        → P k (part k at)
    of_part P each k (inl lt) inside = each k lt
    of_part P each k (inr le) inside = absurd (omega arith)

    of_drawn : (P : ℕ → List PageResult → Type 0) → ((k : ℕ) (lt : k < length before) → P k (shares k lt).drawn) → (k : ℕ) → k < length before → P k (drawn k)
    of_drawn P each k lt = of_part P each k (cases_lt k (length before)) lt

    each : (k : ℕ) (d : Worker F) → k < length before → Drew library faults loads bench indexed sheet (drawn k) (get_or before k d) (get_or after k d)
    each k d lt =
        subst (λ (x : Worker F). Drew library faults loads bench indexed sheet (drawn k) x (get_or after k d)) (same_default before k w d lt)
        (subst (λ (x : Worker F). Drew library faults loads bench indexed sheet (drawn k) (get_or before k w) x) (same_default after k w d (omega arith))
        (of_drawn (λ j rs. Drew library faults loads bench indexed sheet rs (get_or before j w) (get_or after j w)) (λ j lt'. (shares j lt').drew) k lt))

    inside : (k page : ℕ) → k < length before → Contains (pages_of (drawn k)) page → (first ≤ page) × (page < first + min m count)
    inside k page lt has = of_drawn (λ j rs. Contains (pages_of rs) page → (first ≤ page) × (page < first + min m count))
        (λ j lt' has'. let found = page_inside j (in_seats j lt') _ _ (shares j lt') page has' in let low = found.2 in let is = found.3 in (omega arith, omega arith)) k lt has

    shared : (i : ℕ) → i < min m count → (k : ℕ) × (k < length before) × Contains (pages_of (drawn k)) (first + i)
        × ((j : ℕ) → j < length before → Contains (pages_of (drawn j)) (first + i) → j ≡ k)
    shared i lt =
        let found = claim_found i (omega arith) in
        let k = found.0 in
        let there : k < length before = (let h = found.1 in omega arith) in (
          k,
          there,
          of_drawn (λ j rs. Contains (claims_of_seat j) i → Contains (pages_of rs) (first + i)) (λ j lt' has. page_claimed j (in_seats j lt') _ _ (shares j lt') i (omega arith) has) k there found.2,
          λ j j_in j_has.
              let claimed : Contains (claims_of_seat j) i = of_drawn (λ j rs. Contains (pages_of rs) (first + i) → Contains (claims_of_seat j) i) (λ j lt' has.
              let claim = page_inside j (in_seats j lt') _ _ (shares j lt') (first + i) has in
              let is = claim.3 in
              let at : claim.0 ≡ i = omega arith in
              subst (Contains (claims_of_seat j)) at claim.1) j j_in j_has in
              apart m seats once j k i no_claims (in_seats j j_in) found.1 claimed found.2,
        )

    pub drew_round : DrewRound library faults loads bench indexed sheet first count before after
    drew_round = record {
      pages = min m count;
      some = let one = some_claim 0 (in_seats 0 some_worker) _ _ (shares 0 some_worker) in omega arith;
      most = omega arith;
      drawn = drawn;
      each = each;
      rising = of_drawn (λ k rs. IsStrictlyIncreasing (pages_of rs)) (λ k lt. rises_share k (in_seats k lt) _ _ (shares k lt));
      inside = inside;
      shared = shared;
      stopped = of_drawn (λ k rs. BitmapsToLast rs) (λ k lt. (shares k lt).stopped);
      whole = λ few. (0, some_worker, of_drawn (λ k rs. LacksBitmap rs) (λ k lt. lacks k (in_seats k lt) _ _ (shares k lt) (omega arith)) 0 some_worker);
    }
