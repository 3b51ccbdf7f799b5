-- What the rule says of each seat, and what the claims of seats are.
use Rattle.std.proofs.Common.{◌≡◌, ◌≢◌, ℕ, zero, suc, ◌<◌, ◌≤◌, List, [], ◌∷◌, length, get_or, refl, ap, sym, ◌∙◌, subst, ⊎_elim, arith}
use Rattle.std.specs.List.{Contains}
use Rattle.std.proofs.lemmas.Bool.{cases_eq}
use Rattle.std.proofs.lemmas.List.Sums.{get_or-le-sum_by}
use Rattle.std.proofs.lemmas.List.Elements.{All-contains, Contains-append_cases}
use Rattle.atomic_table.specs.Table.{State}
use Rattle.page_counter.specs.declared.view.SeatClaims.{SeatClaims}
use Rattle.page_counter.specs.declared.view.SeatState.{SeatState}
use Rattle.page_counter.specs.Numbers.{times}
use Rattle.page_counter.specs.Views.{claims_of, all_seats}
use Rattle.page_counter.specs.CounterRule.{ClaimsFit, CounterRule}
use Rattle.page_counter.specs.Laws.{CounterCounts, SeatsCounted, ClaimedByOne, NoOtherClaimed, NoneInCommon, ClaimsRise, ClaimsFew, ClaimsAreOfSeats, SeatsHaveClaims}
use Rattle.page_counter.proofs.Sums.{sum_has_two}
use Rattle.page_counter.proofs.Once.{once_is_count, once_has_all, once_has_no_other, once_most, times_of_contains, contains_of_times}
use Rattle.page_counter.proofs.SeatStates.{claims_times, seats_fit}

pub claims_are_of_seats : ClaimsAreOfSeats
claims_are_of_seats [] x has = let inside = has.1 in absurd (omega arith)
claims_are_of_seats (s ∷ seats) x has = ⊎_elim
    (λ (here : Contains s.claims x). (s, (0, omega arith, refl), here))
    (λ (there : Contains (claims_of seats) x).
    let found = claims_are_of_seats seats x there in
    let place = found.1 in
    (found.0, (suc place.0, (let h = place.1 in omega arith), place.2), found.2))
    (Contains-append_cases s.claims (claims_of seats) x has)

-- what the seat at a place has claimed is among all claims
claimed_at : (seats : List SeatClaims) (seat : SeatClaims) (x : ℕ) (at : Contains seats seat) → Contains seat.claims x → 1 ≤ times x (get_or seats at.0 seat).claims
claimed_at seats seat x at has = subst (λ (s : SeatClaims). 1 ≤ times x s.claims) (sym at.2) (times_of_contains seat.claims x has)

pub seats_have_claims : SeatsHaveClaims
seats_have_claims seats seat x at has =
    let a = claimed_at seats seat x at has in
    let b = get_or-le-sum_by (λ (s : SeatClaims). times x s.claims) seats at.0 seat at.1 in
    let c = claims_times x seats in contains_of_times (claims_of seats) x (omega arith)

same_at : {X : Type 0} (xs : List X) (i : ℕ) (d e : X) → i < length xs → get_or xs i d ≡ get_or xs i e
same_at [] i d e lt = absurd (omega arith)
same_at (x ∷ xs) zero d e lt = refl
same_at (x ∷ xs) (suc i) d e lt = same_at xs i d e (omega arith)

-- a number that stands once was claimed by one seat
one_seat : (seats : List SeatClaims) (x : ℕ) (a b : SeatClaims) → times x (claims_of seats) ≤ 1 → Contains seats a → Contains a.claims x → Contains seats b → Contains b.claims x → a ≡ b
one_seat seats x a b once at_a in_a at_b in_b = ⊎_elim
    (λ (same : at_a.0 ≡ at_b.0). sym at_a.2 ∙ (same_at seats at_a.0 a b at_a.1 ∙ (ap (λ i. get_or seats i b) same ∙ at_b.2)))
    (λ (other : at_a.0 ≢ at_b.0).
    let p = claimed_at seats a x at_a in_a in
    let q : 1 ≤ times x (get_or seats at_b.0 a).claims = subst (λ (s : SeatClaims). 1 ≤ times x s.claims) (same_at seats at_b.0 b a at_b.1) (claimed_at seats b x at_b in_b) in
    let two = sum_has_two (λ (s : SeatClaims). times x s.claims) seats at_a.0 at_b.0 a at_a.1 at_b.1 other in
    let all = claims_times x seats in absurd (omega arith))
    (cases_eq at_a.0 at_b.0)

-- the word is the number of the rule
claimed_is : (s : State (Unit {0}) SeatState) (r : CounterRule s) (counter : ℕ) → s.words ≡ counter ∷ [] → counter ≡ r.claimed
claimed_is s r counter is = ap (λ l. get_or l 0 0) (sym is ∙ r.words_are)

pub counter_counts : CounterCounts
counter_counts s r = r.words_are ∙ ap (λ (n : ℕ). n ∷ []) (sym (once_is_count r.claimed (claims_of (all_seats s.views)) r.claims_once))

pub seats_counted : SeatsCounted
seats_counted s r = (r.few, r.numbers_once)

pub none_in_common : NoneInCommon
none_in_common s r n m x apart a b =
    let once = once_most r.claimed (claims_of (all_seats s.views)) r.claims_once x in
    let same = one_seat (all_seats s.views) x a.0 b.0 once a.1 a.3 b.1 b.3 in
    apart (sym a.2 ∙ (ap (λ (z : SeatClaims). z.number) same ∙ b.2))

pub claimed_by_one : ClaimedByOne
claimed_by_one s r counter x is lt =
    let has = once_has_all r.claimed (claims_of (all_seats s.views)) r.claims_once x (let e = claimed_is s r counter is in omega arith) in
    let found = claims_are_of_seats (all_seats s.views) x has in
    let once = once_most r.claimed (claims_of (all_seats s.views)) r.claims_once x in (
      found.0.number,
      (found.0, found.1, refl, found.2),
      λ m b. sym b.2 ∙ ap (λ (z : SeatClaims). z.number) (one_seat (all_seats s.views) x b.0 found.0 once b.1 b.3 found.1 found.2),
    )

pub no_other_claimed : NoOtherClaimed
no_other_claimed s r counter n x is a =
    let has = seats_have_claims (all_seats s.views) a.0 x a.1 a.3 in
    let below = once_has_no_other r.claimed (claims_of (all_seats s.views)) r.claims_once x has in
    let e = claimed_is s r counter is in omega arith

fits : (s : State (Unit {0}) SeatState) → CounterRule s → (seat : SeatClaims) → Contains (all_seats s.views) seat → ClaimsFit seat.claims
fits s r seat at = All-contains (λ (z : SeatClaims). ClaimsFit z.claims) (all_seats s.views) seat (seats_fit (length s.views) s.views r.each) at

pub claims_rise : ClaimsRise
claims_rise s r seat at = (fits s r seat at).0

pub claims_few : ClaimsFew
claims_few s r seat at = (fits s r seat at).1
