-- The seats that the rule knows of, with their numbers and claims, as views change.
use Rattle.std.proofs.Common.{◌≡◌, ℕ, ◌+◌, ◌*◌, ◌≤◌, true, false, cond, List, [], ◌∷◌, ◌++◌, length, refl, ap, sym, ◌∙◌, subst, ⊎_elim, arith, length-append, append-nil, eqb}
use Rattle.std.specs.List.{sum_by, All}
use Rattle.std.proofs.lemmas.List.Sums.{sum_by-cons, sum_by-le}
use Rattle.std.proofs.lemmas.Bool.{cases_Bool}
use Rattle.std.proofs.lemmas.List.{length-map}
use Rattle.std.proofs.lemmas.List.Elements.{All-cons}
use Rattle.std.proofs.lemmas.List.Concat.{length-flat_map}
use mathlib.Core.Option.{some, some-injective, some-ne-none}
use lib.ListN.{get_elem?}
use Rattle.page_counter.specs.declared.view.SeatClaims.{SeatClaims}
use Rattle.page_counter.specs.declared.view.SeatState.{SeatState}
use Rattle.page_counter.specs.Numbers.{times, EachOnce}
use Rattle.page_counter.specs.Views.{claims_of, numbers_of, known_claims, seats_of, all_seats, seat_claims}
use Rattle.page_counter.specs.CounterRule.{ClaimsFit, LiveFits}
use Rattle.page_counter.proofs.Sums.{sum_has, sum_flat, sum_map, all_flat}
use Rattle.page_counter.proofs.Once.{bit, once_is_count}

-- how often a number stands among the claims of seats, and how many of them have it as their number
abbrev pub claimed_in : ℕ → List SeatClaims → ℕ
claimed_in x seats = sum_by (λ s. times x s.claims) seats

abbrev pub numbered_in : ℕ → List SeatClaims → ℕ
numbered_in x seats = sum_by (λ s. cond (eqb s.number x) 1 0) seats

pub claims_times : (x : ℕ) (seats : List SeatClaims) → times x (claims_of seats) ≡ claimed_in x seats
claims_times x seats = sum_flat (λ y. cond (eqb y x) 1 0) (λ (s : SeatClaims). s.claims) seats

pub numbers_times : (x : ℕ) (seats : List SeatClaims) → times x (numbers_of seats) ≡ numbered_in x seats
numbers_times x seats = sum_map (λ y. cond (eqb y x) 1 0) (λ (s : SeatClaims). s.number) seats

pub claims_total : (x : ℕ) (views : List SeatState) → times x (claims_of (all_seats views)) ≡ sum_by (λ p. claimed_in x (seats_of p)) views
claims_total x views = claims_times x (all_seats views) ∙ sum_flat (λ (s : SeatClaims). times x s.claims) seats_of views

pub numbers_total : (x : ℕ) (views : List SeatState) → times x (numbers_of (all_seats views)) ≡ sum_by (λ p. numbered_in x (seats_of p)) views
numbers_total x views = numbers_times x (all_seats views) ∙ sum_flat (λ (s : SeatClaims). cond (eqb s.number x) 1 0) seats_of views

-- the seats of a live view
pub live_seats : (p : SeatState) → p.live ≡ true → seats_of p ≡ seat_claims p.view ∷ p.view.joined
live_seats p live = rw live refl

pub dead_seats : (p : SeatState) → p.live ≡ false → seats_of p ≡ []
dead_seats p dead = rw dead refl

pub known_times : (x : ℕ) (p : SeatState) → p.live ≡ true → claimed_in x (seats_of p) ≡ times x (known_claims p.view)
known_times x p live = ap (claimed_in x) (live_seats p live) ∙ sym (claims_times x (seat_claims p.view ∷ p.view.joined))

-- the claims and the numbers of the seats of a live view
pub live_claims : (x : ℕ) (p : SeatState) → p.live ≡ true → claimed_in x (seats_of p) ≡ times x p.view.claims + claimed_in x p.view.joined
live_claims x p live = ap (claimed_in x) (live_seats p live) ∙ sum_by-cons (λ (s : SeatClaims). times x s.claims) (seat_claims p.view) p.view.joined

pub live_numbers : (x : ℕ) (p : SeatState) → p.live ≡ true → numbered_in x (seats_of p) ≡ bit (eqb p.view.number x) + numbered_in x p.view.joined
live_numbers x p live = ap (numbered_in x) (live_seats p live) ∙ sum_by-cons (λ (s : SeatClaims). bit (eqb s.number x)) (seat_claims p.view) p.view.joined

-- ---- how many

abbrev Fits : SeatClaims → Type 0
Fits s = ClaimsFit s.claims

pub seats_fit : (made : ℕ) (views : List SeatState) → ((n : ℕ) (p : SeatState) → get_elem? views n ≡ some p → p.live ≡ true → LiveFits made n p.view) → All (λ (s : SeatClaims). ClaimsFit s.claims) (all_seats views)
seats_fit made views each = all_flat Fits seats_of views (λ n p at. ⊎_elim
    (λ live. let f = each n p at live in subst (All Fits) (sym (live_seats p live)) (All-cons Fits (seat_claims p.view) p.view.joined f.own_fit f.joined_fit))
    (λ dead. subst (All Fits) (sym (dead_seats p dead)) (λ k d lt. absurd (omega arith)))
    (cases_Bool p.live))

pub many_seats : (views : List SeatState) → EachOnce (length views) (numbers_of (all_seats views)) → length (all_seats views) ≡ length views
many_seats views once = sym (length-map (all_seats views) (λ (s : SeatClaims). s.number)) ∙ once_is_count (length views) (numbers_of (all_seats views)) once

pub claims_most : (made : ℕ) (views : List SeatState) → ((n : ℕ) (p : SeatState) → get_elem? views n ≡ some p → p.live ≡ true → LiveFits made n p.view) → EachOnce (length views) (numbers_of (all_seats views)) → length views ≤ 33
    → length (claims_of (all_seats views)) ≤ 33 * 64
claims_most made views each once few =
    let long = length-flat_map (λ (s : SeatClaims). s.claims) (all_seats views) in
    let fit = seats_fit made views each in
    let most = sum_by-le (λ (s : SeatClaims). length s.claims) 64 (all_seats views) (λ k d lt. (fit k d lt).1) in
    let many = many_seats views once in omega arith

-- ---- seat 0 has joined all others

pub knows_all : (views : List SeatState) (p : SeatState) → get_elem? views 0 ≡ some p → p.live ≡ true → EachOnce (length views) (numbers_of (all_seats views)) → length p.view.joined + 1 ≡ length views
    → claims_of (all_seats views) ≡ known_claims p.view
knows_all [] p at live once all = absurd (some-ne-none p (sym at))
knows_all (q ∷ views) p at live once all =
    let many = many_seats (q ∷ views) once in
    let split = length-append (seats_of q) (all_seats views) in
    let mine : seats_of q ≡ seat_claims p.view ∷ p.view.joined = ap seats_of (some-injective q p at) ∙ live_seats p live in
    let long : length (seats_of q) ≡ length p.view.joined + 1 = ap length mine ∙ omega arith in
    let none : all_seats views ≡ [] = empty (all_seats views) (omega arith) in
    ap claims_of (ap (λ l. seats_of q ++ l) none ∙ (append-nil (seats_of q) ∙ mine))
  where
    empty : (seats : List SeatClaims) → length seats ≡ 0 → seats ≡ []
    empty [] e = refl
    empty (s ∷ seats) e = absurd (omega arith)

-- what a seat knows is no more than all
pub known_most : (views : List SeatState) (id : ℕ) (p : SeatState) → get_elem? views id ≡ some p → p.live ≡ true → length (known_claims p.view) ≤ length (claims_of (all_seats views))
known_most views id p at live =
    let whole : length (claims_of (all_seats views)) ≡ sum_by (λ q. sum_by (λ (s : SeatClaims). length s.claims) (seats_of q)) views =
    length-flat_map (λ (s : SeatClaims). s.claims) (all_seats views) ∙ sum_flat (λ (s : SeatClaims). length s.claims) seats_of views in
    let mine : length (known_claims p.view) ≡ sum_by (λ (s : SeatClaims). length s.claims) (seats_of p) =
    length-flat_map (λ (s : SeatClaims). s.claims) (seat_claims p.view ∷ p.view.joined) ∙ ap (sum_by (λ (s : SeatClaims). length s.claims)) (sym (live_seats p live)) in
    let part = sum_has (λ q. sum_by (λ (s : SeatClaims). length s.claims) (seats_of q)) views id p at in omega arith
