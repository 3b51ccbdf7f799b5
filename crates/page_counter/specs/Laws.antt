-- That a new counter meets its rule, and that each kind of step keeps it, whatever the other seats
-- did before; what the rule says; and what follows of lists in which each number below a bound
-- stands once.
use Rattle.std.specs.Prelude.{◌≡◌, ◌≢◌, ℕ, ◌+◌, ◌%◌, ◌^◌, ◌<◌, ◌≤◌, true, List, [], ◌∷◌, ◌++◌, length, min, filter, Contains, nat_lt}
use Rattle.std.specs.List.Sorted.{IsStrictlyIncreasing}
use mathlib.Core.Option.{none}
use Rattle.atomic_table.specs.Table.{State, Me, step, Allows, Splits, Joins, opening}
use Rattle.page_counter.specs.declared.view.SeatClaims.{SeatClaims}
use Rattle.page_counter.specs.declared.view.SeatState.{SeatState}
use Rattle.page_counter.specs.Numbers.{EachOnce}
use Rattle.page_counter.specs.Views.{claims_of, numbers_of, all_seats, first_state, split_state, new_state, joined_state, spent_state}
use Rattle.page_counter.specs.CounterRule.{CounterRule}
use Rattle.page_counter.specs.Steps.{ClaimStep}

abbrev pub MakeKeeps : Type 0
MakeKeeps = CounterRule (opening (0 ∷ []) [] first_state)

-- a claim adds 1 to the word
abbrev pub ClaimKeeps : Type 0
ClaimKeeps = (slots id : ℕ) (me : Me (Unit {0}) SeatState) → me.0.live ≡ true
    → length me.0.view.claims < 64
    → Allows CounterRule slots id me 0 (λ n. (n + 1) % 2 ^ 64)
    (ClaimStep (step slots 0 1 0 none) me)

abbrev pub SplitKeeps : Type 0
SplitKeeps = (id : ℕ) (p : SeatState) → p.live ≡ true → p.view.number ≡ 0 → p.view.made < 33
    → Splits {S = Unit {0}} CounterRule id p (split_state p) (new_state p)

abbrev pub JoinKeeps : Type 0
JoinKeeps = (id : ℕ) (p : SeatState) (other : ℕ) (q : SeatState) → p.live ≡ true → p.view.number ≡ 0
    → q.live ≡ true → Joins {S = Unit {0}} CounterRule id p other q (joined_state p q)
    spent_state

-- ---- what the rule says

abbrev pub Always : (State (Unit {0}) SeatState → Type 0) → Type 0
Always says = (s : State (Unit {0}) SeatState) → CounterRule s → says s

-- the seat with this number, live or joined, has claimed x
abbrev pub HasClaimed : State (Unit {0}) SeatState → ℕ → ℕ → Type 0
HasClaimed s n x =
    (seat : SeatClaims) × Contains (all_seats s.views) seat × (seat.number ≡ n)
    × Contains seat.claims x

-- the word is how many claims all seats made
abbrev pub CounterCounts : Type 0
CounterCounts = Always (λ s. s.words ≡ length (claims_of (all_seats s.views)) ∷ [])

-- at most 33 seats were made, each live or joined, and their numbers are those below that, each
-- once
abbrev pub SeatsCounted : Type 0
SeatsCounted =
    Always (λ s. (length s.views ≤ 33) × EachOnce (length s.views) (numbers_of (all_seats s.views)))

-- each number below the word was claimed by exactly one seat
abbrev pub ClaimedByOne : Type 0
ClaimedByOne =
    Always (λ s. (counter x : ℕ) → s.words ≡ counter ∷ [] → x < counter
    → (n : ℕ) × HasClaimed s n x × ((m : ℕ) → HasClaimed s m x → m ≡ n))

-- and no other number was
abbrev pub NoOtherClaimed : Type 0
NoOtherClaimed =
    Always (λ s. (counter n x : ℕ) → s.words ≡ counter ∷ [] → HasClaimed s n x → x < counter)

-- two seats never have a claim in common
abbrev pub NoneInCommon : Type 0
NoneInCommon = Always (λ s. (n m x : ℕ) → n ≢ m → HasClaimed s n x → HasClaimed s m x → ⊥)

abbrev pub ClaimsRise : Type 0
ClaimsRise = Always (λ s. (seat : SeatClaims) → Contains (all_seats s.views) seat
    → IsStrictlyIncreasing seat.claims)

abbrev pub ClaimsFew : Type 0
ClaimsFew = Always (λ s. (seat : SeatClaims) → Contains (all_seats s.views) seat
    → length seat.claims ≤ 64)

-- ---- lists in which each number below n stands once

abbrev pub OnceIsCount : Type 0
OnceIsCount = (n : ℕ) (xs : List ℕ) → EachOnce n xs → length xs ≡ n

abbrev pub OnceHasAll : Type 0
OnceHasAll = (n : ℕ) (xs : List ℕ) → EachOnce n xs → (x : ℕ) → x < n → Contains xs x

abbrev pub OnceHasNoOther : Type 0
OnceHasNoOther = (n : ℕ) (xs : List ℕ) → EachOnce n xs → (x : ℕ) → Contains xs x → x < n

-- all numbers below one that stands there stand there
abbrev pub OnceHasLower : Type 0
OnceHasLower =
    (n : ℕ) (xs : List ℕ) → EachOnce n xs → (c x : ℕ) → Contains xs c → x < c → Contains xs x

-- no number stands in two parts
abbrev pub OnceIsApart : Type 0
OnceIsApart =
    (n : ℕ) (xs ys : List ℕ) → EachOnce n (xs ++ ys) → (x : ℕ) → Contains xs x → Contains ys x → ⊥

-- those below a bound
abbrev pub OnceBelow : Type 0
OnceBelow = (n count : ℕ) (xs : List ℕ) → EachOnce n xs
    → EachOnce (min n count) (filter (λ c. nat_lt c count) xs)

-- they are all numbers below the bound, where one is not below it
abbrev pub OnceReached : Type 0
OnceReached =
    (n count c : ℕ) (xs : List ℕ) → EachOnce n xs → Contains xs c → count ≤ c
    → EachOnce count (filter (λ c. nat_lt c count) xs)

-- a number is one of the claims of seats where one of them has claimed it, and only there
abbrev pub ClaimsAreOfSeats : Type 0
ClaimsAreOfSeats =
    (seats : List SeatClaims) (x : ℕ) → Contains (claims_of seats) x
    → (seat : SeatClaims) × Contains seats seat × Contains seat.claims x

abbrev pub SeatsHaveClaims : Type 0
SeatsHaveClaims =
    (seats : List SeatClaims) (seat : SeatClaims) (x : ℕ) → Contains seats seat
    → Contains seat.claims x → Contains (claims_of seats) x
