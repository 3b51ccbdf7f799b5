-- Histories of the calls of many seats.
use Rattle.std.specs.Prelude.{◌≡◌, ℕ, ◌<◌, leb, cond, List, [], ◌∷◌, ◌++◌, length}
use mathlib.Core.Option.{some}
use lib.ListN.{get_elem?}
use Rattle.cache_core.specs.declared.calls.Call.{Call}
use Rattle.cache_core.specs.Histories.{own, AreOf}

-- each call is of a number below this one
abbrev pub AllMade : ℕ → List Call → Type 0
AllMade n [] = Unit {0}
AllMade n (c ∷ calls) = (c.seat < n) × AllMade n calls

-- a history after one turn of a seat: the same with calls of this seat after it, if any
abbrev pub Grows : ℕ → List Call → List Call → Type 0
Grows n before after = (calls : List Call) × AreOf n calls × (after ≡ before ++ calls)

-- the longer of two histories
abbrev pub longer_of : List Call → List Call → List Call
longer_of xs ys = cond (leb (length xs) (length ys)) ys xs

-- each of these numbers has the same calls in both
abbrev pub OwnsSame : List ℕ → List Call → List Call → Type 0
OwnsSame numbers xs ys = (i n : ℕ) → get_elem? numbers i ≡ some n → own n xs ≡ own n ys
