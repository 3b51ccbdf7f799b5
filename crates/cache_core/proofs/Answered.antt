-- The calls of the page answer the keys asked.
use Rattle.std.proofs.Common.{ℕ, true, List, [], ◌∷◌, refl, inl, inr}
use Rattle.outside.specs.declared.keys.FontKey.{FontKey}
use Rattle.cache_core.specs.declared.calls.Done.TheVariants.{Hit, Claimed, Filled}
use Rattle.cache_core.specs.Histories.{SeatCalls, IsAnswer}
use Rattle.cache_core.specs.Examples.{duo, dot, bar, one, history_of_one, history_of_three, asked}

filled : (k : FontKey) (w : ℕ) (gone : List FontKey) → IsAnswer k (one k Claimed ∷ one k (Filled w true gone) ∷ [])
filled k w gone = inr (_, _, refl, refl, refl, refl, inl (w, true, gone, refl))

hit : (k : FontKey) → IsAnswer k (one k Hit ∷ [])
hit k = inl (_, refl, refl, inl refl)

pub answered_by_one : SeatCalls asked history_of_one
answered_by_one = (_, _, refl, filled duo 3 [], (_, _, refl, filled dot 2 (duo ∷ []), (_, _, refl, filled bar 4 (dot ∷ []), (_, _, refl, filled dot 2 (bar ∷ []), (_, _, refl, filled bar 4 (dot ∷ []), refl)))))

pub answered_by_three : SeatCalls asked history_of_three
answered_by_three = (_, _, refl, filled duo 3 [], (_, _, refl, filled dot 2 [], (_, _, refl, filled bar 4 [], (_, _, refl, hit dot, (_, _, refl, hit bar, refl)))))
