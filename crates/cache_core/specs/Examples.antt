-- One page of a virtual font and its two fonts, by one seat, with caches of several limits. The
-- fonts weigh 3, 2 and 4.
use Rattle.std.specs.Prelude.{ℕ, true, false, List, [], ◌∷◌}
use Rattle.outside.specs.declared.keys.FontKey.{FontKey}
use Rattle.cache_core.specs.declared.calls.Call.{Call}
use Rattle.cache_core.specs.declared.calls.Done.{Done}
use Rattle.cache_core.specs.declared.calls.Done.TheVariants.{Hit, Claimed, Busy, Filled, Released}
use Rattle.cache_core.specs.declared.limits.Limits.{Limits}
use Rattle.cache_core.specs.States.{call}

abbrev pub limits : ℕ → ℕ → Limits
limits capacity budget = record { capacity = capacity; budget = budget }

abbrev pub duo : FontKey
duo = record { area = 0; name = 100 ∷ 117 ∷ 111 ∷ []; size = 128; design = 128 }

abbrev pub dot : FontKey
dot = record { area = 0; name = 100 ∷ 111 ∷ 116 ∷ []; size = 128; design = 128 }

abbrev pub bar : FontKey
bar = record { area = 0; name = 98 ∷ 97 ∷ 114 ∷ []; size = 128; design = 128 }

abbrev pub big : FontKey
big = record { area = 0; name = 98 ∷ 105 ∷ 103 ∷ []; size = 128; design = 128 }

abbrev pub one : FontKey → Done → Call
one k done = call 1 k done

abbrev pub history_of_one : List Call
history_of_one =
    one duo Claimed ∷ one duo (Filled 3 true []) ∷ one dot Claimed
    ∷ one dot (Filled 2 true (duo ∷ [])) ∷ one bar Claimed ∷ one bar (Filled 4 true (dot ∷ []))
    ∷ one dot Claimed ∷ one dot (Filled 2 true (bar ∷ [])) ∷ one bar Claimed
    ∷ one bar (Filled 4 true (dot ∷ []))
    ∷ []

abbrev pub history_of_three : List Call
history_of_three =
    one duo Claimed ∷ one duo (Filled 3 true []) ∷ one dot Claimed ∷ one dot (Filled 2 true [])
    ∷ one bar Claimed ∷ one bar (Filled 4 true [])
    ∷ one dot Hit ∷ one bar Hit ∷ []

abbrev pub asked : List FontKey
asked = duo ∷ dot ∷ bar ∷ dot ∷ bar ∷ []

-- with a budget of six, bar drives duo out
abbrev pub history_of_six : List Call
history_of_six =
    one duo Claimed ∷ one duo (Filled 3 true []) ∷ one dot Claimed ∷ one dot (Filled 2 true [])
    ∷ one bar Claimed ∷ one bar (Filled 4 true (duo ∷ []))
    ∷ one dot Hit ∷ one bar Hit ∷ []

-- with a budget of three, dot drives duo out, and bar isn't kept
abbrev pub history_of_room_three : List Call
history_of_room_three =
    one duo Claimed ∷ one duo (Filled 3 true []) ∷ one dot Claimed
    ∷ one dot (Filled 2 true (duo ∷ [])) ∷ one bar Claimed ∷ one bar (Filled 4 false [])
    ∷ one dot Hit ∷ one bar Claimed ∷ one bar (Filled 4 false []) ∷ []

-- bar kept by a cache of six though it weighs more than is left: the budget left out
abbrev pub budget_left_out : List Call
budget_left_out =
    one duo Claimed ∷ one duo (Filled 3 true []) ∷ one dot Claimed ∷ one dot (Filled 2 true [])
    ∷ one bar Claimed ∷ one bar (Filled 4 true []) ∷ []

-- with a budget of nothing only what weighs nothing is kept
abbrev pub history_of_none : List Call
history_of_none =
    one duo Claimed ∷ one duo (Filled 3 false []) ∷ one dot Claimed ∷ one dot (Filled 0 true [])
    ∷ one dot Hit ∷ one bar Claimed ∷ one bar (Filled 0 true []) ∷ one dot Hit
    ∷ one duo Claimed ∷ one duo (Filled 3 false []) ∷ []

-- a font that takes the whole budget drives three out, the least recently used first
abbrev pub history_of_nine : List Call
history_of_nine =
    one duo Claimed ∷ one duo (Filled 3 true []) ∷ one dot Claimed ∷ one dot (Filled 2 true [])
    ∷ one bar Claimed ∷ one bar (Filled 4 true []) ∷ one duo Hit
    ∷ one big Claimed ∷ one big (Filled 9 true (dot ∷ bar ∷ duo ∷ [])) ∷ one big Hit
    ∷ one duo Claimed ∷ []

-- in no other order
abbrev pub other_order : List Call
other_order =
    one duo Claimed ∷ one duo (Filled 3 true []) ∷ one dot Claimed ∷ one dot (Filled 2 true [])
    ∷ one bar Claimed ∷ one bar (Filled 4 true []) ∷ one duo Hit
    ∷ one big Claimed ∷ one big (Filled 9 true (duo ∷ bar ∷ dot ∷ [])) ∷ []

-- and no more than have to go: seven drive out two
abbrev pub more_than_needed : ℕ → List FontKey → List Call
more_than_needed weight gone =
    one duo Claimed ∷ one duo (Filled 3 true []) ∷ one dot Claimed ∷ one dot (Filled 2 true [])
    ∷ one bar Claimed ∷ one bar (Filled 4 true [])
    ∷ one big Claimed ∷ one big (Filled weight true gone) ∷ []

-- dot was looked up after bar came, so bar leaves for duo
abbrev pub bar_leaves : List Call
bar_leaves = one dot Claimed ∷ one dot (Filled 2 true []) ∷ one bar Claimed
    ∷ one bar (Filled 4 true []) ∷ one dot Hit ∷ one duo Claimed
    ∷ one duo (Filled 3 true (bar ∷ [])) ∷ []

abbrev pub dot_leaves : List Call
dot_leaves = one dot Claimed ∷ one dot (Filled 2 true []) ∷ one bar Claimed
    ∷ one bar (Filled 4 true []) ∷ one dot Hit ∷ one duo Claimed
    ∷ one duo (Filled 3 true (dot ∷ [])) ∷ []

-- a second seat is busy while the first has claimed the key, and claims it when the first has
-- released it
abbrev pub second_is_busy : List Call
second_is_busy =
    call 1 dot Claimed ∷ call 2 dot Busy ∷ call 1 dot Released ∷ call 2 dot Claimed ∷ []

abbrev pub second_claims : List Call
second_claims = call 1 dot Claimed ∷ call 2 dot Claimed ∷ []

abbrev pub own_is_busy : List Call
own_is_busy = call 1 dot Claimed ∷ call 1 dot Busy ∷ []
