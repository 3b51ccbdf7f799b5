-- The calls of a seat that has the cache to itself and gives no claim up: one list for the keys
-- that it looks up and the weights of their fonts.
use Rattle.std.specs.Prelude.{ℕ, leb, true, false, if◌then◌else◌, List, [], ◌∷◌, ◌++◌}
use Rattle.outside.specs.declared.keys.FontKey.{FontKey}
use Rattle.cache_core.specs.declared.calls.Call.{Call}
use Rattle.cache_core.specs.declared.calls.Done.{Done}
use Rattle.cache_core.specs.declared.calls.Done.TheVariants.{Hit, Claimed, Filled}
use Rattle.cache_core.specs.declared.limits.Limits.{Limits}
use Rattle.cache_core.specs.Machine.{Machine, empty, has_key, gone_of, next}
use Rattle.cache_core.specs.States.{call}

-- how a font of this weight is taken in
abbrev pub solo_fill : Limits → Machine → FontKey → ℕ → Done
solo_fill limits m k weight =
    if leb weight limits.budget then Filled weight true (gone_of limits ((k, weight) ∷ m.resident))
    else Filled weight false []

-- a look for a key whose font is resident hits; any other claims the key, and then its font is
-- handed in
abbrev pub solo_calls : Limits → ℕ → (FontKey → ℕ) → Machine → FontKey → List Call
solo_calls limits seat weight m k =
    if has_key k m.resident then call seat k Hit ∷ []
    else call seat k Claimed ∷ call seat k (solo_fill limits m k (weight k)) ∷ []

abbrev pub after_calls : Limits → Machine → List Call → Machine
after_calls limits m [] = m
after_calls limits m (c ∷ calls) = after_calls limits (next limits m c) calls

-- one key after another
abbrev pub solo_from : Limits → ℕ → (FontKey → ℕ) → Machine → List FontKey → List Call
solo_from limits seat weight m [] = []
solo_from limits seat weight m (k ∷ keys) =
    solo_calls limits seat weight m k ++ solo_from limits seat weight (after_calls limits m
    (solo_calls limits seat weight m k)) keys

abbrev pub solo_history : Limits → ℕ → (FontKey → ℕ) → List FontKey → List Call
solo_history limits seat weight keys = solo_from limits seat weight empty keys
