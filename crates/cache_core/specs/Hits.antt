-- Looks that found their fonts, noted together.
use Rattle.std.specs.Prelude.{◌≡◌, ℕ, List, [], ◌∷◌, ◌++◌, map, Some, IsFalse}
use Rattle.outside.specs.declared.keys.FontKey.{FontKey}
use Rattle.cache_core.specs.declared.calls.Call.{Call}
use Rattle.cache_core.specs.declared.calls.Done.TheVariants.{Hit}
use Rattle.cache_core.specs.declared.limits.Limits.{Limits}
use Rattle.cache_core.specs.Machine.{Machine, has_key, machine_after}
use Rattle.cache_core.specs.States.{call}

-- a seat's looks for these keys, one after another, each of which found its font
abbrev pub hits : ℕ → List FontKey → List Call
hits seat keys = map (λ k. call seat k Hit) keys

-- the machine allows each of the calls after those before it, and makes the changes that belong to
-- them
abbrev pub TakesAll : Limits → Machine → Machine → List Call → Type 0
TakesAll limits before after calls = machine_after limits before calls ≡ Some after

-- the first of a list of keys were noted as hits of the seat, in their order, and taken out of it
pub record NotedHits (limits : Limits) (seat : ℕ) (before after : Machine)
    (history later : List Call) (keys left : List FontKey) : Type 0 where
  pub noted : List FontKey
  pub taken_out : keys ≡ noted ++ left
  pub history_grew : later ≡ history ++ hits seat noted
  pub taken : TakesAll limits before after (hits seat noted)

-- the first of the keys, if there is one, isn't resident
abbrev pub FirstIsMissing : List FontKey → List (FontKey × ℕ) → Type 0
FirstIsMissing [] resident = Unit {0}
FirstIsMissing (k ∷ keys) resident = IsFalse (has_key k resident)
