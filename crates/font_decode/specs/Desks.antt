-- What is known of a desk: how the list of the keys asked grows, and what a seat at a cache did for
-- these keys.
use Rattle.std.specs.Prelude.{◌≡◌, ◌≢◌, ◌⊎◌, ℕ, ◌+◌, ◌-◌, ◌*◌, ◌^◌, ◌<◌, ◌≤◌, List, [], ◌∷◌, ◌++◌, length, Option, Some, None, IfSome}
use Rattle.std.specs.Option.{option_map}
use Rattle.outside.specs.Library.{FileTable}
use Rattle.outside.specs.declared.keys.FontKey.{FontKey}
use Rattle.cache_core.specs.declared.calls.Call.{Call}
use Rattle.cache_core.specs.declared.calls.Done.{Done}
use Rattle.cache_core.specs.declared.calls.Done.TheVariants.{Hit, Claimed, Busy, Filled, Released}
use Rattle.cache_core.specs.declared.common.Common.{Common}
use Rattle.cache_core.specs.Histories.{AllWeigh, SeatCalls, AreOf, NoneReleased}
use Rattle.pixel_round.specs.declared.units.Units.{Units}
use Rattle.font_decode.specs.Files.{looked_for}
use Rattle.font_decode.specs.Loads.{RoseBy, RoseUpTo, MAX_LOADS}
use Rattle.font_decode.specs.Weights.{IsWeightOf}

-- ---- the keys asked

-- by these keys
abbrev pub GrewBy : Option (List FontKey) → Option (List FontKey) → List FontKey → Type 0
GrewBy before now keys = now ≡ option_map (λ asked. asked ++ keys) before

-- by this key, or not at all
abbrev pub GrewByAtMost : Option (List FontKey) → Option (List FontKey) → FontKey → Type 0
GrewByAtMost before now k = (now ≡ before) ⊎ GrewBy before now (k ∷ [])

-- ---- the calls of a seat

-- what is known of a desk's seat at its cache: its number, what all seats of the cache have in
-- common, its calls, how often the source was asked for a file, and how many of these loads the
-- desk has counted
pub record Trail : Type 0 where
  pub seat : ℕ
  pub part : Common
  pub calls : List Call
  pub loads : ℕ
  pub counted : ℕ

-- none but the last gives a claim up
abbrev pub ReleasedLast : List Call → Type 0
ReleasedLast [] = Unit {0}
ReleasedLast (c ∷ calls) = (calls ≡ []) ⊎ ((c.done ≢ Released) × ReleasedLast calls)

-- the looks that found no font in the cache, each of which loads the files anew
abbrev pub miss_count : Done → ℕ
miss_count Claimed = 1
miss_count Busy = 1
miss_count Hit = 0
miss_count (Filled _ _ _) = 0
miss_count Released = 0

abbrev pub misses : List Call → ℕ
misses [] = 0
misses (c ∷ calls) = miss_count c.done + misses calls

-- two counts of the same loads: both rose by n at most, and by the same, unless the first stands at
-- the last number of a `u64`
pub record Loaded (most before now count count_now : ℕ) : Type 0 where
  pub loads : RoseUpTo most before now
  pub counted : RoseUpTo most count count_now
  pub same : now < 2 ^ 64 - 1 → count_now + before ≡ count + now

-- how many files are loaded where the library is known: for each look that found no font in the
-- cache all those that are looked for
abbrev pub files_of : FileTable → Units → FontKey → Done → ℕ
files_of l u k Claimed = length (looked_for l u k)
files_of l u k Busy = length (looked_for l u k)
files_of l u k Hit = 0
files_of l u k (Filled _ _ _) = 0
files_of l u k Released = 0

abbrev pub files_loaded : FileTable → Units → List Call → ℕ
files_loaded l u [] = 0
files_loaded l u (c ∷ calls) = files_of l u c.key c.done + files_loaded l u calls

-- a count of loads rose by no more than these files, and where the keys were answered by just these
pub record LoadedFiles (Answered : Type 0) (files before now : ℕ) : Type 0 where
  pub most : now ≤ before + files
  pub just : Answered → RoseBy files before now

-- the weight of the key's font in the library of the cache, where it is known
abbrev pub IsWeightIn : Common → FontKey → ℕ → Type 0
IsWeightIn part k w = IsWeightOf part.library (Some part.units) k w

-- what the seat did for these keys. Each font that it handed in has its key's weight. A claim is
-- given up at the end alone, and nowhere where the keys were answered
pub record SeatAnswered (Answered : Type 0) (keys : List FontKey) (before after : Trail) : Type
    0 where
  pub seat : after.seat ≡ before.seat
  pub part : after.part ≡ before.part
  pub calls : List Call
  pub grew : after.calls ≡ before.calls ++ calls
  pub own : AreOf before.seat calls
  pub for_keys : SeatCalls keys calls
  pub weighed : AllWeigh (IsWeightIn before.part) calls
  pub last : ReleasedLast calls
  pub answered : Answered → NoneReleased calls
  pub loaded : Loaded (MAX_LOADS * misses calls) before.loads after.loads before.counted
      after.counted
  pub files : IfSome before.part.library (λ l.
      LoadedFiles Answered (files_loaded l before.part.units calls) before.counted after.counted)

-- the same with the keys that were asked in the meantime
pub record SeatAnsweredFor (Answered : Type 0) (asked asked_now : Option (List FontKey))
    (before after : Trail) : Type 0 where
  pub keys : List FontKey
  pub grew : GrewBy asked asked_now keys
  pub answers : SeatAnswered Answered keys before after

-- and where a trail is known
abbrev pub TrailGrew : Type 0 → Option (List FontKey) → Option (List FontKey) → Option Trail
    → Option Trail → Type 0
TrailGrew Answered asked asked_now None now = now ≡ None
TrailGrew Answered asked asked_now (Some before) now =
    (after : Trail) × (now ≡ Some after) × SeatAnsweredFor Answered asked asked_now before after
