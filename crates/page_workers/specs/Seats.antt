-- What is known of a worker's seat at a cache, and when a bench is its own.
use Rattle.std.specs.Prelude.{◌≡◌, ℕ, ◌-◌, ◌/◌, ◌^◌, min, List, ◌++◌, length, map, Option, Some, None, IfSome, IsSome, refl}
use Rattle.std.specs.Arc.{arc_value}
use Rattle.std.specs.Option.{option_map}
use Rattle.std.specs.declared.alloc.Global.{Global}
use Rattle.std.specs.declared.sync.Arc.{Arc}
use Rattle.outside.specs.Library.{FileTable}
use Rattle.outside.specs.declared.keys.FontKey.{FontKey}
use Rattle.pixel_round.specs.declared.units.Units.{Units}
use Rattle.cache_core.specs.declared.calls.Call.{Call}
use Rattle.cache_core.specs.declared.calls.Done.{Done}
use Rattle.cache_core.specs.Histories.{own, open_claim, looks}
use Rattle.turn_lock.specs.Seats.{SeatView}
use Rattle.turn_lock.specs.declared.view.Stage.TheVariants.{Idle}
use Rattle.font_cache.specs.Turns.{NotedCall, TookTurn}
use Rattle.pixel_round.specs.Preamble.{AreUnits}
use Rattle.font_decode.specs.Desks.{Trail}
use Rattle.page_workers.specs.declared.bench.Bench.{Bench}

-- ---- what is known of a seat

abbrev pub own_calls : SeatView → List Call
own_calls s = own s.view.number s.view.seen

abbrev pub library_at : Option SeatView → Option FileTable
library_at None = None
library_at (Some s) = s.view.part.library

abbrev pub units_at : Option SeatView → Option Units
units_at None = None
units_at (Some s) = Some s.view.part.units

abbrev pub asked_at : Option SeatView → Option (List FontKey)
asked_at None = None
asked_at (Some s) = Some (looks (own_calls s))

-- the keys asked are these and those whose looks aren't noted yet
abbrev pub asked_with : Option SeatView → List (Arc FontKey Global) → Option (List FontKey)
asked_with seat pending = option_map (λ noted. noted ++ map arc_value pending) (asked_at seat)

-- with the loads that its source counts, and those that the worker has counted
abbrev pub trail_at : ℕ → ℕ → Option SeatView → Option Trail
trail_at loads counted None = None
trail_at loads counted (Some s) =
    Some (record {
      seat = s.view.number;
      part = s.view.part;
      calls = own_calls s;
      loads = loads;
      counted = counted;
    })

-- how many look-ups there is room for: each takes three turns at most, and eight loads at most
abbrev pub room_at : ℕ → Option SeatView → ℕ
room_at counted None = 0
room_at counted (Some s) = min ((2 ^ 48 - s.view.drawn) / 3) ((2 ^ 62 - counted) / 8)

-- and for how many besides those whose looks aren't noted yet
abbrev pub room_with : ℕ → Option SeatView → List (Arc FontKey Global) → ℕ
room_with counted seat pending = room_at counted seat - length pending

-- ---- a bench and a seat

-- the seat is of the bench's cache and has neither the turn nor a claim, and the units are those of
-- its common part. Where that knows a library, the worker's source has it too
pub record SeatFits (known : Option FileTable) (bench : Bench) (s : SeatView) : Type 0 where
  pub lock : s.lock ≡ bench.cache
  pub idle : s.view.stage ≡ Idle
  pub free : open_claim (own_calls s) ≡ None
  pub units : bench.units ≡ s.view.part.units
  pub sound : AreUnits bench.units
  pub knows_library : IfSome s.view.part.library (λ l. known ≡ Some l)

abbrev pub BenchFits : Option FileTable → Bench → Option SeatView → Type 0
BenchFits known bench None = ⊥
BenchFits known bench (Some s) = SeatFits known bench s

-- the seat holds no claim: it has filled or released each key that it claimed
abbrev pub HoldsNoClaim : Option SeatView → Type 0
HoldsNoClaim None = Unit {0}
HoldsNoClaim (Some s) = open_claim (own_calls s) ≡ None

-- a look at a key, which did this, led from one seat to the other
pub record LookedUp (k : FontKey) (d : Done) (before after : SeatView) : Type 0 where
  pub turn : TookTurn before after
  pub noted : NotedCall k d before.view after.view

-- ---- what is known goes together

pub units_known : (seat : Option SeatView) → IsSome (library_at seat) → IsSome (units_at seat)
units_known None some = some
units_known (Some s) some = refl

pub seat_shares : (loads counted : ℕ) (seat : Option SeatView)
    → IfSome (trail_at loads counted seat) (λ t. (t.part.library ≡ library_at seat)
    × (Some t.part.units ≡ units_at seat))
seat_shares loads counted None = tt
seat_shares loads counted (Some s) = (refl, refl)

pub asked_known : (loads counted : ℕ) (seat : Option SeatView)
    → IsSome (trail_at loads counted seat) → IsSome (asked_at seat)
asked_known loads counted None some = some
asked_known loads counted (Some s) some = refl
