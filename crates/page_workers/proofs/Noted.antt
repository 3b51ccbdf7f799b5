-- A worker that draws a page, once looks were noted or one is left for later, and when the page ends.
use Rattle.std.proofs.Common.{◌≡◌, ℕ, ◌+◌, ◌≤◌, List, length, Option, Some, None, arith, Global}
use Rattle.std.specs.Prelude.{All}
use Rattle.std.specs.Arc.{arc_value}
use Rattle.std.specs.declared.sync.Arc.{Arc}
use Rattle.outside.specs.Counts.{HasCause}
use Rattle.outside.specs.FontKeys.{IsFontKey}
use Rattle.outside.specs.Library.{FileTable}
use Rattle.outside.specs.declared.keys.FontKey.{FontKey}
use Rattle.font_decode.specs.Desks.{Trail, TrailGrew}
use Rattle.font_decode.specs.declared.desk.DeskStop.{DeskStop}
use Rattle.font_decode.specs.declared.desk.DeskStop.TheVariants as desk
use Rattle.font_decode.proofs.Trails.{trail_as, trail_more}
use Rattle.page_draw.specs.Drawn.{IsOwnStop}
use Rattle.page_draw.specs.Stops.{stop_of_desk}
use Rattle.page_draw.proofs.Ends.{rose_on}
use Rattle.page_workers.specs.PageDesks.{DrawsPage}
use Rattle.page_workers.specs.Rounds.{trail_of}
use Rattle.page_workers.specs.Seats.{BenchFits, asked_at, room_at, room_with}
use Rattle.page_workers.specs.declared.bench.Bench.{Bench}
use Rattle.page_workers.specs.declared.worker.Worker.{Worker}

-- ---- causes

pub caused_after : {P Q : Type 0} (a b c : ℕ) → a ≤ b → HasCause b c P → (Q → P) → HasCause a c Q
caused_after a b c before cause f = record { never_falls = omega (arith, before, cause.never_falls); rose = λ q. rose_on a b c before (cause.rose (f q)) }

pub none_fails : (o : Option DeskStop) → o ≡ None → o ≡ Some desk.SourceFault → ⊥
none_fails None none some = absurd cc
none_fails (Some stop) none some = absurd cc

-- ---- the page goes on

module _ {F : Type 0} (library : F → Option FileTable) (faults loads : F → ℕ) (asked : Option (List FontKey)) (began : Option Trail) (failed : ℕ) (bench : Bench) where
  abbrev At : Worker F → List (Arc FontKey Global) → Option DeskStop → Type 0
  At w pending stop = DrawsPage library faults loads asked began failed bench w pending stop

  -- looks were noted, or a font was asked for
  pub draws_on : (C W : Type 0) (v w : Worker F) (old new : List (Arc FontKey Global)) (before after : Option DeskStop) → At v old before → before ≡ None → 1 ≤ room_with v.loads v.seat old
      → BenchFits (library w.source) bench w.seat → All (λ k. IsFontKey (arc_value k)) new → room_at v.loads v.seat + length new ≤ room_at w.loads w.seat + length old + 1
      → HasCause (faults v.source) (faults w.source) C → (after ≡ Some desk.SourceFault → C) → TrailGrew W (asked_at v.seat) (asked_at w.seat) (trail_of loads v) (trail_of loads w) → (after ≡ None → W) → At w new after
  draws_on C W v w old new before after draws going room fits keys left cause failing grew answered = record {
    fits = fits;
    keys = keys;
    room = omega (arith, room, left);
    trail = trail_more (after ≡ None) asked (asked_at v.seat) (asked_at w.seat) began (trail_of loads v) (trail_of loads w)
        (trail_as (Unit {0}) (before ≡ None) asked (asked_at v.seat) began (trail_of loads v) (λ u. going) draws.trail)
        (trail_as (after ≡ None) W (asked_at v.seat) (asked_at w.seat) (trail_of loads v) (trail_of loads w) answered grew);
    cause = caused_after failed (faults v.source) (faults w.source) draws.cause.never_falls cause failing;
  }

  -- the page ends, when the looks were noted
  pub draws_to : (W V : Type 0) (v w : Worker F) (pending : List (Arc FontKey Global)) (stop : Option DeskStop) → At v pending stop → stop ≡ None
      → TrailGrew W (asked_at v.seat) (asked_at w.seat) (trail_of loads v) (trail_of loads w) → (V → W) → TrailGrew V asked (asked_at w.seat) began (trail_of loads w)
  draws_to W V v w pending stop draws going grew f =
      trail_more V asked (asked_at v.seat) (asked_at w.seat) began (trail_of loads v) (trail_of loads w)
      (trail_as (Unit {0}) (stop ≡ None) asked (asked_at v.seat) began (trail_of loads v) (λ u. going) draws.trail)
      (trail_as V W (asked_at v.seat) (asked_at w.seat) (trail_of loads v) (trail_of loads w) f grew)

-- ---- a page that was broken off has no value of its own

pub not_own : (s : DeskStop) → IsOwnStop (stop_of_desk s) → ⊥
not_own desk.SourceFault own = own
not_own desk.NoMemory own = own
