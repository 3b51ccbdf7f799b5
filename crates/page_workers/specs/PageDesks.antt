-- A worker while it draws a page, and looks that aren't noted yet.
use Rattle.std.specs.Prelude.{◌≡◌, ◌⊎◌, ℕ, ◌≤◌, All, List, Option, None, Some, IsSome, Result, Err, length, refl}
use Rattle.std.specs.Arc.{arc_value}
use Rattle.std.specs.declared.alloc.Global.{Global}
use Rattle.std.specs.declared.sync.Arc.{Arc}
use Rattle.outside.specs.Counts.{HasCause}
use Rattle.outside.specs.FontKeys.{IsFontKey}
use Rattle.outside.specs.Library.{FileTable}
use Rattle.outside.specs.declared.keys.FontKey.{FontKey}
use Rattle.font_decode.specs.Desks.{GrewBy, Trail, TrailGrew}
use Rattle.font_decode.specs.declared.desk.DeskStop.{DeskStop}
use Rattle.font_decode.specs.declared.desk.DeskStop.TheVariants.{SourceFault}
use Rattle.page_draw.specs.Stops.{stop_of_desk}
use Rattle.page_draw.specs.declared.drawn.Drawn.{Drawn}
use Rattle.page_draw.specs.declared.stop.PageStop.{PageStop}
use Rattle.page_workers.specs.Rounds.{trail_of}
use Rattle.page_workers.specs.Seats.{BenchFits, asked_at, room_at}
use Rattle.page_workers.specs.declared.bench.Bench.{Bench}
use Rattle.page_workers.specs.declared.worker.Worker.{Worker}

-- a worker that began a page when it had asked these keys and its seat had this trail, and its
-- source had failed so often. For the looks that are pending it has room; where none was refused,
-- what its seat did since answers the others
pub record DrawsPage {F : Type 0} (library : F → Option FileTable) (faults loads : F → ℕ)
    (asked : Option (List FontKey)) (began : Option Trail) (failed : ℕ) (bench : Bench)
    (w : Worker F) (pending : List (Arc FontKey Global)) (stop : Option DeskStop) : Type 0 where
  pub fits : BenchFits (library w.source) bench w.seat
  pub keys : All (λ k. IsFontKey (arc_value k)) pending
  pub room : length pending ≤ room_at w.loads w.seat
  pub trail : TrailGrew (stop ≡ None) asked (asked_at w.seat) began (trail_of loads w)
  pub cause : HasCause failed (faults w.source) (stop ≡ Some SourceFault)

-- what comes of a page is what it was drawn to, where the looks that were wanted were noted, or
-- else why they weren't
abbrev pub EndsAs : Result Drawn PageStop → Result Drawn PageStop → Option (List FontKey)
    → Option (List FontKey) → Type 0
EndsAs drawn result wanted noted = ((result ≡ drawn) × (noted ≡ wanted))
    ⊎ ((stop : DeskStop) × (left : List FontKey) × (result ≡ Err (stop_of_desk stop))
    × GrewBy noted wanted left)

-- where no trail is known, the keys asked are known wherever it is
abbrev no_trail : Option Trail
no_trail = None

pub known_of_none : (asked : Option (List FontKey)) → IsSome no_trail → IsSome asked
known_of_none None none = none
known_of_none (Some keys) none = refl
