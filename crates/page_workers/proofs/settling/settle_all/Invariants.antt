use Rattle.std.proofs.Common.{◌≡◌, ◌+◌, ◌≤◌, All, Some, length}
use Rattle.std.specs.Arc.{arc_value}
use Rattle.outside.specs.FontKeys.{IsFontKey}
use Rattle.font_decode.specs.Desks.{TrailGrew}
use Rattle.page_workers.specs.Seats.{SeatFits, asked_at, asked_with, room_at, trail_at}
use Rattle.page_workers.proofs.settling.settle_all.Given as goal

-- the looks so far were noted and answered, and there is room for the others
abbrev pub invariant-loop-alloc : goal.invariant-loop-alloc
invariant-loop-alloc g l =
    let library = g.F.FontSource.library in
    let faults = g.F.FontSource.faults in
    let loads = g.F.FontSource.loads in
    record {
      part : l.seat.view.part ≡ l.fn.seat.view.part;
      fits : SeatFits (library l.source) l.bench l.seat;
      keys : All (λ k. IsFontKey (arc_value k)) l.keys.items;
      room : room_at l.fn.loads (Some l.fn.seat) + length l.keys.items ≤ room_at l.loads (Some l.seat) + length l.fn.keys.items;
      few : length l.keys.items ≤ length l.fn.keys.items;
      never_falls : faults l.fn.source ≤ faults l.source;
      asked : asked_with (Some l.seat) l.keys.items ≡ asked_with (Some l.fn.seat) l.fn.keys.items;
      trail : TrailGrew (Unit {0}) (asked_at (Some l.fn.seat)) (asked_at (Some l.seat)) (trail_at (loads l.fn.source) l.fn.loads (Some l.fn.seat)) (trail_at (loads l.source) l.loads (Some l.seat));
    }

abbrev pub decreases-loop-alloc : goal.decreases-loop-alloc
decreases-loop-alloc g l = length l.keys.items
