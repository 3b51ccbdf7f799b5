use Rattle.std.proofs.Common.{◌≡◌, ◌<◌, List}
use Rattle.pk_runs.specs.Numbers.{Item}
use Rattle.pk_packer.specs.Held.{nybbles_written}
use Rattle.pk_packer.specs.Places.{IsPlace, IsReached, pixels_after}
use Rattle.pk_packer.specs.Spelling.{items_text}
use Rattle.pk_packer.proofs.measure.runs_in_bytes.Given as goal

abbrev pub invariant-loop-step : goal.invariant-loop-step
invariant-loop-step l = record {
  place : IsPlace l.bits l.place;
  high : l.out.high < 16;
  given : (items : List Item) × IsReached l.bits l.place items × (nybbles_written l.out ≡ items_text l.dyn_f items);
}

abbrev pub decreases-loop-step : goal.decreases-loop-step
decreases-loop-step l = pixels_after l.bits l.place
