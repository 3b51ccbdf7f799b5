use Rattle.std.proofs.Common.{◌≤◌, length}
use Rattle.pk_runs.specs.Limits.{MAX_RASTER_BYTES}
use Rattle.pk_packets.proofs.SoFar.{IsReadTo}
use Rattle.pk_packets.proofs.font.PkFont.of_items.Given as goal

abbrev pub invariant-loop-font : goal.invariant-loop-font
invariant-loop-font l = record {
  read : IsReadTo l.fn.bytes l.items l.sum l.font;
  few : l.sum ≤ MAX_RASTER_BYTES;
}

abbrev pub decreases-loop-font : goal.decreases-loop-font
decreases-loop-font l = length l.items
