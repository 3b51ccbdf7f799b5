use Rattle.std.proofs.Common.{◌≤◌, None, length}
use Rattle.pk_runs.specs.Limits.{MAX_RASTER_BYTES}
use Rattle.gf_reader.specs.Reading.{IsReadTo}
use Rattle.gf_reader.proofs.font.GfFont.of_items.Given as goal

abbrev pub invariant-characters : goal.invariant-characters
invariant-characters l = record {
  read : IsReadTo l.fn.bytes l.items l.sum l.font None;
  few : l.sum ≤ MAX_RASTER_BYTES;
}

abbrev pub decreases-characters : goal.decreases-characters
decreases-characters l = length l.items
