use Rattle.sample_maker.proofs.PackedRasters.{chosen_rasters_are_packed, packed_rasters_are_shortest}
use Rattle.sample_maker.proofs.laws.packed_rasters.Goals as goal

pub returns : goal.returns
returns c = record { chosen = chosen_rasters_are_packed; shortest = packed_rasters_are_shortest }
