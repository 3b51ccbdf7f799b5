use Rattle.sample_maker.proofs.PackedRasters.{chosen_rasters_are_packed, packed_stands}
use Rattle.sample_maker.proofs.coded.packed.Goals as goal

pub returns-clause-coded : goal.returns-clause-coded
returns-clause-coded c = chosen_rasters_are_packed c.args.raster.now _ c.in_ok-dyn_f.ensures.choice

pub returns-clause-stands : goal.returns-clause-stands
returns-clause-stands c = packed_stands c.args.raster.now _ c.in_ok-dyn_f.ensures.raster c.in_ok-dyn_f.ensures.choice c.in_ok-dyn_f.ensures.fewest
