use Rattle.pk_runs.proofs.Apart.{no_number_begins_another, no_item_begins_another, run_rasters_are_one}
use Rattle.pk_runs.proofs.NoGreatest.{numbers_have_no_greatest}
use Rattle.pk_runs.proofs.OneFault.{rasters_are_one}
use Rattle.pk_runs.proofs.Sizes.{run_rasters_have_their_size}
use Rattle.pk_runs.proofs.laws.runs_apart.Goals as goal

pub returns-clause-numbers : goal.returns-clause-numbers
returns-clause-numbers c = no_number_begins_another

pub returns-clause-items : goal.returns-clause-items
returns-clause-items c = no_item_begins_another

pub returns-clause-one : goal.returns-clause-one
returns-clause-one c = run_rasters_are_one

pub returns-clause-size : goal.returns-clause-size
returns-clause-size c = run_rasters_have_their_size

pub returns-clause-no_greatest : goal.returns-clause-no_greatest
returns-clause-no_greatest c = numbers_have_no_greatest

pub returns-clause-one_raster : goal.returns-clause-one_raster
returns-clause-one_raster c = rasters_are_one
