use Rattle.pk_runs.proofs.OneFault.{run_rasters_are_never_stuck, rasters_have_no_fault, run_faults_are_one}
use Rattle.pk_runs.proofs.Total.{bytes_have_a_raster_or_a_fault}
use Rattle.pk_runs.proofs.laws.one_fault.Goals as goal

pub returns-clause-never_stuck : goal.returns-clause-never_stuck
returns-clause-never_stuck c = run_rasters_are_never_stuck

pub returns-clause-no_fault : goal.returns-clause-no_fault
returns-clause-no_fault c = rasters_have_no_fault

pub returns-clause-one : goal.returns-clause-one
returns-clause-one c = run_faults_are_one

pub returns-clause-either : goal.returns-clause-either
returns-clause-either c = bytes_have_a_raster_or_a_fault
