use Rattle.tfm_reader.proofs.Right.{files_are_right_or_have_a_fault, files_have_no_fault}
use Rattle.tfm_reader.proofs.laws.right_files.Goals as goal

pub returns-clause-no_fault : goal.returns-clause-no_fault
returns-clause-no_fault c = files_have_no_fault

pub returns-clause-either : goal.returns-clause-either
returns-clause-either c = files_are_right_or_have_a_fault
