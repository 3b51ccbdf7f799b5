use Rattle.font_decode.proofs.NameBytes.{names_stay_in_folder, asked_names_stay_in_folder}
use Rattle.font_decode.proofs.Distinct.{names_are_distinct}
use Rattle.font_decode.proofs.laws.names.Goals as goal

pub returns-clause-folder : goal.returns-clause-folder
returns-clause-folder c = names_stay_in_folder

pub returns-clause-asked : goal.returns-clause-asked
returns-clause-asked c = asked_names_stay_in_folder

pub returns-clause-distinct : goal.returns-clause-distinct
returns-clause-distinct c = names_are_distinct
