use Rattle.vf_reader.proofs.OneItem.{no_item_begins_another}
use Rattle.vf_reader.proofs.OneMeaning.{files_are_read_one_way, files_have_no_fault, first_faults_are_one}
use Rattle.vf_reader.proofs.Total.{files_are_read_or_have_a_fault}
use Rattle.vf_reader.proofs.laws.one_meaning.Goals as goal

pub returns : goal.returns
returns c = record { items = no_item_begins_another; one_list = files_are_read_one_way; no_fault = files_have_no_fault; one_fault = first_faults_are_one; either = files_are_read_or_have_a_fault }
