use Rattle.pk_packets.proofs.OneItem.{no_item_begins_another}
use Rattle.pk_packets.proofs.OneMeaning.{answers_are_one, files_are_read_one_way, files_have_no_fault, first_faults_are_one}
use Rattle.pk_packets.proofs.Total.{files_are_read_or_have_a_fault, sound_items_have_glyphs}
use Rattle.pk_packets.proofs.laws.one_meaning.Goals as goal

pub returns : goal.returns
returns c = record { items = no_item_begins_another; one_list = files_are_read_one_way; one_answer = answers_are_one; no_fault = files_have_no_fault; one_fault = first_faults_are_one; either = files_are_read_or_have_a_fault; glyphs = sound_items_have_glyphs }
