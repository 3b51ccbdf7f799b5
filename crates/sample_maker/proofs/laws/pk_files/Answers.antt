use Rattle.sample_maker.proofs.PkLaws.{files_are_multiples_of_four, packets_have_the_first_form}
use Rattle.sample_maker.proofs.laws.pk_files.Goals as goal

pub returns-clause-forms : goal.returns-clause-forms
returns-clause-forms c = packets_have_the_first_form

pub returns-clause-words : goal.returns-clause-words
returns-clause-words c = files_are_multiples_of_four
