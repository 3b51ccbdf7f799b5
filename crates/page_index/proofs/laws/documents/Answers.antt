use Rattle.page_index.proofs.FirstFault.{documents_have_no_fault, documents_have_one_reading, first_faults_are_one}
use Rattle.page_index.proofs.Total.{bytes_are_a_document_or_have_a_fault}
use Rattle.page_index.proofs.laws.documents.Goals as goal

pub returns-clause-no_fault : goal.returns-clause-no_fault
returns-clause-no_fault c = documents_have_no_fault

pub returns-clause-one_reading : goal.returns-clause-one_reading
returns-clause-one_reading c = documents_have_one_reading

pub returns-clause-one_fault : goal.returns-clause-one_fault
returns-clause-one_fault c = first_faults_are_one

pub returns-clause-either : goal.returns-clause-either
returns-clause-either c = bytes_are_a_document_or_have_a_fault
