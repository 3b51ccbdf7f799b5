use Rattle.dvi_run.proofs.note.put_end.Goals as goal

pub returns-in-Written : goal.returns-in-Written
returns-in-Written g c = rw c.in-Written.is c.put_none.ensures

pub returns-in-Usage : goal.returns-in-Usage
returns-in-Usage g c = rw c.in-Usage.is c.put.ensures

pub returns-in-Document : goal.returns-in-Document
returns-in-Document g c = rw c.in-Document.is c.put_document.ensures

pub returns-in-Page : goal.returns-in-Page
returns-in-Page g c = rw c.in-Page.is c.put_page.ensures

pub returns-in-Source : goal.returns-in-Source
returns-in-Source g c = rw c.in-Source.is c.put_source.ensures

pub returns-in-Input : goal.returns-in-Input
returns-in-Input g c = rw c.in-Input.is c.put-in-Input.ensures

pub returns-in-Output : goal.returns-in-Output
returns-in-Output g c = rw c.in-Output.is c.put_output.ensures

pub returns-in-Memory : goal.returns-in-Memory
returns-in-Memory g c = rw c.in-Memory.is c.put-in-Memory.ensures
