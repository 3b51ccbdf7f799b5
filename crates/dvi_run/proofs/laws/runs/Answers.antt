use Rattle.std.proofs.Common.{◌<◌, arith}
use Rattle.page_index.specs.Document.{pages_begun}
use Rattle.page_index.specs.Pages.{eop_at}
use Rattle.dvi_run.specs.Laws.{OneReading}
use Rattle.dvi_run.proofs.OneRun.{prefixes, good_alike, is_there, one_run, refused_alike}
use Rattle.dvi_run.proofs.laws.runs.Goals as goal

pub returns-clause-reading : goal.returns-clause-reading
returns-clause-reading c = λ g bytes r s v w a b. c.documents.ensures.one_reading g.res bytes r s a.document b.document

pub returns-clause-values : goal.returns-clause-values
returns-clause-values c =
    let reading : OneReading = λ g bytes r s v w a b. c.documents.ensures.one_reading g.res bytes r s a.document b.document in
    one_run c.values.ensures.one reading

pub returns-clause-prefixes : goal.returns-clause-prefixes
returns-clause-prefixes c = prefixes

pub returns-clause-no_fault : goal.returns-clause-no_fault
returns-clause-no_fault c = λ g bytes reading values fault run first. c.documents.ensures.no_fault g.res bytes reading fault run.document first

pub returns-clause-ends : goal.returns-clause-ends
returns-clause-ends c = λ g bytes reading values i run below.
    let few = run.pages.few in
    let begun : i < pages_begun reading = omega (arith, below, few) in
    is_there (eop_at i reading) (c.pages.ensures.ended g.res bytes reading i run.document begun)

pub returns-clause-good : goal.returns-clause-good
returns-clause-good c =
    let reading : OneReading = λ g bytes r s v w a b. c.documents.ensures.one_reading g.res bytes r s a.document b.document in
    good_alike reading (one_run c.values.ensures.one reading)

pub returns-clause-stopped : goal.returns-clause-stopped
returns-clause-stopped c =
    let reading : OneReading = λ g bytes r s v w a b. c.documents.ensures.one_reading g.res bytes r s a.document b.document in
    refused_alike reading (one_run c.values.ensures.one reading)
