use Rattle.raster_page.proofs.MarkedPages.{marks_add, newest_may_stand_last, dots_are_decided_alone}
use Rattle.raster_page.proofs.laws.marks.Goals as goal

pub returns-clause-add : goal.returns-clause-add
returns-clause-add c = marks_add

pub returns-clause-newest_last : goal.returns-clause-newest_last
returns-clause-newest_last c = newest_may_stand_last

pub returns-clause-alone : goal.returns-clause-alone
returns-clause-alone c = dots_are_decided_alone
