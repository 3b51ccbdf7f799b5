use Rattle.page_index.proofs.PageEnds.{each_page_ends}
use Rattle.page_index.proofs.PagesApart.{pages_are_apart, pages_follow_one_another}
use Rattle.page_index.proofs.laws.pages.Goals as goal

pub returns-clause-ended : goal.returns-clause-ended
returns-clause-ended c = each_page_ends

pub returns-clause-apart : goal.returns-clause-apart
returns-clause-apart c = pages_are_apart

pub returns-clause-in_order : goal.returns-clause-in_order
returns-clause-in_order c = pages_follow_one_another
