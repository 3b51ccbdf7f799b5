use Rattle.dvi_run.proofs.CountedPages.{each_page_is_drawn_once}
use Rattle.dvi_run.proofs.laws.shares.Goals as goal

pub returns : goal.returns
returns c = each_page_is_drawn_once
