use Rattle.page_draw.proofs.Tolerance.{equal_lacks_are_one, lacks_end_no_tolerant_page, pages_lack_what_is_missing, whole_pages_agree}
use Rattle.page_draw.proofs.laws.lacks.Goals as goal

pub returns : goal.returns
returns c = record {
  equal = equal_lacks_are_one;
  missing = pages_lack_what_is_missing;
  otherwise = lacks_end_no_tolerant_page;
  agree = whole_pages_agree;
}
