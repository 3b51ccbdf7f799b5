use Rattle.page_draw.proofs.OneValue.{pages_have_one_value}
use Rattle.page_draw.proofs.SomeValue.{each_page_has_one_value}
use Rattle.page_draw.proofs.Begun.{broken_pages_begin}
use Rattle.page_draw.proofs.laws.values.Goals as goal

pub returns : goal.returns
returns c = record { one = pages_have_one_value; exactly = each_page_has_one_value; begun = broken_pages_begin }
