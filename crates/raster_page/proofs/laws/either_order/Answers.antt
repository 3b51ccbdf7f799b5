use Rattle.raster_page.proofs.MarkedPages.{marks_commute}
use Rattle.raster_page.proofs.laws.either_order.Goals as goal

pub returns : goal.returns
returns c = marks_commute
