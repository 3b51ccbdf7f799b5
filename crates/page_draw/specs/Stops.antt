-- Why a page was not drawn, by why its desk had no answer.
use Rattle.font_decode.specs.declared.desk.DeskStop.{DeskStop}
use Rattle.font_decode.specs.declared.desk.DeskStop.TheVariants as desk
use Rattle.page_draw.specs.declared.stop.PageStop.{PageStop}
use Rattle.page_draw.specs.declared.stop.PageStop.TheVariants.{SourceFault, NoMemory}

abbrev pub stop_of_desk : DeskStop → PageStop
stop_of_desk desk.SourceFault = SourceFault
stop_of_desk desk.NoMemory = NoMemory
