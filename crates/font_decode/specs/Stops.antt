-- Why a desk has no answer, by why a file was not loaded.
use Rattle.outside.specs.declared.fonts.LoadStop.{LoadStop}
use Rattle.outside.specs.declared.fonts.LoadStop.TheVariants as load
use Rattle.font_decode.specs.declared.desk.DeskStop.{DeskStop}
use Rattle.font_decode.specs.declared.desk.DeskStop.TheVariants.{SourceFault, NoMemory}

abbrev pub stop_of_load : LoadStop → DeskStop
stop_of_load load.Failed = SourceFault
stop_of_load load.NoMemory = NoMemory
