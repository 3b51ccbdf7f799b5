use Rattle.packed_rows.specs.Packing.{pixel}
use Rattle.packed_rows.proofs.Lists.{length-from_fn}
use Rattle.packed_rows.proofs.Texts.{packing_gives_back, pixels_determine_the_bytes}
use Rattle.packed_rows.proofs.laws.packing.Goals as goal

pub returns-clause-gives_back : goal.returns-clause-gives_back
returns-clause-gives_back c = packing_gives_back

pub returns-clause-determined : goal.returns-clause-determined
returns-clause-determined c = pixels_determine_the_bytes

pub returns-clause-width : goal.returns-clause-width
returns-clause-width c = λ width bytes. length-from_fn width (pixel bytes)
