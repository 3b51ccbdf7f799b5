use Rattle.gf_reader.proofs.BothWays.{accepted, refused}
use Rattle.gf_reader.proofs.font.GfFont.read.Goals as goal

pub returns-clause-accepted : goal.returns-clause-accepted
returns-clause-accepted c = accepted c.args.bytes.now c.of_items.result c.of_items.ensures.fault

pub returns-clause-refused : goal.returns-clause-refused
returns-clause-refused c = refused c.args.bytes.now c.of_items.result c.of_items.ensures.glyphs c.of_items.ensures.fault
