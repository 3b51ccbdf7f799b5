use Rattle.std.proofs.Common.{sym, w32, to_z, of_z}
use Rattle.std.specs.Arc.{arc_value}
use Rattle.outside.specs.FontKeys.{IsFontKey}
use Rattle.font_decode.proofs.KeyTables.{holds_of}
use Rattle.font_decode.proofs.fonts.Font.local.Goals as goal

pub returns-in-Virtual-clause-fits : goal.returns-in-Virtual-clause-fits
returns-in-Virtual-clause-fits c =
    holds_of IsFontKey (λ key. arc_value key.now) c.get.result _ c.get.ensures (rw (sym c.deref.ensures, c.in-Virtual.is) at c.self.invariant.value.shapes.locals (to_z w32 (of_z w32 c.args.k)))
