use Rattle.std.proofs.Common.{sym}
use Rattle.font_decode.specs.Fonts.{IsProgram}
use Rattle.font_decode.proofs.KeyTables.{holds_of}
use Rattle.font_decode.proofs.fonts.Font.packet.Goals as goal

pub returns-in-Virtual-clause-commands : goal.returns-in-Virtual-clause-commands
returns-in-Virtual-clause-commands c =
    holds_of (IsProgram c.args.c) (λ packet. packet.now) c.packet.result _ c.packet.ensures (rw (sym c.deref.ensures, c.in-Virtual.is) at c.self.invariant.value.shapes.packets c.args.c)
