-- Two commands: a motion by -1, and a motion by w.
use Rattle.std.proofs.Common.{◌*◌, ◌^◌, ◌<◌, negsuc, [], ◌∷◌, refl, arith}
use Rattle.dvi_commands.specs.Spelling.{Right, W0}
use Rattle.dvi_commands_tests.proofs.tests.reading.goes_on_after_a_command.Goals as goal

pub command_at-place-requires-clause-readable : goal.command_at-place-requires-clause-readable
command_at-place-requires-clause-readable g c =
    let short : 2 * 0 < 256 ^ 1 = omega arith in
    record {
      commands = Right (negsuc 0) ∷ W0 ∷ [];
      are = (
        143 ∷ 255 ∷ [],
        147 ∷ [],
        record { whole = refl; spelled = (1, (omega arith, omega arith, short), refl); allowed = refl },
        (147 ∷ [], [], record { whole = refl; spelled = (0, refl, refl); allowed = refl }, refl),
      );
    }
