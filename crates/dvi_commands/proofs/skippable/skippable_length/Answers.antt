use Rattle.std.proofs.Common.{true, refl, arith, get_or}
use Rattle.std.specs.Prelude.{◌==◌}
use Rattle.std.proofs.lemmas.Bool.{agree_below_at, eqb-true}
use Rattle.dvi_commands.specs.Skippable.{skippable_size}
use Rattle.dvi_commands.specs.declared.skippable.TheConstants.{SKIPPABLE_LENGTHS}
use Rattle.dvi_commands.proofs.skippable.skippable_length.Goals as goal

pub returns : goal.returns
returns c =
    eqb-true _ _ (agree_below_at (λ k. get_or SKIPPABLE_LENGTHS k 0 == skippable_size k) (λ _. true) 256 c.args.opcode refl (omega arith))
