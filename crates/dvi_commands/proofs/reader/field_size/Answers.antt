use Rattle.std.proofs.Common.{true, refl, arith, get_or}
use Rattle.std.specs.Prelude.{◌==◌}
use Rattle.std.proofs.lemmas.Bool.{agree_below_at, eqb-true}
use Rattle.dvi_commands.specs.Refusal.{fixed_size}
use Rattle.dvi_commands.specs.declared.reader.TheConstants.{FIELD_SIZES}
use Rattle.dvi_commands.proofs.reader.field_size.Goals as goal

pub returns : goal.returns
returns c =
    eqb-true _ _ (agree_below_at (λ k. get_or FIELD_SIZES k 0 == fixed_size k) (λ _. true) 250 c.args.opcode refl (omega arith))
