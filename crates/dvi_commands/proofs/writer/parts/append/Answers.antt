use Rattle.std.proofs.Common.{ℕ, List, Bor, [], arith}
use Rattle.std.proofs.lemmas.List.Folds.{length-flat_map-take}
use Rattle.dvi_commands.proofs.writer.parts.append.Goals as goal

-- the room was made before, so no part is refused
pub returns-in_err-extend_from_slice-clause-unchanged : goal.returns-in_err-extend_from_slice-clause-unchanged
returns-in_err-extend_from_slice-clause-unchanged c =
    absurd (omega (arith, length-flat_map-take (λ (p : Bor (List ℕ)). p.now) c.args.parts.now _ (record { ref_ptr = (0, 0); now = [] }) c.loop-part-test.true, c.in_err-extend_from_slice.ensures.full))
