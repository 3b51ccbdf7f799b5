use Rattle.std.proofs.Common.{ℕ, List, Bor, [], arith}
use Rattle.std.proofs.lemmas.List.Folds.{length-flat_map-take}
use Rattle.dvi_commands.proofs.writer.parts.total_length.Goals as goal

pub overflow_add-total : goal.overflow_add-total
overflow_add-total c =
    omega (arith, length-flat_map-take (λ (p : Bor (List ℕ)). p.now) c.args.parts.now _ (record { ref_ptr = (0, 0); now = [] }) c.loop-part-test.true)
