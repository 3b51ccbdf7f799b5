use Rattle.std.proofs.Common.{ℕ, List, Option, ◌++◌, take}
use Rattle.std.specs.List.{flat_map}
use Rattle.outside.specs.Gather.{Gathers}
use Rattle.packed_rows.specs.Packing.{row_text}
use Rattle.pbm_output.specs.Pieces.{IsPut}
use Rattle.pbm_output.proofs.write.put_joined.Given as goal

abbrev pub invariant-loop-y : goal.invariant-loop-y
invariant-loop-y g l = (start : Option (List ℕ)) (before : ℕ) (text : List ℕ)
    → Gathers start before l.initial.gather (g.O.Output.written l.initial.out) (g.O.Output.faults l.initial.out) text
    → IsPut start before l.gather (g.O.Output.written l.out) (g.O.Output.faults l.out) l.piece.items (text ++ flat_map row_text (take l.y l.page.rows))
