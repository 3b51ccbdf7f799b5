use Rattle.std.proofs.Common.{◌≡◌, ◌++◌, take}
use Rattle.std.specs.List.{flat_map}
use Rattle.std.specs.Prelude.{All}
use Rattle.sample_maker.specs.VfFile.{IsLocalSpelled, local_item}
use Rattle.sample_maker.proofs.vf.append_locals.Given as goal

abbrev pub invariant-loop-i : goal.invariant-loop-i
invariant-loop-i l = record {
  items : l.out.items ≡ l.fn.out.items ++ flat_map local_item (take l.i l.locals);
  spelled : All IsLocalSpelled (take l.i l.locals);
}
