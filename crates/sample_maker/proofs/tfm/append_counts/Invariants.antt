use Rattle.std.proofs.Common.{◌≡◌, ◌++◌, take}
use Rattle.std.specs.List.{flat_map}
use Rattle.sample_maker.specs.TfmFile.{two}
use Rattle.sample_maker.proofs.tfm.append_counts.Given as goal

abbrev pub invariant-loop-count : goal.invariant-loop-count
invariant-loop-count l = l.out.items ≡ l.fn.out.items ++ flat_map two (take l.count-index l.counts)
