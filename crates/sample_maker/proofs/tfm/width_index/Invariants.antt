use Rattle.std.proofs.Common.{◌≡◌, ◌+◌, drop}
use Rattle.sample_maker.specs.TfmFile.{place_from}
use Rattle.sample_maker.proofs.tfm.width_index.Given as goal

abbrev pub invariant-loop-i : goal.invariant-loop-i
invariant-loop-i l = place_from 1 l.widths l.code ≡ place_from (l.i + 1) (drop (l.i) l.widths) l.code
