use Rattle.std.proofs.Common.{◌-◌}
use Rattle.packed_rows.specs.Packing.{pixel}
use Rattle.pk_runs.proofs.PlainWords.{IsPlainWord}
use Rattle.pk_runs.proofs.plain.plain_word.Given as goal

abbrev pub invariant-loop-x : goal.invariant-loop-x
invariant-loop-x l = IsPlainWord (pixel l.bytes) l.place l.x l.word

abbrev pub decreases-loop-x : goal.decreases-loop-x
decreases-loop-x l = l.w - l.x
