use Rattle.std.proofs.Common.{◌≡◌, ◌<◌, [], take}
use Rattle.pk_packer.specs.Held.{nybbles_written}
use Rattle.pk_packer.specs.Kept.{with_runs}
use Rattle.pk_packer.specs.Spelling.{items_text}
use Rattle.pk_packer.proofs.measure.kept_in_bytes.Given as goal

abbrev pub invariant-loop-i : goal.invariant-loop-i
invariant-loop-i l = record {
  high : l.out.high < 16;
  written : nybbles_written l.out ≡ items_text l.dyn_f (with_runs [] (take l.i l.runs));
}
