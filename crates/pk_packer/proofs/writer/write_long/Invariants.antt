use Rattle.std.proofs.Common.{◌≡◌, ◌<◌, ◌++◌}
use Rattle.pk_packer.specs.Held.{nybbles_written}
use Rattle.pk_packer.proofs.HexDigits.{bytes_until}
use Rattle.pk_packer.proofs.writer.write_long.Given as goal

abbrev pub invariant-loop-i : goal.invariant-loop-i
invariant-loop-i l = record {
  written : nybbles_written l.out ≡ nybbles_written l.fn.out ++ bytes_until l.value l.bytes l.i;
  high : l.out.high < 16;
}
