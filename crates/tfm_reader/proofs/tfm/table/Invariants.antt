use Rattle.std.proofs.Common.{◌≡◌, ◌<◌, ℕ, pos, None, length, get_or}
use Rattle.tfm_reader.specs.Fits.{AreFixWords}
use Rattle.tfm_reader.specs.Tfm.{tfm_width}
use Rattle.tfm_reader.proofs.tfm.table.Given as goal

abbrev pub invariant-loop-code : goal.invariant-loop-code
invariant-loop-code l = record {
  count : length l.widths.items ≡ l.code;
  fit : AreFixWords l.widths.items;
  right : (c : ℕ) → c < l.code → get_or l.widths.items c None ≡ tfm_width l.bytes (pos c);
}
