use Rattle.std.proofs.Common.{◌≡◌, ◌≤◌, length}
use Rattle.packed_rows.specs.Joined.{IsWhiteFrom}
use Rattle.gf_reader.specs.Reading.{Reads}
use Rattle.gf_reader.proofs.ShortCommands.{with_row}
use Rattle.gf_reader.proofs.drawing.Drawing.narrow_paints.Given as goal

-- what is painted is drawn once the word is joined
abbrev pub invariant-paints : goal.invariant-paints
invariant-paints l = record {
  same : l.self ≡ l.fn.self;
  white : IsWhiteFrom l.column l.word;
  column : l.column ≤ l.fn.self.bits.width;
  fewer : length l.items ≤ length l.fn.items;
  read : Reads l.fn.items l.fn.self l.items (with_row l.fn.self l.word l.column l.black);
}

abbrev pub decreases-paints : goal.decreases-paints
decreases-paints l = length l.items
