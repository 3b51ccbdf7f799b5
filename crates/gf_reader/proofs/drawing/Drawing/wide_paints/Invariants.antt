use Rattle.std.proofs.Common.{◌≡◌, ◌≤◌, length}
use Rattle.gf_reader.specs.Reading.{Reads}
use Rattle.gf_reader.proofs.drawing.Drawing.wide_paints.Given as goal

abbrev pub invariant-paints : goal.invariant-paints
invariant-paints l = record {
  wide : l.self.bits.width ≡ l.fn.self.bits.width;
  high : l.self.bits.height ≡ l.fn.self.bits.height;
  column : l.self.column ≤ l.self.bits.width;
  row : l.self.row ≡ l.fn.self.row;
  fewer : length l.items ≤ length l.fn.items;
  read : Reads l.fn.items l.fn.self l.items l.self;
}

abbrev pub decreases-paints : goal.decreases-paints
decreases-paints l = length l.items
