use Rattle.std.proofs.Common.{◌≡◌, ◌≤◌, length}
use Rattle.gf_reader.specs.Reading.{Reads}
use Rattle.gf_reader.proofs.drawing.Drawing.commands.Given as goal

abbrev pub invariant-commands : goal.invariant-commands
invariant-commands l = record {
  wide : l.self.bits.width ≡ l.fn.self.bits.width;
  high : l.self.bits.height ≡ l.fn.self.bits.height;
  column : l.self.column ≤ l.self.bits.width;
  row : l.self.row ≤ l.self.bits.height;
  fewer : length l.items ≤ length l.fn.items;
  read : Reads l.fn.items l.fn.self l.items l.self;
}

abbrev pub decreases-commands : goal.decreases-commands
decreases-commands l = length l.items
