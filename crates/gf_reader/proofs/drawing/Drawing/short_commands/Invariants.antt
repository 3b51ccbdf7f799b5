use Rattle.std.proofs.Common.{◌≡◌, ◌≤◌, ◌-◌, length}
use Rattle.gf_reader.specs.Reading.{Reads}
use Rattle.gf_reader.proofs.drawing.Drawing.short_commands.Given as goal

abbrev pub invariant-rows : goal.invariant-rows
invariant-rows l = record {
  wide : l.self.bits.width ≡ l.fn.self.bits.width;
  high : l.self.bits.height ≡ l.fn.self.bits.height;
  column : l.self.column ≤ l.self.bits.width;
  row : l.self.row ≤ l.self.bits.height;
  fewer : length l.items ≤ length l.fn.items;
  read : Reads l.fn.items l.fn.self l.items l.self;
}

abbrev pub decreases-rows : goal.decreases-rows
decreases-rows l = l.self.bits.height - l.self.row
