-- The steps of drawing a character.
use Rattle.std.specs.Prelude.{ℕ, ◌+◌, min, Bool, ◌&&◌, not, nat_lt, if◌then◌else◌}
use Rattle.packed_rows.specs.Changes.{with_black}
use Rattle.gf_reader.specs.declared.drawing.Drawing.{Drawing}

-- n pixels of the row have the colour that is due
abbrev pub after_paint : Drawing → ℕ → Drawing
after_paint d n = record d {
  bits =
      if d.black && nat_lt 0 n then with_black d.bits d.column (d.column + n) d.row (d.row + 1)
      else d.bits;
  column = min (d.column + n) d.bits.width;
  black = not d.black;
}

-- n rows down, at a column
abbrev pub after_move : Drawing → ℕ → ℕ → Bool → Drawing
after_move d n column black = record d {
  row = min (d.row + n) d.bits.height;
  column = min column d.bits.width;
  black = black;
}
