-- A small PK file, worked out by hand: the letter A as a bar of three by four dots, whose last row
-- is black throughout.
use Rattle.std.specs.Prelude.{ℕ, pos, true, false, List, [], ◌∷◌, ◌++◌, replicate, slice_set}
use Rattle.pk_runs.specs.declared.glyph.Glyph.{Glyph}

abbrev pub bar_packet : List ℕ
bar_packet = 168 ∷ 11 ∷ 65 ∷ 1 ∷ 128 ∷ 0 ∷ 6 ∷ 3 ∷ 4 ∷ 0 ∷ 3 ∷ 226 ∷ 17 ∷ 64 ∷ []

abbrev pub bar_file : List ℕ
bar_file = 247 ∷ 89 ∷ 0 ∷ 0 ∷ 160 ∷ 0 ∷ 0 ∷ 0 ∷ 0 ∷ 0 ∷ 0 ∷ 0 ∷ 4 ∷ 38 ∷ 174 ∷ 0 ∷ 4 ∷ 38 ∷ 174
    ∷ 168 ∷ 11 ∷ 65 ∷ 1 ∷ 128 ∷ 0 ∷ 6 ∷ 3 ∷ 4 ∷ 0 ∷ 3 ∷ 226 ∷ 17 ∷ 64 ∷ 245 ∷ 246 ∷ 246 ∷ []

abbrev pub bar_glyph : Glyph
bar_glyph = record {
  raster = record {
    width = 3;
    height = 4;
    rows = replicate 3 (true ∷ false ∷ true ∷ []) ++ (true ∷ true ∷ true ∷ []) ∷ [];
  };
  hoff = pos 0;
  voff = pos 3;
}

-- with another identifier, another length of the packet, and another opcode after it
abbrev pub wrong_identifier : List ℕ
wrong_identifier = slice_set bar_file 1 88

abbrev pub wrong_length : List ℕ
wrong_length = slice_set bar_file 20 7

abbrev pub wrong_opcode : List ℕ
wrong_opcode = slice_set bar_file 33 247
