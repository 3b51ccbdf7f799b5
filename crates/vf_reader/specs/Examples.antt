-- Small VF files, worked out by hand.
use Rattle.std.specs.Prelude.{ℕ, pos, List, [], ◌∷◌, ◌++◌}
use Rattle.vf_reader.specs.declared.locals.LocalDef.{LocalDef}

-- no comment, no checksum, and a design size of ten points
abbrev pub preamble : List ℕ
preamble = 247 ∷ 202 ∷ 0 ∷ 0 ∷ 0 ∷ 0 ∷ 0 ∷ 0 ∷ 160 ∷ 0 ∷ 0 ∷ []

abbrev pub file : List ℕ → List ℕ
file items = preamble ++ items ++ 248 ∷ 248 ∷ []

-- the local fonts 0 dot and 1 bar, at the size and the design size of the font
abbrev pub dot : List ℕ
dot = 243 ∷ 0 ∷ 0 ∷ 0 ∷ 0 ∷ 0 ∷ 0 ∷ 16 ∷ 0 ∷ 0 ∷ 0 ∷ 246 ∷ 174 ∷ 125 ∷ 0 ∷ 3 ∷ 100 ∷ 111 ∷ 116 ∷ []

abbrev pub bar : List ℕ
bar = 243 ∷ 1 ∷ 0 ∷ 0 ∷ 0 ∷ 0 ∷ 0 ∷ 16 ∷ 0 ∷ 0 ∷ 0 ∷ 246 ∷ 174 ∷ 125 ∷ 0 ∷ 3 ∷ 98 ∷ 97 ∷ 114 ∷ []

abbrev pub dot_font : LocalDef
dot_font = record {
  number = pos 0;
  area = 0;
  name = 100 ∷ 111 ∷ 116 ∷ [];
  factor = 1048576;
  points = 16166525;
}

abbrev pub bar_font : LocalDef
bar_font = record {
  number = pos 1;
  area = 0;
  name = 98 ∷ 97 ∷ 114 ∷ [];
  factor = 1048576;
  points = 16166525;
}

-- character 65: the letter A of the first font, and that of the second after it
abbrev pub both : List ℕ
both = 3 ∷ 65 ∷ 2 ∷ 128 ∷ 0 ∷ 65 ∷ 172 ∷ 65 ∷ []

-- a short packet of character 65 with these commands, of which there are n bytes
abbrev pub short : ℕ → List ℕ → List ℕ
short n commands = n ∷ 65 ∷ 0 ∷ 0 ∷ 0 ∷ commands

-- the local font 0 anew, with another design size
abbrev pub other_dot : List ℕ
other_dot = 243 ∷ 0 ∷ 0 ∷ 0 ∷ 0 ∷ 0 ∷ 0 ∷ 16 ∷ 0 ∷ 0 ∷ 0 ∷ 246 ∷ 174 ∷ 126 ∷ 0 ∷ 3 ∷ 100 ∷ 111 ∷ 116
    ∷ []
