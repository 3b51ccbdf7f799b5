-- What the worked values name.
use Rattle.std.specs.Prelude.{ℕ, List, [], ◌∷◌, ◌++◌}

-- a file of the code 65 alone, which is 1/16 of the size wide: the counts, the header, char_info,
-- the widths 0 and 1/16, and the height, the depth and the italic correction 0
abbrev pub counts : List ℕ
counts = 0 ∷ 14 ∷ 0 ∷ 2 ∷ 0 ∷ 65 ∷ 0 ∷ 65 ∷ 0 ∷ 2 ∷ 0 ∷ 1 ∷ 0 ∷ 1 ∷ 0 ∷ 1 ∷ 0 ∷ 0 ∷ 0 ∷ 0 ∷ 0 ∷ 0
    ∷ 0 ∷ 0 ∷ []

abbrev pub header : List ℕ
header = 0 ∷ 0 ∷ 0 ∷ 0 ∷ 0 ∷ 160 ∷ 0 ∷ 0 ∷ []

abbrev pub infos : List ℕ
infos = 1 ∷ 0 ∷ 0 ∷ 0 ∷ []

abbrev pub widths : List ℕ
widths = 0 ∷ 0 ∷ 0 ∷ 0 ∷ 0 ∷ 1 ∷ 0 ∷ 0 ∷ []

abbrev pub others : List ℕ
others = 0 ∷ 0 ∷ 0 ∷ 0 ∷ 0 ∷ 0 ∷ 0 ∷ 0 ∷ 0 ∷ 0 ∷ 0 ∷ 0 ∷ []

abbrev pub dot : List ℕ
dot = counts ++ header ++ infos ++ widths ++ others
