-- What a width is: Knuth, TFtoPL, "Font metric data".
use Rattle.std.specs.Prelude.{ℤ, List, Option, IfSome, All}
use Rattle.fix_word.specs.FixWords.{IsFixWord}

-- each width that there is
abbrev pub AreFixWords : List (Option ℤ) → Type 0
AreFixWords widths = All (λ w. IfSome w IsFixWord) widths
