-- Fonts by their numbers.
use Rattle.std.specs.Ordering.{int_cmp}
use Rattle.std.specs.Coded.{Coded, coded_ℤ}
use Rattle.std.specs.FinMap.{FinMap, code}
use Rattle.outside.specs.declared.keys.FontKey.{FontKey}
use Rattle.outside.specs.contracts.keys.FontKey as key_row

-- a finite map from numbers to keys
abbrev pub Fonts : Type 0
Fonts = FinMap int_cmp FontKey

-- how the logic stores it
abbrev pub fonts_code : Coded Fonts
fonts_code = code coded_ℤ key_row.the_row.coded
