-- The parts that the name of a fault is made of.
use Rattle.std.specs.Prelude.{ℕ, ℤ, List, [], ◌++◌, Option, Some, None}
use Rattle.std.specs.Fmt.{signed_decimal}
use Rattle.dvi_run.specs.declared.texts.name.Name.{Name}

-- a number after a text, if there is one
abbrev pub number_text : Option ℤ → List ℕ
number_text None = []
number_text (Some z) = signed_decimal z

-- two texts, each with a number after it or none
abbrev pub name_text : Name → List ℕ
name_text name = name.text.now ++ number_text name.number ++ name.more.now ++ number_text name.last
