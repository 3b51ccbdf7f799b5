-- The keys of fonts in words.
use Rattle.std.specs.Prelude.{ℕ, List, ◌++◌, map, codes, decimal, if◌then◌else◌}
use Rattle.std.specs.Int.{is_in_range}
use Rattle.outside.specs.declared.keys.FontKey.{FontKey}

-- a visible ASCII character stands for itself, and each other byte is a question mark
abbrev pub shown_byte : ℕ → ℕ
shown_byte b = if is_in_range 33 126 b then b else 63

-- the name, the size and the design size
abbrev pub key_text : FontKey → List ℕ
key_text k = map shown_byte k.name ++ codes " " ++ decimal k.size ++ codes " " ++ decimal k.design
