-- Arguments that have the shape of a value or of an option.
use Rattle.std.specs.Prelude.{◌||◌, Bool, true, false, [], ◌∷◌}
use Rattle.std.specs.Option.{option_map_or}
use Rattle.command_line.specs.Line.{Text, after_hyphens, is_value, value_of}

-- what stands after the hyphens of `--name` or `--name=digits`
abbrev pub is_option_rest : Text → Bool
is_option_rest [] = false
is_option_rest (x ∷ rest) = option_map_or is_value (value_of (x ∷ rest)) true

abbrev pub is_shaped : Text → Bool
is_shaped argument =
    is_value argument || option_map_or is_option_rest (after_hyphens argument) false
