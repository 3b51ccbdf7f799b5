-- The rules of the command, and that `clap` tells its kinds and matches exactly.
use Rattle.std.proofs.Common.{◌≡◌, refl, ℕ, List, [], ◌∷◌, map, true, codes, Option, Some, None}
use Rattle.clap.specs.Words.{Rule, is_simple, new_rule}
use Rattle.clap.specs.Simple.{Shape, built}
use Rattle.clap.specs.Faults.{is_simple_and_free}
use Rattle.clap.specs.Walk.{Text}
use Rattle.clap.specs.declared.builder.action.ArgAction.{ArgAction}
use Rattle.clap.specs.declared.builder.action.ArgAction.TheVariants.{Set, SetTrue}
use Rattle.clap.specs.declared.builder.value_parser.ValueParser.{ValueParser}
use Rattle.clap.specs.declared.builder.value_parser.ValueParser.TheVariants as vp
use Rattle.command_line.specs.Line.{Choice, choices}
use Rattle.command_line.specs.Commands.{line_app}

-- what building makes of an option, by its range
abbrev pub action_by : Option (ℕ × ℕ) → ArgAction
action_by None = SetTrue
action_by (Some r) = Set

abbrev pub defaults_by : Option (ℕ × ℕ) → List Text
defaults_by None = codes "false" ∷ []
defaults_by (Some r) = []

abbrev pub missing_by : Option (ℕ × ℕ) → List Text
missing_by None = codes "true" ∷ []
missing_by (Some r) = []

abbrev pub parser_by : Option (ℕ × ℕ) → ValueParser
parser_by None = vp.Bool
parser_by (Some r) = vp.String

abbrev pub count_by : Option (ℕ × ℕ) → ℕ
count_by None = 0
count_by (Some r) = 1

abbrev pub rule_for : Choice → Rule
rule_for c = record (new_rule c.name) {
  long = Some c.name;
  action = Some (action_by c.range);
  defaults = defaults_by c.range;
  missing = missing_by c.range;
  parser = Some (parser_by c.range);
  range = Some (record { start_inclusive = count_by c.range; end_inclusive = count_by c.range });
}

abbrev pub rules : List Choice → List Rule
rules = map rule_for

-- the built command with the options of a table
abbrev pub top : List Choice → Shape
top t = record (built line_app).top { rules = rules t }

pub top_is : (built line_app).top ≡ top choices
top_is = refl

pub is_exact : is_simple_and_free line_app ≡ true
is_exact = refl

pub is_plain : is_simple line_app ≡ true
is_plain = refl
