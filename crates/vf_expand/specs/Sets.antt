-- Whether a character is set or put next.
use Rattle.std.specs.Prelude.{◌<◌, ◌≤◌, ℕ, ℤ, Bool, true, false, List, length, slice_range}
use Rattle.dvi_commands.specs.Spelling.{DviCommand, Put, Set, Spells}
use Rattle.dvi_commands.specs.Reading.{Begins}
use Rattle.dvi_commands.specs.declared.command.Context.{Context}

-- the command that sets or puts a character
abbrev pub character_command : ℤ → Bool → DviCommand
character_command code false = Set code
character_command code true = Put code

-- a character with this code is set or put at a place, and its command ends at the other
pub record IsSetTo (text : List ℕ) (at : ℕ) (code : ℤ) (put : Bool) (end : ℕ) : Type 0 where
  pub after : at < end
  pub inside : end ≤ length text
  pub spelled : Spells (character_command code put) (slice_range text at end)

-- the bytes begin with no character that is set or put
abbrev pub SetsNothing : Context → List ℕ → Type 0
SetsNothing context bytes =
    (code : ℤ) (put : Bool) (first rest : List ℕ)
    → Begins context (character_command code put) first rest bytes → ⊥
