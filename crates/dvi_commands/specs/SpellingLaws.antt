-- Laws over spellings: they tell the commands apart, and a shortest one is the least.
use Rattle.std.specs.Prelude.{◌≡◌, ℕ, ◌≤◌, List, ◌++◌, length, slice_index, IsTrue, None}
use Rattle.big_endian.specs.Numbers.{AreBytes}
use Rattle.dvi_commands.specs.Spelling.{DviCommand, Spells}
use Rattle.dvi_commands.specs.ShortestSpelling.{shortest_spelling}
use Rattle.dvi_commands.specs.Refusal.{may_stand, refusal}
use Rattle.dvi_commands.specs.Reading.{Begins}
use Rattle.dvi_commands.specs.declared.command.Context.{Context}

-- no spelling of a command begins another
abbrev pub NoSpellingBeginsAnother : Type 0
NoSpellingBeginsAnother =
    (c d : DviCommand) (a b x y : List ℕ) → Spells c a → Spells d b → a ++ x ≡ b ++ y
    → (a ≡ b) × (x ≡ y)

-- no spelling of a command is a proper prefix of another spelling
abbrev pub IsProperPrefix : List ℕ → List ℕ → Type 0
IsProperPrefix a b = (more : List ℕ) × (1 ≤ length more) × (a ++ more ≡ b)

abbrev pub NoSpellingIsAProperPrefix : Type 0
NoSpellingIsAProperPrefix =
    (c d : DviCommand) (a b : List ℕ) → Spells c a → Spells d b → IsProperPrefix a b → ⊥

-- the bytes determine the command
abbrev pub SpellingDeterminesTheCommand : Type 0
SpellingDeterminesTheCommand =
    (c d : DviCommand) (bytes : List ℕ) → Spells c bytes → Spells d bytes → c ≡ d

-- what spells a command that may stand there is not refused, whatever follows
abbrev pub SpelledIsNotRefused : Type 0
SpelledIsNotRefused =
    (place : Context) (c : DviCommand) (bytes more : List ℕ) → Spells c bytes
    → IsTrue (may_stand place (slice_index bytes 0)) → refusal place (bytes ++ more) ≡ None

-- bytes that are not refused begin with a spelling of a command that may stand there
abbrev pub UnrefusedIsSpelled : Type 0
UnrefusedIsSpelled =
    (place : Context) (bytes : List ℕ) → AreBytes bytes → refusal place bytes ≡ None
    → (c : DviCommand) × (prefix : List ℕ) × (rest : List ℕ) × Begins place c prefix rest bytes

-- the shortest spelling is one, and no other is shorter
abbrev pub ShortestIsLeast : Type 0
ShortestIsLeast =
    (c : DviCommand) (bytes : List ℕ) → Spells c bytes
    → Spells c (shortest_spelling c) × (length (shortest_spelling c) ≤ length bytes)

-- what is written is read back, wherever the command may stand and whatever follows: the bytes
-- begin with this command, and with no other
abbrev pub WrittenIsReadBack : Type 0
WrittenIsReadBack =
    (place : Context) (c : DviCommand) (rest : List ℕ) → Spells c (shortest_spelling c)
    → IsTrue (may_stand place (slice_index (shortest_spelling c) 0))
    → Begins place c (shortest_spelling c) rest (shortest_spelling c ++ rest)
    × ((d : DviCommand) (prefix more : List ℕ) → Begins place d prefix more (shortest_spelling c
    ++ rest) → (d ≡ c) × (prefix ≡ shortest_spelling c))
