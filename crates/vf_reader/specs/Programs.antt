-- The commands of a packet: Knuth, VFtoVP, "Virtual fonts". They are judged from the left.
use Rattle.std.specs.Prelude.{◌≡◌, ◌⊎◌, ℕ, suc, ◌-◌, ◌<◌, ◌==◌, ℤ, pos, Bool, true, false, not, ◌&&◌, List, [], ◌∷◌, length, int_le, int_lt, if◌then◌else◌, Option, Some, None}
use Rattle.std.specs.List.{list_all}
use Rattle.dvi_commands.specs.Spelling.{DviCommand, SetRule, PutRule, Push, Pop, Right, W, X, Down, Y, Z}
use Rattle.dvi_commands.specs.Refusal.{refusal}
use Rattle.dvi_commands.specs.Reading.{Begins}
use Rattle.dvi_commands.specs.declared.command.Context.TheVariants as context
use Rattle.dvi_commands.specs.declared.command.CommandFault.{CommandFault}
use Rattle.fix_word.specs.FixWords.{FIX_WORDS, LEAST_FIX_WORD}
use Rattle.vf_reader.specs.declared.faults.VfFault.{VfFault}
use Rattle.vf_reader.specs.declared.faults.VfFault.TheVariants.{Packet, Unbalanced, Dimension}

-- ---- one command

-- a fix_word from -16 to less than 16
abbrev pub is_dimension : ℤ → Bool
is_dimension z = int_le LEAST_FIX_WORD z && int_lt z (pos FIX_WORDS)

-- the motions and the sides of rules, as fix_words
abbrev pub dimensions : DviCommand → List ℤ
dimensions (SetRule a b) = a ∷ b ∷ []
dimensions (PutRule a b) = a ∷ b ∷ []
dimensions (Right b) = b ∷ []
dimensions (W b) = b ∷ []
dimensions (X b) = b ∷ []
dimensions (Down a) = a ∷ []
dimensions (Y a) = a ∷ []
dimensions (Z a) = a ∷ []
dimensions _ = []

abbrev pub is_pop : DviCommand → Bool
is_pop Pop = true
is_pop _ = false

-- how many pushes are open after a command, where n were before it
abbrev pub open_after : ℕ → DviCommand → ℕ
open_after depth Push = suc depth
open_after depth Pop = depth - 1
open_after depth _ = depth

-- what is wrong with a command in the packet of a code, where n pushes are open
abbrev pub command_fault : ℕ → ℕ → DviCommand → Option VfFault
command_fault code depth c =
    if not (list_all is_dimension (dimensions c)) then Some (Dimension code)
    else if is_pop c && depth == 0 then Some (Unbalanced code)
    else None

-- ---- all commands

-- the bytes are these commands, one after another, with nothing wrong, and each push has its pop; n
-- pushes are open before them
abbrev pub AreSoundFrom : ℕ → ℕ → List DviCommand → List ℕ → Type 0
AreSoundFrom code depth [] bytes = (bytes ≡ []) × (depth ≡ 0)
AreSoundFrom code depth (c ∷ commands) bytes =
    (prefix : List ℕ) × (rest : List ℕ) × Begins context.Packet c prefix rest bytes
    × (command_fault code depth c ≡ None)
    × AreSoundFrom code (open_after depth c) commands rest

-- a packet of a code has these commands
abbrev pub AreCommandsOf : ℕ → List ℕ → List DviCommand → Type 0
AreCommandsOf code bytes commands = AreSoundFrom code 0 commands bytes

-- nothing is left where a push is open
abbrev pub IsLeftOpen : ℕ → ℕ → List ℕ → VfFault → Type 0
IsLeftOpen code depth bytes f = (bytes ≡ []) × (0 < depth) × (f ≡ Unbalanced code)

-- no command can be read
abbrev pub IsUnread : ℕ → List ℕ → VfFault → Type 0
IsUnread code bytes f =
    (0 < length bytes) × (found : CommandFault) × (refusal context.Packet bytes ≡ Some found)
    × (f ≡ Packet code found)

-- a command is read, and something is wrong with it
pub record IsWrongCommand (code depth : ℕ) (bytes : List ℕ) (f : VfFault) : Type 0 where
  pub command : DviCommand
  pub prefix : List ℕ
  pub rest : List ℕ
  pub begins : Begins context.Packet command prefix rest bytes
  pub wrong : command_fault code depth command ≡ Some f

abbrev pub IsFaultHere : ℕ → ℕ → List ℕ → VfFault → Type 0
IsFaultHere code depth bytes f =
    IsLeftOpen code depth bytes f ⊎ (IsUnread code bytes f ⊎ IsWrongCommand code depth bytes f)

-- the bytes begin with these commands, with nothing wrong, and the fault is after them
abbrev pub IsFaultAfterCommands : ℕ → ℕ → List DviCommand → List ℕ → VfFault → Type 0
IsFaultAfterCommands code depth [] bytes f = IsFaultHere code depth bytes f
IsFaultAfterCommands code depth (c ∷ commands) bytes f =
    (prefix : List ℕ) × (rest : List ℕ) × Begins context.Packet c prefix rest bytes
    × (command_fault code depth c ≡ None)
    × IsFaultAfterCommands code (open_after depth c) commands rest f

-- the first fault of a packet's commands
abbrev pub IsProgramFault : ℕ → List ℕ → VfFault → Type 0
IsProgramFault code bytes f =
    (commands : List DviCommand) × IsFaultAfterCommands code 0 commands bytes f
