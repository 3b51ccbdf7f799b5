-- Bytes as commands: which command a spelling is of, and which commands bytes are, one after
-- another. Knuth, DVItype, "Device-independent file format". Since no spelling begins another and a
-- spelling determines its command, these functions are the inverse of `spelling`, as the laws say;
-- of bytes that are no commands they say nothing.
use Rattle.std.specs.Prelude.{◌≡◌, ℕ, zero, suc, ◌+◌, ◌-◌, ◌==◌, ℤ, pos, List, [], ◌∷◌, ◌++◌, length, take, drop, nat_le, if◌then◌else◌, slice_index, IsTrue}
use Rattle.big_endian.specs.Numbers.{unsigned_of, signed_of}
use Rattle.dvi_commands.specs.Spelling.{DviCommand, Definition, Set, Put, SetRule, PutRule, Nop, Bop, Eop, Push, Pop, Right, W0, W, X0, X, Down, Y0, Y, Z0, Z, Font, Special, Define, Pre, Post, PostPost, Spells}
use Rattle.dvi_commands.specs.Refusal.{may_stand, size_of}
use Rattle.dvi_commands.specs.declared.command.Context.{Context}

-- ---- the command of a spelling

-- four bytes of the fields, signed
abbrev pub signed_from : List ℕ → ℕ → ℤ
signed_from fields i = signed_of (take 4 (drop i fields))

-- the number of a character, a font or a special, of n bytes
abbrev pub code : ℕ → List ℕ → ℤ
code n fields = if n == 4 then signed_of (take 4 fields) else pos (unsigned_of (take n fields))

-- n numbers of four bytes
abbrev pub quads : ℕ → List ℕ → List ℤ
quads zero fields = []
quads (suc n) fields = signed_of (take 4 fields) ∷ quads n (drop 4 fields)

-- the definition of a font whose number has n bytes
abbrev pub definition_in : ℕ → List ℕ → Definition
definition_in n f =
    record {
      number = code n f;
      check = unsigned_of (take 4 (drop n f));
      size = signed_from f (n + 4);
      design = signed_from f (n + 8);
      area =
          slice_index f (n + 12);
      name = drop (n + 14) f;
    }

-- the command of a spelling
abbrev pub command_of : List ℕ → DviCommand
command_of [] = Nop
command_of (op ∷ f) =
    if nat_le op 127 then Set (pos op)
    else if nat_le op 131 then Set (code (op - 127) f)
    else if nat_le op 132 then SetRule (signed_from f 0) (signed_from f 4)
    else if nat_le op 136 then Put (code (op - 132) f)
    else if nat_le op 137 then PutRule (signed_from f 0) (signed_from f 4)
    else if nat_le op 138 then Nop
    else if nat_le op 139 then Bop (quads 10 f) (signed_from f 40)
    else if nat_le op 140 then Eop
    else if nat_le op 141 then Push
    else if nat_le op 142 then Pop
    else if nat_le op 146 then Right (signed_of (take (op - 142) f))
    else if nat_le op 147 then W0
    else if nat_le op 151 then W (signed_of (take (op - 147) f))
    else if nat_le op 152 then X0
    else if nat_le op 156 then X (signed_of (take (op - 152) f))
    else if nat_le op 160 then Down (signed_of (take (op - 156) f))
    else if nat_le op 161 then Y0
    else if nat_le op 165 then Y (signed_of (take (op - 161) f))
    else if nat_le op 166 then Z0
    else if nat_le op 170 then Z (signed_of (take (op - 166) f))
    else if nat_le op 234 then Font (pos (op - 171))
    else if nat_le op 238 then Font (code (op - 234) f)
    else if nat_le op 242 then Special (drop (op - 238) f)
    else if nat_le op 246 then Define (definition_in (op - 242) f)
    else if nat_le op 247
    then Pre (record {
      id = slice_index f 0;
      num = signed_from f 1;
      den = signed_from f 5;
      mag = signed_from f 9;
      text = drop 14 f;
    })
    else if nat_le op 248
    then Post (record {
      back = signed_from f 0;
      num = signed_from f 4;
      den = signed_from f 8;
      mag = signed_from f 12;
      tallest = signed_from f 16;
      widest = signed_from f 20;
      deepest =
          unsigned_of (take 2 (drop 24 f));
      pages = unsigned_of (take 2 (drop 26 f));
    })
    else PostPost (signed_from f 0) (slice_index f 4)

-- ---- the commands of bytes

-- a command with its bytes and the position of the first of them
pub record Placed : Type 0 where
  pub at : ℕ
  pub command : DviCommand
  pub bytes : List ℕ

abbrev pub placed : ℕ → DviCommand → List ℕ → Placed
placed at c bytes = record { at = at; command = c; bytes = bytes }

-- at most n commands of the bytes, the first of which stands at a position
abbrev pub placed_in : ℕ → ℕ → List ℕ → List Placed
placed_in zero at bytes = []
placed_in (suc n) at [] = []
placed_in (suc n) at (b ∷ bytes) =
    let size = size_of (b ∷ bytes) in
    placed at (command_of (take size (b ∷ bytes))) (take size (b ∷ bytes)) ∷ placed_in n (at + size)
    (drop size (b ∷ bytes))

-- the commands of the bytes, which begin at a position
unfoldable pub placed_from : ℕ → List ℕ → List Placed
placed_from at bytes = placed_in (length bytes) at bytes

abbrev pub commands_in : ℕ → List ℕ → List DviCommand
commands_in zero bytes = []
commands_in (suc n) [] = []
commands_in (suc n) (b ∷ bytes) =
    let size = size_of (b ∷ bytes) in
    command_of (take size (b ∷ bytes)) ∷ commands_in n (drop size (b ∷ bytes))

-- the commands of the bytes alone
unfoldable pub commands_of : List ℕ → List DviCommand
commands_of bytes = commands_in (length bytes) bytes

-- ---- bytes that are whole commands

-- the bytes begin with a spelling of a command that may stand there
pub record Begins (place : Context) (c : DviCommand) (prefix rest bytes : List ℕ) : Type 0 where
  pub whole : bytes ≡ prefix ++ rest
  pub spelled : Spells c prefix
  pub allowed : IsTrue (may_stand place (slice_index prefix 0))

-- the bytes are these commands, one after another, each where it may stand
abbrev pub AreCommands : Context → List DviCommand → List ℕ → Type 0
AreCommands place [] bytes = bytes ≡ []
AreCommands place (c ∷ commands) bytes =
    (prefix : List ℕ) × (rest : List ℕ) × Begins place c prefix rest bytes
    × AreCommands place commands rest

-- the bytes are read to their end, each command where it may stand
pub record Reads (place : Context) (bytes : List ℕ) : Type 0 where
  pub commands : List DviCommand
  pub are : AreCommands place commands bytes

-- ---- laws: bytes that begin with a spelling of a command are that command and those after it

abbrev pub PlacedFirst : Type 0
PlacedFirst = (at : ℕ) (c : DviCommand) (prefix rest : List ℕ) → Spells c prefix
    → placed_from at (prefix ++ rest) ≡ placed at c prefix ∷ placed_from (at + length prefix) rest

abbrev pub CommandsFirst : Type 0
CommandsFirst =
    (c : DviCommand) (prefix rest : List ℕ) → Spells c prefix
    → commands_of (prefix ++ rest) ≡ c ∷ commands_of rest

abbrev pub NothingAfterTheLast : Type 0
NothingAfterTheLast = ((at : ℕ) → placed_from at [] ≡ []) × (commands_of [] ≡ [])
