-- Which pushes and pops belong together in a packet: Knuth, VFtoVP, "Virtual fonts" (in each packet
-- push and pop are properly nested).
use Rattle.std.specs.Prelude.{◌≡◌, ℕ, ◌≤◌, Bool, true, false, List, ◌++◌, Some}
use Rattle.std.specs.List.{count_by}
use Rattle.dvi_commands.specs.Spelling.{DviCommand, Push}
use Rattle.dvi_commands.specs.Reading.{commands_of}
use Rattle.vf_reader.specs.Programs.{is_pop}
use Rattle.vf_reader.specs.Fonts.{IsVfFile, program_with}

abbrev pub is_push : DviCommand → Bool
is_push Push = true
is_push _ = false

abbrev pub pushes : List DviCommand → ℕ
pushes commands = count_by is_push commands

abbrev pub pops : List DviCommand → ℕ
pops commands = count_by is_pop commands

-- each pop has its push before it: no beginning of the commands has more pops than pushes. And each
-- push has its pop
pub record IsBalanced (commands : List DviCommand) : Type 0 where
  pub own : (first rest : List DviCommand) → commands ≡ first ++ rest → pops first ≤ pushes first
  pub as_many : pops commands ≡ pushes commands

-- ---- a law: each packet of a VF file is balanced

abbrev pub PacketsAreBalanced : Type 0
PacketsAreBalanced =
    (bytes : List ℕ) (items : List (List ℕ)) (c : ℕ) (packet : List ℕ) → IsVfFile bytes items
    → program_with items c ≡ Some packet → IsBalanced (commands_of packet)
