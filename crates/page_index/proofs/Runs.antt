-- Commands that are spelled one after another.
use Rattle.std.proofs.Common.{◌≡◌, ℕ, ◌+◌, List, [], ◌∷◌, ◌++◌, length, refl, sym, ap, ◌∙◌, arith, append_assoc, append-nil, length-append}
use Rattle.std.specs.Prelude.{slice_index, IsTrue}
use Rattle.dvi_commands.specs.Spelling.{DviCommand, Spells}
use Rattle.dvi_commands.specs.Refusal.{may_stand}
use Rattle.dvi_commands.specs.Reading.{AreCommands, Placed, Reads, placed_from}
use Rattle.dvi_commands.specs.declared.command.Context.TheVariants as context
use Rattle.dvi_commands.proofs.Commands.{placed_first, placed_none}
use Rattle.page_index.specs.Walked.{AreOnPage, Runs}

-- one more at the end
pub runs_more : (at : ℕ) (commands : List Placed) (bytes : List ℕ) (c : Placed) → Runs at commands bytes → c.at ≡ at + length bytes → Spells c.command c.bytes
    → Runs at (commands ++ c ∷ []) (bytes ++ c.bytes)
runs_more at [] bytes c runs place spelled =
    let none : length bytes ≡ 0 = ap length runs in
    ([], ap (λ (b : List ℕ). b ++ c.bytes) runs ∙ sym (append-nil c.bytes), omega (arith, place, none), spelled, refl)
runs_more at (d ∷ commands) bytes c runs place spelled =
    let rest = runs.0 in
    let long : length bytes ≡ length d.bytes + length rest = ap length runs.1 ∙ length-append d.bytes rest in
    let after : c.at ≡ (at + length d.bytes) + length rest = omega (arith, place, long) in (
      rest ++ c.bytes,
      ap (λ (b : List ℕ). b ++ c.bytes) runs.1 ∙ append_assoc d.bytes rest c.bytes,
      runs.2,
      runs.3,
      runs_more (at + length d.bytes) commands rest c runs.4 after spelled,
    )

pub on_page_more : (commands : List Placed) (c : Placed) → AreOnPage commands → IsTrue (may_stand context.Page (slice_index c.bytes 0)) → AreOnPage (commands ++ c ∷ [])
on_page_more [] c all one = (one, tt)
on_page_more (d ∷ commands) c all one = (all.0, on_page_more commands c all.1 one)

-- they are what the bytes are read as
pub runs_placed : (at : ℕ) (commands : List Placed) (bytes : List ℕ) → Runs at commands bytes → placed_from at bytes ≡ commands
runs_placed at [] bytes runs = ap (placed_from at) runs ∙ placed_none at
runs_placed at (c ∷ commands) bytes runs =
    let place : at ≡ c.at = sym runs.2 in
    ap (placed_from at) runs.1 ∙ placed_first at c.command c.bytes runs.0 runs.3
    ∙ ap (λ (n : ℕ). record { at = n; command = c.command; bytes = c.bytes } ∷ placed_from (at + length c.bytes) runs.0) place
    ∙ ap (λ (cs : List Placed). c ∷ cs) (runs_placed (at + length c.bytes) commands runs.0 runs.4)

-- and on a page they are read to the end of the bytes
abbrev alone : List Placed → List DviCommand
alone [] = []
alone (c ∷ commands) = c.command ∷ alone commands

are_commands : (at : ℕ) (commands : List Placed) (bytes : List ℕ) → Runs at commands bytes → AreOnPage commands → AreCommands context.Page (alone commands) bytes
are_commands at [] bytes runs all = runs
are_commands at (c ∷ commands) bytes runs all = (
  c.bytes,
  runs.0,
  record { whole = runs.1; spelled = runs.3; allowed = all.0 },
  are_commands (at + length c.bytes) commands runs.0 runs.4 all.1,
)

pub runs_read : (at : ℕ) (commands : List Placed) (bytes : List ℕ) → Runs at commands bytes → AreOnPage commands → Reads context.Page bytes
runs_read at commands bytes runs all = record { commands = alone commands; are = are_commands at commands bytes runs all }
