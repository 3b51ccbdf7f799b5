-- Skippable commands: those of a page that set, move, save or restore the registers, choose a font
-- or do nothing, and so change nothing of a document but how far it is read.
use Rattle.std.specs.Prelude.{ℕ, suc, ◌<◌, ◌≤◌, Bool, true, false, ◌||◌, nat_le, if◌then◌else◌, List, length, slice_index, slice_range, IsTrue}
use Rattle.std.specs.Int.{is_in_range}
use Rattle.dvi_commands.specs.Spelling.{DviCommand, Bop, Eop, Special, Define, Pre, Post, PostPost, Spells}
use Rattle.dvi_commands.specs.Refusal.{fixed_size, may_stand}
use Rattle.dvi_commands.specs.declared.command.Context.TheVariants as context

-- neither at the ends of a document or a page, nor a definition or a text
abbrev pub is_skippable : DviCommand → Bool
is_skippable (Bop counts back) = false
is_skippable Eop = false
is_skippable (Special text) = false
is_skippable (Define d) = false
is_skippable (Pre p) = false
is_skippable (Post p) = false
is_skippable (PostPost q id) = false
is_skippable _ = true

-- their opcodes
abbrev pub is_skippable_opcode : ℕ → Bool
is_skippable_opcode op = nat_le op 138 || is_in_range 141 238 op

-- how many bytes a skippable command has, by its opcode, and 0 for an opcode of no skippable
-- command
abbrev pub skippable_size : ℕ → ℕ
skippable_size op = if is_skippable_opcode op then suc (fixed_size op) else 0

-- a skippable command stands at a place of the bytes, where a page may have it, and another place
-- is after it
pub record IsSkippableTo (bytes : List ℕ) (at next : ℕ) : Type 0 where
  pub command : DviCommand
  pub skippable : IsTrue (is_skippable command)
  pub some : at < next
  pub within : next ≤ length bytes
  pub spelled : Spells command (slice_range bytes at next)
  pub allowed : IsTrue (may_stand context.Page (slice_index bytes at))
