-- Where bytes begin with no character that is set or put.
use Rattle.std.proofs.Common.{◌≡◌, ◌∙◌, ℕ, zero, suc, ◌+◌, ◌<◌, ◌≤◌, ℤ, pos, negsuc, Bool, true, false, List, [], ◌∷◌, ◌++◌, length, length-append, length-drop, drop, refl, sym, ap, arith, inl, inr}
use Rattle.std.specs.Prelude.{slice_index}
use Rattle.std.proofs.lemmas.List.{get_or-drop}
use Rattle.dvi_commands.specs.declared.command.Context.{Context}
use Rattle.dvi_commands.specs.declared.command.Command.{Command}
use Rattle.dvi_commands.specs.declared.command.Command.TheVariants as lent
use Rattle.dvi_commands.specs.Spelling.{DviCommand, HasWidth, IsOperand, Nop, Put, Set, value_of_command, spelling}
use Rattle.dvi_commands.specs.Reading.{Begins, commands_of}
use Rattle.dvi_commands.proofs.Commands.{commands_first, commands_on}
use Rattle.dvi_commands.proofs.Refusals.{spelled_some}
use Rattle.vf_expand.specs.Sets.{IsSetTo, SetsNothing, character_command}

-- ---- by the opcode

few : (n : ℕ) (z : ℤ) → IsOperand n z → n ≤ 4
few n z (inl h) = omega (arith, h.1)
few n z (inr h) = omega (arith, h.0)

-- a spelling of a character that is set or put begins with an opcode up to 136
set_spelling : (code : ℤ) (put : Bool) (n : ℕ) → HasWidth (character_command code put) n
    → (op : ℕ) × (fields : List ℕ) × (spelling (character_command code put) n ≡ op ∷ fields) × (op ≤ 136)
set_spelling (pos m) false zero h = (0 + m, [], refl, omega (arith, h))
set_spelling (negsuc m) false zero h = absurd h
set_spelling code false (suc n) h = (127 + suc n, _, refl, omega (arith, few (suc n) code h))
set_spelling code true n h = (132 + n, _, refl, omega (arith, few n code h))

module _ (context : Context) (text : List ℕ) (at : ℕ) where
  pub nothing_at_the_end : at ≡ length text → SetsNothing context (drop at text)
  nothing_at_the_end ended = λ code put first rest begins.
      absurd (omega (arith, ended, ap length begins.whole, length-drop at text, length-append first rest, spelled_some (character_command code put) first begins.spelled))

  pub nothing_above : 136 < slice_index text at → SetsNothing context (drop at text)
  nothing_above above = λ code put first rest begins.
      let set = set_spelling code put begins.spelled.0 begins.spelled.1 in
      let whole : drop at text ≡ set.0 ∷ (set.1 ++ rest) = begins.whole ∙ ap (λ (prefix : List ℕ). prefix ++ rest) (begins.spelled.2 ∙ set.2) in
      let here : slice_index (drop at text) 0 ≡ set.0 = ap (λ (bytes : List ℕ). slice_index bytes 0) whole in
      let same : slice_index (drop at text) 0 ≡ slice_index text (at + 0) = get_or-drop at text 0 0 in
      let place : at + 0 ≡ at = omega arith in
      absurd (omega (arith, above, set.3, here, same, ap (slice_index text) place))

  first_of : List DviCommand → DviCommand
  first_of [] = Nop
  first_of (c ∷ commands) = c

  pub nothing_else : (c : DviCommand) (commands : List DviCommand) → commands_of (drop at text) ≡ c ∷ commands → ((code : ℤ) (put : Bool) → c ≡ character_command code put → ⊥)
      → SetsNothing context (drop at text)
  unfolding first_of
  nothing_else c commands told other = λ code put first rest begins.
      let both = sym (commands_first (character_command code put) first rest begins.spelled) ∙ sym (ap commands_of begins.whole) ∙ told in
      other code put (sym (ap first_of both))

  code_of : DviCommand → ℤ
  code_of (Set code) = code
  code_of (Put code) = code
  code_of c = pos 0

  code_is : (code : ℤ) (put : Bool) → code_of (character_command code put) ≡ code
  unfolding code_of
  code_is code false = refl
  code_is code true = refl

  -- no other character is set or put there
  pub set_alone : (code : ℤ) (put : Bool) (end : ℕ) → IsSetTo text at code put end → (other : ℤ) (other_put : Bool) (first rest : List ℕ)
      → Begins context (character_command other other_put) first rest (drop at text) → other ≡ code
  unfolding first_of
  set_alone code put end set other other_put first rest begins =
      let both = sym (commands_first (character_command other other_put) first rest begins.spelled) ∙ sym (ap commands_of begins.whole)
      ∙ commands_on text at end (character_command code put) set.after set.spelled in
      sym (code_is other other_put) ∙ ap code_of (ap first_of both) ∙ code_is code put

-- ---- a command of the code

no_set : (c : Command) → ((code : ℤ) → c ≡ lent.Set code → ⊥) → (code : ℤ) → value_of_command c ≡ Set code → ⊥
no_set (lent.Set z) other code e = other z refl
no_set (lent.Put z) other code e = absurd cc
no_set (lent.SetRule a b) other code e = absurd cc
no_set (lent.PutRule a b) other code e = absurd cc
no_set lent.Nop other code e = absurd cc
no_set (lent.Bop counts back) other code e = absurd cc
no_set lent.Eop other code e = absurd cc
no_set lent.Push other code e = absurd cc
no_set lent.Pop other code e = absurd cc
no_set (lent.Right b) other code e = absurd cc
no_set lent.W0 other code e = absurd cc
no_set (lent.W b) other code e = absurd cc
no_set lent.X0 other code e = absurd cc
no_set (lent.X b) other code e = absurd cc
no_set (lent.Down a) other code e = absurd cc
no_set lent.Y0 other code e = absurd cc
no_set (lent.Y a) other code e = absurd cc
no_set lent.Z0 other code e = absurd cc
no_set (lent.Z a) other code e = absurd cc
no_set (lent.Font k) other code e = absurd cc
no_set (lent.Special text) other code e = absurd cc
no_set (lent.Define d) other code e = absurd cc
no_set (lent.Pre id num den mag text) other code e = absurd cc
no_set (lent.Post back num den mag tallest widest deepest pages) other code e = absurd cc
no_set (lent.PostPost q id) other code e = absurd cc

no_put : (c : Command) → ((code : ℤ) → c ≡ lent.Put code → ⊥) → (code : ℤ) → value_of_command c ≡ Put code → ⊥
no_put (lent.Set z) other code e = absurd cc
no_put (lent.Put z) other code e = other z refl
no_put (lent.SetRule a b) other code e = absurd cc
no_put (lent.PutRule a b) other code e = absurd cc
no_put lent.Nop other code e = absurd cc
no_put (lent.Bop counts back) other code e = absurd cc
no_put lent.Eop other code e = absurd cc
no_put lent.Push other code e = absurd cc
no_put lent.Pop other code e = absurd cc
no_put (lent.Right b) other code e = absurd cc
no_put lent.W0 other code e = absurd cc
no_put (lent.W b) other code e = absurd cc
no_put lent.X0 other code e = absurd cc
no_put (lent.X b) other code e = absurd cc
no_put (lent.Down a) other code e = absurd cc
no_put lent.Y0 other code e = absurd cc
no_put (lent.Y a) other code e = absurd cc
no_put lent.Z0 other code e = absurd cc
no_put (lent.Z a) other code e = absurd cc
no_put (lent.Font k) other code e = absurd cc
no_put (lent.Special text) other code e = absurd cc
no_put (lent.Define d) other code e = absurd cc
no_put (lent.Pre id num den mag text) other code e = absurd cc
no_put (lent.Post back num den mag tallest widest deepest pages) other code e = absurd cc
no_put (lent.PostPost q id) other code e = absurd cc

pub no_character : (c : Command) → ((code : ℤ) → c ≡ lent.Set code → ⊥) → ((code : ℤ) → c ≡ lent.Put code → ⊥) → (code : ℤ) (put : Bool) → value_of_command c ≡ character_command code put → ⊥
no_character c set put code false e = no_set c set code e
no_character c set put code true e = no_put c put code e
