-- Skippable commands by their opcodes.
use Rattle.std.proofs.Common.{◌≡◌, ℕ, suc, ◌+◌, ◌-◌, ◌<◌, ◌≤◌, Bool, true, false, List, [], ◌∷◌, ◌++◌, length, take, drop, refl, sym, ap, subst, ◌∙◌, ◌⊎◌, inl, inr, arith, length-append, length-drop, None}
use Rattle.std.specs.Prelude.{not, ◌&&◌, ◌||◌, ◌==◌, nat_le, slice_index, slice_range, IsTrue, if◌then◌else◌}
use Rattle.std.specs.Int.{is_in_range}
use Rattle.std.proofs.lemmas.Bool.{agree_below_at, and_parts, le-ltb, leb-true, ne_eqb}
use Rattle.std.proofs.lemmas.List.{take_at}
use Rattle.big_endian.specs.Numbers.{AreBytes}
use Rattle.dvi_commands.specs.Skippable.{IsSkippableTo, is_skippable, is_skippable_opcode, skippable_size}
use Rattle.dvi_commands.specs.Spelling.{DviCommand, Spells}
use Rattle.dvi_commands.specs.Refusal.{fixed_size, may_stand, refusal, size_of, gives_negative_length, text_size}
use Rattle.dvi_commands.specs.Reading.{Begins, command_of}
use Rattle.dvi_commands.specs.declared.command.Context.TheVariants as context
use Rattle.dvi_commands.proofs.FieldNumbers.{bytes_after}
use Rattle.dvi_commands.proofs.OneCommand.{prefix_of}
use Rattle.dvi_commands.proofs.Prefix.{size-spelling}
use Rattle.dvi_commands.proofs.Refusals.{spelled_some}
use Rattle.dvi_commands.proofs.Determined.{determined_by_bytes}
use Rattle.dvi_commands.proofs.Unrefused.{unrefused_is_spelled}

-- the opcode determines whether a command is skippable
opcode_tells : (op : ℕ) (fields : List ℕ) → op < 256 → is_skippable (command_of (op ∷ fields)) ≡ is_skippable_opcode op
opcode_tells op fields h = agree_below_at (λ k. is_skippable (command_of (k ∷ fields))) is_skippable_opcode 256 op refl h

-- what the opcode of a skippable command says besides
abbrev is_simple : ℕ → Bool
is_simple op = not (is_skippable_opcode op) || nat_le op 238 && may_stand context.Page op

simple : (op : ℕ) → op < 256 → is_skippable_opcode op ≡ true → (op ≤ 238) × (may_stand context.Page op ≡ true)
simple op h is =
    let all : is_simple op ≡ true = agree_below_at is_simple (λ _. true) 256 op refl h in
    let both = and_parts (nat_le op 238) (may_stand context.Page op) (rw is at all) in
    (leb-true op 238 both.0, both.1)

no_text_size : (op : ℕ) (fields : List ℕ) → op ≤ 238 → text_size op fields ≡ 0
no_text_size op fields h =
    let special : is_in_range 239 242 op ≡ false = grind arith in
    let define : is_in_range 243 246 op ≡ false = grind arith in
    let preamble : (op == 247) ≡ false = ne_eqb op 247 (λ same. omega (arith, same, h)) in
    rw (special, define, preamble) refl

not_refused : (op : ℕ) (fields : List ℕ) → op < 256 → is_skippable_opcode op ≡ true → fixed_size op ≤ length fields → refusal context.Page (op ∷ fields) ≡ None
not_refused op fields byte is room =
    let by = simple op byte is in
    let other : (op == 242) ≡ false = ne_eqb op 242 (λ same. omega (arith, same, by.0)) in
    let calm : gives_negative_length op fields ≡ false = rw other refl in
    let text_room : fixed_size op + text_size op fields ≤ length fields = omega (arith, no_text_size op fields by.0, room) in
    rw (le-ltb 249 op (omega (arith, by.0)), by.1, le-ltb (length fields) (fixed_size op) room, calm, le-ltb (length fields) (fixed_size op + text_size op fields) text_room) refl

has_length : (op : ℕ) → (skippable_size op ≡ 0 → ⊥) → is_skippable_opcode op ≡ true
has_length op some = by (is_skippable_opcode op) some
  where
    by : (skippable : Bool) → ((if skippable then suc (fixed_size op) else 0) ≡ 0 → ⊥) → skippable ≡ true
    by true h = refl
    by false h = absurd (h refl)

-- ---- bytes that begin with a command, by its opcode

skippable_by_bytes : (c : DviCommand) (prefix rest fields : List ℕ) (op : ℕ) → op < 256 → Spells c prefix → op ∷ fields ≡ prefix ++ rest → is_skippable c ≡ is_skippable_opcode op
skippable_by_bytes c [] rest fields op byte h e = absurd (omega (arith, spelled_some c [] h))
skippable_by_bytes c (b ∷ prefix) rest fields op byte h e =
    let first : b ≡ op = cc in
    ap is_skippable (determined_by_bytes c (b ∷ prefix) h) ∙ ap (λ (k : ℕ). is_skippable (command_of (k ∷ prefix))) first ∙ opcode_tells op prefix byte

no_length : (op : ℕ) → skippable_size op ≡ 0 → is_skippable_opcode op ≡ false
no_length op e = by (is_skippable_opcode op) e
  where
    by : (skippable : Bool) → (if skippable then suc (fixed_size op) else 0) ≡ 0 → skippable ≡ false
    by true e = cc
    by false e = refl

at_most : (op : ℕ) → skippable_size op ≤ suc (fixed_size op)
at_most op = by (is_skippable_opcode op)
  where
    by : (skippable : Bool) → (if skippable then suc (fixed_size op) else 0) ≤ suc (fixed_size op)
    by true = omega arith
    by false = omega arith

-- an opcode and what stands after it
module _ (op : ℕ) (fields : List ℕ) (few : AreBytes (op ∷ fields)) where
  -- the beginning of the bytes, as long as the opcode says
  skippable_prefix : is_skippable_opcode op ≡ true → fixed_size op ≤ length fields
      → (c : DviCommand) × IsTrue (is_skippable c) × (may_stand context.Page op ≡ true) × Spells c (take (suc (fixed_size op)) (op ∷ fields))
  skippable_prefix is room =
      let none = not_refused op fields few.0 is room in
      let found = unrefused_is_spelled context.Page (op ∷ fields) few none in
      let text : text_size op fields ≡ 0 = no_text_size op fields (simple op few.0 is).0 in
      let size : length found.1 ≡ suc (fixed_size op) =
      sym (size-spelling found.0 found.1 found.2 found.3.spelled) ∙ ap size_of (sym found.3.whole) ∙ omega (arith, text) in
      let prefix : take (suc (fixed_size op)) (op ∷ fields) ≡ found.1 = ap (λ (b : List ℕ). take (suc (fixed_size op)) b) found.3.whole ∙ take_at found.1 found.2 (suc (fixed_size op)) size in
      let skippable : is_skippable found.0 ≡ true = skippable_by_bytes found.0 found.1 found.2 fields op few.0 found.3.spelled found.3.whole ∙ is in
      (found.0, skippable, (simple op few.0 is).1, subst (Spells found.0) (sym prefix) found.3.spelled)

  -- what begins with another opcode, or is shorter, begins with no skippable command
  not_skippable_prefix : (n : ℕ) (c : DviCommand) (prefix rest : List ℕ) → n ≡ skippable_size op → (n ≡ 0) ⊎ (suc (length fields) < n) → Spells c prefix → op ∷ fields ≡ prefix ++ rest → is_skippable c ≡ false
  not_skippable_prefix n c prefix rest size (inl none) spelled whole =
      skippable_by_bytes c prefix rest fields op few.0 spelled whole ∙ no_length op (sym size ∙ none)
  not_skippable_prefix n c prefix rest size (inr cut) spelled whole =
      let sized : size_of (op ∷ fields) ≡ length prefix = ap size_of whole ∙ size-spelling c prefix rest spelled in
      let room : suc (length fields) ≡ length prefix + length rest = ap length whole ∙ length-append prefix rest in
      absurd (omega (arith, sized, room, at_most op, size, cut))

-- ---- a place of bytes

module _ (bytes : List ℕ) (at n : ℕ) (few : AreBytes bytes) (here : at < length bytes) (length_is : n ≡ skippable_size (slice_index bytes at)) where
  whole : drop at bytes ≡ slice_index bytes at ∷ drop (at + 1) bytes
  whole = prefix_of bytes at here

  few_there : AreBytes (slice_index bytes at ∷ drop (at + 1) bytes)
  few_there = subst AreBytes whole (bytes_after at bytes few)

  long : length (drop (at + 1) bytes) ≡ length bytes - (at + 1)
  long = length-drop (at + 1) bytes

  -- where the opcode is of a skippable command that is all there, the command stands there
  pub skippable_here : (n ≡ 0 → ⊥) → n ≤ length bytes - at → IsSkippableTo bytes at (at + n)
  skippable_here some room =
      let is : is_skippable_opcode (slice_index bytes at) ≡ true = has_length (slice_index bytes at) (λ none. some (length_is ∙ none)) in
      let size : n ≡ suc (fixed_size (slice_index bytes at)) = length_is ∙ rw is refl in
      let found = skippable_prefix (slice_index bytes at) (drop (at + 1) bytes) few_there is (omega (arith, long, size, room)) in
      let span : suc (fixed_size (slice_index bytes at)) ≡ at + n - at = omega (arith, size) in
      let prefix : take (suc (fixed_size (slice_index bytes at))) (slice_index bytes at ∷ drop (at + 1) bytes) ≡ slice_range bytes at (at + n) =
      ap (λ (k : ℕ). take k (slice_index bytes at ∷ drop (at + 1) bytes)) span ∙ ap (λ (b : List ℕ). take (at + n - at) b) (sym whole) in
      record {
        command = found.0;
        skippable = found.1;
        some = omega (arith, size);
        within = omega (arith, room, here);
        spelled = subst (Spells found.0) prefix found.3;
        allowed = found.2;
      }

  -- where it is not, no skippable command does
  pub none_plain : (c : DviCommand) (prefix rest : List ℕ) → (n ≡ 0) ⊎ (length bytes - at < n) → Begins context.Page c prefix rest (drop at bytes) → is_skippable c ≡ false
  none_plain c prefix rest (inl none) begins =
      not_skippable_prefix (slice_index bytes at) (drop (at + 1) bytes) few_there n c prefix rest length_is (inl none) begins.spelled (sym whole ∙ begins.whole)
  none_plain c prefix rest (inr cut) begins =
      not_skippable_prefix (slice_index bytes at) (drop (at + 1) bytes) few_there n c prefix rest length_is (inr (omega (arith, long, cut, here))) begins.spelled (sym whole ∙ begins.whole)
