-- One command at a place of bytes: why it is refused, and what it is where it isn't.
use Rattle.std.proofs.Common.{◌≡◌, ℕ, suc, ◌+◌, ◌-◌, ◌<◌, ◌≤◌, Bool, true, false, List, [], ◌∷◌, ◌++◌, length, take, drop, refl, sym, ap, subst, ◌∙◌, arith, add-one, drop-cons, length-drop, length-take, Some}
use Rattle.std.specs.Prelude.{◌==◌, slice_index, slice_range, IsTrue}
use Rattle.std.specs.Int.{is_in_range}
use Rattle.std.proofs.lemmas.Bool.{le-ltb, lt-ltb, ne_eqb}
use Rattle.std.proofs.lemmas.List.{get_or-take, take_all, take-take}
use Rattle.std.proofs.Math.Seq.{take-add}
use Rattle.dvi_commands.specs.Spelling.{DviCommand, Spells}
use Rattle.dvi_commands.specs.Refusal.{fixed_size, may_stand, refusal, gives_negative_length, text_size}
use Rattle.dvi_commands.specs.Reading.{Begins}
use Rattle.dvi_commands.specs.declared.command.Context.{Context}
use Rattle.dvi_commands.specs.declared.command.CommandFault.{CommandFault}
use Rattle.dvi_commands.specs.declared.command.CommandFault.TheVariants.{Misplaced, NegativeLength, Short}
use Rattle.dvi_commands.proofs.Opcodes.{by_kind}
use Rattle.dvi_commands.proofs.Prefix.{by_width, no_spelling_begins_another}
use Rattle.dvi_commands.proofs.Refusals.{spelled_is_not_refused}
use Rattle.dvi_commands.proofs.Determined.{spelling_determines_the_command}
use Rattle.dvi_commands.proofs.Commands.{parted}

pub prefix_of : (bytes : List ℕ) (at : ℕ) → at < length bytes → drop at bytes ≡ slice_index bytes at ∷ drop (at + 1) bytes
prefix_of bytes at h = drop-cons bytes at 0 h ∙ ap (λ k. slice_index bytes at ∷ drop k bytes) (sym (add-one at))

-- a single byte at a place
pub one_byte : (bytes : List ℕ) (at : ℕ) → at < length bytes → slice_range bytes at (at + 1) ≡ slice_index bytes at ∷ []
one_byte bytes at h =
    let one : at + 1 - at ≡ 1 = omega arith in
    ap (λ n. take n (drop at bytes)) one ∙ ap (take 1) (prefix_of bytes at h)

-- all that stands after a place, as the code writes it
pub after_place : (bytes : List ℕ) (i : ℕ) → take (length bytes - i) (drop i bytes) ≡ drop i bytes
after_place bytes i = take_all (length bytes - i) (drop i bytes) (omega (arith, length-drop i bytes))

-- ---- refusals

pub not_true : (b : Bool) → (IsTrue b → true ≡ false) → b ≡ false
not_true true h = h refl
not_true false h = refl

pub misplaced : (place : Context) (bytes : List ℕ) (at : ℕ) → at < length bytes → slice_index bytes at ≤ 249 → may_stand place (slice_index bytes at) ≡ false
    → refusal place (drop at bytes) ≡ Some (Misplaced (slice_index bytes at))
misplaced place bytes at h low refused = ap (refusal place) (prefix_of bytes at h) ∙ rw (le-ltb 249 (slice_index bytes at) low, refused) refl

pub cut_fields : (place : Context) (bytes : List ℕ) (at : ℕ) → at < length bytes → slice_index bytes at ≤ 249 → may_stand place (slice_index bytes at) ≡ true
    → length (drop (at + 1) bytes) < fixed_size (slice_index bytes at) → refusal place (drop at bytes) ≡ Some Short
cut_fields place bytes at h low allowed cut =
    ap (refusal place) (prefix_of bytes at h)
    ∙ rw (le-ltb 249 (slice_index bytes at) low, allowed, lt-ltb (length (drop (at + 1) bytes)) (fixed_size (slice_index bytes at)) cut) refl

-- ---- the fields give the length of the text, whatever stands after them

abbrev LengthsAlike : List ℕ → ℕ → Type 0
LengthsAlike after op = (text_size op (take (fixed_size op) after) ≡ text_size op after) × (gives_negative_length op (take (fixed_size op) after) ≡ gives_negative_length op after)

skippable_given : (after : List ℕ) (op : ℕ) → op < 239 → LengthsAlike after op
skippable_given after op low =
    let special : is_in_range 239 242 op ≡ false = grind arith in
    let define : is_in_range 243 246 op ≡ false = grind arith in
    let preamble : (op == 247) ≡ false = ne_eqb op 247 (λ same. omega (arith, same, low)) in
    let four : (op == 242) ≡ false = ne_eqb op 242 (λ same. omega (arith, same, low)) in
    (rw (special, define, preamble) refl, rw four refl)

again : (n : ℕ) (after : List ℕ) → take n (take n after) ≡ take n after
again n after = take-take n n after (omega arith)

special_given : (after : List ℕ) (n : ℕ) → 1 ≤ n → n ≤ 4 → LengthsAlike after (238 + n)
special_given after n low high =
    by_width (λ n. LengthsAlike after (238 + n)) (rw (again 1 after) refl, refl) (rw (again 2 after) refl, refl) (rw (again 3 after) refl, refl) (rw (again 4 after) refl, rw (again 4 after) refl) n low high

lengths_given : (n : ℕ) (after : List ℕ) → slice_index (take (n + 14) after) (n + 12) + slice_index (take (n + 14) after) (n + 13) ≡ slice_index after (n + 12) + slice_index after (n + 13)
lengths_given n after = rw (get_or-take (n + 14) after (n + 12) 0 (omega arith), get_or-take (n + 14) after (n + 13) 0 (omega arith)) refl

define_given : (after : List ℕ) (n : ℕ) → 1 ≤ n → n ≤ 4 → LengthsAlike after (242 + n)
define_given after n low high =
    by_width (λ n. LengthsAlike after (242 + n)) (lengths_given 1 after, refl) (lengths_given 2 after, refl) (lengths_given 3 after, refl) (lengths_given 4 after, refl) n low high

pub lengths_alike : (op : ℕ) (after : List ℕ) → op ≤ 249 → LengthsAlike after op
lengths_alike op after known = by_kind (LengthsAlike after) op (skippable_given after op) (special_given after) (define_given after) (get_or-take 14 after 13 0 (omega arith), refl) (refl, refl) (refl, refl) known

pub negative : (place : Context) (bytes : List ℕ) (at size : ℕ) (fields : List ℕ) → at < length bytes → slice_index bytes at ≤ 249 → may_stand place (slice_index bytes at) ≡ true
    → size ≡ fixed_size (slice_index bytes at) → size ≤ length (drop (at + 1) bytes) → fields ≡ take size (drop (at + 1) bytes)
    → gives_negative_length (slice_index bytes at) fields ≡ true → refusal place (drop at bytes) ≡ Some NegativeLength
negative place bytes at size fields h low allowed sized whole prefix tells =
    let op = slice_index bytes at in
    let after = drop (at + 1) bytes in
    let same : gives_negative_length op after ≡ true = sym ((lengths_alike op after low).1) ∙ sym (ap (gives_negative_length op) (prefix ∙ ap (λ k. take k after) sized)) ∙ tells in
    let room : fixed_size op ≤ length after = omega (arith, sized, whole) in
    ap (refusal place) (prefix_of bytes at h) ∙ rw (le-ltb 249 op low, allowed, le-ltb (length after) (fixed_size op) room, same) refl

pub cut_text : (place : Context) (bytes : List ℕ) (at size : ℕ) (fields : List ℕ) → at < length bytes → slice_index bytes at ≤ 249 → may_stand place (slice_index bytes at) ≡ true
    → size ≡ fixed_size (slice_index bytes at) → size ≤ length (drop (at + 1) bytes) → fields ≡ take size (drop (at + 1) bytes) → gives_negative_length (slice_index bytes at) fields ≡ false
    → length (drop (at + 1) bytes) < size + text_size (slice_index bytes at) fields → refusal place (drop at bytes) ≡ Some Short
cut_text place bytes at size fields h low allowed sized whole prefix tells cut =
    let op = slice_index bytes at in
    let after = drop (at + 1) bytes in
    let same_fields : fields ≡ take (fixed_size op) after = prefix ∙ ap (λ k. take k after) sized in
    let not_negative : gives_negative_length op after ≡ false = sym ((lengths_alike op after low).1) ∙ sym (ap (gives_negative_length op) same_fields) ∙ tells in
    let same : text_size op fields ≡ text_size op after = ap (text_size op) same_fields ∙ (lengths_alike op after low).0 in
    let room : fixed_size op ≤ length after = omega (arith, sized, whole) in
    let short : length after < fixed_size op + text_size op after = omega (arith, cut, same, sized) in
    ap (refusal place) (prefix_of bytes at h)
    ∙ rw (le-ltb 249 op low, allowed, le-ltb (length after) (fixed_size op) room, not_negative, lt-ltb (length after) (fixed_size op + text_size op after) short) refl

-- ---- what was read

whole_command : (bytes : List ℕ) (at size len : ℕ) → at < length bytes
    → slice_index bytes at ∷ (take size (drop (at + 1) bytes) ++ take len (drop size (drop (at + 1) bytes))) ≡ slice_range bytes at (at + 1 + size + len)
whole_command bytes at size len h =
    let end : at + 1 + size + len - at ≡ suc (size + len) = omega arith in
    sym (ap (λ n. take n (drop at bytes)) end ∙ ap (take (suc (size + len))) (prefix_of bytes at h) ∙ ap (λ t. slice_index bytes at ∷ t) (take-add size len (drop (at + 1) bytes)))

pub read_command_is : (bytes : List ℕ) (at size len : ℕ) (fields after : List ℕ) (c : DviCommand) → at < length bytes → fields ≡ take size (drop (at + 1) bytes) → after ≡ drop size (drop (at + 1) bytes)
    → Spells c (slice_index bytes at ∷ (fields ++ take len after)) → Spells c (slice_range bytes at (at + 1 + size + len))
read_command_is bytes at size len fields after c h prefix back spelled =
    let same : slice_index bytes at ∷ (fields ++ take len after) ≡ slice_range bytes at (at + 1 + size + len) =
    ap (λ x. slice_index bytes at ∷ (x ++ take len after)) prefix ∙ ap (λ x. slice_index bytes at ∷ (take size (drop (at + 1) bytes) ++ take len x)) back ∙ whole_command bytes at size len h in
    subst (Spells c) same spelled

-- bytes that are refused begin with no command
pub refused_begins : (place : Context) (bytes : List ℕ) (fault : CommandFault) (c : DviCommand) (prefix rest : List ℕ) → refusal place bytes ≡ Some fault → Begins place c prefix rest bytes → ⊥
refused_begins place bytes fault c prefix rest refused begins =
    let none = ap (refusal place) begins.whole ∙ spelled_is_not_refused place c prefix rest begins.spelled begins.allowed in
    cc

-- what was read is the command with which the bytes begin
pub read_begins : (place : Context) (bytes : List ℕ) (at end : ℕ) (d c : DviCommand) (prefix rest : List ℕ) → at < end → end ≤ length bytes → Spells d (slice_range bytes at end)
    → Begins place c prefix rest (drop at bytes) → (d ≡ c) × (end ≡ at + length prefix)
read_begins place bytes at end d c prefix rest h inside spelled begins =
    let same = no_spelling_begins_another d c (slice_range bytes at end) prefix (drop end bytes) rest spelled begins.spelled (sym (parted bytes at end h) ∙ begins.whole) in
    let size : length (slice_range bytes at end) ≡ end - at = grind (arith, length-take, length-drop) in
    (spelling_determines_the_command d c prefix (subst (Spells d) same.0 spelled) begins.spelled, omega (arith, size, ap length same.0))
