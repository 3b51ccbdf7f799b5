-- Bytes are a VF file, or have a first fault.
use Rattle.std.proofs.Common.{◌≡◌, ◌∙◌, ◌+◌, ◌≤◌, ◌<◌, ◌⊎◌, inl, inr, ℕ, zero, suc, true, false, List, [], ◌∷◌, ◌++◌, length, take, drop, Option, Some, None, refl, sym, ap, subst, arith, append_assoc, length-append}
use Rattle.std.specs.Option.{MatchOption}
use Rattle.std.proofs.lemmas.Bool.{true≢false, cases_Bool, cases_lt, cases_eq}
use Rattle.std.proofs.lemmas.List.{get_or-take, length-take-le, take-append-drop}
use Rattle.big_endian.specs.Numbers.{AreBytes}
use Rattle.dvi_commands.specs.Spelling.{DviCommand}
use Rattle.dvi_commands.specs.Refusal.{refusal}
use Rattle.dvi_commands.specs.Reading.{Begins}
use Rattle.dvi_commands.specs.declared.command.Context.TheVariants as context
use Rattle.dvi_commands.specs.declared.command.CommandFault.{CommandFault}
use Rattle.dvi_commands.proofs.FieldNumbers.{bytes_before, bytes_after}
use Rattle.dvi_commands.proofs.Refusals.{spelled_some}
use Rattle.dvi_commands.proofs.Unrefused.{unrefused_is_spelled}
use Rattle.vf_reader.specs.Preamble.{preamble_fault, preamble_size}
use Rattle.vf_reader.specs.Items.{IsItem, code_of, head_size, is_packet, item_size, opcode, program_of, text_of, given_size}
use Rattle.vf_reader.specs.Programs.{AreCommandsOf, AreSoundFrom, IsFaultAfterCommands, IsProgramFault, command_fault, open_after}
use Rattle.vf_reader.specs.Locals.{local_fault}
use Rattle.vf_reader.specs.Fonts.{AreSound, IsItemSound, IsVfFile}
use Rattle.vf_reader.specs.Faults.{IsFaultAfter, IsFaultOfItems, IsFirstFault, IsWholeFault}
use Rattle.vf_reader.specs.Laws.{FilesAreReadOrHaveAFault}
use Rattle.vf_reader.specs.declared.faults.VfFault.{VfFault}
use Rattle.vf_reader.specs.declared.faults.VfFault.TheVariants.{Misplaced, Packet, Short, Unbalanced}
use Rattle.vf_reader.proofs.Defined.{local_sound}
use Rattle.vf_reader.proofs.OneItem.{same_size, some_head}

rest_are : (prefix rest : List ℕ) → AreBytes (prefix ++ rest) → AreBytes rest
rest_are [] rest h = h
rest_are (b ∷ prefix) rest h = rest_are prefix rest h.1

-- ---- the commands of a packet

abbrev IsRead : ℕ → ℕ → List ℕ → Type 0
IsRead code depth bytes = (commands : List DviCommand) × AreSoundFrom code depth commands bytes

abbrev IsFaulty : ℕ → ℕ → List ℕ → Type 0
IsFaulty code depth bytes = (f : VfFault) × (commands : List DviCommand) × IsFaultAfterCommands code depth commands bytes f

at_end : (code depth : ℕ) → IsRead code depth [] ⊎ IsFaulty code depth []
at_end code zero = inl ([], (refl, refl))
at_end code (suc depth) = inr (Unbalanced code, [], inl (refl, omega arith, refl))

shorter : (c : DviCommand) (prefix rest bytes : List ℕ) (fuel : ℕ) → Begins context.Packet c prefix rest bytes → length bytes < suc fuel → length rest < fuel
shorter c prefix rest bytes fuel h short = omega (arith, ap length h.whole, length-append prefix rest, spelled_some c prefix h.spelled, short)

one_more : (code depth : ℕ) (bytes : List ℕ) (c : DviCommand) (prefix rest : List ℕ) → Begins context.Packet c prefix rest bytes → command_fault code depth c ≡ None
    → IsRead code (open_after depth c) rest ⊎ IsFaulty code (open_after depth c) rest → IsRead code depth bytes ⊎ IsFaulty code depth bytes
one_more code depth bytes c prefix rest h right (inl r) = inl (c ∷ r.0, (prefix, rest, h, right, r.1))
one_more code depth bytes c prefix rest h right (inr r) = inr (r.0, c ∷ r.1, (prefix, rest, h, right, r.2))

program_end : (fuel code depth : ℕ) (bytes : List ℕ) → AreBytes bytes → length bytes < fuel → IsRead code depth bytes ⊎ IsFaulty code depth bytes
program_end zero code depth bytes few short = absurd (omega (arith, short))
program_end (suc fuel) code depth [] few short = at_end code depth
program_end (suc fuel) code depth (b ∷ bytes) few short = by (λ d rest some less. program_end fuel code d rest some less) (refusal context.Packet (b ∷ bytes)) refl
  where
    after : ((d : ℕ) (rest : List ℕ) → AreBytes rest → length rest < fuel → IsRead code d rest ⊎ IsFaulty code d rest) → (c : DviCommand) (prefix rest : List ℕ) → Begins context.Packet c prefix rest (b ∷ bytes)
        → (o : Option VfFault) → command_fault code depth c ≡ o → IsRead code depth (b ∷ bytes) ⊎ IsFaulty code depth (b ∷ bytes)
    after onward c prefix rest h None right =
        one_more code depth (b ∷ bytes) c prefix rest h right
        (onward (open_after depth c) rest (rest_are prefix rest (subst AreBytes h.whole few)) (shorter c prefix rest (b ∷ bytes) fuel h short))
    after onward c prefix rest h (Some f) wrong = inr (f, [], inr (inr (record { command = c; prefix = prefix; rest = rest; begins = h; wrong = wrong })))

    by : ((d : ℕ) (rest : List ℕ) → AreBytes rest → length rest < fuel → IsRead code d rest ⊎ IsFaulty code d rest) → (o : Option CommandFault) → refusal context.Packet (b ∷ bytes) ≡ o
        → IsRead code depth (b ∷ bytes) ⊎ IsFaulty code depth (b ∷ bytes)
    by onward None e = let r = unrefused_is_spelled context.Packet (b ∷ bytes) few e in after onward r.0 r.1 r.2 r.3 (command_fault code depth r.0) refl
    by onward (Some found) e = inr (Packet code found, [], inr (inl (omega arith, found, e, refl)))

program_then : (code : ℕ) (bytes : List ℕ) → AreBytes bytes → ((commands : List DviCommand) × AreCommandsOf code bytes commands) ⊎ ((f : VfFault) × IsProgramFault code bytes f)
program_then code bytes few = elim (program_end (suc (length bytes)) code 0 bytes few (omega arith)) [ inl good ↦ inl good | inr bad ↦ inr (bad.0, (bad.1, bad.2)) ]

-- ---- a whole item

packet_then : (before : List (List ℕ)) (item : List ℕ) → AreBytes item → is_packet item ≡ true → IsItemSound before item ⊎ ((f : VfFault) × IsWholeFault before item f)
packet_then before item few kind = elim (program_then (code_of item) (program_of item) (bytes_after (head_size (opcode item)) item few)) [
  | inl good ↦ inl (record { packet = λ _. good; local = λ other. absurd (true≢false (sym kind ∙ other)) })
  | inr bad ↦ inr (bad.0, inl (kind, bad.1))
]

local_then : (before : List (List ℕ)) (item : List ℕ) → is_packet item ≡ false → IsItemSound before item ⊎ ((f : VfFault) × IsWholeFault before item f)
local_then before item kind = by (local_fault before item) refl
  where
    by : (o : Option VfFault) → local_fault before item ≡ o → IsItemSound before item ⊎ ((f : VfFault) × IsWholeFault before item f)
    by None e = inl (local_sound before item kind e)
    by (Some f) e = inr (f, inr (kind, e))

item_then : (before : List (List ℕ)) (item : List ℕ) → AreBytes item → IsItemSound before item ⊎ ((f : VfFault) × IsWholeFault before item f)
item_then before item few = elim (cases_Bool (is_packet item)) [
  | inl kind ↦ packet_then before item few kind
  | inr kind ↦ local_then before item kind
]

-- ---- what stands after sound items

abbrev IsEnd : List ℕ → Type 0
IsEnd rest = (unused : List ℕ) × (rest ≡ 248 ∷ unused)

abbrev IsMore : List (List ℕ) → List ℕ → Type 0
IsMore items rest = (item : List ℕ) × (more : List ℕ) × (rest ≡ item ++ more) × AreSound (item ∷ items) × (1 ≤ length item)

abbrev IsWrong : List (List ℕ) → List ℕ → Type 0
IsWrong items rest = (f : VfFault) × IsFaultAfter items rest f

closing : (rest : List ℕ) → opcode rest ≡ 248 → IsEnd rest
closing [] e = absurd (omega (arith, e))
closing (b ∷ x) e = (x, ap (λ k. k ∷ x) e)

whole_then : (items : List (List ℕ)) (rest item more : List ℕ) → AreBytes item → AreSound items → rest ≡ item ++ more → IsItem item → 1 ≤ length item → IsMore items rest ⊎ IsWrong items rest
whole_then items rest item more few sound e is some = elim (item_then items item few) [
  | inl good ↦ inl (item, more, e, (sound, is, good), some)
  | inr bad ↦ inr (bad.0, inr (record { item = item; more = more; here = e; is = is; wrong = bad.1 }))
]

some_size : (bytes : List ℕ) → 1 ≤ item_size bytes
some_size bytes = by (head_size (opcode bytes)) (given_size bytes) (some_head (opcode bytes))
  where
    by : (a b : ℕ) → 1 ≤ a → 1 ≤ a + b
    by a b h = omega arith

first_item : (rest : List ℕ) → opcode rest ≤ 246 → item_size rest ≤ length rest → IsItem (take (item_size rest) rest)
first_item rest low enough = record {
  known = subst (λ o. o ≤ 246) (sym same) low;
  whole = len ∙ ap item_size (sym (take-append-drop (item_size rest) rest)) ∙ same_size (take (item_size rest) rest) (drop (item_size rest) rest) there;
}
  where
    same : opcode (take (item_size rest) rest) ≡ opcode rest
    same = get_or-take (item_size rest) rest 0 0 (some_size rest)

    len : length (take (item_size rest) rest) ≡ item_size rest
    len = length-take-le (item_size rest) rest enough

    within : (a b n : ℕ) → n ≡ a + b → a ≤ n
    within a b n e = omega (arith, e)

    there : head_size (opcode (take (item_size rest) rest)) ≤ length (take (item_size rest) rest)
    there = subst (λ (o : ℕ). head_size o ≤ length (take (item_size rest) rest)) (sym same) (within (head_size (opcode rest)) (given_size rest) (length (take (item_size rest) rest)) len)

high_then : (items : List (List ℕ)) (rest : List ℕ) → 246 < opcode rest → IsEnd rest ⊎ IsWrong items rest
high_then items rest high = elim (cases_eq (opcode rest) 248) [
  | inl e ↦ inl (closing rest e)
  | inr other ↦ elim (cases_lt 248 (opcode rest)) [
    | inl above ↦ inr (Misplaced (opcode rest), inl (inr (inr above, refl)))
    | inr low ↦ inr (Misplaced (opcode rest), inl (inr (inl (last (opcode rest) high other low), refl)))
  ]
]
  where
    last : (op : ℕ) → 246 < op → (op ≡ 248 → ⊥) → op ≤ 248 → op ≡ 247
    last op high other low = omega arith

next_then : (items : List (List ℕ)) (rest : List ℕ) → AreBytes rest → AreSound items → IsEnd rest ⊎ (IsMore items rest ⊎ IsWrong items rest)
next_then items rest few sound = elim (cases_lt 246 (opcode rest)) [
  | inl high ↦ elim (high_then items rest high) [ inl end ↦ inl end | inr wrong ↦ inr (inr wrong) ]
  | inr low ↦ elim (cases_lt (length rest) (item_size rest)) [
    | inl cut ↦ inr (inr (Short, inl (inl ((low, cut), refl))))
    | inr enough ↦
        inr (whole_then items rest (take (item_size rest) rest) (drop (item_size rest) rest) (bytes_before (item_size rest) rest few) sound
        (sym (take-append-drop (item_size rest) rest)) (first_item rest low enough)
        (subst (λ (n : ℕ). 1 ≤ n) (sym (length-take-le (item_size rest) rest enough)) (some_size rest)))
  ]
]

-- ---- all items

items_end : (fuel : ℕ) (bytes : List ℕ) (items : List (List ℕ)) (rest : List ℕ) → preamble_fault bytes ≡ None → AreBytes rest → AreSound items → drop (preamble_size bytes) bytes ≡ text_of items ++ rest
    → length rest < fuel → ((all : List (List ℕ)) × IsVfFile bytes all) ⊎ ((f : VfFault) × IsFaultOfItems bytes f)
items_end zero bytes items rest begins few sound text short = absurd (omega (arith, short))
items_end (suc fuel) bytes items rest begins few sound text short = elim (next_then items rest few sound) [
  | inl end ↦ inl (items, record { begins = begins; sound = sound; unused = end.0; whole = text ∙ ap (λ t. text_of items ++ t) end.1 })
  | inr next ↦ elim next [
    | inl m ↦
        items_end fuel bytes (m.0 ∷ items) m.1 begins (rest_are m.0 m.1 (subst AreBytes m.2 few)) m.3
        (text ∙ ap (λ t. text_of items ++ t) m.2 ∙ sym (append_assoc (text_of items) m.0 m.1))
        (omega (arith, short, ap length m.2, length-append m.0 m.1, m.4))
    | inr wrong ↦ inr (wrong.0, record { items = items; rest = rest; sound = sound; text = text; after = wrong.1 })
  ]
]

pub files_are_read_or_have_a_fault : FilesAreReadOrHaveAFault
files_are_read_or_have_a_fault bytes few = by (preamble_fault bytes) refl
  where
    by : (o : Option VfFault) → preamble_fault bytes ≡ o → ((items : List (List ℕ)) × IsVfFile bytes items) ⊎ ((f : VfFault) × IsFirstFault bytes f)
    by None e = elim (items_end (suc (length (drop (preamble_size bytes) bytes))) bytes [] (drop (preamble_size bytes) bytes) e (bytes_after (preamble_size bytes) bytes few) tt refl (omega arith)) [
      | inl file ↦ inl file
      | inr f ↦ inr (f.0, subst (λ (o : Option VfFault). MatchOption o (IsFaultOfItems bytes f.0) (λ found. f.0 ≡ found)) (sym e) f.1)
    ]
    by (Some f) e = inr (f, subst (λ (o : Option VfFault). MatchOption o (IsFaultOfItems bytes f) (λ found. f ≡ found)) (sym e) refl)
