-- A file of which some items were read.
use Rattle.std.proofs.Common.{◌≡◌, ◌∙◌, ◌+◌, ◌-◌, ◌≤◌, inl, inr, ℕ, Bool, true, false, List, [], ◌∷◌, ◌++◌, length, drop, None, refl, sym, ap, subst, arith, append_assoc, drop-drop, length-drop, length-append}
use Rattle.std.specs.Prelude.{if◌then◌else◌}
use Rattle.std.proofs.lemmas.Bool.{cases_lt}
use Rattle.std.proofs.lemmas.List.{drop_at}
use Rattle.dvi_commands.proofs.Motions.{nothing}
use Rattle.vf_reader.specs.Preamble.{preamble_fault, preamble_size}
use Rattle.vf_reader.specs.Items.{IsItem, definition_of, is_packet, text_of}
use Rattle.vf_reader.specs.Locals.{local_of, local_with, locals_of, with_local}
use Rattle.vf_reader.specs.Fonts.{AreSound, HasPacketsOf, IsItemSound, IsVfFile, Spans, Virtual, span_of}
use Rattle.vf_reader.specs.Faults.{IsFirstFault, IsItemFault, IsWholeFault}
use Rattle.vf_reader.specs.Stops.{IfFault}
use Rattle.vf_reader.specs.Walked.{AreSpansOf, AreWithin}
use Rattle.vf_reader.specs.declared.faults.VfFault.{VfFault}
use Rattle.vf_reader.specs.declared.faults.VfStop.{VfStop}
use Rattle.vf_reader.specs.declared.faults.VfStop.TheVariants.{Fault, NoMemory}
use Rattle.vf_reader.specs.declared.locals.LocalDef.{LocalDef}
use Rattle.vf_reader.proofs.Spans.{all_within, local_put, packets_are}

-- items were read up to the bytes that are left, which end the file; the tables have their packets
-- and local fonts
pub record IsReadTo (bytes rest : List ℕ) (spans : Spans) (locals : List LocalDef) : Type 0 where
  pub items : List (List ℕ)
  pub begins : preamble_fault bytes ≡ None
  pub sound : AreSound items
  pub text : drop (preamble_size bytes) bytes ≡ text_of items ++ rest
  pub ends : drop (length bytes - length rest) bytes ≡ rest
  pub inside : length rest ≤ length bytes
  pub spans_are : AreSpansOf bytes items spans
  pub locals_are : locals ≡ locals_of items

end_left : (bytes : List ℕ) (n : ℕ) → drop (length bytes - length (drop n bytes)) bytes ≡ drop n bytes
end_left bytes n = elim (cases_lt (length bytes) n) [
  | inl past ↦
      nothing (drop (length bytes - length (drop n bytes)) bytes) (omega (arith, length-drop n bytes, length-drop (length bytes - length (drop n bytes)) bytes))
      ∙ sym (nothing (drop n bytes) (omega (arith, length-drop n bytes)))
  | inr inside ↦ ap (λ (k : ℕ). drop k bytes) (omega (arith, length-drop n bytes))
]

-- nothing was read yet
pub nothing_read : (bytes rest : List ℕ) (spans : Spans) (locals : List LocalDef) → preamble_fault bytes ≡ None → rest ≡ drop (preamble_size bytes) bytes → ((c : ℕ) → span_of spans c ≡ None) → locals ≡ []
    → IsReadTo bytes rest spans locals
nothing_read bytes rest spans locals begins e empty none = record {
  items = [];
  begins = begins;
  sound = tt;
  text = sym e;
  ends = ap (λ (r : List ℕ). drop (length bytes - length r) bytes) e ∙ end_left bytes (preamble_size bytes) ∙ sym e;
  inside = omega (arith, ap length e, length-drop (preamble_size bytes) bytes);
  spans_are = empty;
  locals_are = none;
}

next_text : (bytes before item rest : List ℕ) (items : List (List ℕ)) → drop (preamble_size bytes) bytes ≡ text_of items ++ before → before ≡ item ++ rest
    → drop (preamble_size bytes) bytes ≡ text_of (item ∷ items) ++ rest
next_text bytes before item rest items text here = text ∙ ap (λ t. text_of items ++ t) here ∙ sym (append_assoc (text_of items) item rest)

next_end : (bytes before item rest : List ℕ) → drop (length bytes - length before) bytes ≡ before → length before ≤ length bytes → before ≡ item ++ rest → drop (length bytes - length rest) bytes ≡ rest
next_end bytes before item rest ends inside here =
    let size : length before ≡ length item + length rest = ap length here ∙ length-append item rest in
    let place : length bytes - length rest ≡ length bytes - length before + length item = omega arith in
    ap (λ (n : ℕ). drop n bytes) place ∙ sym (drop-drop (length item) (length bytes - length before) bytes) ∙ ap (drop (length item)) (ends ∙ here) ∙ drop_at item rest (length item) refl

read_on : (bytes before item rest : List ℕ) (spans new_spans : Spans) (locals new_locals : List LocalDef) (h : IsReadTo bytes before spans locals) → before ≡ item ++ rest → IsItem item → IsItemSound h.items item
    → AreSpansOf bytes (item ∷ h.items) new_spans → new_locals ≡ locals_of (item ∷ h.items) → IsReadTo bytes rest new_spans new_locals
read_on bytes before item rest spans new_spans locals new_locals h here whole sound spans_are locals_are = record {
  items = item ∷ h.items;
  begins = h.begins;
  sound = (h.sound, whole, sound);
  text = next_text bytes before item rest h.items h.text here;
  ends = next_end bytes before item rest h.ends h.inside here;
  inside = omega (arith, h.inside, ap length here, length-append item rest);
  spans_are = spans_are;
  locals_are = locals_are;
}

-- where an item stands that ends before the bytes that are left
pub item_place : (bytes before item rest : List ℕ) (end : ℕ) → drop (length bytes - length before) bytes ≡ before → length before ≤ length bytes → before ≡ item ++ rest → end ≡ length bytes - length rest
    → drop (end - length item) bytes ≡ item ++ rest
item_place bytes before item rest end ends inside here e =
    let size : length before ≡ length item + length rest = ap length here ∙ length-append item rest in
    let place : end - length item ≡ length bytes - length before = omega arith in
    ap (λ (n : ℕ). drop n bytes) place ∙ ends ∙ here

-- a packet more
pub packet_read : (bytes before item rest : List ℕ) (spans new_spans : Spans) (locals : List LocalDef) (h : IsReadTo bytes before spans locals) → before ≡ item ++ rest → IsItem item → is_packet item ≡ true
    → IsItemSound h.items item × AreSpansOf bytes (item ∷ h.items) new_spans → IsReadTo bytes rest new_spans locals
packet_read bytes before item rest spans new_spans locals h here whole kind added =
    read_on bytes before item rest spans new_spans locals locals h here whole added.0 added.1
    (h.locals_are ∙ ap (λ (b : Bool). if b then locals_of h.items else with_local (locals_of h.items) (local_of (definition_of item)) (local_with (locals_of h.items) (definition_of item).number)) (sym kind))

-- a local font more
pub local_read : (bytes before item rest : List ℕ) (spans : Spans) (locals new_locals : List LocalDef) (h : IsReadTo bytes before spans locals) → before ≡ item ++ rest → IsItem item → is_packet item ≡ false
    → IsItemSound h.items item × (new_locals ≡ locals_of (item ∷ h.items)) → IsReadTo bytes rest spans new_locals
local_read bytes before item rest spans locals new_locals h here whole kind added =
    read_on bytes before item rest spans spans locals new_locals h here whole added.0 (local_put bytes item h.items spans kind h.spans_are) added.1

-- what is wrong with an item is the first fault
item_first : (bytes before item rest : List ℕ) (spans : Spans) (locals : List LocalDef) (f : VfFault) (h : IsReadTo bytes before spans locals) → before ≡ item ++ rest → IsItem item
    → IsWholeFault h.items item f → IsFirstFault bytes f
item_first bytes before item rest spans locals f h here whole wrong = rw h.begins (record {
  items = h.items;
  rest = before;
  sound = h.sound;
  text = h.text;
  after = inr (record { item = item; more = rest; here = here; is = whole; wrong = wrong });
})

pub item_stop : (bytes before item rest : List ℕ) (spans : Spans) (locals : List LocalDef) (stop : VfStop) (h : IsReadTo bytes before spans locals) → before ≡ item ++ rest → IsItem item
    → IfFault stop (IsWholeFault h.items item) → IfFault stop (IsFirstFault bytes)
item_stop bytes before item rest spans locals (Fault f) h here whole wrong = item_first bytes before item rest spans locals f h here whole wrong
item_stop bytes before item rest spans locals NoMemory h here whole wrong = tt

-- no item follows
pub next_first : (bytes rest : List ℕ) (spans : Spans) (locals : List LocalDef) (f : VfFault) → IsReadTo bytes rest spans locals → IsItemFault rest f → IsFirstFault bytes f
next_first bytes rest spans locals f h wrong = rw h.begins (record { items = h.items; rest = rest; sound = h.sound; text = h.text; after = inl wrong })

-- the closing command follows
pub file_read : (bytes rest unused : List ℕ) (spans : Spans) (locals : List LocalDef) (font : Virtual) (h : IsReadTo bytes rest spans locals) → rest ≡ 248 ∷ unused → font.bytes ≡ bytes → font.spans ≡ spans
    → font.locals ≡ locals → (items : List (List ℕ)) × IsVfFile bytes items × HasPacketsOf items font
file_read bytes rest unused spans locals font h end whole spans_are locals_are = (
  h.items,
  record { begins = h.begins; sound = h.sound; unused = unused; whole = h.text ∙ ap (λ t. text_of h.items ++ t) end },
  record {
    packets = packets_are bytes h.items font whole (subst (AreSpansOf bytes h.items) (sym spans_are) h.spans_are);
    locals = locals_are ∙ h.locals_are;
  },
)

pub spans_within : (bytes rest : List ℕ) (spans : Spans) (locals : List LocalDef) → IsReadTo bytes rest spans locals → AreWithin (length bytes) spans
spans_within bytes rest spans locals h = all_within bytes h.items spans h.spans_are
