-- A file is read one way: a reader that goes on as long as it may finds the items of a file, and
-- the first fault of other bytes.
use Rattle.std.proofs.Common.{◌≡◌, ◌∙◌, ◌+◌, ◌≤◌, ◌<◌, ◌⊎◌, inl, inr, ℕ, zero, suc, Bool, true, false, List, [], ◌∷◌, ◌++◌, length, take, drop, Option, Some, None, refl, sym, ap, subst, arith, append_assoc}
use Rattle.std.specs.Option.{MatchOption}
use Rattle.std.specs.Prelude.{◌==◌}
use Rattle.std.proofs.lemmas.Bool.{cases_Bool, eqb-true, le-ltb, ne_eqb}
use Rattle.std.proofs.lemmas.List.{length-append, length-take-le, take-append-drop}
use Rattle.gf_reader.specs.Preamble.{preamble_fault, preamble_size}
use Rattle.gf_reader.specs.Items.{IsItem, is_misplaced, is_open, item_size, opcode, text_of}
use Rattle.gf_reader.specs.Characters.{Character, characters_of}
use Rattle.gf_reader.specs.Fonts.{AreSound, HasItems, IsGfFile}
use Rattle.gf_reader.specs.Faults.{fault_after, fault_of_item}
use Rattle.gf_reader.specs.FirstFault.{IsFaultOfItems, IsFirstFault}
use Rattle.gf_reader.specs.Laws.{CharactersAreOne, FilesAreReadOneWay, FilesAreReadOrHaveAFault, FilesHaveNoFault, FirstFaultsAreOne}
use Rattle.gf_reader.specs.declared.faults.GfFault.{GfFault}
use Rattle.gf_reader.proofs.OneItem.{first_dropped, first_is_item, first_opcode, first_taken, item_fault, stands_here}

-- ---- the reader

-- the items up to the closing command, or up to a fault
record Found : Type 0 where
  items : List (List ℕ)
  fault : Option GfFault

abbrev found : List (List ℕ) → Option GfFault → Found
found items fault = record { items = items; fault = fault }

abbrev chosen : Option GfFault → Bool → List (List ℕ) → Found → Found
chosen (Some f) closing items more = found items (Some f)
chosen None true items more = found items None
chosen None false items more = more

-- n steps at most
scan : ℕ → List (List ℕ) → List ℕ → Found
scan zero items rest = found items None
scan (suc n) items rest =
    chosen (fault_after items rest) (opcode rest == 248) items (scan n (take (item_size rest) rest ∷ items) (drop (item_size rest) rest))

-- ---- what it finds

one_more : (n : ℕ) (before : List (List ℕ)) (item more : List ℕ) → IsItem (is_open before) item → fault_of_item before item ≡ None → scan (suc n) before (item ++ more) ≡ scan n (item ∷ before) more
unfolding scan
one_more n before item more h right =
    let rest = item ++ more in
    let next = scan n (take (item_size rest) rest ∷ before) (drop (item_size rest) rest) in
    let no_fault : fault_after before rest ≡ None = item_fault before item more h ∙ right in
    let other : (opcode rest == 248) ≡ false = ap (λ o. o == 248) (first_opcode (is_open before) item more h) ∙ h.not_closing in
    ap (λ o. chosen o (opcode rest == 248) before next) no_fault ∙ ap (λ b. chosen None b before next) other
    ∙ ap (λ t. scan n (t ∷ before) (drop (item_size rest) rest)) (first_taken (is_open before) item more h)
    ∙ ap (λ t. scan n (item ∷ before) t) (first_dropped (is_open before) item more h)

all_items : (items : List (List ℕ)) (n : ℕ) (rest : List ℕ) → AreSound items → scan (length items + n) [] (text_of items ++ rest) ≡ scan n items rest
all_items [] n rest h = let steps : 0 + n ≡ n = omega arith in ap (λ k. scan k [] rest) steps
all_items (item ∷ before) n rest h =
    let steps : length (item ∷ before) + n ≡ length before + suc n = omega arith in
    ap (λ k. scan k [] (text_of (item ∷ before) ++ rest)) steps ∙ ap (scan (length before + suc n) []) (append_assoc (text_of before) item rest)
    ∙ all_items before (suc n) (item ++ rest) h.0 ∙ one_more n before item rest h.1 h.2

no_fault_at_end : (items : List (List ℕ)) (unused : List ℕ) → is_open items ≡ false → fault_after items (248 ∷ unused) ≡ None
no_fault_at_end items unused closed =
    let some : (length (248 ∷ unused) == 0) ≡ false = ne_eqb (length (248 ∷ unused)) 0 (λ e. absurd (omega (arith, e))) in
    rw (closed, some, le-ltb (length (248 ∷ unused)) 1 (omega arith)) refl

closing_found : (n : ℕ) (items : List (List ℕ)) (unused : List ℕ) → is_open items ≡ false → scan (suc n) items (248 ∷ unused) ≡ found items None
unfolding scan
closing_found n items unused closed =
    let next = scan n (take (item_size (248 ∷ unused)) (248 ∷ unused) ∷ items) (drop (item_size (248 ∷ unused)) (248 ∷ unused)) in
    ap (λ o. chosen o true items next) (no_fault_at_end items unused closed)

fault_found : (n : ℕ) (items : List (List ℕ)) (rest : List ℕ) (f : GfFault) → fault_after items rest ≡ Some f → scan (suc n) items rest ≡ found items (Some f)
unfolding scan
fault_found n items rest f e = ap (λ o. chosen o (opcode rest == 248) items (scan n (take (item_size rest) rest ∷ items) (drop (item_size rest) rest))) e

file_found : (n : ℕ) (bytes : List ℕ) (items : List (List ℕ)) → HasItems bytes items → scan (length items + suc n) [] (drop (preamble_size bytes) bytes) ≡ found items None
file_found n bytes items h =
    ap (scan (length items + suc n) []) h.whole ∙ all_items items (suc n) (248 ∷ h.unused) h.sound ∙ closing_found n items h.unused h.closed

wrong_found : (n : ℕ) (bytes : List ℕ) (f : GfFault) (h : IsFaultOfItems bytes f) → scan (length h.items + suc n) [] (drop (preamble_size bytes) bytes) ≡ found h.items (Some f)
wrong_found n bytes f h =
    ap (scan (length h.items + suc n) []) h.text ∙ all_items h.items (suc n) h.rest h.sound ∙ fault_found n h.items h.rest f h.after

same_steps : (a b : ℕ) (bytes : List ℕ) (x y : Found) → scan (a + suc b) [] (drop (preamble_size bytes) bytes) ≡ x → scan (b + suc a) [] (drop (preamble_size bytes) bytes) ≡ y → x ≡ y
same_steps a b bytes x y hx hy =
    let steps : a + suc b ≡ b + suc a = omega arith in
    sym hx ∙ ap (λ k. scan k [] (drop (preamble_size bytes) bytes)) steps ∙ hy

-- ---- the laws

pub files_are_read_one_way : FilesAreReadOneWay
files_are_read_one_way bytes items others h k =
    ap (λ (x : Found). x.items) (same_steps (length items) (length others) bytes (found items None) (found others None) (file_found (length others) bytes items h) (file_found (length items) bytes others k))

pub characters_are_one : CharactersAreOne
characters_are_one bytes characters others h k = h.characters_are ∙ ap characters_of (files_are_read_one_way bytes h.items k.items h.file k.file) ∙ sym k.characters_are

some_is_some : (f g : GfFault) → Some f ≡ Some g → f ≡ g
some_is_some f g e = cc

never_by : (o : Option GfFault) (bytes : List ℕ) (items : List (List ℕ)) (f : GfFault) → o ≡ None → HasItems bytes items → MatchOption o (IsFaultOfItems bytes f) (λ found. f ≡ found) → ⊥
never_by None bytes items f none h k =
    let same = same_steps (length items) (length k.items) bytes (found items None) (found k.items (Some f)) (file_found (length k.items) bytes items h) (wrong_found (length items) bytes f k) in
    let impossible : None ≡ Some f = ap (λ (x : Found). x.fault) same in
    cc
never_by (Some g) bytes items f none h k = cc

pub files_have_no_fault : FilesHaveNoFault
files_have_no_fault bytes characters f h k = never_by (preamble_fault bytes) bytes h.items f h.file.begins h.file k

one_by : (o : Option GfFault) (bytes : List ℕ) (f g : GfFault) → MatchOption o (IsFaultOfItems bytes f) (λ found. f ≡ found) → MatchOption o (IsFaultOfItems bytes g) (λ found. g ≡ found) → f ≡ g
one_by None bytes f g h k =
    let same = same_steps (length h.items) (length k.items) bytes (found h.items (Some f)) (found k.items (Some g)) (wrong_found (length k.items) bytes f h) (wrong_found (length h.items) bytes g k) in
    some_is_some f g (ap (λ (x : Found). x.fault) same)
one_by (Some e) bytes f g h k = h ∙ sym k

pub first_faults_are_one : FirstFaultsAreOne
first_faults_are_one bytes f g h k = one_by (preamble_fault bytes) bytes f g h k

-- ---- bytes are read or have a fault

abbrev Ends : List ℕ → Type 0
Ends bytes = ((characters : List Character) × IsGfFile bytes characters) ⊎ ((f : GfFault) × IsFaultOfItems bytes f)

closing_byte : (rest : List ℕ) → 1 ≤ length rest → opcode rest ≡ 248 → (unused : List ℕ) × (rest ≡ 248 ∷ unused)
closing_byte [] some e = absurd (omega (arith, some))
closing_byte (b ∷ x) some e = (x, ap (λ k. k ∷ x) e)

-- one step, where the rest of the way is known from each next item on
item_then : (o : Option GfFault) (bytes : List ℕ) (items : List (List ℕ)) (rest : List ℕ) → preamble_fault bytes ≡ None → AreSound items → drop (preamble_size bytes) bytes ≡ text_of items ++ rest
    → fault_after items rest ≡ o
    → ((item more : List ℕ) → AreSound (item ∷ items) → drop (preamble_size bytes) bytes ≡ text_of (item ∷ items) ++ more → length more < length rest → Ends bytes) → Ends bytes
item_then (Some f) bytes items rest begins sound text e next = inr (f, record { items = items; rest = rest; sound = sound; text = text; after = e })
item_then None bytes items rest begins sound text e next =
    let h = stands_here items rest e in
    elim (cases_Bool (opcode rest == 248)) [
      | inl closing ↦
          let is : opcode rest ≡ 248 = eqb-true (opcode rest) 248 closing in
          let end = closing_byte rest h.some is in
          inl (
            characters_of items,
            record {
              items = items;
              file = record { begins = begins; sound = sound; closed = sym (ap (is_misplaced (is_open items)) is) ∙ h.placed; unused = end.0; whole = text ∙ ap (λ t. text_of items ++ t) end.1 };
              characters_are = refl;
            },
          )
      | inr other ↦
          let item = take (item_size rest) rest in
          let more = drop (item_size rest) rest in
          let whole : item ++ more ≡ rest = take-append-drop (item_size rest) rest in
          next item more (sound, first_is_item items rest h other, h.right) (text ∙ ap (λ t. text_of items ++ t) (sym whole) ∙ sym (append_assoc (text_of items) item more))
          (omega (arith, ap length whole, length-append item more, length-take-le (item_size rest) rest h.within))
    ]

items_end : (fuel : ℕ) (bytes : List ℕ) (items : List (List ℕ)) (rest : List ℕ) → preamble_fault bytes ≡ None → AreSound items → drop (preamble_size bytes) bytes ≡ text_of items ++ rest
    → length rest < fuel → Ends bytes
items_end zero bytes items rest begins sound text short = absurd (omega (arith, short))
items_end (suc fuel) bytes items rest begins sound text short =
    item_then (fault_after items rest) bytes items rest begins sound text refl
    (λ item more sound_more text_more fewer. items_end fuel bytes (item ∷ items) more begins sound_more text_more (omega (arith, short, fewer)))

pub files_are_read_or_have_a_fault : FilesAreReadOrHaveAFault
files_are_read_or_have_a_fault bytes = by (preamble_fault bytes) refl
  where
    by : (o : Option GfFault) → preamble_fault bytes ≡ o → ((characters : List Character) × IsGfFile bytes characters) ⊎ ((f : GfFault) × IsFirstFault bytes f)
    by None e = elim (items_end (suc (length (drop (preamble_size bytes) bytes))) bytes [] (drop (preamble_size bytes) bytes) e tt refl (omega arith)) [
      | inl file ↦ inl file
      | inr f ↦ inr (f.0, subst (λ (o : Option GfFault). MatchOption o (IsFaultOfItems bytes f.0) (λ found. f.0 ≡ found)) (sym e) f.1)
    ]
    by (Some f) e = inr (f, subst (λ (o : Option GfFault). MatchOption o (IsFaultOfItems bytes f) (λ found. f ≡ found)) (sym e) refl)
