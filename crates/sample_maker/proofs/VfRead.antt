-- A made VF file, read again.
use Rattle.std.proofs.Common.{◌≡◌, ◌∙◌, inl, inr, ℕ, suc, ◌+◌, ◌-◌, ◌%◌, ℤ, false, List, [], ◌∷◌, ◌++◌, length, drop, map, Some, None, refl, sym, ap, subst, arith, append_assoc, append-nil, replicate}
use Rattle.std.specs.Prelude.{All, IsTrue, ◌&&◌, ◌==◌, if◌then◌else◌}
use Rattle.std.specs.List.{AllByRecursion, flat_map, list_any}
use Rattle.std.proofs.lemmas.Bool.{and_parts, and_left, cases_Bool, cond-true, cond-false, eqb-true, not-true, or_parts}
use Rattle.big_endian.specs.Numbers.{int_eq}
use Rattle.vf_reader.specs.Items.{IsItem, code_of, is_packet, program_of, text_of}
use Rattle.vf_reader.specs.Preamble.{preamble_fault}
use Rattle.vf_reader.specs.Locals.{local_with, locals_of}
use Rattle.vf_reader.specs.Fonts.{AreSound, IsVfFile, program_with}
use Rattle.vf_reader.specs.declared.locals.LocalDef.{LocalDef}
use Rattle.vf_reader.proofs.OneItem.{no_item_begins_another, not_closing}
use Rattle.sample_maker.specs.VfFile.{GivesFont, IsFileOf, IsLocalSound, IsPacketSound, IsLocalSpelled, IsLocalWritable, IsPacketWritable, VfPacket, closing_after, have_own_codes, have_own_numbers, local_definition, local_item, packet_item, program_given, vf_file, vf_items, vf_preamble}
use Rattle.sample_maker.proofs.VfItems.{IsDefinitionOf, IsPacketOf, local_is, packet_is}
use Rattle.sample_maker.proofs.VfSound.{one_more, preamble_right, sound_local, sound_packet}

-- ---- items from the first to the last

-- after those before them
abbrev pub after : List (List ℕ) → List (List ℕ) → List (List ℕ)
after before [] = before
after before (item ∷ items) = after (item ∷ before) items

-- their bytes, and what follows
chain : List (List ℕ) → List ℕ → List ℕ
chain [] rest = rest
chain (item ∷ items) rest = item ++ chain items rest

chain_more : (items : List (List ℕ)) (item rest : List ℕ) → chain (items ++ item ∷ []) rest ≡ chain items (item ++ rest)
unfolding chain
chain_more [] item rest = refl
chain_more (x ∷ items) item rest = ap (λ t. x ++ t) (chain_more items item rest)

after_more : (items before : List (List ℕ)) (item : List ℕ) → after before (items ++ item ∷ []) ≡ item ∷ after before items
after_more [] before item = refl
after_more (x ∷ items) before item = after_more items (x ∷ before) item

items_more : (items : List (List ℕ)) (item : List ℕ) → AllByRecursion IsItem items → IsItem item → AllByRecursion IsItem (items ++ item ∷ [])
items_more [] item all one = (one, tt)
items_more (x ∷ items) item all one = (all.0, items_more items item all.1 one)

-- items that were read, from the first to the last
record InOrder (r : List (List ℕ)) : Type 0 where
  items : List (List ℕ)
  are : r ≡ after [] items
  whole : AllByRecursion IsItem items
  text : (rest : List ℕ) → text_of r ++ rest ≡ chain items rest

in_order : (r : List (List ℕ)) → AreSound r → InOrder r
unfolding chain
in_order [] sound = record { items = []; are = refl; whole = tt; text = λ rest. refl }
in_order (item ∷ before) sound =
    let b = in_order before sound.0 in
    record {
      items = b.items ++ item ∷ [];
      are = ap (λ r. item ∷ r) b.are ∙ sym (after_more b.items [] item);
      whole = items_more b.items item b.whole sound.1;
      text = λ rest. append_assoc (text_of before) item rest ∙ b.text (item ++ rest) ∙ sym (chain_more b.items item rest);
    }

one_list : (xs ys : List (List ℕ)) (u v : List ℕ) → AllByRecursion IsItem xs → AllByRecursion IsItem ys → chain xs (248 ∷ u) ≡ chain ys (248 ∷ v) → xs ≡ ys
unfolding chain
one_list [] [] u v hx hy e = refl
one_list [] (y ∷ ys) u v hx hy e = not_closing y (chain ys (248 ∷ v)) u hy.0 e
one_list (x ∷ xs) [] u v hx hy e = not_closing x (chain xs (248 ∷ u)) v hx.0 (sym e)
one_list (x ∷ xs) (y ∷ ys) u v hx hy e =
    let parts = no_item_begins_another x y (chain xs (248 ∷ u)) (chain ys (248 ∷ v)) hx.0 hy.0 e in
    ap (λ t. t ∷ xs) parts.0 ∙ ap (λ t. y ∷ t) (one_list xs ys u v hx.1 hy.1 parts.1)

-- ---- local fonts

abbrev HaveNone : List LocalDef → List LocalDef → Type 0
HaveNone known locals = AllByRecursion (λ d. local_with known d.number ≡ None) locals

not_known : (known : List LocalDef) (d : LocalDef) (k : ℤ) → local_with known k ≡ None → int_eq d.number k ≡ false → local_with (known ++ d ∷ []) k ≡ None
not_known [] d k none other = cond-false (int_eq d.number k) (Some d) None other
not_known (e ∷ known) d k none other = elim (cases_Bool (int_eq e.number k)) [
  | inl same ↦ let some : Some e ≡ None = sym (cond-true (int_eq e.number k) (Some e) (local_with known k) same) ∙ none in cc
  | inr apart ↦
      let rest : local_with known k ≡ None = sym (cond-false (int_eq e.number k) (Some e) (local_with known k) apart) ∙ none in
      cond-false (int_eq e.number k) (Some e) (local_with (known ++ d ∷ []) k) apart ∙ not_known known d k rest other
]

still_none : (known : List LocalDef) (d : LocalDef) (locals : List LocalDef) → HaveNone known locals → list_any (λ (e : LocalDef). int_eq d.number e.number) locals ≡ false → HaveNone (known ++ d ∷ []) locals
still_none known d [] none other = tt
still_none known d (e ∷ locals) none other =
    let parts = or_parts (int_eq d.number e.number) (list_any (λ (x : LocalDef). int_eq d.number x.number) locals) other in
    (not_known known d e.number none.0 parts.0, still_none known d locals none.1 parts.1)

locals_there : (locals : List LocalDef) (before : List (List ℕ)) → AllByRecursion (λ d. IsDefinitionOf (local_definition d) (local_item d)) locals → HaveNone (locals_of before) locals → IsTrue (have_own_numbers locals)
    → locals_of (after before (map local_item locals)) ≡ locals_of before ++ locals
locals_there [] before are none own = sym (append-nil (locals_of before))
locals_there (d ∷ locals) before are none own =
    let known = locals_of before in
    let parts = and_parts _ _ own in
    let new = one_more d before are.0 none.0 in
    let still = subst (λ k. HaveNone k locals) (sym new) (still_none known d locals none.1 (not-true _ parts.0)) in
    locals_there locals (local_item d ∷ before) are.1 still parts.1 ∙ ap (λ k. k ++ locals) new ∙ append_assoc known (d ∷ []) locals

no_program : (locals : List LocalDef) (before : List (List ℕ)) (c : ℕ) → AllByRecursion (λ d. IsDefinitionOf (local_definition d) (local_item d)) locals
    → program_with (after before (map local_item locals)) c ≡ program_with before c
no_program [] before c are = refl
no_program (d ∷ locals) before c are =
    no_program locals (local_item d ∷ before) c are.1
    ∙ cond-false (is_packet (local_item d) && code_of (local_item d) == c) (Some (program_of (local_item d))) (program_with before c) (and_left _ _ are.0.kind)

-- ---- packets

ArePackets : List VfPacket → Type 0
ArePackets packets = AllByRecursion (λ p. IsPacketOf p (packet_item p)) packets

no_local : (packets : List VfPacket) (before : List (List ℕ)) → AllByRecursion (λ p. IsPacketOf p (packet_item p)) packets → locals_of (after before (map packet_item packets)) ≡ locals_of before
no_local [] before are = refl
no_local (p ∷ packets) before are = no_local packets (packet_item p ∷ before) are.1 ∙ cond-true (is_packet (packet_item p)) (locals_of before) _ are.0.kind

packet_with : (p : VfPacket) (before : List (List ℕ)) (c : ℕ) → IsPacketOf p (packet_item p) → program_with (packet_item p ∷ before) c ≡ (if p.0 == c then Some p.2 else program_with before c)
packet_with p before c is =
    ap (λ b. if b && code_of (packet_item p) == c then Some (program_of (packet_item p)) else program_with before c) is.kind
    ∙ ap (λ n. if n == c then Some (program_of (packet_item p)) else program_with before c) is.code
    ∙ ap (λ t. if p.0 == c then Some t else program_with before c) is.program

not_replaced : (packets : List VfPacket) (before : List (List ℕ)) (c : ℕ) → AllByRecursion (λ p. IsPacketOf p (packet_item p)) packets → program_given packets c ≡ None
    → program_with (after before (map packet_item packets)) c ≡ program_with before c
not_replaced [] before c are none = refl
not_replaced (p ∷ packets) before c are none = elim (cases_Bool (p.0 == c)) [
  | inl same ↦ let some : Some p.2 ≡ None = sym (cond-true (p.0 == c) (Some p.2) (program_given packets c) same) ∙ none in cc
  | inr other ↦
      let rest : program_given packets c ≡ None = sym (cond-false (p.0 == c) (Some p.2) (program_given packets c) other) ∙ none in
      not_replaced packets (packet_item p ∷ before) c are.1 rest ∙ packet_with p before c are.0 ∙ cond-false (p.0 == c) (Some p.2) (program_with before c) other
]

none_given : (packets : List VfPacket) (c : ℕ) → list_any (λ (q : VfPacket). q.0 == c) packets ≡ false → program_given packets c ≡ None
none_given [] c h = refl
none_given (q ∷ packets) c h =
    let parts = or_parts (q.0 == c) (list_any (λ (x : VfPacket). x.0 == c) packets) h in
    cond-false (q.0 == c) (Some q.2) (program_given packets c) parts.0 ∙ none_given packets c parts.1

programs_there : (packets : List VfPacket) (before : List (List ℕ)) (c : ℕ) → AllByRecursion (λ p. IsPacketOf p (packet_item p)) packets → IsTrue (have_own_codes packets) → program_with before c ≡ None
    → program_with (after before (map packet_item packets)) c ≡ program_given packets c
programs_there [] before c are own none = none
programs_there (p ∷ packets) before c are own none = elim (cases_Bool (p.0 == c)) [
  | inl same ↦
      let number : p.0 ≡ c = eqb-true p.0 c same in
      let alone : program_given packets c ≡ None = ap (program_given packets) (sym number) ∙ none_given packets p.0 (not-true _ (and_parts _ _ own).0) in
      not_replaced packets (packet_item p ∷ before) c are.1 alone ∙ packet_with p before c are.0 ∙ cond-true (p.0 == c) (Some p.2) (program_with before c) same
      ∙ sym (cond-true (p.0 == c) (Some p.2) (program_given packets c) same)
  | inr other ↦
      programs_there packets (packet_item p ∷ before) c are.1 (and_parts _ _ own).1 (packet_with p before c are.0 ∙ cond-false (p.0 == c) (Some p.2) (program_with before c) other ∙ none)
      ∙ sym (cond-false (p.0 == c) (Some p.2) (program_given packets c) other)
]

-- ---- the file

after_both : (xs ys before : List (List ℕ)) → after before (xs ++ ys) ≡ after (after before xs) ys
after_both [] ys before = refl
after_both (x ∷ xs) ys before = after_both xs ys (x ∷ before)

chain_of : {X : Type 0} (g : X → List ℕ) (xs : List X) (items : List (List ℕ)) (rest : List ℕ) → chain (map g xs ++ items) rest ≡ flat_map g xs ++ chain items rest
unfolding chain
chain_of g [] items rest = refl
chain_of g (x ∷ xs) items rest = ap (λ t. g x ++ t) (chain_of g xs items rest) ∙ sym (append_assoc (g x) (flat_map g xs) (chain items rest))

none_known : (locals : List LocalDef) → HaveNone [] locals
none_known [] = tt
none_known (d ∷ locals) = (refl, none_known locals)

are_definitions : (locals : List LocalDef) → AllByRecursion IsLocalWritable locals → All IsLocalSpelled locals → AllByRecursion (λ d. IsDefinitionOf (local_definition d) (local_item d)) locals
are_definitions [] w s = tt
are_definitions (d ∷ locals) w s = (local_is d w.0 (s 0 d (omega arith)), are_definitions locals w.1 (λ k e lt. s (suc k) e (omega (arith, lt))))

are_packets : (packets : List VfPacket) → AllByRecursion IsPacketWritable packets → AllByRecursion (λ p. IsPacketOf p (packet_item p)) packets
are_packets [] w = tt
are_packets (p ∷ packets) w = (packet_is p w.0, are_packets packets w.1)

definition_items : (locals : List LocalDef) (items : List (List ℕ)) → AllByRecursion (λ d. IsDefinitionOf (local_definition d) (local_item d)) locals → AllByRecursion IsItem items → AllByRecursion IsItem (map local_item locals ++ items)
definition_items [] items are all = all
definition_items (d ∷ locals) items are all = (are.0.item, definition_items locals items are.1 all)

packet_items : (packets : List VfPacket) → AllByRecursion (λ p. IsPacketOf p (packet_item p)) packets → AllByRecursion IsItem (map packet_item packets ++ [])
packet_items [] are = tt
packet_items (p ∷ packets) are = (are.0.item, packet_items packets are.1)

module _ (locals : List LocalDef) (packets : List VfPacket) (wl : AllByRecursion IsLocalWritable locals) (sl : All IsLocalSpelled locals) (own : IsTrue (have_own_numbers locals))
    (wp : AllByRecursion IsPacketWritable packets) (codes : IsTrue (have_own_codes packets)) where
  abbrev made : List (List ℕ)
  made = map local_item locals ++ (map packet_item packets ++ [])

  definitions : AllByRecursion (λ d. IsDefinitionOf (local_definition d) (local_item d)) locals
  definitions = are_definitions locals wl sl

  programs : AllByRecursion (λ p. IsPacketOf p (packet_item p)) packets
  programs = are_packets packets wp

  abbrev closing : ℕ → ℕ
  closing n = (4 - (n + 1) % 4) % 4

  tail : (n : ℕ) → replicate {A = ℕ} (closing_after n) 248 ≡ 248 ∷ replicate (closing n) 248
  tail n = let more : closing_after n ≡ suc (closing n) = omega arith in ap (λ k. replicate {A = ℕ} k 248) more

  after_preamble : drop 11 (vf_file locals packets) ≡ chain made (248 ∷ replicate (closing (length (vf_items locals packets))) 248)
  unfolding vf_file vf_items chain
  after_preamble =
      let n = length (vf_items locals packets) in
      let rest : List ℕ = 248 ∷ replicate (closing n) 248 in
      append_assoc (flat_map local_item locals) (flat_map packet_item packets) (replicate (closing_after n) 248)
      ∙ ap (λ t. flat_map local_item locals ++ (flat_map packet_item packets ++ t)) (tail n)
      ∙ sym (chain_of local_item locals (map packet_item packets ++ []) rest ∙ ap (λ t. flat_map local_item locals ++ t) (chain_of packet_item packets [] rest))

  its_text : (items : List (List ℕ)) (is : IsVfFile (vf_file locals packets) items) → drop 11 (vf_file locals packets) ≡ text_of items ++ 248 ∷ is.unused
  unfolding vf_file vf_items
  its_text items is = is.whole

  its_items : (items : List (List ℕ)) → IsVfFile (vf_file locals packets) items → items ≡ after [] made
  its_items items is =
      let o = in_order items is.sound in
      let same : chain o.items (248 ∷ is.unused) ≡ chain made (248 ∷ replicate (closing (length (vf_items locals packets))) 248) = sym (o.text (248 ∷ is.unused)) ∙ sym (its_text items is) ∙ after_preamble in
      o.are ∙ ap (after []) (one_list o.items made is.unused (replicate (closing (length (vf_items locals packets))) 248) o.whole (definition_items locals (map packet_item packets ++ []) definitions (packet_items packets programs)) same)

  pub gives_font : (items : List (List ℕ)) → IsVfFile (vf_file locals packets) items → GivesFont locals packets items
  gives_font items is =
      let split : items ≡ after (after [] (map local_item locals)) (map packet_item packets) = its_items items is ∙ ap (λ t. after [] (map local_item locals ++ t)) (append-nil (map packet_item packets)) ∙ after_both (map local_item locals) (map packet_item packets) [] in
      record {
        local = ap locals_of split ∙ no_local packets (after [] (map local_item locals)) programs ∙ locals_there locals [] definitions (none_known locals) own;
        program = λ c. ap (λ t. program_with t c) split ∙ programs_there packets (after [] (map local_item locals)) c programs codes (no_program locals [] c definitions);
      }

  -- ---- it is a file

  text_after : (items before : List (List ℕ)) (rest : List ℕ) → text_of (after before items) ++ rest ≡ text_of before ++ chain items rest
  unfolding chain
  text_after [] before rest = refl
  text_after (x ∷ items) before rest = text_after items (x ∷ before) rest ∙ append_assoc (text_of before) x (chain items rest)

  its_definitions_are_sound : (ds : List LocalDef) (before : List (List ℕ)) → AllByRecursion (λ d. IsDefinitionOf (local_definition d) (local_item d)) ds → HaveNone (locals_of before) ds
      → IsTrue (have_own_numbers ds) → AllByRecursion IsLocalSound ds → AreSound before → AreSound (after before (map local_item ds))
  its_definitions_are_sound [] before are none own sizes sound = sound
  its_definitions_are_sound (d ∷ ds) before are none own sizes sound =
      let known = locals_of before in
      let parts = and_parts _ _ own in
      let still = subst (λ k. HaveNone k ds) (sym (one_more d before are.0 none.0)) (still_none known d ds none.1 (not-true _ parts.0)) in
      its_definitions_are_sound ds (local_item d ∷ before) are.1 still parts.1 sizes.1 (sound, are.0.item, sound_local d before are.0 none.0 sizes.0)

  its_packets_are_sound : (ps : List VfPacket) (before : List (List ℕ)) → AllByRecursion (λ p. IsPacketOf p (packet_item p)) ps → AllByRecursion IsPacketSound ps → AreSound before
      → AreSound (after before (map packet_item ps))
  its_packets_are_sound [] before are commands sound = sound
  its_packets_are_sound (p ∷ ps) before are commands sound = its_packets_are_sound ps (packet_item p ∷ before) are.1 commands.1 (sound, are.0.item, sound_packet p before are.0 commands.0)

  its_preamble : preamble_fault (vf_file locals packets) ≡ None
  unfolding vf_file vf_items
  its_preamble = preamble_right (flat_map local_item locals ++ flat_map packet_item packets ++ replicate (closing_after (length (vf_items locals packets))) 248)

  pub is_file : AllByRecursion IsLocalSound locals → AllByRecursion IsPacketSound packets → IsFileOf locals packets (vf_file locals packets)
  unfolding vf_file vf_items
  is_file sizes commands =
      let split : after [] made ≡ after (after [] (map local_item locals)) (map packet_item packets) = ap (λ t. after [] (map local_item locals ++ t)) (append-nil (map packet_item packets)) ∙ after_both (map local_item locals) (map packet_item packets) [] in
      let is : IsVfFile (vf_file locals packets) (after [] made) = record {
        begins = its_preamble;
        sound = subst AreSound (sym split) (its_packets_are_sound packets (after [] (map local_item locals)) programs commands (its_definitions_are_sound locals [] definitions (none_known locals) own sizes tt));
        unused = replicate (closing (length (vf_items locals packets))) 248;
        whole = after_preamble ∙ sym (text_after made [] (248 ∷ replicate (closing (length (vf_items locals packets))) 248));
      } in
      record { items = after [] made; file = is; gives = gives_font (after [] made) is }

-- ---- the bytes as they are appended

pub file_made : (locals : List LocalDef) (packets : List VfPacket) (v a b c d : List ℕ) → v ≡ [] → a ≡ v ++ vf_preamble → b ≡ a ++ flat_map local_item locals → c ≡ b ++ flat_map packet_item packets
    → d ≡ c ++ replicate (closing_after (length c)) 248 → d ≡ vf_file locals packets
unfolding vf_file vf_items
file_made locals packets v a b c d ev ea eb ec ed =
    let items : c ≡ vf_preamble ++ flat_map local_item locals ++ flat_map packet_item packets =
    ec ∙ ap (λ t. t ++ flat_map packet_item packets) (eb ∙ ap (λ t. t ++ flat_map local_item locals) (ea ∙ ap (λ t. t ++ vf_preamble) ev)) in
    ed ∙ ap (λ t. t ++ replicate (closing_after (length t)) 248) items
