-- Bytes are a PK file, or have a first fault.
use Rattle.std.proofs.Common.{◌≡◌, ◌∙◌, ◌+◌, ◌≤◌, ◌<◌, ◌⊎◌, inl, inr, ℕ, zero, suc, Bool, true, false, List, [], ◌∷◌, ◌++◌, length, take, drop, Option, Some, None, refl, sym, ap, subst, arith, append_assoc, length-append}
use Rattle.std.specs.Option.{MatchOption}
use Rattle.std.specs.Prelude.{◌==◌, if◌then◌else◌}
use Rattle.std.specs.Map.{lookup}
use Rattle.std.proofs.lemmas.Bool.{true≢false, cases_Bool, cases_lt, cases_eq, eq-eqb, ne_eqb, lt-ltb, le-ltb}
use Rattle.std.proofs.lemmas.List.{get_or-take, length-take-le, take-append-drop}
use Rattle.packed_rows.specs.Bitmap.{from_fn}
use Rattle.packed_rows.proofs.Lists.{get_or-from_fn}
use Rattle.big_endian.specs.Numbers.{AreBytes}
use Rattle.pk_runs.specs.declared.glyph.Glyph.{Glyph}
use Rattle.pk_runs.specs.declared.faults.RunFault.{RunFault}
use Rattle.pk_runs.proofs.Total.{bytes_have_a_raster_or_a_fault}
use Rattle.pk_packets.specs.Preamble.{preamble_fault, preamble_size}
use Rattle.pk_packets.specs.Items.{IsItem, head_size, is_packet, item_size, opcode, text_of}
use Rattle.pk_packets.specs.Packets.{code_of, dyn_f_of, fixed_size, raster_height, hoff_of, is_first_black, packet_fault, raster_of, voff_of, raster_width}
use Rattle.pk_packets.specs.Fonts.{AreSound, Glyphs, glyph_of, HasGlyphsOf, IsAnswer, IsPacketSound, IsPkFile}
use Rattle.pk_packets.specs.Faults.{HasRunFault, IsFaultAfter, IsFaultOfItems, IsFirstFault, IsPacketFault}
use Rattle.pk_packets.specs.Laws.{FilesAreReadOrHaveAFault, SoundItemsHaveGlyphs}
use Rattle.pk_packets.specs.declared.faults.PkFault.{PkFault}
use Rattle.pk_packets.specs.declared.faults.PkFault.TheVariants.{Short, Undefined, Runs}
use Rattle.pk_packets.proofs.Added.{answered, passed_over}
use Rattle.pk_packets.proofs.OneItem.{same_size}
use Rattle.pk_packets.proofs.OneMeaning.{small_form}

bytes_after : (n : ℕ) (x : List ℕ) → AreBytes x → AreBytes (drop n x)
bytes_after zero x h = h
bytes_after (suc n) [] h = tt
bytes_after (suc n) (b ∷ x) h = bytes_after n x h.1

bytes_before : (n : ℕ) (x : List ℕ) → AreBytes x → AreBytes (take n x)
bytes_before zero x h = tt
bytes_before (suc n) [] h = tt
bytes_before (suc n) (b ∷ x) h = (h.0, bytes_before n x h.1)

-- ---- a packet

packet_then : (before : List (List ℕ)) (packet : List ℕ) → AreBytes packet → is_packet packet ≡ true → IsPacketSound before packet ⊎ ((f : PkFault) × IsPacketFault before packet f)
packet_then before packet few kind = by (packet_fault before packet) refl
  where
    by : (o : Option PkFault) → packet_fault before packet ≡ o → IsPacketSound before packet ⊎ ((f : PkFault) × IsPacketFault before packet f)
    by None e = elim (bytes_have_a_raster_or_a_fault (raster_of packet) (dyn_f_of packet) (raster_width packet) (raster_height packet) (is_first_black packet) (small_form packet kind)
        (bytes_after (head_size (opcode packet) + fixed_size (opcode packet)) packet few)) [
          | inl r ↦ inl (e, r.0, r.1)
          | inr r ↦
              let f = Runs (code_of packet) r.0 in
              inr (f, subst (λ (o : Option PkFault). MatchOption o ((q : RunFault) × HasRunFault packet q × (f ≡ Runs (code_of packet) q)) (λ found. f ≡ found)) (sym e) (r.0, r.1, refl))
        ]
    by (Some f) e = inr (f, subst (λ (o : Option PkFault). MatchOption o ((q : RunFault) × HasRunFault packet q × (f ≡ Runs (code_of packet) q)) (λ found. f ≡ found)) (sym e) refl)

-- ---- an item

abbrev IsEnd : List ℕ → Type 0
IsEnd rest = (unused : List ℕ) × (rest ≡ 245 ∷ unused)

abbrev IsMore : List (List ℕ) → List ℕ → Type 0
IsMore items rest = (item : List ℕ) × (more : List ℕ) × (rest ≡ item ++ more) × AreSound (item ∷ items) × (1 ≤ length item)

abbrev IsWrong : List (List ℕ) → List ℕ → Type 0
IsWrong items rest = (f : PkFault) × IsFaultAfter items rest f

closing : (rest : List ℕ) → 1 ≤ length rest → opcode rest ≡ 245 → IsEnd rest
closing [] some e = absurd (omega (arith, some))
closing (b ∷ x) some e = (x, ap (λ k. k ∷ x) e)

whole_then : (items : List (List ℕ)) (rest item more : List ℕ) → AreBytes item → AreSound items → rest ≡ item ++ more → IsItem item → 1 ≤ length item → IsMore items rest ⊎ IsWrong items rest
whole_then items rest item more few sound e is some = elim (cases_Bool (is_packet item)) [
  | inl kind ↦ elim (packet_then items item few kind) [
    | inl good ↦ inl (item, more, e, (sound, is, λ _. good), some)
    | inr bad ↦ inr (bad.0, inr (record { packet = item; more = more; here = e; item = is; kind = kind; wrong = bad.1 }))
  ]
  | inr other ↦ inl (item, more, e, (sound, is, λ kind. absurd (true≢false (sym kind ∙ other))), some)
]

first_item : (rest : List ℕ) → opcode rest ≤ 246 → (opcode rest ≡ 245 → ⊥) → item_size rest ≤ length rest → IsItem (take (item_size rest) rest)
first_item rest low other enough = record {
  known = subst (λ o. o ≤ 246) (sym same) low;
  not_closing = ne_eqb (opcode (take (item_size rest) rest)) 245 (λ e. other (sym same ∙ e));
  whole = len ∙ ap item_size (sym (take-append-drop (item_size rest) rest)) ∙ same_size (take (item_size rest) rest) (drop (item_size rest) rest) (omega (arith, len, ap head_size same));
}
  where
    same : opcode (take (item_size rest) rest) ≡ opcode rest
    same = get_or-take (item_size rest) rest 0 0 (omega arith)

    len : length (take (item_size rest) rest) ≡ item_size rest
    len = length-take-le (item_size rest) rest enough

next_then : (items : List (List ℕ)) (rest : List ℕ) → AreBytes rest → AreSound items → IsEnd rest ⊎ (IsMore items rest ⊎ IsWrong items rest)
next_then items rest few sound = elim (cases_lt 246 (opcode rest)) [
  | inl high ↦ inr (inr (Undefined (opcode rest), inl (inr (omega (arith, high), refl))))
  | inr low ↦ elim (cases_lt (length rest) (item_size rest)) [
    | inl cut ↦ inr (inr (Short, inl (inl ((low, cut), refl))))
    | inr enough ↦ elim (cases_eq (opcode rest) 245) [
      | inl e ↦ inl (closing rest (omega (arith, enough)) e)
      | inr other ↦
          inr (whole_then items rest (take (item_size rest) rest) (drop (item_size rest) rest) (bytes_before (item_size rest) rest few) sound
          (sym (take-append-drop (item_size rest) rest)) (first_item rest low other enough) (omega (arith, length-take-le (item_size rest) rest enough)))
    ]
  ]
]

-- ---- all items

rest_are : (prefix rest : List ℕ) → AreBytes (prefix ++ rest) → AreBytes rest
rest_are [] rest h = h
rest_are (b ∷ prefix) rest h = rest_are prefix rest h.1

items_end : (fuel : ℕ) (bytes : List ℕ) (items : List (List ℕ)) (rest : List ℕ) → preamble_fault bytes ≡ None → AreBytes rest → AreSound items → drop (preamble_size bytes) bytes ≡ text_of items ++ rest
    → length rest < fuel → ((all : List (List ℕ)) × IsPkFile bytes all) ⊎ ((f : PkFault) × IsFaultOfItems bytes f)
items_end zero bytes items rest begins few sound text short = absurd (omega (arith, short))
items_end (suc fuel) bytes items rest begins few sound text short = elim (next_then items rest few sound) [
  | inl end ↦ inl (items, record { begins = begins; sound = sound; unused = end.0; whole = text ∙ ap (λ t. text_of items ++ t) end.1 })
  | inr next ↦ elim next [
    | inl m ↦
        items_end fuel bytes (m.0 ∷ items) m.1 begins (rest_are m.0 m.1 (subst AreBytes m.2 few)) m.3
        (text ∙ ap (λ t. text_of items ++ t) m.2 ∙ sym (append_assoc (text_of items) m.0 m.1))
        (omega (arith, short, ap length m.2, length-append m.0 m.1, m.4))
    | inr wrong ↦ inr (wrong.0, record { items = items; rest = rest; sound = sound; text = text; after = wrong.1 })
  ]
]

pub files_are_read_or_have_a_fault : FilesAreReadOrHaveAFault
files_are_read_or_have_a_fault bytes few = by (preamble_fault bytes) refl
  where
    by : (o : Option PkFault) → preamble_fault bytes ≡ o → ((items : List (List ℕ)) × IsPkFile bytes items) ⊎ ((f : PkFault) × IsFirstFault bytes f)
    by None e = elim (items_end (suc (length (drop (preamble_size bytes) bytes))) bytes [] (drop (preamble_size bytes) bytes) e (bytes_after (preamble_size bytes) bytes few) tt refl (omega arith)) [
      | inl file ↦ inl file
      | inr f ↦ inr (f.0, subst (λ (o : Option PkFault). MatchOption o (IsFaultOfItems bytes f.0) (λ found. f.0 ≡ found)) (sym e) f.1)
    ]
    by (Some f) e = inr (f, subst (λ (o : Option PkFault). MatchOption o (IsFaultOfItems bytes f) (λ found. f ≡ found)) (sym e) refl)

-- ---- glyphs

same_way : (a b : ℕ) → (a == b) ≡ (b == a)
same_way a b = elim (cases_eq a b) [
  | inl e ↦ eq-eqb a b e ∙ sym (eq-eqb b a (sym e))
  | inr other ↦ ne_eqb a b other ∙ sym (ne_eqb b a (λ e. other (sym e)))
]

-- the glyphs of the packets, the last one first, by their codes
listed : (items : List (List ℕ)) → AreSound items → (all : List (ℕ × Glyph)) × ((c : ℕ) → IsAnswer items c (lookup (λ k. c == k) all))
listed [] h = ([], λ c. refl)
listed (item ∷ before) h = elim (cases_Bool (is_packet item)) [
  | inl kind ↦
      let r = listed before h.0 in
      let p = h.2 kind in
      let g : Glyph = record { raster = p.1; hoff = hoff_of item; voff = voff_of item } in (
        (code_of item, g) ∷ r.0,
        λ c. answered item before c g (lookup (λ k. c == k) r.0) (if c == code_of item then Some g else lookup (λ k. c == k) r.0) kind
            (record { raster = p.2; hoff = refl; voff = refl }) (r.1 c) (ap (λ b. if b then Some g else lookup (λ k. c == k) r.0) (same_way c (code_of item))),
      )
  | inr other ↦
      let r = listed before h.0 in
      (r.0, λ c. passed_over item before c (lookup (λ k. c == k) r.0) other (r.1 c))
]

pub sound_items_have_glyphs : SoundItemsHaveGlyphs
sound_items_have_glyphs items h = (font, λ c. subst (λ (o : Option Glyph). IsAnswer items c o) (sym (same c)) (r.1 c))
  where
    r : (all : List (ℕ × Glyph)) × ((c : ℕ) → IsAnswer items c (lookup (λ k. c == k) all))
    r = listed items h

    of : ℕ → Option Glyph
    of c = lookup (λ k. c == k) r.0

    font : Glyphs
    font = record { by_place = from_fn 256 of; others = r.0 }

    same : (c : ℕ) → glyph_of font c ≡ of c
    same c = elim (cases_lt c 256) [
      | inl low ↦ rw (lt-ltb c 256 low) (get_or-from_fn 256 of c None low)
      | inr high ↦ rw (le-ltb c 256 high) refl
    ]
