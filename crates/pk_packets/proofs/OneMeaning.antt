-- A PK file has one list of items, one glyph at most for a code, and no fault; bytes have one first
-- fault at most.
use Rattle.std.proofs.Common.{◌≡◌, ◌∙◌, ◌≤◌, ◌<◌, ◌⊎◌, inl, inr, ℕ, ℤ, Bool, true, false, List, [], ◌∷◌, ◌++◌, Option, Some, None, refl, sym, ap, subst, arith}
use Rattle.std.specs.Prelude.{◌==◌, ◌&&◌, if◌then◌else◌}
use Rattle.std.specs.Option.{MatchOption}
use Rattle.std.proofs.lemmas.Bool.{and_parts, ltb-true}
use Rattle.packed_rows.specs.Bitmap.{Bitmap}
use Rattle.pk_runs.specs.declared.faults.RunFault.{RunFault}
use Rattle.pk_runs.specs.declared.glyph.Glyph.{Glyph}
use Rattle.pk_runs.proofs.OneFault.{rasters_are_one, rasters_have_no_fault, run_faults_are_one}
use Rattle.pk_packets.specs.Preamble.{preamble_fault}
use Rattle.pk_packets.specs.Items.{IsCut, is_packet, opcode, text_of}
use Rattle.pk_packets.specs.Packets.{code_of, dyn_f_of, raster_height, is_first_black, packet_fault, raster_of, raster_width}
use Rattle.pk_packets.specs.Fonts.{AreSound, HasRaster, IsAnswer, IsGlyphFor, IsGlyphOf, IsPacketSound, IsPkFile, packet_with}
use Rattle.pk_packets.specs.Faults.{HasRunFault, IsFaultAfter, IsFaultOfItems, IsPacketFault}
use Rattle.pk_packets.specs.Laws.{AnswersAreOne, FilesAreReadOneWay, FilesHaveNoFault, FirstFaultsAreOne}
use Rattle.pk_packets.specs.declared.faults.PkFault.{PkFault}
use Rattle.pk_packets.specs.declared.faults.PkFault.TheVariants.{Runs}
use Rattle.pk_packets.proofs.OneItem.{no_item_begins_another, not_closing, not_cut, not_undefined}
use Rattle.pk_packets.proofs.ItemLists.{Begins, cancelled, items_agree, next_item}

-- ---- packets

-- the flag of a packet determines a form of at most 14
pub small_form : (packet : List ℕ) → is_packet packet ≡ true → dyn_f_of packet ≤ 14
small_form packet kind = let low : opcode packet < 240 = ltb-true _ _ kind in omega (arith, low)

-- what is wrong with a packet, where its limits are judged
abbrev WrongBy : Option PkFault → List ℕ → PkFault → Type 0
WrongBy o packet f = MatchOption o ((r : RunFault) × HasRunFault packet r × (f ≡ Runs (code_of packet) r)) (λ found. f ≡ found)

one_wrong : (o : Option PkFault) (packet : List ℕ) (f g : PkFault) → dyn_f_of packet ≤ 14 → WrongBy o packet f → WrongBy o packet g → f ≡ g
one_wrong None packet f g small a b =
    a.2 ∙ ap (Runs (code_of packet)) (run_faults_are_one (raster_of packet) (dyn_f_of packet) (raster_width packet) (raster_height packet) a.0 b.0 small a.1 b.1) ∙ sym b.2
one_wrong (Some found) packet f g small a b = a ∙ sym b

never_wrong : (o : Option PkFault) (packet : List ℕ) (raster : Bitmap) (f : PkFault) → dyn_f_of packet ≤ 14 → o ≡ None → HasRaster packet raster → WrongBy o packet f → ⊥
never_wrong None packet raster f small none has a =
    rasters_have_no_fault (raster_of packet) (dyn_f_of packet) (raster_width packet) (raster_height packet) (is_first_black packet) raster a.0 small has a.1
never_wrong (Some found) packet raster f small none has a = cc

sound_is_not_wrong : (before : List (List ℕ)) (packet : List ℕ) (f : PkFault) → is_packet packet ≡ true → IsPacketSound before packet → IsPacketFault before packet f → ⊥
sound_is_not_wrong before packet f kind sound wrong = never_wrong (packet_fault before packet) packet sound.1 f (small_form packet kind) sound.0 sound.2 wrong

-- ---- after sound items

-- where a sound item follows there is no fault
no_fault_there : (items : List (List ℕ)) (item more : List ℕ) (f : PkFault) → AreSound (item ∷ items) → IsFaultAfter items (item ++ more) f → ⊥
no_fault_there items item more f h (inl (inl cut)) = not_cut item more h.1 cut.0
no_fault_there items item more f h (inl (inr undefined)) = not_undefined item more h.1 undefined.0
no_fault_there items item more f h (inr w) =
    let same : w.packet ≡ item = (no_item_begins_another w.packet item w.more more w.item h.1 (sym w.here)).0 in
    let kind : is_packet item ≡ true = ap is_packet (sym same) ∙ w.kind in
    sound_is_not_wrong items item f kind (h.2 kind) (subst (λ (p : List ℕ). IsPacketFault items p f) same w.wrong)

-- nor where the closing command follows
no_fault_at_end : (items : List (List ℕ)) (unused : List ℕ) (f : PkFault) → IsFaultAfter items (245 ∷ unused) f → ⊥
no_fault_at_end items unused f (inl (inl cut)) = absurd (omega (arith, cut.0.1))
no_fault_at_end items unused f (inl (inr undefined)) = absurd (omega (arith, undefined.0))
no_fault_at_end items unused f (inr w) = not_closing w.packet w.more unused w.item w.here

one_after : (items : List (List ℕ)) (rest : List ℕ) (f g : PkFault) → IsFaultAfter items rest f → IsFaultAfter items rest g → f ≡ g
one_after items rest f g (inl (inl a)) (inl (inl b)) = a.1 ∙ sym b.1
one_after items rest f g (inl (inl a)) (inl (inr b)) = absurd (omega (arith, a.0.0, b.0))
one_after items rest f g (inl (inr a)) (inl (inl b)) = absurd (omega (arith, a.0, b.0.0))
one_after items rest f g (inl (inr a)) (inl (inr b)) = a.1 ∙ sym b.1
one_after items rest f g (inl (inl a)) (inr w) = not_cut w.packet w.more w.item (subst IsCut w.here a.0)
one_after items rest f g (inl (inr a)) (inr w) = not_undefined w.packet w.more w.item (subst (λ (r : List ℕ). 247 ≤ opcode r) w.here a.0)
one_after items rest f g (inr v) (inl (inl b)) = not_cut v.packet v.more v.item (subst IsCut v.here b.0)
one_after items rest f g (inr v) (inl (inr b)) = not_undefined v.packet v.more v.item (subst (λ (r : List ℕ). 247 ≤ opcode r) v.here b.0)
one_after items rest f g (inr v) (inr w) =
    let same : w.packet ≡ v.packet = (no_item_begins_another w.packet v.packet w.more v.more w.item v.item (sym w.here ∙ v.here)).0 in
    one_wrong (packet_fault items v.packet) v.packet f g (small_form v.packet v.kind) v.wrong (subst (λ (p : List ℕ). IsPacketFault items p g) same w.wrong)

-- ---- files

pub files_are_read_one_way : FilesAreReadOneWay
files_are_read_one_way bytes r s hr hs = by (items_agree r s (245 ∷ hr.unused) (245 ∷ hs.unused) hr.sound hs.sound same)
  where
    same : text_of r ++ 245 ∷ hr.unused ≡ text_of s ++ 245 ∷ hs.unused
    same = sym hr.whole ∙ hs.whole

    by : (Begins r s ⊎ Begins s r) → r ≡ s
    by (inl b) = longer b.0 b.1
      where
        longer : (newer : List (List ℕ)) → s ≡ newer ++ r → r ≡ s
        longer [] eq = sym eq
        longer (m ∷ newer) eq = let q = next_item r s newer m _ _ hs.sound eq same in not_closing q.0 q.1 hr.unused q.3.1 q.4
    by (inr b) = shorter b.0 b.1
      where
        shorter : (newer : List (List ℕ)) → r ≡ newer ++ s → r ≡ s
        shorter [] eq = eq
        shorter (m ∷ newer) eq = let q = next_item s r newer m _ _ hr.sound eq (sym same) in not_closing q.0 q.1 hs.unused q.3.1 q.4

no_fault : (d r : List (List ℕ)) (unused rest : List ℕ) (f : PkFault) → AreSound d → AreSound r → text_of d ++ 245 ∷ unused ≡ text_of r ++ rest → IsFaultAfter r rest f → ⊥
no_fault d r unused rest f hd hr same e = by (items_agree d r (245 ∷ unused) rest hd hr same)
  where
    here : r ≡ d → ⊥
    here eq =
        let is : rest ≡ 245 ∷ unused = cancelled (text_of r) rest (245 ∷ unused) (sym same ∙ ap (λ t. text_of t ++ 245 ∷ unused) (sym eq)) in
        no_fault_at_end r unused f (subst (λ (b : List ℕ). IsFaultAfter r b f) is e)

    by : (Begins d r ⊎ Begins r d) → ⊥
    by (inl b) = longer b.0 b.1
      where
        longer : (newer : List (List ℕ)) → r ≡ newer ++ d → ⊥
        longer [] eq = here eq
        longer (m ∷ newer) eq = let q = next_item d r newer m (245 ∷ unused) rest hr eq same in not_closing q.0 q.1 unused q.3.1 q.4
    by (inr b) = shorter b.0 b.1
      where
        shorter : (newer : List (List ℕ)) → d ≡ newer ++ r → ⊥
        shorter [] eq = here (sym eq)
        shorter (m ∷ newer) eq =
            let q = next_item r d newer m rest (245 ∷ unused) hd eq (sym same) in
            no_fault_there r q.0 q.1 f q.3 (subst (λ (b : List ℕ). IsFaultAfter r b f) q.4 e)

-- by the fault of the preamble, or the items
abbrev FaultBy : Option PkFault → List ℕ → PkFault → Type 0
FaultBy o bytes f = MatchOption o (IsFaultOfItems bytes f) (λ found. f ≡ found)

never_by : (o : Option PkFault) (bytes : List ℕ) (items : List (List ℕ)) (f : PkFault) → o ≡ None → IsPkFile bytes items → FaultBy o bytes f → ⊥
never_by None bytes items f none h a = no_fault items a.items h.unused a.rest f h.sound a.sound (sym h.whole ∙ a.text) a.after
never_by (Some found) bytes items f none h a = cc

pub files_have_no_fault : FilesHaveNoFault
files_have_no_fault bytes items f h e = never_by (preamble_fault bytes) bytes items f h.begins h e

one_fault : (r s : List (List ℕ)) (x y : List ℕ) (f g : PkFault) → AreSound r → AreSound s → text_of r ++ x ≡ text_of s ++ y → IsFaultAfter r x f → IsFaultAfter s y g → f ≡ g
one_fault r s x y f g hr hs same e h = by (items_agree r s x y hr hs same)
  where
    here : s ≡ r → f ≡ g
    here eq =
        let tail : x ≡ y = cancelled (text_of r) x y (same ∙ ap (λ t. text_of t ++ y) eq) in
        one_after r x f g e (subst (λ (t : List (List ℕ)). IsFaultAfter t x g) eq (subst (λ (b : List ℕ). IsFaultAfter s b g) (sym tail) h))

    by : (Begins r s ⊎ Begins s r) → f ≡ g
    by (inl b) = longer b.0 b.1
      where
        longer : (newer : List (List ℕ)) → s ≡ newer ++ r → f ≡ g
        longer [] eq = here eq
        longer (m ∷ newer) eq = let q = next_item r s newer m x y hs eq same in absurd (no_fault_there r q.0 q.1 f q.3 (subst (λ (b : List ℕ). IsFaultAfter r b f) q.4 e))
    by (inr b) = shorter b.0 b.1
      where
        shorter : (newer : List (List ℕ)) → r ≡ newer ++ s → f ≡ g
        shorter [] eq = here (sym eq)
        shorter (m ∷ newer) eq = let q = next_item s r newer m y x hr eq (sym same) in absurd (no_fault_there s q.0 q.1 g q.3 (subst (λ (b : List ℕ). IsFaultAfter s b g) q.4 h))

one_by : (o : Option PkFault) (bytes : List ℕ) (f g : PkFault) → FaultBy o bytes f → FaultBy o bytes g → f ≡ g
one_by None bytes f g a b = one_fault a.items b.items a.rest b.rest f g a.sound b.sound (sym a.text ∙ b.text) a.after b.after
one_by (Some found) bytes f g a b = a ∙ sym b

pub first_faults_are_one : FirstFaultsAreOne
first_faults_are_one bytes f g a b = one_by (preamble_fault bytes) bytes f g a b

-- ---- glyphs

abbrev glyph_with : Bitmap → ℤ → ℤ → Glyph
glyph_with raster hoff voff = record { raster = raster; hoff = hoff; voff = voff }

one_glyph : (packet : List ℕ) (g k : Glyph) → dyn_f_of packet ≤ 14 → IsGlyphOf packet g → IsGlyphOf packet k → g ≡ k
one_glyph packet g k small a b =
    let raster : g.raster ≡ k.raster =
    rasters_are_one (raster_of packet) (dyn_f_of packet) (raster_width packet) (raster_height packet) (is_first_black packet) g.raster k.raster small a.raster b.raster in
    let hoff : g.hoff ≡ k.hoff = a.hoff ∙ sym b.hoff in
    let voff : g.voff ≡ k.voff = a.voff ∙ sym b.voff in
    let whole : glyph_with g.raster g.hoff g.voff ≡ glyph_with k.raster k.hoff k.voff = rw (raster, hoff, voff) refl in
    whole

-- what is found is a packet
abbrev IsFound : Option (List ℕ) → Type 0
IsFound None = Unit {0}
IsFound (Some packet) = is_packet packet ≡ true

found_is_packet : (items : List (List ℕ)) (c : ℕ) → IsFound (packet_with items c)
found_is_packet [] c = tt
found_is_packet (item ∷ before) c = by (found_is_packet before c) (is_packet item && code_of item == c) refl
  where
    by : IsFound (packet_with before c) → (b : Bool) → (is_packet item && code_of item == c) ≡ b → IsFound (if b then Some item else packet_with before c)
    by earlier true e = (and_parts (is_packet item) (code_of item == c) e).0
    by earlier false e = earlier

one_answer : (o : Option (List ℕ)) (answer other : Option Glyph) → IsFound o → IsGlyphFor o answer → IsGlyphFor o other → answer ≡ other
one_answer None answer other found a b = a ∙ sym b
one_answer (Some packet) answer other found a b = a.1 ∙ ap Some (one_glyph packet a.0 b.0 (small_form packet found) a.2 b.2) ∙ sym b.1

pub answers_are_one : AnswersAreOne
answers_are_one bytes items others c answer other h k a b =
    let same : others ≡ items = files_are_read_one_way bytes others items k h in
    one_answer (packet_with items c) answer other (found_is_packet items c) a (subst (λ (t : List (List ℕ)). IsAnswer t c other) same b)
