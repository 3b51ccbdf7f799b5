-- A made PK file, read again.
use Rattle.std.proofs.Common.{◌≡◌, ◌∙◌, inl, inr, ℕ, suc, ◌+◌, ◌*◌, ◌≤◌, false, List, [], ◌∷◌, ◌++◌, length, Option, Some, None, refl, sym, ap, subst, arith, append_assoc, replicate}
use Rattle.std.specs.Prelude.{All, IsTrue, ◌==◌, if◌then◌else◌}
use Rattle.std.specs.Int.{div_ceil}
use Rattle.std.specs.List.{AllByRecursion, flat_map, list_any}
use Rattle.std.proofs.lemmas.Bool.{and_parts, cases_Bool, cond-true, cond-false, eqb-true, le-ltb, not-true, or_parts}
use Rattle.std.proofs.lemmas.List.{length-append}
use Rattle.pk_runs.specs.Limits.{MAX_GLYPH_SIDE, MAX_RASTER_BYTES}
use Rattle.pk_runs.specs.declared.glyph.Glyph.{Glyph}
use Rattle.pk_packets.specs.Preamble.{preamble_fault}
use Rattle.pk_packets.specs.Items.{text_of}
use Rattle.pk_packets.specs.Packets.{raster_height, raster_size, raster_sum, raster_width}
use Rattle.pk_packets.specs.Fonts.{AreSound, IsAnswer, IsPkFile}
use Rattle.pk_packets.proofs.Added.{answered, within_limits}
use Rattle.pk_packets.proofs.OneMeaning.{files_are_read_one_way}
use Rattle.sample_maker.specs.PkFile.{IsMeasured, file_in, glyph_given, have_own_codes, no_ops_after, packet_item, pk_items, pk_preamble, size_sum}
use Rattle.sample_maker.specs.declared.coded.Coding.{Coding}
use Rattle.sample_maker.proofs.PkForms.{IsPacketFor, packet_says}

-- ---- packets after those before them, the last one first

abbrev pub after : Coding → List (List ℕ) → List (ℕ × Glyph) → List (List ℕ)
after way before [] = before
after way before (p ∷ glyphs) = after way (packet_item way p ∷ before) glyphs

abbrev AreFor : Coding → List (ℕ × Glyph) → Type 0
AreFor way glyphs = AllByRecursion (λ p. IsPacketFor p (packet_item way p)) glyphs

are_for : (way : Coding) (glyphs : List (ℕ × Glyph)) → All (IsMeasured way) glyphs → AreFor way glyphs
are_for way [] m = tt
are_for way (p ∷ glyphs) m = (packet_says way p (m 0 p (omega arith)), are_for way glyphs (λ k q lt. m (suc k) q (omega (arith, lt))))

text_after : (way : Coding) (glyphs : List (ℕ × Glyph)) (before : List (List ℕ)) (rest : List ℕ) → text_of (after way before glyphs) ++ rest ≡ text_of before ++ (flat_map (packet_item way) glyphs ++ rest)
text_after way [] before rest = refl
text_after way (p ∷ glyphs) before rest =
    text_after way glyphs (packet_item way p ∷ before) rest
    ∙ append_assoc (text_of before) (packet_item way p) (flat_map (packet_item way) glyphs ++ rest)
    ∙ ap (λ t. text_of before ++ t) (sym (append_assoc (packet_item way p) (flat_map (packet_item way) glyphs) rest))

-- ---- the limits

size_of : (p : ℕ × Glyph) (bytes : List ℕ) → IsPacketFor p bytes → raster_size bytes ≡ p.1.raster.height * div_ceil p.1.raster.width 8
size_of p bytes is = ap (λ h. h * div_ceil (raster_width bytes) 8) is.height ∙ ap (λ w. p.1.raster.height * div_ceil w 8) is.width

sum_after : (p : ℕ × Glyph) (bytes : List ℕ) (before : List (List ℕ)) → IsPacketFor p bytes → raster_sum (bytes ∷ before) ≡ raster_sum before + p.1.raster.height * div_ceil p.1.raster.width 8
sum_after p bytes before is = ap (λ b. raster_sum before + (if b then raster_size bytes else 0)) is.kind ∙ ap (λ n. raster_sum before + n) (size_of p bytes is)

sound_after : (way : Coding) (glyphs : List (ℕ × Glyph)) (before : List (List ℕ)) → All (IsMeasured way) glyphs → AreFor way glyphs → AreSound before → raster_sum before + size_sum glyphs ≤ MAX_RASTER_BYTES → AreSound (after way before glyphs)
sound_after way [] before m are sound few = sound
sound_after way (p ∷ glyphs) before m are sound few =
    let item = packet_item way p in
    let is = are.0 in
    let here : IsMeasured way p = m 0 p (omega arith) in
    let narrow : raster_width item ≤ MAX_GLYPH_SIDE = omega (arith, is.width, here.glyph.width) in
    let low : raster_height item ≤ MAX_GLYPH_SIDE = omega (arith, is.height, here.glyph.height) in
    let size = size_of p item is in
    let within = within_limits item before is.long narrow low (omega (arith, few, size)) in
    sound_after way glyphs (item ∷ before) (λ k q lt. m (suc k) q (omega (arith, lt))) are.1
    (sound, is.item, λ _. (within, p.1.raster, is.raster))
    (omega (arith, few, sum_after p item before is))

-- ---- the glyphs

none_given : (glyphs : List (ℕ × Glyph)) (c : ℕ) → list_any (λ (q : ℕ × Glyph). q.0 == c) glyphs ≡ false → glyph_given glyphs c ≡ None
none_given [] c h = refl
none_given (q ∷ glyphs) c h =
    let parts = or_parts (q.0 == c) (list_any (λ (x : ℕ × Glyph). x.0 == c) glyphs) h in
    cond-false (q.0 == c) (Some q.1) (glyph_given glyphs c) parts.0 ∙ none_given glyphs c parts.1

-- a packet more: its glyph for its code, and the other codes keep theirs
one_more : (way : Coding) (p : ℕ × Glyph) (before : List (List ℕ)) (c : ℕ) (old new : Option Glyph) → IsPacketFor p (packet_item way p) → IsAnswer before c old
    → new ≡ (if p.0 == c then Some p.1 else old) → IsAnswer (packet_item way p ∷ before) c new
one_more way p before c old new is answer e =
    answered (packet_item way p) before c p.1 old new is.kind is.glyph answer (e ∙ ap (λ (k : ℕ). if k == c then Some p.1 else old) (sym is.code))

not_replaced : (way : Coding) (glyphs : List (ℕ × Glyph)) (before : List (List ℕ)) (c : ℕ) (old : Option Glyph) → AreFor way glyphs → glyph_given glyphs c ≡ None → IsAnswer before c old → IsAnswer (after way before glyphs) c old
not_replaced way [] before c old are none answer = answer
not_replaced way (p ∷ glyphs) before c old are none answer = elim (cases_Bool (p.0 == c)) [
  | inl same ↦ let some : Some p.1 ≡ None = sym (cond-true (p.0 == c) (Some p.1) (glyph_given glyphs c) same) ∙ none in cc
  | inr other ↦
      let rest : glyph_given glyphs c ≡ None = sym (cond-false (p.0 == c) (Some p.1) (glyph_given glyphs c) other) ∙ none in
      not_replaced way glyphs (packet_item way p ∷ before) c old are.1 rest (one_more way p before c old old are.0 answer (sym (cond-false (p.0 == c) (Some p.1) old other)))
]

glyphs_there : (way : Coding) (glyphs : List (ℕ × Glyph)) (before : List (List ℕ)) (c : ℕ) → AreFor way glyphs → IsTrue (have_own_codes glyphs) → IsAnswer before c None → IsAnswer (after way before glyphs) c (glyph_given glyphs c)
glyphs_there way [] before c are own answer = answer
glyphs_there way (p ∷ glyphs) before c are own answer = elim (cases_Bool (p.0 == c)) [
  | inl same ↦
      let code : p.0 ≡ c = eqb-true p.0 c same in
      let alone : glyph_given glyphs c ≡ None = ap (glyph_given glyphs) (sym code) ∙ none_given glyphs p.0 (not-true _ (and_parts _ _ own).0) in
      let found : glyph_given (p ∷ glyphs) c ≡ Some p.1 = cond-true (p.0 == c) (Some p.1) (glyph_given glyphs c) same in
      subst (λ (o : Option Glyph). IsAnswer (after way before (p ∷ glyphs)) c o) (sym found)
      (not_replaced way glyphs (packet_item way p ∷ before) c (Some p.1) are.1 alone
      (one_more way p before c None (Some p.1) are.0 answer (sym (cond-true (p.0 == c) (Some p.1) None same))))
  | inr other ↦
      let passed : glyph_given (p ∷ glyphs) c ≡ glyph_given glyphs c = cond-false (p.0 == c) (Some p.1) (glyph_given glyphs c) other in
      subst (λ (o : Option Glyph). IsAnswer (after way before (p ∷ glyphs)) c o) (sym passed)
      (glyphs_there way glyphs (packet_item way p ∷ before) c are.1 (and_parts _ _ own).1
      (one_more way p before c None None are.0 answer (sym (cond-false (p.0 == c) (Some p.1) None other))))
]

-- ---- the file

right_preamble : (rest : List ℕ) → preamble_fault (pk_preamble ++ rest) ≡ None
right_preamble rest =
    let len : length (pk_preamble ++ rest) ≡ 19 + length rest = length-append pk_preamble rest in
    let one : 1 ≤ length (pk_preamble ++ rest) = omega (arith, len) in
    let two : 2 ≤ length (pk_preamble ++ rest) = omega (arith, len) in
    let three : 3 ≤ length (pk_preamble ++ rest) = omega (arith, len) in
    let all : 19 ≤ length (pk_preamble ++ rest) = omega (arith, len) in
    rw (
      le-ltb (length (pk_preamble ++ rest)) 1 one,
      le-ltb (length (pk_preamble ++ rest)) 2 two,
      le-ltb (length (pk_preamble ++ rest)) 3 three,
      le-ltb (length (pk_preamble ++ rest)) 19 all,
    ) refl

module _ (way : Coding) (glyphs : List (ℕ × Glyph)) (m : All (IsMeasured way) glyphs) (own : IsTrue (have_own_codes glyphs)) (few : size_sum glyphs ≤ MAX_RASTER_BYTES) where
  abbrev packets : List (List ℕ)
  packets = after way [] glyphs

  abbrev tail : List ℕ
  tail = replicate (no_ops_after (length (pk_items way glyphs))) 246

  parts : file_in way glyphs ≡ pk_preamble ++ (flat_map (packet_item way) glyphs ++ 245 ∷ tail)
  unfolding file_in pk_items
  parts = append_assoc pk_preamble (flat_map (packet_item way) glyphs) (245 ∷ tail)

  pub is_file : IsPkFile (file_in way glyphs) packets
  is_file = subst (λ (bytes : List ℕ). IsPkFile bytes packets) (sym parts) (record {
    begins = right_preamble (flat_map (packet_item way) glyphs ++ 245 ∷ tail);
    sound = sound_after way glyphs [] m (are_for way glyphs m) tt (omega (arith, few));
    unused = tail;
    whole = sym (text_after way glyphs [] (245 ∷ tail));
  })

  pub glyphs_again : (items : List (List ℕ)) → IsPkFile (file_in way glyphs) items → (c : ℕ) → IsAnswer items c (glyph_given glyphs c)
  glyphs_again items is c =
      subst (λ (i : List (List ℕ)). IsAnswer i c (glyph_given glyphs c)) (files_are_read_one_way (file_in way glyphs) packets items is_file is)
      (glyphs_there way glyphs [] c (are_for way glyphs m) own refl)

-- ---- the bytes as they are appended

pub file_made : (way : Coding) (glyphs : List (ℕ × Glyph)) (v a b c : List ℕ) → v ≡ [] → a ≡ v ++ pk_preamble → b ≡ a ++ flat_map (packet_item way) glyphs
    → c ≡ b ++ 245 ∷ replicate (no_ops_after (length b)) 246 → c ≡ file_in way glyphs
unfolding file_in pk_items
file_made way glyphs v a b c ev ea eb ec =
    let items : b ≡ pk_preamble ++ flat_map (packet_item way) glyphs = eb ∙ ap (λ t. t ++ flat_map (packet_item way) glyphs) (ea ∙ ap (λ t. t ++ pk_preamble) ev) in
    ec ∙ ap (λ t. t ++ 245 ∷ replicate (no_ops_after (length t)) 246) items
