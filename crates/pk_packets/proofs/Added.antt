-- An item more: its raster in the sum, and its glyph in place of the one of its code.
use Rattle.std.proofs.Common.{◌≡◌, ◌∙◌, ◌+◌, ◌*◌, ◌≤◌, inl, inr, ℕ, Bool, true, false, List, ◌∷◌, Option, Some, None, refl, sym, ap, subst, arith}
use Rattle.std.specs.Prelude.{◌==◌, ◌&&◌, if◌then◌else◌}
use Rattle.std.specs.Int.{div_ceil}
use Rattle.std.proofs.lemmas.Bool.{cases_Bool, le-ltb}
use Rattle.pk_runs.specs.Limits.{MAX_GLYPH_SIDE, MAX_RASTER_BYTES}
use Rattle.pk_runs.specs.Raster.{IsRaster}
use Rattle.pk_runs.specs.declared.glyph.Glyph.{Glyph}
use Rattle.pk_packets.specs.Items.{is_packet, opcode, given_size}
use Rattle.pk_packets.specs.Packets.{code_of, dyn_f_of, fixed_size, raster_height, is_first_black, packet_fault, raster_size, raster_sum, raster_width}
use Rattle.pk_packets.specs.Reading.{IsPacketOf}
use Rattle.pk_packets.specs.declared.packet.Packet.{Packet}
use Rattle.pk_packets.specs.Fonts.{glyph_of, Glyphs, HasGlyphsOf, HasRaster, IsAnswer, IsGlyphFor, IsGlyphOf, IsPacketSound, packet_with}

pub sum_added : (bytes : List ℕ) (before : List (List ℕ)) (sum : ℕ) → is_packet bytes ≡ true → sum ≡ raster_sum before + raster_size bytes → sum ≡ raster_sum (bytes ∷ before)
sum_added bytes before sum kind e = e ∙ ap (λ b. raster_sum before + (if b then raster_size bytes else 0)) (sym kind)

-- where a packet passes each limit nothing but its runs can be wrong
pub within_limits : (bytes : List ℕ) (before : List (List ℕ)) → fixed_size (opcode bytes) ≤ given_size bytes → raster_width bytes ≤ MAX_GLYPH_SIDE → raster_height bytes ≤ MAX_GLYPH_SIDE
    → raster_sum before + raster_size bytes ≤ MAX_RASTER_BYTES → packet_fault before bytes ≡ None
within_limits bytes before long narrow low few =
    rw (le-ltb (given_size bytes) (fixed_size (opcode bytes)) long, le-ltb MAX_GLYPH_SIDE (raster_width bytes) narrow, le-ltb MAX_GLYPH_SIDE (raster_height bytes) low, le-ltb MAX_RASTER_BYTES (raster_sum before + raster_size bytes) few) refl

-- which packet has a code now
chosen : (item : List ℕ) (before : List (List ℕ)) (k : ℕ) (a b : Bool) → is_packet item ≡ a → (code_of item == k) ≡ b
    → packet_with (item ∷ before) k ≡ (if a && b then Some item else packet_with before k)
chosen item before k a b kind code =
    ap (λ t. if t && code_of item == k then Some item else packet_with before k) kind ∙ ap (λ t. if a && t then Some item else packet_with before k) code

-- the glyph of the last packet is the answer for its code, and the other codes keep theirs
pub answered : (bytes : List ℕ) (before : List (List ℕ)) (k : ℕ) (g : Glyph) (old new : Option Glyph) → is_packet bytes ≡ true → IsGlyphOf bytes g → IsAnswer before k old
    → new ≡ (if code_of bytes == k then Some g else old) → IsAnswer (bytes ∷ before) k new
answered bytes before k g old new kind of before_it e = elim (cases_Bool (code_of bytes == k)) [
  | inl same ↦
      let found : new ≡ Some g = e ∙ ap (λ b. if b then Some g else old) same in
      subst (λ (p : Option (List ℕ)). IsGlyphFor p new) (sym (chosen bytes before k true true kind same)) (g, found, of)
  | inr other ↦
      let kept : new ≡ old = e ∙ ap (λ b. if b then Some g else old) other in
      subst (λ (p : Option (List ℕ)). IsGlyphFor p new) (sym (chosen bytes before k true false kind other)) (subst (IsAnswer before k) (sym kept) before_it)
]

-- an item that is no packet changes nothing
pub passed_over : (item : List ℕ) (before : List (List ℕ)) (k : ℕ) (answer : Option Glyph) → is_packet item ≡ false → IsAnswer before k answer → IsAnswer (item ∷ before) k answer
passed_over item before k answer kind h = subst (λ (p : Option (List ℕ)). IsGlyphFor p answer) (sym (chosen item before k false (code_of item == k) kind refl)) h

pub sum_kept : (item : List ℕ) (before : List (List ℕ)) → is_packet item ≡ false → raster_sum (item ∷ before) ≡ raster_sum before
sum_kept item before kind = ap (λ b. raster_sum before + (if b then raster_size item else 0)) kind ∙ omega arith

-- what is read of a sound packet, for the sum and the font
pub packet_added : (p : Packet) (bytes : List ℕ) (before : List (List ℕ)) (sum new_sum : ℕ) (g : Glyph) (old new : Glyphs) → IsPacketOf p bytes → is_packet bytes ≡ true
    → fixed_size (opcode bytes) ≤ given_size bytes → p.width ≤ MAX_GLYPH_SIDE → p.height ≤ MAX_GLYPH_SIDE → new_sum ≡ sum + p.height * div_ceil p.width 8 → new_sum ≤ MAX_RASTER_BYTES
    → IsRaster p.raster.now p.dyn_f p.black p.width p.height g.raster → g.hoff ≡ p.hoff → g.voff ≡ p.voff
    → ((k : ℕ) → glyph_of new k ≡ (if p.code == k then Some g else glyph_of old k)) → sum ≡ raster_sum before → HasGlyphsOf before old
    → (new_sum ≡ raster_sum (bytes ∷ before)) × IsPacketSound before bytes × HasGlyphsOf (bytes ∷ before) new
packet_added p bytes before sum new_sum g old new is kind long narrow low total few raster hoff voff put sum_is glyphs =
    let whole : new_sum ≡ raster_sum before + raster_size bytes = total ∙ ap (λ n. n + p.height * div_ceil p.width 8) sum_is ∙ ap (λ h. raster_sum before + h * div_ceil p.width 8) is.height ∙ ap (λ w. raster_sum before + raster_height bytes * div_ceil w 8) is.width in
    let here : HasRaster bytes g.raster = subst (λ (r : List ℕ). IsRaster r (dyn_f_of bytes) (is_first_black bytes) (raster_width bytes) (raster_height bytes) g.raster) is.raster
    (subst (λ (d : ℕ). IsRaster p.raster.now d (is_first_black bytes) (raster_width bytes) (raster_height bytes) g.raster) is.dyn_f
    (subst (λ (b : Bool). IsRaster p.raster.now p.dyn_f b (raster_width bytes) (raster_height bytes) g.raster) is.black
    (subst (λ (w : ℕ). IsRaster p.raster.now p.dyn_f p.black w (raster_height bytes) g.raster) is.width
    (subst (λ (h : ℕ). IsRaster p.raster.now p.dyn_f p.black p.width h g.raster) is.height raster)))) in
    let fits : packet_fault before bytes ≡ None = within_limits bytes before long (subst (λ n. n ≤ MAX_GLYPH_SIDE) is.width narrow) (subst (λ n. n ≤ MAX_GLYPH_SIDE) is.height low) (subst (λ n. n ≤ MAX_RASTER_BYTES) whole few) in
    let of : IsGlyphOf bytes g = record { raster = here; hoff = hoff ∙ is.hoff; voff = voff ∙ is.voff } in (
      sum_added bytes before new_sum kind whole,
      (fits, g.raster, here),
      λ k. answered bytes before k g (glyph_of old k) (glyph_of new k) kind of (glyphs k) (put k ∙ ap (λ (c : ℕ). if c == k then Some g else glyph_of old k) is.code),
    )
