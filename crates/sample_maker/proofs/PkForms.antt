-- A packet in the first form that holds its numbers, and what it says.
use Rattle.std.proofs.Common.{◌≡◌, inl, inr, ℕ, zero, suc, ◌+◌, ◌*◌, ◌/◌, ◌%◌, ◌^◌, ◌<◌, ◌≤◌, ℤ, pos, negsuc, true, List, ◌++◌, length, replicate, refl, sym, ap, subst, arith}
use Rattle.std.specs.Prelude.{Bool, false, nat_lt, ◌&&◌, if◌then◌else◌}
use Rattle.std.proofs.lemmas.Bool.{and_parts, cases_Bool, le-leb, lt-leb, lt-ltb, ltb-true}
use Rattle.std.proofs.lemmas.List.{length-append}
use Rattle.std.proofs.lemmas.Nat.{mul-le}
use Rattle.big_endian.specs.Numbers.{IsSigned, number_bytes}
use Rattle.big_endian.proofs.Bytes.{length-number_bytes}
use Rattle.packed_rows.specs.Bitmap.{IsShaped}
use Rattle.pk_runs.specs.Raster.{IsRaster}
use Rattle.pk_runs.specs.declared.glyph.Glyph.{Glyph}
use Rattle.pk_packets.specs.Items.{IsItem, head_size, is_packet, opcode, given_size}
use Rattle.pk_packets.specs.Packets.{code_of, dyn_f_of, fixed_size, raster_height, is_first_black, raster_width}
use Rattle.pk_packets.specs.Fonts.{HasRaster, IsGlyphOf}
use Rattle.pk_packets.specs.Written.{Fields, Fit, IsReadAs, extended_packet, flag_with, long_packet, packet_bytes, short_packet}
use Rattle.pk_packets.proofs.Forms.{extended_packets_are_read_again, long_packets_are_read_again, short_packets_are_read_again}
use Rattle.sample_maker.specs.Coded.{Coded, StandsFor, coded}
use Rattle.sample_maker.specs.PkFile.{IsBounded, IsMeasured, fields, has_form, is_signed, packet_item, packet_with}
use Rattle.sample_maker.specs.declared.coded.Coding.{Coding}

-- ---- the numbers that a form holds

pub signed_held : (n : ℕ) (z : ℤ) → is_signed n z ≡ true → IsSigned n z
signed_held n (pos m) h = ltb-true (2 * m) (256 ^ n) h
signed_held n (negsuc m) h = ltb-true (2 * m) (256 ^ n) h

pub record IsHeld (n fixed most : ℕ) (r : Coded) (g : Glyph) : Type 0 where
  pub width : g.raster.width < 256 ^ n
  pub height : g.raster.height < 256 ^ n
  pub hoff : IsSigned n g.hoff
  pub voff : IsSigned n g.voff
  pub raster : fixed + length r.bytes < most

pub held : (n fixed most : ℕ) (c : Coded) (g : Glyph) → has_form n fixed most c g ≡ true → IsHeld n fixed most c g
held n fixed most c g all =
    let w = nat_lt g.raster.width (256 ^ n) in
    let h = nat_lt g.raster.height (256 ^ n) in
    let x = is_signed n g.hoff in
    let y = is_signed n g.voff in
    let r = nat_lt (fixed + length c.bytes) most in
    let a = and_parts (w && h && x && y) r all in
    let b = and_parts (w && h && x) y a.0 in
    let both = and_parts (w && h) x b.0 in
    let d = and_parts w h both.0 in
    record {
      width = ltb-true _ _ d.0;
      height = ltb-true _ _ d.1;
      hoff = signed_held n g.hoff both.1;
      voff = signed_held n g.voff b.1;
      raster = ltb-true _ _ a.1;
    }

-- ---- how long the fields of a form are

short_head : (flag : ℕ) → flag < 240 → flag % 8 ≤ 3 → head_size flag + fixed_size flag ≡ 11
short_head flag packet low = rw (lt-ltb flag 240 packet, le-leb (flag % 8) 3 low) refl

extended_head : (flag : ℕ) → flag < 240 → 4 ≤ flag % 8 → flag % 8 ≤ 6 → head_size flag + fixed_size flag ≡ 17
extended_head flag packet above low = let apart : 3 < flag % 8 = omega arith in rw (lt-ltb flag 240 packet, lt-leb (flag % 8) 3 apart, le-leb (flag % 8) 6 low) refl

long_head : (flag : ℕ) → flag < 240 → flag % 8 ≡ 7 → head_size flag + fixed_size flag ≡ 37
long_head flag packet form = let third : 3 < flag % 8 = omega (arith, form) in let sixth : 6 < flag % 8 = omega (arith, form) in rw (lt-ltb flag 240 packet, lt-leb (flag % 8) 3 third, lt-leb (flag % 8) 6 sixth) refl

-- a packet with the bytes of its fields has a length that counts them
long_enough : (bytes : List ℕ) (n : ℕ) → IsItem bytes → head_size (opcode bytes) + fixed_size (opcode bytes) ≡ n → n ≤ length bytes → fixed_size (opcode bytes) ≤ given_size bytes
long_enough bytes n item size enough = omega (arith, item.whole)

length_of_packet : (f : Fields) (flag : ℕ) (count code : List ℕ) (n : ℕ) → 1 ≤ n → n ≤ 4
    → length (packet_bytes f flag count code n) ≡ 1 + (length count + (length code + (length f.escapements + (n + (n + (n + (n + length f.raster)))))))
length_of_packet f flag count code n some few =
    let w = number_bytes n (pos f.width) in
    let h = number_bytes n (pos f.height) in
    let x = number_bytes n f.hoff in
    let y = number_bytes n f.voff in
    omega (
      arith,
      length-append count (code ++ (f.escapements ++ (w ++ (h ++ (x ++ (y ++ f.raster)))))),
      length-append code (f.escapements ++ (w ++ (h ++ (x ++ (y ++ f.raster))))),
      length-append f.escapements (w ++ (h ++ (x ++ (y ++ f.raster)))),
      length-append w (h ++ (x ++ (y ++ f.raster))),
      length-append h (x ++ (y ++ f.raster)),
      length-append x (y ++ f.raster),
      length-append y f.raster,
      length-number_bytes n (pos f.width) some few,
      length-number_bytes n (pos f.height) some few,
      length-number_bytes n f.hoff some few,
      length-number_bytes n f.voff some few,
    )

-- ---- what a packet says

pub record IsPacketFor (p : ℕ × Glyph) (bytes : List ℕ) : Type 0 where
  pub item : IsItem bytes
  pub kind : is_packet bytes ≡ true
  pub code : code_of bytes ≡ p.0
  pub long : fixed_size (opcode bytes) ≤ given_size bytes
  pub width : raster_width bytes ≡ p.1.raster.width
  pub height : raster_height bytes ≡ p.1.raster.height
  pub raster : HasRaster bytes p.1.raster
  pub glyph : IsGlyphOf bytes p.1

says : (r : Coded) (p : ℕ × Glyph) (e : ℕ) (bytes : List ℕ) → StandsFor r p.1.raster → IsReadAs bytes (fields e r p) → fixed_size (opcode bytes) ≤ given_size bytes → IsPacketFor p bytes
says r p e bytes stands is long =
    let b = p.1.raster in
    let whole : HasRaster bytes b =
    subst (λ (text : List ℕ). IsRaster text (dyn_f_of bytes) (is_first_black bytes) (raster_width bytes) (raster_height bytes) b) (sym is.raster)
    (subst (λ (d : ℕ). IsRaster r.bytes d (is_first_black bytes) (raster_width bytes) (raster_height bytes) b) (sym is.dyn_f)
    (subst (λ (f : Bool). IsRaster r.bytes r.dyn_f f (raster_width bytes) (raster_height bytes) b) (sym is.first_black)
    (subst (λ (w : ℕ). IsRaster r.bytes r.dyn_f r.first_black w (raster_height bytes) b) (sym is.width)
    (subst (λ (h : ℕ). IsRaster r.bytes r.dyn_f r.first_black b.width h b) (sym is.height) stands.raster)))) in
    record {
      item = is.item;
      kind = is.kind;
      code = is.code;
      long = long;
      width = is.width;
      height = is.height;
      raster = whole;
      glyph = record { raster = whole; hoff = sym is.hoff; voff = sym is.voff };
    }

-- ---- the three forms

length_of_zeros : (n : ℕ) → length (replicate {A = ℕ} n 0) ≡ n
length_of_zeros zero = refl
length_of_zeros (suc n) = ap suc (length_of_zeros n)

module _ (r : Coded) (p : ℕ × Glyph) (code : p.0 < 256) where
  pub short_fits : r.dyn_f ≤ 14 → IsHeld 1 8 1024 r p.1 → Fit (fields 4 r p) 1 4 1 1024
  short_fits form h = record { dyn_f = form; code = omega (arith, code); escapements = refl; width = h.width; height = h.height; hoff = h.hoff; voff = h.voff; raster = omega (arith, h.raster) }

  pub extended_fits : r.dyn_f ≤ 14 → IsHeld 2 13 196608 r p.1 → Fit (fields 5 r p) 1 5 2 196608
  extended_fits form h = record { dyn_f = form; code = omega (arith, code); escapements = refl; width = h.width; height = h.height; hoff = h.hoff; voff = h.voff; raster = omega (arith, h.raster) }

-- the colour of the first run is a bit of the flag
colour : (b : Bool) → (if b then 8 else 0) % 8 ≡ 0
colour true = refl
colour false = refl

colour_small : (b : Bool) → (if b then 8 else 0) ≤ 8
colour_small true = omega arith
colour_small false = omega arith

module _ (r : Coded) (p : ℕ × Glyph) (stands : StandsFor r p.1.raster) (code : p.0 < 256) where
  abbrev black : ℕ
  black = if r.first_black then 8 else 0

  low_flag : (low : ℕ) → low < 8 → 16 * r.dyn_f + black + low < 240
  low_flag low few = omega (arith, few, stands.dyn_f, colour_small r.first_black)

  form_of : (low : ℕ) → low < 8 → (16 * r.dyn_f + black + low) % 8 ≡ low
  form_of low few = omega (arith, few, colour r.first_black)

  short_says : IsHeld 1 8 1024 r p.1 → IsPacketFor p (short_packet (fields 4 r p))
  short_says h =
      let f = fields 4 r p in
      let is = short_packets_are_read_again f (short_fits r p code stands.dyn_f h) in
      let pl = 8 + length r.bytes in
      let few : pl / 256 ≤ 3 = omega (arith, h.raster) in
      let small : pl / 256 < 8 = omega (arith, few) in
      let form : flag_with f (pl / 256) % 8 ≤ 3 = omega (arith, few, form_of (pl / 256) small) in
      let count = number_bytes 1 (pos (pl % 256)) in
      let len = length_of_packet f (flag_with f (pl / 256)) count (number_bytes 1 (pos p.0)) 1 (omega arith) (omega arith) in
      says r p 4 (short_packet f) stands is (long_enough (short_packet f) 11 is.item (short_head (flag_with f (pl / 256)) (low_flag (pl / 256) small) form) (omega (arith, len)))

  extended_says : IsHeld 2 13 196608 r p.1 → IsPacketFor p (extended_packet (fields 5 r p))
  extended_says h =
      let f = fields 5 r p in
      let is = extended_packets_are_read_again f (extended_fits r p code stands.dyn_f h) in
      let pl = 13 + length r.bytes in
      let few : 4 + pl / 65536 ≤ 6 = omega (arith, h.raster) in
      let small : 4 + pl / 65536 < 8 = omega (arith, few) in
      let above : 4 ≤ flag_with f (4 + pl / 65536) % 8 = omega (arith, form_of (4 + pl / 65536) small) in
      let form : flag_with f (4 + pl / 65536) % 8 ≤ 6 = omega (arith, few, form_of (4 + pl / 65536) small) in
      let count = number_bytes 2 (pos (pl % 65536)) in
      let len = length_of_packet f (flag_with f (4 + pl / 65536)) count (number_bytes 1 (pos p.0)) 2 (omega arith) (omega arith) in
      says r p 5 (extended_packet f) stands is (long_enough (extended_packet f) 17 is.item (extended_head (flag_with f (4 + pl / 65536)) (low_flag (4 + pl / 65536) small) above form) (omega (arith, len)))

  long_says : IsBounded p.1 → IsPacketFor p (long_packet (fields 12 r p))
  long_says g =
      let f = fields 12 r p in
      let area = mul-le p.1.raster.width p.1.raster.height 16384 16384 g.width g.height in
      let fit : Fit f 4 12 4 (2 ^ 32) =
      record { dyn_f = stands.dyn_f; code = omega (arith, code); escapements = refl; width = omega (arith, g.width); height = omega (arith, g.height); hoff = g.hoff; voff = g.voff; raster = omega (arith, stands.few, area) } in
      let is = long_packets_are_read_again f fit in
      let flag : flag_with f 7 % 8 ≡ 7 = form_of 7 (omega arith) in
      let count = number_bytes 4 (pos (28 + length r.bytes)) in
      let len = length_of_packet f (flag_with f 7) count (number_bytes 4 (pos p.0)) 4 (omega arith) (omega arith) in
      says r p 12 (long_packet f) stands is (long_enough (long_packet f) 37 is.item (long_head (flag_with f 7) (low_flag 7 (omega arith)) flag) (omega (arith, len)))

  said_with : IsBounded p.1 → IsPacketFor p (packet_with r p)
  unfolding packet_with
  said_with g = elim (cases_Bool (has_form 1 8 1024 r p.1)) [
    | inl short ↦ rw short (short_says (held 1 8 1024 r p.1 short))
    | inr other ↦ elim (cases_Bool (has_form 2 13 196608 r p.1)) [
      | inl extended ↦ rw (other, extended) (extended_says (held 2 13 196608 r p.1 extended))
      | inr far ↦ rw (other, far) (long_says g)
    ]
  ]

pub packet_says : (way : Coding) (p : ℕ × Glyph) → IsMeasured way p → IsPacketFor p (packet_item way p)
packet_says way p m = said_with (coded way p.1.raster) p m.raster m.code m.glyph
