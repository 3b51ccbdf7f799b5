-- A packet that is written with some fields is read with them.
use Rattle.std.proofs.Common.{◌≡◌, ◌∙◌, ◌+◌, ◌*◌, ◌/◌, ◌%◌, ◌^◌, ◌<◌, ◌≤◌, ℕ, suc, ℤ, pos, Bool, true, false, List, ◌++◌, length, take, drop, refl, sym, ap, arith}
use Rattle.std.specs.Prelude.{◌==◌, if◌then◌else◌, nat_lt}
use Rattle.std.proofs.lemmas.Bool.{lt-ltb, le-leb, lt-leb}
use Rattle.std.proofs.lemmas.Bool.Decides.{nat_tests}
use Rattle.std.proofs.lemmas.List.{drop-drop, drop_at, length-append, take_at}
use Rattle.big_endian.specs.Fields.{signed_at, unsigned_at}
use Rattle.big_endian.specs.Numbers.{IsSigned, number_bytes, signed_of, unsigned_of}
use Rattle.big_endian.proofs.Bytes.{length-number_bytes, signed_is_read_again, unsigned_is_read_again}
use Rattle.pk_packets.specs.Items.{by_form, code_size, count_size, head_size, given_by_opcode}
use Rattle.pk_packets.specs.Packets.{escapement_size, fixed_size, side_size, sides_at}
use Rattle.pk_packets.specs.Written.{ExtendedPacketsAreReadAgain, Fields, IsReadAs, LongPacketsAreReadAgain, ShortPacketsAreReadAgain, flag_with, packet_bytes}

-- ---- parts of a list, one after another

after : (xs part rest : List ℕ) (i n : ℕ) → drop i xs ≡ part ++ rest → length part ≡ n → drop (i + n) xs ≡ rest
after xs part rest i n e len = sym (drop-drop n i xs) ∙ ap (drop n) e ∙ drop_at part rest n len

number : (xs rest : List ℕ) (i s n m : ℕ) → s ≡ n → 1 ≤ n → n ≤ 4 → m < 256 ^ n → drop i xs ≡ number_bytes n (pos m) ++ rest → unsigned_at xs i s ≡ m
number xs rest i s n m size some few fits e =
    ap (unsigned_at xs i) size ∙ ap (λ ys. unsigned_of (take n ys)) e ∙ ap unsigned_of (take_at (number_bytes n (pos m)) rest n (length-number_bytes n (pos m) some few))
    ∙ unsigned_is_read_again n m some few fits

offset : (xs rest : List ℕ) (i s n : ℕ) (z : ℤ) → s ≡ n → 1 ≤ n → n ≤ 4 → IsSigned n z → drop i xs ≡ number_bytes n z ++ rest → signed_at xs i s ≡ z
offset xs rest i s n z size some few fits e =
    ap (signed_at xs i) size ∙ ap (λ ys. signed_of (take n ys)) e ∙ ap signed_of (take_at (number_bytes n z) rest n (length-number_bytes n z some few)) ∙ signed_is_read_again n z some few fits

-- ---- a form, by the sizes of its fields

record IsForm (flag c k e n t : ℕ) : Type 0 where
  count : count_size flag ≡ c
  code : code_size flag ≡ k
  escapements : escapement_size flag ≡ e
  side : side_size flag ≡ n
  given : given_by_opcode flag ≡ t

short_form : {A : Type 0} (flag : ℕ) (a b c : A) → flag % 8 ≤ 3 → by_form flag a b c ≡ a
short_form flag a b c low = rw (le-leb (flag % 8) 3 low) refl

extended_form : {A : Type 0} (flag : ℕ) (a b c : A) → 4 ≤ flag % 8 → flag % 8 ≤ 6 → by_form flag a b c ≡ b
extended_form flag a b c above low = let apart : 3 < flag % 8 = omega arith in rw (lt-leb (flag % 8) 3 apart, le-leb (flag % 8) 6 low) refl

long_form : {A : Type 0} (flag : ℕ) (a b c : A) → 7 ≤ flag % 8 → by_form flag a b c ≡ c
long_form flag a b c above =
    let apart : 3 < flag % 8 = omega arith in
    let far : 6 < flag % 8 = omega arith in
    rw (lt-leb (flag % 8) 3 apart, lt-leb (flag % 8) 6 far) refl

of_packet : {A : Type 0} (flag : ℕ) (x y : A) → flag < 240 → (if nat_lt flag 240 then x else y) ≡ x
of_packet flag x y low = rw (lt-ltb flag 240 low) refl

is_short : (flag : ℕ) → flag < 240 → flag % 8 ≤ 3 → IsForm flag 1 1 4 1 (flag % 4 * 256)
is_short flag packet low = record {
  count = of_packet flag _ _ packet ∙ short_form flag 1 2 4 low;
  code = of_packet flag _ _ packet ∙ short_form flag 1 1 4 low;
  escapements = short_form flag 4 5 12 low;
  side = short_form flag 1 2 4 low;
  given = of_packet flag _ _ packet ∙ short_form flag (flag % 4 * 256) (flag % 4 * 65536) 0 low;
}

is_extended : (flag : ℕ) → flag < 240 → 4 ≤ flag % 8 → flag % 8 ≤ 6 → IsForm flag 2 1 5 2 (flag % 4 * 65536)
is_extended flag packet above low = record {
  count = of_packet flag _ _ packet ∙ extended_form flag 1 2 4 above low;
  code = of_packet flag _ _ packet ∙ extended_form flag 1 1 4 above low;
  escapements = extended_form flag 4 5 12 above low;
  side = extended_form flag 1 2 4 above low;
  given = of_packet flag _ _ packet ∙ extended_form flag (flag % 4 * 256) (flag % 4 * 65536) 0 above low;
}

is_long : (flag : ℕ) → flag < 240 → 7 ≤ flag % 8 → IsForm flag 4 4 12 4 0
is_long flag packet above = record {
  count = of_packet flag _ _ packet ∙ long_form flag 1 2 4 above;
  code = of_packet flag _ _ packet ∙ long_form flag 1 1 4 above;
  escapements = long_form flag 4 5 12 above;
  side = long_form flag 1 2 4 above;
  given = of_packet flag _ _ packet ∙ long_form flag (flag % 4 * 256) (flag % 4 * 65536) 0 above;
}

-- ---- what a flag says beside its low three bits

record IsFlagOf (flag : ℕ) (f : Fields) : Type 0 where
  packet : flag < 240
  dyn_f : flag / 16 ≡ f.dyn_f
  first_black : (flag / 8 % 2 == 1) ≡ f.first_black

bits : (b : Bool) (dyn_f low : ℕ) → dyn_f ≤ 14 → low < 8 → (16 * dyn_f + (if b then 8 else 0) + low < 240) × ((16 * dyn_f + (if b then 8 else 0) + low) / 16 ≡ dyn_f)
    × (((16 * dyn_f + (if b then 8 else 0) + low) / 8 % 2 == 1) ≡ b) × ((16 * dyn_f + (if b then 8 else 0) + low) % 8 ≡ low)
bits true dyn_f low small few =
    let bit : (16 * dyn_f + 8 + low) / 8 % 2 ≡ 1 = omega arith in
    (omega arith, omega arith, ap (λ n. n == 1) bit, omega arith)
bits false dyn_f low small few =
    let bit : (16 * dyn_f + 0 + low) / 8 % 2 ≡ 0 = omega arith in
    (omega arith, omega arith, ap (λ n. n == 1) bit, omega arith)

flag_of : (f : Fields) (low : ℕ) → f.dyn_f ≤ 14 → low < 8 → IsFlagOf (flag_with f low) f
flag_of f low small few = let b = bits f.first_black f.dyn_f low small few in record { packet = b.0; dyn_f = b.1; first_black = b.2 }

low_bits : (f : Fields) (low : ℕ) → f.dyn_f ≤ 14 → low < 8 → flag_with f low % 8 ≡ low
low_bits f low small few = (bits f.first_black f.dyn_f low small few).3

not_post : (flag : ℕ) → flag < 240 → (flag == 245) ≡ false
not_post flag low = grind (arith, nat_tests)

-- ---- a packet of any form

read_again : (f : Fields) (flag c k e n t m : ℕ) → IsForm flag c k e n t → IsFlagOf flag f → 1 ≤ c → c ≤ 4 → 1 ≤ k → k ≤ 4 → 1 ≤ n → n ≤ 4 → m < 256 ^ c → f.code < 256 ^ k
    → length f.escapements ≡ e → f.width < 256 ^ n → f.height < 256 ^ n → IsSigned n f.hoff → IsSigned n f.voff → t + m ≡ e + 4 * n + length f.raster
    → IsReadAs (packet_bytes f flag (number_bytes c (pos m)) (number_bytes k (pos f.code)) n) f
read_again f flag c k e n t m form is some_c few_c some_k few_k some few fits_m fits_code escapements fits_w fits_h fits_x fits_y total =
    let bytes = packet_bytes f flag (number_bytes c (pos m)) (number_bytes k (pos f.code)) n in
    let s = side_size flag in
    let after_hoff : List ℕ = number_bytes n f.voff ++ f.raster in
    let after_height : List ℕ = number_bytes n f.hoff ++ after_hoff in
    let after_width : List ℕ = number_bytes n (pos f.height) ++ after_height in
    let sides : List ℕ = number_bytes n (pos f.width) ++ after_width in
    let after_code : List ℕ = f.escapements ++ sides in
    let after_count : List ℕ = number_bytes k (pos f.code) ++ after_code in
    let len_m : length (number_bytes c (pos m)) ≡ c = length-number_bytes c (pos m) some_c few_c in
    let len_code : length (number_bytes k (pos f.code)) ≡ k = length-number_bytes k (pos f.code) some_k few_k in
    let len_w : length (number_bytes n (pos f.width)) ≡ n = length-number_bytes n (pos f.width) some few in
    let len_h : length (number_bytes n (pos f.height)) ≡ n = length-number_bytes n (pos f.height) some few in
    let len_x : length (number_bytes n f.hoff) ≡ n = length-number_bytes n f.hoff some few in
    let len_y : length (number_bytes n f.voff) ≡ n = length-number_bytes n f.voff some few in
    let p1 : drop (1 + count_size flag) bytes ≡ after_count = after bytes (number_bytes c (pos m)) after_count 1 (count_size flag) refl (len_m ∙ sym form.count) in
    let p2 : drop (head_size flag) bytes ≡ after_code = after bytes (number_bytes k (pos f.code)) after_code (1 + count_size flag) (code_size flag) p1 (len_code ∙ sym form.code) in
    let p3 : drop (sides_at flag) bytes ≡ sides = after bytes f.escapements sides (head_size flag) (escapement_size flag) p2 (escapements ∙ sym form.escapements) in
    let p4 : drop (sides_at flag + s) bytes ≡ after_width = after bytes (number_bytes n (pos f.width)) after_width (sides_at flag) s p3 (len_w ∙ sym form.side) in
    let p5 : drop (sides_at flag + s + s) bytes ≡ after_height = after bytes (number_bytes n (pos f.height)) after_height (sides_at flag + s) s p4 (len_h ∙ sym form.side) in
    let p6 : drop (sides_at flag + s + s + s) bytes ≡ after_hoff = after bytes (number_bytes n f.hoff) after_hoff (sides_at flag + s + s) s p5 (len_x ∙ sym form.side) in
    let p7 : drop (sides_at flag + s + s + s + s) bytes ≡ f.raster = after bytes (number_bytes n f.voff) f.raster (sides_at flag + s + s + s) s p6 (len_y ∙ sym form.side) in
    let at_hoff : sides_at flag + 2 * s ≡ sides_at flag + s + s = omega arith in
    let at_voff : sides_at flag + 3 * s ≡ sides_at flag + s + s + s = omega arith in
    let at_raster : head_size flag + fixed_size flag ≡ sides_at flag + s + s + s + s = omega arith in
    let given : unsigned_at bytes 1 (count_size flag) ≡ m = number bytes after_count 1 (count_size flag) c m form.count some_c few_c fits_m refl in
    record {
      item = record {
        known = omega (arith, is.packet);
        not_closing = not_post flag is.packet;
        whole = long (number_bytes c (pos m)) (number_bytes k (pos f.code)) f.escapements (number_bytes n (pos f.width)) (number_bytes n (pos f.height)) (number_bytes n f.hoff) (number_bytes n f.voff) f.raster
            c k e n t m (count_size flag) (code_size flag) (given_by_opcode flag) (unsigned_at bytes 1 (count_size flag)) len_m len_code escapements len_w len_h len_x len_y form.count form.code form.given given total;
      };
      kind = lt-ltb flag 240 is.packet;
      code = number bytes after_code (1 + count_size flag) (code_size flag) k f.code form.code some_k few_k fits_code p1;
      dyn_f = is.dyn_f;
      first_black = is.first_black;
      width = number bytes after_width (sides_at flag) s n f.width form.side some few fits_w p3;
      height = number bytes after_height (sides_at flag + s) s n f.height form.side some few fits_h p4;
      hoff = offset bytes after_hoff (sides_at flag + 2 * s) s n f.hoff form.side some few fits_x (ap (λ i. drop i bytes) at_hoff ∙ p5);
      voff = offset bytes f.raster (sides_at flag + 3 * s) s n f.voff form.side some few fits_y (ap (λ i. drop i bytes) at_voff ∙ p6);
      raster = ap (λ i. drop i bytes) at_raster ∙ p7;
    }
  where
    long : (a b d w h x y r : List ℕ) (c k e n t m cs ks ts ms : ℕ) → length a ≡ c → length b ≡ k → length d ≡ e → length w ≡ n → length h ≡ n → length x ≡ n → length y ≡ n
        → cs ≡ c → ks ≡ k → ts ≡ t → ms ≡ m → t + m ≡ e + 4 * n + length r
        → suc (length (a ++ (b ++ (d ++ (w ++ (h ++ (x ++ (y ++ r)))))))) ≡ 1 + cs + ks + (ts + ms)
    long a b d w h x y r c k e n t m cs ks ts ms la lb ld lw lh lx ly ec ek et em total =
        omega (
          arith,
          length-append a (b ++ (d ++ (w ++ (h ++ (x ++ (y ++ r)))))),
          length-append b (d ++ (w ++ (h ++ (x ++ (y ++ r))))),
          length-append d (w ++ (h ++ (x ++ (y ++ r)))),
          length-append w (h ++ (x ++ (y ++ r))),
          length-append h (x ++ (y ++ r)),
          length-append x (y ++ r),
          length-append y r,
        )

-- ---- the three forms

pub short_packets_are_read_again : ShortPacketsAreReadAgain
short_packets_are_read_again f h =
    let pl = 8 + length f.raster in
    let high : pl / 256 ≤ 3 = omega (arith, h.raster) in
    let flag = flag_with f (pl / 256) in
    let is = flag_of f (pl / 256) h.dyn_f (omega arith) in
    let low : flag % 8 ≡ pl / 256 = low_bits f (pl / 256) h.dyn_f (omega arith) in
    let form = is_short flag is.packet (omega arith) in
    let m : pl % 256 < 256 ^ 1 = omega arith in
    let total : flag % 4 * 256 + pl % 256 ≡ 4 + 4 * 1 + length f.raster = omega arith in
    read_again f flag 1 1 4 1 (flag % 4 * 256) (pl % 256) form is (omega arith) (omega arith) (omega arith) (omega arith) (omega arith) (omega arith) m h.code h.escapements h.width h.height h.hoff h.voff total

pub extended_packets_are_read_again : ExtendedPacketsAreReadAgain
extended_packets_are_read_again f h =
    let pl = 13 + length f.raster in
    let high : pl / 65536 ≤ 2 = omega (arith, h.raster) in
    let flag = flag_with f (4 + pl / 65536) in
    let is = flag_of f (4 + pl / 65536) h.dyn_f (omega arith) in
    let low : flag % 8 ≡ 4 + pl / 65536 = low_bits f (4 + pl / 65536) h.dyn_f (omega arith) in
    let form = is_extended flag is.packet (omega arith) (omega arith) in
    let m : pl % 65536 < 256 ^ 2 = omega arith in
    let total : flag % 4 * 65536 + pl % 65536 ≡ 5 + 4 * 2 + length f.raster = omega arith in
    read_again f flag 2 1 5 2 (flag % 4 * 65536) (pl % 65536) form is (omega arith) (omega arith) (omega arith) (omega arith) (omega arith) (omega arith) m h.code h.escapements h.width h.height h.hoff h.voff total

pub long_packets_are_read_again : LongPacketsAreReadAgain
long_packets_are_read_again f h =
    let pl = 28 + length f.raster in
    let flag = flag_with f 7 in
    let is = flag_of f 7 h.dyn_f (omega arith) in
    let low : flag % 8 ≡ 7 = low_bits f 7 h.dyn_f (omega arith) in
    let form = is_long flag is.packet (omega arith) in
    let m : pl < 256 ^ 4 = omega (arith, h.raster) in
    let total : 0 + pl ≡ 12 + 4 * 4 + length f.raster = omega arith in
    read_again f flag 4 4 12 4 0 pl form is (omega arith) (omega arith) (omega arith) (omega arith) (omega arith) (omega arith) m h.code h.escapements h.width h.height h.hoff h.voff total
