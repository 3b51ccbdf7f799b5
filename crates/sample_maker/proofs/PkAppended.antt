-- The bytes of a packet as they are appended.
use Rattle.std.proofs.Common.{◌≡◌, ◌∙◌, ℕ, zero, suc, ◌+◌, ◌-◌, ◌/◌, ◌%◌, ◌<◌, ◌≤◌, ℤ, pos, negsuc, true, false, List, [], ◌∷◌, ◌++◌, length, drop, take, Result, Ok, Err, FitsSigned, w32, of_z, to_z, refl, ap, arith, append_assoc}
use Rattle.std.specs.Prelude.{OnOk, if◌then◌else◌}
use Rattle.std.specs.Result.{is_ok}
use Rattle.std.proofs.lemmas.Int.{ints}
use Rattle.big_endian.specs.Numbers.{IsSigned, number_bytes, weight}
use Rattle.pk_runs.specs.declared.glyph.Glyph.{Glyph}
use Rattle.pk_packets.specs.Written.{extended_packet, flag_with, long_packet, short_packet}
use Rattle.sample_maker.specs.Coded.{Coded}
use Rattle.sample_maker.specs.PkFile.{fields, has_form, packet_with, sides}

pub on_ok : {A E : Type 0} (r : Result A E) (a b c : List ℕ) → a ≡ (if is_ok r then b else c) → OnOk r (a ≡ b)
on_ok (Ok x) a b c e = e
on_ok (Err x) a b c e = tt

-- ---- the low bytes of a number

pub low_unsigned : (n m : ℕ) → 1 ≤ n → n ≤ 4 → take (4 - (4 - n)) (drop (4 - n) (number_bytes 4 (pos m))) ≡ number_bytes n (pos m)
low_unsigned zero m some few = absurd (omega arith)
low_unsigned (suc zero) m some few = refl
low_unsigned (suc (suc zero)) m some few = refl
low_unsigned (suc (suc (suc zero))) m some few = refl
low_unsigned (suc (suc (suc (suc zero)))) m some few = refl
low_unsigned (suc (suc (suc (suc (suc n))))) m some few = absurd (omega arith)

one_byte : (a b : ℕ) → a % 256 ≡ b % 256 → number_bytes 1 (pos a) ≡ number_bytes 1 (pos b)
one_byte a b e = ap (λ x. x ∷ []) e

two_bytes : (a b : ℕ) → a / 256 % 256 ≡ b / 256 % 256 → a % 256 ≡ b % 256 → number_bytes 2 (pos a) ≡ number_bytes 2 (pos b)
two_bytes a b d e = ap (λ x. x ∷ a % 256 ∷ []) d ∙ ap (λ y. b / 256 % 256 ∷ y ∷ []) e

three_bytes : (a b : ℕ) → a / 65536 % 256 ≡ b / 65536 % 256 → a / 256 % 256 ≡ b / 256 % 256 → a % 256 ≡ b % 256 → number_bytes 3 (pos a) ≡ number_bytes 3 (pos b)
three_bytes a b c d e = ap (λ x. x ∷ a / 256 % 256 ∷ a % 256 ∷ []) c ∙ ap (λ x. b / 65536 % 256 ∷ x ∷ a % 256 ∷ []) d ∙ ap (λ y. b / 65536 % 256 ∷ b / 256 % 256 ∷ y ∷ []) e

pub low_signed : (n : ℕ) (z : ℤ) → 1 ≤ n → n ≤ 4 → IsSigned n z → take (4 - (4 - n)) (drop (4 - n) (number_bytes 4 z)) ≡ number_bytes n z
low_signed n (pos m) some few h = low_unsigned n m some few
low_signed zero (negsuc m) some few h = absurd (omega arith)
low_signed (suc zero) (negsuc m) some few h = one_byte (4294967295 - m) (255 - m) (omega (arith, h))
low_signed (suc (suc zero)) (negsuc m) some few h = two_bytes (4294967295 - m) (65535 - m) (omega (arith, h)) (omega (arith, h))
low_signed (suc (suc (suc zero))) (negsuc m) some few h = three_bytes (4294967295 - m) (16777215 - m) (omega (arith, h)) (omega (arith, h)) (omega (arith, h))
low_signed (suc (suc (suc (suc zero)))) (negsuc m) some few h = refl
low_signed (suc (suc (suc (suc (suc n))))) (negsuc m) some few h = absurd (omega arith)

-- a number as it is stored weighs what it is
pub stored_weight : (z : ℤ) → FitsSigned w32 z → of_z w32 (to_z w32 (of_z w32 z)) ≡ weight 4 z
stored_weight (pos m) h = omega (arith, ints)
stored_weight (negsuc m) h = omega (arith, ints)

-- ---- the three forms

-- the numbers before the sides, the sides and the bitmap
in_three : (o f s r : List ℕ) → ((o ++ f) ++ s) ++ r ≡ o ++ (f ++ (s ++ r))
in_three o f s r = append_assoc (o ++ f) s r ∙ append_assoc o f (s ++ r)

in_five : (o f l z s r : List ℕ) → ((((o ++ f) ++ l) ++ z) ++ s) ++ r ≡ o ++ (f ++ (l ++ (z ++ (s ++ r))))
in_five o f l z s r = append_assoc (((o ++ f) ++ l) ++ z) s r ∙ append_assoc ((o ++ f) ++ l) z (s ++ r) ∙ append_assoc (o ++ f) l (z ++ (s ++ r)) ∙ append_assoc o f (l ++ (z ++ (s ++ r)))

module _ (code : ℕ) (g : Glyph) (r : Coded) (fits : code < 256) where
  abbrev short_head : ℕ → ℕ → ℕ → List ℕ
  short_head flag low c = flag ∷ low ∷ c ∷ 0 ∷ 0 ∷ 0 ∷ 0 ∷ []

  pub short_joined : (out a b : List ℕ) (flag n : ℕ) → n ≡ length r.bytes → flag ≡ flag_with (fields 4 r (code, g)) ((8 + n) / 256) → a ≡ out ++ flag ∷ (8 + n) % 256 ∷ code ∷ 0 ∷ 0 ∷ 0 ∷ 0 ∷ []
      → b ≡ a ++ sides 1 g → b ++ r.bytes ≡ out ++ short_packet (fields 4 r (code, g))
  short_joined out a b flag n en ef ea eb =
      let pl = 8 + length r.bytes in
      let right = flag_with (fields 4 r (code, g)) (pl / 256) in
      let low : pl % 256 ≡ pl % 256 % 256 = omega arith in
      let same : code ≡ code % 256 = omega (arith, fits) in
      ap (λ t. t ++ r.bytes) (eb ∙ ap (λ t. t ++ sides 1 g) ea)
      ∙ in_three out (short_head flag ((8 + n) % 256) code) (sides 1 g) r.bytes
      ∙ ap (λ x. out ++ (short_head x ((8 + n) % 256) code ++ (sides 1 g ++ r.bytes))) ef
      ∙ ap (λ m. out ++ (short_head (flag_with (fields 4 r (code, g)) ((8 + m) / 256)) ((8 + m) % 256) code ++ (sides 1 g ++ r.bytes))) en
      ∙ ap (λ x. out ++ (short_head right x code ++ (sides 1 g ++ r.bytes))) low
      ∙ ap (λ x. out ++ (short_head right (pl % 256 % 256) x ++ (sides 1 g ++ r.bytes))) same

  abbrev extended_rest : ℕ → List ℕ
  extended_rest c = c ∷ 0 ∷ 0 ∷ 0 ∷ 0 ∷ 0 ∷ []

  pub extended_joined : (out a b d e l : List ℕ) (flag n : ℕ) → n ≡ length r.bytes → flag ≡ flag_with (fields 5 r (code, g)) (4 + (13 + n) / 65536) → a ≡ out ++ flag ∷ [] → l ≡ number_bytes 2 (pos ((13 + n) % 65536)) → b ≡ a ++ l
      → d ≡ b ++ code ∷ 0 ∷ 0 ∷ 0 ∷ 0 ∷ 0 ∷ [] → e ≡ d ++ sides 2 g → e ++ r.bytes ≡ out ++ extended_packet (fields 5 r (code, g))
  extended_joined out a b d e l flag n en ef ea el eb ed ee =
      let pl = 13 + length r.bytes in
      let right = flag_with (fields 5 r (code, g)) (4 + pl / 65536) in
      let same : code ≡ code % 256 = omega (arith, fits) in
      ap (λ t. t ++ r.bytes) (ee ∙ ap (λ t. t ++ sides 2 g) (ed ∙ ap (λ t. t ++ extended_rest code) (eb ∙ ap (λ t. t ++ l) ea)))
      ∙ in_five out (flag ∷ []) l (extended_rest code) (sides 2 g) r.bytes
      ∙ ap (λ t. out ++ (flag ∷ (t ++ (extended_rest code ++ (sides 2 g ++ r.bytes))))) el
      ∙ ap (λ x. out ++ (x ∷ (number_bytes 2 (pos ((13 + n) % 65536)) ++ (extended_rest code ++ (sides 2 g ++ r.bytes))))) ef
      ∙ ap (λ m. out ++ (flag_with (fields 5 r (code, g)) (4 + (13 + m) / 65536) ∷ (number_bytes 2 (pos ((13 + m) % 65536)) ++ (extended_rest code ++ (sides 2 g ++ r.bytes))))) en
      ∙ ap (λ x. out ++ (right ∷ (number_bytes 2 (pos (pl % 65536)) ++ (extended_rest x ++ (sides 2 g ++ r.bytes))))) same

  abbrev zeros : List ℕ
  zeros = 0 ∷ 0 ∷ 0 ∷ 0 ∷ 0 ∷ 0 ∷ 0 ∷ 0 ∷ 0 ∷ 0 ∷ 0 ∷ 0 ∷ []

  four_bytes : 0 ∷ 0 ∷ 0 ∷ code ∷ [] ≡ number_bytes 4 (pos code)
  four_bytes =
      let a : 0 ≡ code / 16777216 % 256 = omega (arith, fits) in
      let b : 0 ≡ code / 65536 % 256 = omega (arith, fits) in
      let c : 0 ≡ code / 256 % 256 = omega (arith, fits) in
      let d : code ≡ code % 256 = omega (arith, fits) in
      ap (λ x. x ∷ 0 ∷ 0 ∷ code ∷ []) a ∙ ap (λ x. code / 16777216 % 256 ∷ x ∷ 0 ∷ code ∷ []) b ∙ ap (λ x. code / 16777216 % 256 ∷ code / 65536 % 256 ∷ x ∷ code ∷ []) c
      ∙ ap (λ x. code / 16777216 % 256 ∷ code / 65536 % 256 ∷ code / 256 % 256 ∷ x ∷ []) d

  pub long_joined : (out a b d e l : List ℕ) (flag n : ℕ) → n ≡ length r.bytes → flag ≡ flag_with (fields 12 r (code, g)) 7 → a ≡ out ++ flag ∷ [] → l ≡ number_bytes 4 (pos (28 + n)) → b ≡ a ++ l
      → d ≡ b ++ 0 ∷ 0 ∷ 0 ∷ code ∷ 0 ∷ 0 ∷ 0 ∷ 0 ∷ 0 ∷ 0 ∷ 0 ∷ 0 ∷ 0 ∷ 0 ∷ 0 ∷ 0 ∷ [] → e ≡ d ++ sides 4 g → e ++ r.bytes ≡ out ++ long_packet (fields 12 r (code, g))
  long_joined out a b d e l flag n en ef ea el eb ed ee =
      let prefix : List ℕ = 0 ∷ 0 ∷ 0 ∷ code ∷ [] in
      let right = flag_with (fields 12 r (code, g)) 7 in
      let count = number_bytes 4 (pos (28 + length r.bytes)) in
      ap (λ t. t ++ r.bytes) (ee ∙ ap (λ t. t ++ sides 4 g) (ed ∙ ap (λ t. t ++ (prefix ++ zeros)) (eb ∙ ap (λ t. t ++ l) ea)))
      ∙ in_five out (flag ∷ []) l (prefix ++ zeros) (sides 4 g) r.bytes
      ∙ ap (λ t. out ++ (flag ∷ (t ++ (prefix ++ (zeros ++ (sides 4 g ++ r.bytes)))))) el
      ∙ ap (λ m. out ++ (flag ∷ (number_bytes 4 (pos (28 + m)) ++ (prefix ++ (zeros ++ (sides 4 g ++ r.bytes)))))) en
      ∙ ap (λ x. out ++ (x ∷ (count ++ (prefix ++ (zeros ++ (sides 4 g ++ r.bytes)))))) ef
      ∙ ap (λ t. out ++ (right ∷ (count ++ (t ++ (zeros ++ (sides 4 g ++ r.bytes)))))) four_bytes

-- ---- the form that is chosen

module _ (r : Coded) (p : ℕ × Glyph) where
  pub short_item : has_form 1 8 1024 r p.1 ≡ true → short_packet (fields 4 r p) ≡ packet_with r p
  unfolding packet_with
  short_item short = rw short refl

  pub extended_item : has_form 1 8 1024 r p.1 ≡ false → has_form 2 13 196608 r p.1 ≡ true → extended_packet (fields 5 r p) ≡ packet_with r p
  unfolding packet_with
  extended_item other extended = rw (other, extended) refl

  pub long_item : has_form 1 8 1024 r p.1 ≡ false → has_form 2 13 196608 r p.1 ≡ false → long_packet (fields 12 r p) ≡ packet_with r p
  unfolding packet_with
  long_item other far = rw (other, far) refl
