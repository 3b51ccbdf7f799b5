-- Numbers and their bytes, both ways, for one to four bytes.
use Rattle.std.proofs.Common.{◌≡◌, ℕ, zero, suc, ◌+◌, ◌-◌, ◌*◌, ◌/◌, ◌%◌, ◌^◌, ◌<◌, ◌≤◌, ℤ, pos, negsuc, List, [], ◌∷◌, ◌++◌, length, refl, ap, ◌∙◌, arith, inl, inr, pow-suc}
use Rattle.std.specs.Int.{bytes_high_first}
use Rattle.std.proofs.Math.Nat.{mul-le-mul_left}
use Rattle.std.proofs.lemmas.List.{length-append}
use Rattle.std.proofs.lemmas.Bool.{lt-ltb, le-ltb, cases_lt}
use Rattle.big_endian.specs.Numbers.{unsigned_of, signed_of, in_twos_complement, weight, number_bytes, IsSigned, AreBytes, SignedIsReadAgain, UnsignedIsReadAgain, SignedIsWrittenAgain, UnsignedIsWrittenAgain, OneByteMore}

pub unsigned-number_bytes : (n m : ℕ) → 1 ≤ n → n ≤ 4 → m < 256 ^ n → unsigned_of (number_bytes n (pos m)) ≡ m
unsigned-number_bytes zero m low high h = absurd (omega arith)
unsigned-number_bytes (suc zero) m low high h = omega arith
unsigned-number_bytes (suc (suc zero)) m low high h = omega arith
unsigned-number_bytes (suc (suc (suc zero))) m low high h = omega arith
unsigned-number_bytes (suc (suc (suc (suc zero)))) m low high h = omega arith
unsigned-number_bytes (suc (suc (suc (suc (suc n))))) m low high h = absurd (omega arith)

pub length-number_bytes : (n : ℕ) (z : ℤ) → 1 ≤ n → n ≤ 4 → length (number_bytes n z) ≡ n
length-number_bytes zero z low high = absurd (omega arith)
length-number_bytes (suc zero) z low high = refl
length-number_bytes (suc (suc zero)) z low high = refl
length-number_bytes (suc (suc (suc zero))) z low high = refl
length-number_bytes (suc (suc (suc (suc zero)))) z low high = refl
length-number_bytes (suc (suc (suc (suc (suc n))))) z low high = absurd (omega arith)

-- of a number of 256 ^ n, which is even
twos-weight : (n k : ℕ) (z : ℤ) → 256 ^ n ≡ 2 * k → IsSigned n z → in_twos_complement n (weight n z) ≡ z
twos-weight n k (pos m) even h = rw (lt-ltb (2 * m) (256 ^ n) h) refl
twos-weight n k (negsuc m) even h =
    let high : 256 ^ n ≤ 2 * (256 ^ n - 1 - m) = omega (arith, even, h) in
    let back : 256 ^ n - 1 - (256 ^ n - 1 - m) ≡ m = omega (arith, h) in
    rw (le-ltb (2 * (256 ^ n - 1 - m)) (256 ^ n) high) (ap negsuc back)

weight_fits : (n : ℕ) (z : ℤ) → IsSigned n z → weight n z < 256 ^ n
weight_fits n (pos m) h = omega (arith, h)
weight_fits n (negsuc m) h = omega (arith, h)

again : (n k : ℕ) (z : ℤ) → 1 ≤ n → n ≤ 4 → 256 ^ n ≡ 2 * k → IsSigned n z → signed_of (number_bytes n z) ≡ z
again n k z low high even h =
    ap (λ (l : ℕ). in_twos_complement l (unsigned_of (number_bytes n z))) (length-number_bytes n z low high)
    ∙ ap (in_twos_complement n) (unsigned-number_bytes n (weight n z) low high (weight_fits n z h))
    ∙ twos-weight n k z even h

pub signed_is_read_again : SignedIsReadAgain
signed_is_read_again zero z low high h = absurd (omega arith)
signed_is_read_again (suc zero) z low high h = again 1 128 z low high refl h
signed_is_read_again (suc (suc zero)) z low high h = again 2 32768 z low high refl h
signed_is_read_again (suc (suc (suc zero))) z low high h = again 3 8388608 z low high refl h
signed_is_read_again (suc (suc (suc (suc zero)))) z low high h = again 4 2147483648 z low high refl h
signed_is_read_again (suc (suc (suc (suc (suc n))))) z low high h = absurd (omega arith)

one-again : (a : ℕ) → a < 256 → number_bytes 1 (pos (unsigned_of (a ∷ []))) ≡ a ∷ []
one-again a ha =
    let e : (a * 1 + 0) % 256 ≡ a = omega arith in
    ap (λ x. x ∷ []) e

two-again : (a b : ℕ) → a < 256 → b < 256 → number_bytes 2 (pos (unsigned_of (a ∷ b ∷ []))) ≡ a ∷ b ∷ []
two-again a b ha hb =
    let n = unsigned_of (a ∷ b ∷ []) in
    let e : n / 256 % 256 ≡ a = omega arith in
    let f : n % 256 ≡ b = omega arith in
    rw (e, f) refl

three-again : (a b c : ℕ) → a < 256 → b < 256 → c < 256 → number_bytes 3 (pos (unsigned_of (a ∷ b ∷ c ∷ []))) ≡ a ∷ b ∷ c ∷ []
three-again a b c ha hb hc =
    let n = unsigned_of (a ∷ b ∷ c ∷ []) in
    let e : n / 65536 % 256 ≡ a = omega arith in
    let f : n / 256 % 256 ≡ b = omega arith in
    let g : n % 256 ≡ c = omega arith in
    rw (e, f, g) refl

four-again : (a b c d : ℕ) → a < 256 → b < 256 → c < 256 → d < 256 → number_bytes 4 (pos (unsigned_of (a ∷ b ∷ c ∷ d ∷ []))) ≡ a ∷ b ∷ c ∷ d ∷ []
four-again a b c d ha hb hc hd =
    let n = unsigned_of (a ∷ b ∷ c ∷ d ∷ []) in
    let e : n / 16777216 % 256 ≡ a = omega arith in
    let f : n / 65536 % 256 ≡ b = omega arith in
    let g : n / 256 % 256 ≡ c = omega arith in
    let h : n % 256 ≡ d = omega arith in
    rw (e, f, g, h) refl

unsigned_below : (bytes : List ℕ) → AreBytes bytes → unsigned_of bytes < 256 ^ length bytes
unsigned_below [] h = omega arith
unsigned_below (b ∷ bytes) h =
    let below = unsigned_below bytes h.1 in
    let small : b ≤ 255 = omega (arith, h.0) in
    let top : b * 256 ^ length bytes ≤ 255 * 256 ^ length bytes = omega (arith, mul-le-mul_left (256 ^ length bytes) small) in
    let more : 256 ^ length (b ∷ bytes) ≡ 256 * 256 ^ length bytes = rw pow-suc (omega arith) in
    omega (arith, below, top, more)

written : (bytes : List ℕ) → AreBytes bytes → 1 ≤ length bytes → length bytes ≤ 4 → number_bytes (length bytes) (pos (unsigned_of bytes)) ≡ bytes
written [] h low high = absurd (omega arith)
written (a ∷ []) h low high = one-again a h.0
written (a ∷ b ∷ []) h low high = two-again a b h.0 h.1.0
written (a ∷ b ∷ c ∷ []) h low high = three-again a b c h.0 h.1.0 h.1.1.0
written (a ∷ b ∷ c ∷ d ∷ []) h low high = four-again a b c d h.0 h.1.0 h.1.1.0 h.1.1.1.0
written (a ∷ b ∷ c ∷ d ∷ e ∷ bytes) h low high = absurd (omega arith)

pub unsigned_is_written_again : UnsignedIsWrittenAgain
unsigned_is_written_again bytes h low high = (written bytes h low high, unsigned_below bytes h)

pub unsigned_is_read_again : UnsignedIsReadAgain
unsigned_is_read_again n m low high h = unsigned-number_bytes n m low high h

-- the number in two's complement weighs what it was read from, and fits
weight-twos : (n m : ℕ) → m < 256 ^ n → (weight n (in_twos_complement n m) ≡ m) × IsSigned n (in_twos_complement n m)
weight-twos n m h =
    elim (cases_lt (2 * m) (256 ^ n)) [
      | inl lt ↦ rw (lt-ltb (2 * m) (256 ^ n) lt) (refl, lt)
      | inr le ↦ rw (le-ltb (2 * m) (256 ^ n) le) (omega arith, omega arith)
    ]

pub signed_is_written_again : SignedIsWrittenAgain
signed_is_written_again bytes h low high =
    let both = weight-twos (length bytes) (unsigned_of bytes) (unsigned_below bytes h) in
    (ap (bytes_high_first (length bytes)) both.0 ∙ written bytes h low high, both.1)

pub one_byte_more : OneByteMore
one_byte_more [] b = omega arith
one_byte_more (a ∷ bytes) b =
    let longer : length (bytes ++ b ∷ []) ≡ suc (length bytes) = omega (arith, length-append bytes (b ∷ [])) in
    let power : 256 ^ length (bytes ++ b ∷ []) ≡ 256 * 256 ^ length bytes = rw (longer, pow-suc) (omega arith) in
    rw power (omega (arith, one_byte_more bytes b))
