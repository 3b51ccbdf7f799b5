-- The number of four bytes of which the first is 0 or 255.
use Rattle.std.proofs.Common.{◌≡◌, ◌⊎◌, inl, inr, ℕ, ◌+◌, ◌*◌, ◌^◌, ◌<◌, ◌≤◌, false, not, List, [], ◌∷◌, length, take, drop, get_or, sym, subst, arith, drop-cons}
use Rattle.std.specs.Prelude.{◌&&◌, ◌==◌}
use Rattle.std.proofs.lemmas.Bool.{lt-ltb, le-ltb}
use Rattle.std.proofs.lemmas.Bool.Decides.{nat_tests}
use Rattle.std.proofs.lemmas.Int.{ints}
use Rattle.big_endian.specs.Numbers.{in_twos_complement, signed_of}
use Rattle.fix_word.specs.FixWords.{IsFixWord}

low_word : (m : ℕ) → m < 2 ^ 24 → IsFixWord (in_twos_complement 4 m)
low_word m lt =
    let small : 2 * m < 256 ^ 4 = omega arith in
    rw (lt-ltb _ _ small) (omega (arith, ints), omega (arith, ints))

high_word : (m : ℕ) → 255 * 2 ^ 24 ≤ m → IsFixWord (in_twos_complement 4 m)
high_word m le =
    let large : 256 ^ 4 ≤ 2 * m = omega arith in
    rw (le-ltb _ _ large) (omega (arith, ints), omega (arith, ints))

pub word_fits : (b c d e : ℕ) → c < 256 → d < 256 → e < 256 → (b ≡ 0) ⊎ (b ≡ 255) → IsFixWord (signed_of (b ∷ c ∷ d ∷ e ∷ []))
word_fits b c d e hc hd he (inl is) = low_word _ (omega arith)
word_fits b c d e hc hd he (inr is) = high_word _ (omega arith)

-- the bytes from a place on, one after another
four : (bytes : List ℕ) (at : ℕ) → at + 4 ≤ length bytes
    → take 4 (drop at bytes) ≡ get_or bytes at 0 ∷ get_or bytes (at + 1) 0 ∷ get_or bytes (at + 2) 0 ∷ get_or bytes (at + 3) 0 ∷ []
four bytes at inside = grind (arith, drop-cons)

byte_right : (b : ℕ) → (not (b == 0) && not (b == 255)) ≡ false → (b ≡ 0) ⊎ (b ≡ 255)
byte_right b e = grind (arith, nat_tests)

pub right_word : (bytes : List ℕ) (at : ℕ) → ((i : ℕ) → get_or bytes i 0 < 256) → at + 4 ≤ length bytes
    → (not (get_or bytes at 0 == 0) && not (get_or bytes at 0 == 255)) ≡ false → IsFixWord (signed_of (take 4 (drop at bytes)))
right_word bytes at small inside right =
    subst (λ word. IsFixWord (signed_of word)) (sym (four bytes at inside))
    (word_fits (get_or bytes at 0) (get_or bytes (at + 1) 0) (get_or bytes (at + 2) 0) (get_or bytes (at + 3) 0) (small _) (small _) (small _) (byte_right _ right))
