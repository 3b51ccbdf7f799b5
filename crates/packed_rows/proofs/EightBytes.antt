-- Eight bytes as one number, and a number written over eight bytes.
use Rattle.std.proofs.Common.{◌≡◌, ℕ, zero, suc, ◌+◌, ◌-◌, ◌*◌, ◌/◌, ◌%◌, ◌^◌, ◌<◌, ◌≤◌, ◌⊎◌, inl, inr, Bool, true, false, ◌&&◌, ◌||◌, eqb, ltb, leb, List, [], ◌∷◌, length, get_or, set, w64, refl, ap, ap₂, sym, ◌∙◌, arith, bit_or, get_or-set_same, get_or-set_other}
use Rattle.std.specs.Int.{bit_at, from_be_bytes, to_be_bytes}
use Rattle.std.proofs.lemmas.Bool.{cases_lt, le-leb, lt-leb, le-ltb, lt-ltb, and_right}
use Rattle.std.proofs.lemmas.List.{length-set}
use Rattle.std.proofs.lemmas.Nat.{shr-shr}
use Rattle.std.proofs.lemmas.Nat.Bits.{bit_at_cat_low, bit_at_cat_high}
use Rattle.packed_rows.specs.Packing.{pixel}
use Rattle.packed_rows.specs.Changes.{is_within}
use Rattle.packed_rows.specs.Stamped.{word_pixel}
use Rattle.packed_rows.proofs.Bits.{bit_of_or}

-- ---- read

-- the number of n bytes, the first the highest
abbrev number : (ℕ → ℕ) → ℕ → ℕ
number f zero = 0
number f (suc n) = number f n * 256 + f n

number_bit : (f : ℕ → ℕ) → ((i : ℕ) → f i < 256) → (n i : ℕ) → i < 8 * n → bit_at (number f n) (8 * n - 1 - i) ≡ bit_at (f (i / 8)) (7 - i % 8)
number_bit f small zero i h = absurd (omega (arith, h))
number_bit f small (suc n) i h = elim (cases_lt i (8 * n)) [
  | inl before ↦ (let place : 8 * suc n - 1 - i - 8 ≡ 8 * n - 1 - i = omega arith in
      bit_at_cat_high (number f n) 8 (f n) (8 * suc n - 1 - i) (small n) (omega (arith, before)) ∙ ap (bit_at (number f n)) place ∙ number_bit f small n i before)
  | inr last ↦ (let byte : n ≡ i / 8 = omega (arith, last, h) in
      let place : 8 * suc n - 1 - i ≡ 7 - i % 8 = omega (arith, last, h) in
      bit_at_cat_low (number f n) 8 (f n) (8 * suc n - 1 - i) (omega (arith, last)) ∙ ap₂ (λ b k. bit_at (f b) k) byte place)
]

eight_number : (a b c d e f g h : ℕ) → from_be_bytes w64 (a ∷ b ∷ c ∷ d ∷ e ∷ f ∷ g ∷ h ∷ []) ≡ (((((((0 * 256 + a) * 256 + b) * 256 + c) * 256 + d) * 256 + e) * 256 + f) * 256 + g) * 256 + h
eight_number a b c d e f g h = omega arith

pub word_read : (bytes : List ℕ) (at word i : ℕ) → ((j : ℕ) → get_or bytes j 0 < 256) → i < 64
    → word ≡ from_be_bytes w64 (get_or bytes at 0 ∷ get_or bytes (at + 1) 0 ∷ get_or bytes (at + 2) 0 ∷ get_or bytes (at + 3) 0 ∷ get_or bytes (at + 4) 0 ∷ get_or bytes (at + 5) 0 ∷ get_or bytes (at + 6) 0 ∷ get_or bytes (at + 7) 0 ∷ [])
    → word_pixel word i ≡ pixel bytes (8 * at + i)
word_read bytes at word i small h is =
    let first : get_or bytes at 0 ≡ get_or bytes (at + 0) 0 = ap (λ j. get_or bytes j 0) none in
    let byte : at + i / 8 ≡ (8 * at + i) / 8 = omega arith in
    let place : i % 8 ≡ (8 * at + i) % 8 = omega arith in
    ap (λ n. eqb (bit_at n (63 - i)) 1)
    (is ∙ ap (λ a. from_be_bytes w64 (a ∷ get_or bytes (at + 1) 0 ∷ get_or bytes (at + 2) 0 ∷ get_or bytes (at + 3) 0 ∷ get_or bytes (at + 4) 0 ∷ get_or bytes (at + 5) 0 ∷ get_or bytes (at + 6) 0 ∷ get_or bytes (at + 7) 0 ∷ [])) first
    ∙ eight_number (get_or bytes (at + 0) 0) (get_or bytes (at + 1) 0) (get_or bytes (at + 2) 0) (get_or bytes (at + 3) 0) (get_or bytes (at + 4) 0) (get_or bytes (at + 5) 0) (get_or bytes (at + 6) 0) (get_or bytes (at + 7) 0))
    ∙ ap (λ n. eqb n 1) (number_bit (λ j. get_or bytes (at + j) 0) (λ j. small (at + j)) 8 i h)
    ∙ ap₂ (λ b k. eqb (bit_at (get_or bytes b 0) (7 - k)) 1) byte place
  where
    none : at ≡ at + 0
    none = omega arith

-- ---- written

-- n bytes written from place `at` on
abbrev put : List ℕ → ℕ → (ℕ → ℕ) → ℕ → List ℕ
put bytes at e zero = bytes
put bytes at e (suc n) = set (put bytes at e n) (at + n) (e n)

put_long : (bytes : List ℕ) (at : ℕ) (e : ℕ → ℕ) (n : ℕ) → length (put bytes at e n) ≡ length bytes
put_long bytes at e zero = refl
put_long bytes at e (suc n) = length-set (put bytes at e n) (at + n) (e n) ∙ put_long bytes at e n

put_inside : (bytes : List ℕ) (at : ℕ) (e : ℕ → ℕ) (n j : ℕ) → at + n ≤ length bytes → j < n → get_or (put bytes at e n) (at + j) 0 ≡ e j
put_inside bytes at e zero j fit h = absurd (omega (arith, h))
put_inside bytes at e (suc n) j fit h = elim (cases_lt j n) [
  | inl before ↦ get_or-set_other (put bytes at e n) (at + n) (at + j) (e n) 0 (omega (arith, before)) ∙ put_inside bytes at e n j (omega (arith, fit)) before
  | inr last ↦ (let here : j ≡ n = omega (arith, last, h) in
      ap (λ k. get_or (set (put bytes at e n) (at + n) (e n)) (at + k) 0) here
      ∙ get_or-set_same (put bytes at e n) (at + n) (e n) 0 (omega (arith, fit, put_long bytes at e n)) ∙ ap e (sym here))
]

put_outside : (bytes : List ℕ) (at : ℕ) (e : ℕ → ℕ) (n j : ℕ) → (j < at) ⊎ (at + n ≤ j) → get_or (put bytes at e n) j 0 ≡ get_or bytes j 0
put_outside bytes at e zero j h = refl
put_outside bytes at e (suc n) j (inl below) = get_or-set_other (put bytes at e n) (at + n) j (e n) 0 (omega (arith, below)) ∙ put_outside bytes at e n j (inl below)
put_outside bytes at e (suc n) j (inr above) = get_or-set_other (put bytes at e n) (at + n) j (e n) 0 (omega (arith, above)) ∙ put_outside bytes at e n j (inr (omega (arith, above)))

-- a bit of the byte that stands above the k lowest bits of a number
part : (n k r : ℕ) → r < 8 → bit_at (n / 2 ^ k % 256) r ≡ bit_at n (k + r)
part n k r h = sym (bit_at_cat_low (n / 2 ^ k / 256) 8 (n / 2 ^ k % 256) r h) ∙ ap (λ m. bit_at m r) whole ∙ ap (λ m. m % 2) (shr-shr n k r)
  where
    whole : n / 2 ^ k / 256 * 256 + n / 2 ^ k % 256 ≡ n / 2 ^ k
    whole = omega arith

-- byte j of eight, from the highest on
abbrev nth : ℕ → ℕ → ℕ
nth n j = get_or (to_be_bytes w64 n) j 0

nth_bit : (n j r : ℕ) → j < 8 → r < 8 → bit_at (nth n j) r ≡ bit_at n (8 * (7 - j) + r)
nth_bit n zero r h g = part n 56 r g
nth_bit n (suc zero) r h g = part n 48 r g
nth_bit n (suc (suc zero)) r h g = part n 40 r g
nth_bit n (suc (suc (suc zero))) r h g = part n 32 r g
nth_bit n (suc (suc (suc (suc zero)))) r h g = part n 24 r g
nth_bit n (suc (suc (suc (suc (suc zero))))) r h g = part n 16 r g
nth_bit n (suc (suc (suc (suc (suc (suc zero)))))) r h g = part n 8 r g
nth_bit n (suc (suc (suc (suc (suc (suc (suc zero))))))) r h g = let whole : n / 2 ^ 0 ≡ n = omega arith in ap (λ m. bit_at (m % 256) r) (sym whole) ∙ part n 0 r g
nth_bit n (suc (suc (suc (suc (suc (suc (suc (suc j)))))))) r h g = absurd (omega (arith, h))

pub word_joined : (row eight new : List ℕ) (at old word x : ℕ) → at + 8 ≤ length row
    → ((i : ℕ) → i < 64 → word_pixel old i ≡ pixel row (8 * at + i)) → eight ≡ to_be_bytes w64 (bit_or old word)
    → new ≡ set (set (set (set (set (set (set (set row at (get_or eight 0 0)) (at + 1) (get_or eight 1 0)) (at + 2) (get_or eight 2 0)) (at + 3) (get_or eight 3 0)) (at + 4) (get_or eight 4 0)) (at + 5) (get_or eight 5 0)) (at + 6) (get_or eight 6 0)) (at + 7) (get_or eight 7 0)
    → pixel new x ≡ (is_within (8 * at) (8 * at + 64) x && word_pixel word (x - 8 * at) || pixel row x)
word_joined row eight new at old word x fit read is_eight is_new = ap (λ l. pixel l x) put_is ∙ by (cases_lt x (8 * at)) (cases_lt x (8 * at + 64))
  where
    none : at ≡ at + 0
    none = omega arith

    put_is : new ≡ put row at (nth (bit_or old word)) 8
    put_is = is_new ∙ ap (λ a. set (set (set (set (set (set (set (set row a (get_or eight 0 0)) (at + 1) (get_or eight 1 0)) (at + 2) (get_or eight 2 0)) (at + 3) (get_or eight 3 0)) (at + 4) (get_or eight 4 0)) (at + 5) (get_or eight 5 0)) (at + 6) (get_or eight 6 0)) (at + 7) (get_or eight 7 0)) none
        ∙ ap (λ l. put row at (λ j. get_or l j 0) 8) is_eight

    outside : (x / 8 < at) ⊎ (at + 8 ≤ x / 8) → pixel (put row at (nth (bit_or old word)) 8) x ≡ pixel row x
    outside apart = ap (λ b. eqb (bit_at b (7 - x % 8)) 1) (put_outside row at (nth (bit_or old word)) 8 (x / 8) apart)

    by : (x < 8 * at) ⊎ (8 * at ≤ x) → (x < 8 * at + 64) ⊎ (8 * at + 64 ≤ x)
        → pixel (put row at (nth (bit_or old word)) 8) x ≡ (is_within (8 * at) (8 * at + 64) x && word_pixel word (x - 8 * at) || pixel row x)
    by (inl below) other = outside (inl (omega (arith, below))) ∙ sym (ap (λ b. b && ltb x (8 * at + 64) && word_pixel word (x - 8 * at) || pixel row x) (lt-leb (8 * at) x below))
    by (inr from) (inr above) =
        outside (inr (omega (arith, above)))
        ∙ sym (ap (λ b. b && word_pixel word (x - 8 * at) || pixel row x) (and_right (leb (8 * at) x) (ltb x (8 * at + 64)) (le-ltb x (8 * at + 64) above)))
    by (inr from) (inl to) =
        let byte : x / 8 ≡ at + (x / 8 - at) = omega (arith, from) in
        let place : 8 * (7 - (x / 8 - at)) + (7 - x % 8) ≡ 63 - (x - 8 * at) = omega (arith, from, to) in
        let back : 8 * at + (x - 8 * at) ≡ x = omega (arith, from) in
        ap (λ b. eqb (bit_at (get_or (put row at (nth (bit_or old word)) 8) b 0) (7 - x % 8)) 1) byte
        ∙ ap (λ b. eqb (bit_at b (7 - x % 8)) 1) (put_inside row at (nth (bit_or old word)) 8 (x / 8 - at) fit (omega (arith, from, to)))
        ∙ ap (λ n. eqb n 1) (nth_bit (bit_or old word) (x / 8 - at) (7 - x % 8) (omega (arith, from, to)) (omega arith) ∙ ap (bit_at (bit_or old word)) place)
        ∙ bit_of_or old word (63 - (x - 8 * at))
        ∙ ap (λ b. b || word_pixel word (x - 8 * at)) (read (x - 8 * at) (omega (arith, from, to)) ∙ ap (pixel row) back)
        ∙ turned (pixel row x) (word_pixel word (x - 8 * at))
        ∙ sym (ap₂ (λ a b. a && b && word_pixel word (x - 8 * at) || pixel row x) (le-leb (8 * at) x from) (lt-ltb x (8 * at + 64) to))
      where
        turned : (a b : Bool) → (a || b) ≡ (b || a)
        turned true true = refl
        turned true false = refl
        turned false true = refl
        turned false false = refl
