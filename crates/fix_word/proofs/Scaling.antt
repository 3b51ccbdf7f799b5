-- The shift is the least one, and DVItype's nested divisions are the one floor.
use Rattle.std.proofs.Common.{◌≡◌, ℕ, zero, suc, ◌+◌, ◌-◌, ◌*◌, ◌/◌, ◌^◌, ◌<◌, ◌≤◌, ℤ, pos, negsuc, ◌-ℤ◌, ◌*ℤ◌, neg_ℤ, [], ◌∷◌, ltb, refl, sym, ap, subst, ◌∙◌, arith, inl, inr}
use Rattle.std.specs.Prelude.{◌==◌, if◌then◌else◌}
use Rattle.std.specs.Int.{int_div_euclid}
use Rattle.std.proofs.lemmas.Bool.{cond_both, ltb-true, ltb-false, lt-ltb, le-ltb}
use Rattle.std.proofs.lemmas.Int.{ints}
use Rattle.big_endian.specs.Numbers.{signed_of}
use Rattle.fix_word.specs.Scale.{IsShift, shift, scale, nested_divisions, NestedDivisionsScale, ShiftIsLeast}

-- what holds at each shift, with the sizes that have it, holds at the shift of a size
shift_cases : (z : ℕ) → z < 2 ^ 27 → (P : ℕ → Type 0) → (z < 2 ^ 23 → P 0) → (2 ^ 23 ≤ z → z < 2 ^ 24 → P 1) → (2 ^ 24 ≤ z → z < 2 ^ 25 → P 2)
    → (2 ^ 25 ≤ z → z < 2 ^ 26 → P 3) → (2 ^ 26 ≤ z → P 4) → P (shift z)
shift_cases z h P p0 p1 p2 p3 p4 =
    cond_both (ltb z (2 ^ 23)) 0 _ P (λ e. p0 (ltb-true _ _ e)) (λ e0.
    cond_both (ltb z (2 ^ 24)) 1 _ P (λ e. p1 (ltb-false _ _ e0) (ltb-true _ _ e)) (λ e1.
    cond_both (ltb z (2 ^ 25)) 2 _ P (λ e. p2 (ltb-false _ _ e1) (ltb-true _ _ e)) (λ e2.
    cond_both (ltb z (2 ^ 26)) 3 _ P (λ e. p3 (ltb-false _ _ e2) (ltb-true _ _ e)) (λ e3. p4 (ltb-false _ _ e3)))))

least_1 : (z i : ℕ) → 2 ^ 23 ≤ z → z / 2 ^ i < 2 ^ 23 → 1 ≤ i
least_1 z zero h lt = absurd (omega arith)
least_1 z (suc i) h lt = omega arith

least_2 : (z i : ℕ) → 2 ^ 24 ≤ z → z / 2 ^ i < 2 ^ 23 → 2 ≤ i
least_2 z zero h lt = absurd (omega arith)
least_2 z (suc zero) h lt = absurd (omega arith)
least_2 z (suc (suc i)) h lt = omega arith

least_3 : (z i : ℕ) → 2 ^ 25 ≤ z → z / 2 ^ i < 2 ^ 23 → 3 ≤ i
least_3 z zero h lt = absurd (omega arith)
least_3 z (suc zero) h lt = absurd (omega arith)
least_3 z (suc (suc zero)) h lt = absurd (omega arith)
least_3 z (suc (suc (suc i))) h lt = omega arith

least_4 : (z i : ℕ) → 2 ^ 26 ≤ z → z / 2 ^ i < 2 ^ 23 → 4 ≤ i
least_4 z zero h lt = absurd (omega arith)
least_4 z (suc zero) h lt = absurd (omega arith)
least_4 z (suc (suc zero)) h lt = absurd (omega arith)
least_4 z (suc (suc (suc zero))) h lt = absurd (omega arith)
least_4 z (suc (suc (suc (suc i)))) h lt = omega arith

pub shift_is_least : ShiftIsLeast
shift_is_least z h = shift_cases z h (λ j. IsShift z j)
    (λ lt. record { below = omega arith; least = λ i p. omega arith })
    (λ le lt. record { below = omega arith; least = λ i p. least_1 z i le p })
    (λ le lt. record { below = omega arith; least = λ i p. least_2 z i le p })
    (λ le lt. record { below = omega arith; least = λ i p. least_3 z i le p })
    (λ le. record { below = omega arith; least = λ i p. least_4 z i le p })

-- a fix_word by its last three bytes, where the first is 0 or 255
abbrev low : ℕ → ℕ → ℕ → ℕ
low b c d = 65536 * b + 256 * c + d

abbrev fix_word_of : ℕ → ℕ → ℕ → ℕ → ℤ
fix_word_of first b c d = if first == 0 then pos (low b c d) else pos (low b c d) -ℤ pos (2 ^ 24)

signed_255 : (b c d : ℕ) → b < 256 → c < 256 → d < 256 → pos (low b c d) -ℤ pos (2 ^ 24) ≡ negsuc (2 ^ 24 - 1 - low b c d)
signed_255 b c d hb hc hd = omega (arith, ints)

-- three nested floors are one, at each beta
nested_16 : (p q r : ℕ) → ((r / 256 + q) / 256 + p) / 16 ≡ (65536 * p + 256 * q + r) / 1048576
nested_16 p q r = omega arith

nested_8 : (p q r : ℕ) → ((r / 256 + q) / 256 + p) / 8 ≡ (65536 * p + 256 * q + r) * 2 / 1048576
nested_8 p q r = omega arith

nested_4 : (p q r : ℕ) → ((r / 256 + q) / 256 + p) / 4 ≡ (65536 * p + 256 * q + r) * 4 / 1048576
nested_4 p q r = omega arith

nested_2 : (p q r : ℕ) → ((r / 256 + q) / 256 + p) / 2 ≡ (65536 * p + 256 * q + r) * 8 / 1048576
nested_2 p q r = omega arith

nested_1 : (p q r : ℕ) → ((r / 256 + q) / 256 + p) / 1 ≡ (65536 * p + 256 * q + r) * 16 / 1048576
nested_1 p q r = omega arith

-- the floor of a negative product, from that of the positive one below 16 times t
abbrev floor_20 : ℤ → ℤ
floor_20 x = int_div_euclid x (pos (2 ^ 20))

neg-mul : (k b : ℕ) → neg_ℤ (pos k) *ℤ pos b ≡ neg_ℤ (pos (k * b))
neg-mul zero b = grind (arith, ints)
neg-mul (suc k) b = grind (arith, ints)

floor_below : (a s t : ℕ) → a + s ≡ 16777216 * t → pos (a / 1048576) -ℤ pos (16 * t) ≡ floor_20 (neg_ℤ (pos s))
floor_below a zero t e =
    let same : a / 1048576 ≡ 16 * t = omega (arith, e) in
    grind (arith, ints)
floor_below a (suc s) t e =
    let same : a / 1048576 + s / 1048576 + 1 ≡ 16 * t = omega (arith, e) in
    let goal : pos (a / 1048576) -ℤ pos (16 * t) ≡ negsuc (s / 1048576) = omega (arith, ints, same) in
    goal

scaled_0 : (b c d t w : ℕ) → b < 256 → c < 256 → d < 256 → w ≡ low b c d * t / 1048576 → pos w ≡ floor_20 (fix_word_of 0 b c d *ℤ pos t)
scaled_0 b c d t w hb hc hd e = ap pos e

distributed : (x y t : ℕ) → x * t + y * t ≡ (x + y) * t
distributed x y t = omega arith

sum_of : (b c d t : ℕ) → b < 256 → c < 256 → d < 256 → low b c d * t + suc (2 ^ 24 - 1 - low b c d) * t ≡ 16777216 * t
sum_of b c d t hb hc hd =
    let whole : low b c d + suc (2 ^ 24 - 1 - low b c d) ≡ 16777216 = omega arith in
    distributed (low b c d) (suc (2 ^ 24 - 1 - low b c d)) t ∙ ap (λ (k : ℕ). k * t) whole

scaled_255 : (b c d t w u : ℕ) → b < 256 → c < 256 → d < 256 → w ≡ low b c d * t / 1048576 → u ≡ 16 * t → pos w -ℤ pos u ≡ floor_20 (fix_word_of 255 b c d *ℤ pos t)
scaled_255 b c d t w u hb hc hd e f =
    let n : ℕ = 2 ^ 24 - 1 - low b c d in
    let all : low b c d * t + suc n * t ≡ 16777216 * t = sum_of b c d t hb hc hd in
    let first : pos w -ℤ pos u ≡ pos (low b c d * t / 1048576) -ℤ pos (16 * t) = rw (e, f) refl in
    first ∙ floor_below (low b c d * t) (suc n * t) t all ∙ ap floor_20 (sym (neg-mul (suc n) t))
    ∙ ap (λ (x : ℤ). floor_20 (x *ℤ pos t)) (sym (signed_255 b c d hb hc hd))

regrouped_1 : (b c d z : ℕ) → 65536 * (b * z) + 256 * (c * z) + d * z ≡ low b c d * (z * 1)
regrouped_1 b c d z = omega arith

regrouped_2 : (b c d z : ℕ) → (65536 * (b * z) + 256 * (c * z) + d * z) * 2 ≡ low b c d * (z * 2)
regrouped_2 b c d z = omega arith

regrouped_4 : (b c d z : ℕ) → (65536 * (b * z) + 256 * (c * z) + d * z) * 4 ≡ low b c d * (z * 4)
regrouped_4 b c d z = omega arith

regrouped_8 : (b c d z : ℕ) → (65536 * (b * z) + 256 * (c * z) + d * z) * 8 ≡ low b c d * (z * 8)
regrouped_8 b c d z = omega arith

regrouped_16 : (b c d z : ℕ) → (65536 * (b * z) + 256 * (c * z) + d * z) * 16 ≡ low b c d * (z * 16)
regrouped_16 b c d z = omega arith

moved_1 : (z : ℕ) → 16 * z ≡ 16 * (z * 1)
moved_1 z = omega arith

moved_2 : (z : ℕ) → 32 * z ≡ 16 * (z * 2)
moved_2 z = omega arith

moved_4 : (z : ℕ) → 64 * z ≡ 16 * (z * 4)
moved_4 z = omega arith

moved_8 : (z : ℕ) → 128 * z ≡ 16 * (z * 8)
moved_8 z = omega arith

moved_16 : (z : ℕ) → 256 * z ≡ 16 * (z * 16)
moved_16 z = omega arith

-- what is claimed of a shift
abbrev Claim : ℕ → ℕ → ℕ → ℕ → ℕ → ℕ → Type 0
Claim first b c d size j =
    (let z = size / 2 ^ j in
    let alpha = 16 * 2 ^ j in
    let beta = 256 / alpha in
    let width = (d * z / 256 + c * z) / 256 + b * z in
    if first == 0 then pos (width / beta) else pos (width / beta) -ℤ pos (alpha * z))
    ≡ floor_20 (fix_word_of first b c d *ℤ pos (size / 2 ^ j * 2 ^ j))

claim_0 : (b c d size : ℕ) → b < 256 → c < 256 → d < 256 → size < 2 ^ 27 → Claim 0 b c d size (shift size)
claim_0 b c d size hb hc hd h = shift_cases size h (Claim 0 b c d size)
    (λ lt. scaled_0 b c d (size / 1 * 1) _ hb hc hd (nested_16 (b * (size / 1)) (c * (size / 1)) (d * (size / 1)) ∙ ap (λ (k : ℕ). k / 1048576) (regrouped_1 b c d (size / 1))))
    (λ le lt. scaled_0 b c d (size / 2 * 2) _ hb hc hd (nested_8 (b * (size / 2)) (c * (size / 2)) (d * (size / 2)) ∙ ap (λ (k : ℕ). k / 1048576) (regrouped_2 b c d (size / 2))))
    (λ le lt. scaled_0 b c d (size / 4 * 4) _ hb hc hd (nested_4 (b * (size / 4)) (c * (size / 4)) (d * (size / 4)) ∙ ap (λ (k : ℕ). k / 1048576) (regrouped_4 b c d (size / 4))))
    (λ le lt. scaled_0 b c d (size / 8 * 8) _ hb hc hd (nested_2 (b * (size / 8)) (c * (size / 8)) (d * (size / 8)) ∙ ap (λ (k : ℕ). k / 1048576) (regrouped_8 b c d (size / 8))))
    (λ le. scaled_0 b c d (size / 16 * 16) _ hb hc hd (nested_1 (b * (size / 16)) (c * (size / 16)) (d * (size / 16)) ∙ ap (λ (k : ℕ). k / 1048576) (regrouped_16 b c d (size / 16))))

claim_255 : (b c d size : ℕ) → b < 256 → c < 256 → d < 256 → size < 2 ^ 27 → Claim 255 b c d size (shift size)
claim_255 b c d size hb hc hd h = shift_cases size h (Claim 255 b c d size)
    (λ lt. scaled_255 b c d (size / 1 * 1) _ _ hb hc hd (nested_16 (b * (size / 1)) (c * (size / 1)) (d * (size / 1)) ∙ ap (λ (k : ℕ). k / 1048576) (regrouped_1 b c d (size / 1))) (moved_1 (size / 1)))
    (λ le lt. scaled_255 b c d (size / 2 * 2) _ _ hb hc hd (nested_8 (b * (size / 2)) (c * (size / 2)) (d * (size / 2)) ∙ ap (λ (k : ℕ). k / 1048576) (regrouped_2 b c d (size / 2))) (moved_2 (size / 2)))
    (λ le lt. scaled_255 b c d (size / 4 * 4) _ _ hb hc hd (nested_4 (b * (size / 4)) (c * (size / 4)) (d * (size / 4)) ∙ ap (λ (k : ℕ). k / 1048576) (regrouped_4 b c d (size / 4))) (moved_4 (size / 4)))
    (λ le lt. scaled_255 b c d (size / 8 * 8) _ _ hb hc hd (nested_2 (b * (size / 8)) (c * (size / 8)) (d * (size / 8)) ∙ ap (λ (k : ℕ). k / 1048576) (regrouped_8 b c d (size / 8))) (moved_8 (size / 8)))
    (λ le. scaled_255 b c d (size / 16 * 16) _ _ hb hc hd (nested_1 (b * (size / 16)) (c * (size / 16)) (d * (size / 16)) ∙ ap (λ (k : ℕ). k / 1048576) (regrouped_16 b c d (size / 16))) (moved_16 (size / 16)))

-- and it is the number that the bytes spell in two's complement
word_0 : (b c d : ℕ) → b < 256 → c < 256 → d < 256 → fix_word_of 0 b c d ≡ signed_of (0 ∷ b ∷ c ∷ d ∷ [])
word_0 b c d hb hc hd =
    let spelt : low b c d ≡ 0 * 256 ^ 3 + (b * 256 ^ 2 + (c * 256 ^ 1 + (d * 256 ^ 0 + 0))) = omega arith in
    let small : 2 * (0 * 256 ^ 3 + (b * 256 ^ 2 + (c * 256 ^ 1 + (d * 256 ^ 0 + 0)))) < 256 ^ 4 = omega arith in
    rw (lt-ltb _ _ small) (ap pos spelt)

word_255 : (b c d : ℕ) → b < 256 → c < 256 → d < 256 → fix_word_of 255 b c d ≡ signed_of (255 ∷ b ∷ c ∷ d ∷ [])
word_255 b c d hb hc hd =
    let large : 256 ^ 4 ≤ 2 * (255 * 256 ^ 3 + (b * 256 ^ 2 + (c * 256 ^ 1 + (d * 256 ^ 0 + 0)))) = omega arith in
    let left : 2 ^ 24 - 1 - low b c d ≡ 256 ^ 4 - 1 - (255 * 256 ^ 3 + (b * 256 ^ 2 + (c * 256 ^ 1 + (d * 256 ^ 0 + 0)))) = omega arith in
    rw (le-ltb _ _ large) (signed_255 b c d hb hc hd ∙ ap negsuc left)

pub nested_divisions_scale : NestedDivisionsScale
nested_divisions_scale first b c d size (inl e) hb hc hd h =
    subst (λ (f : ℕ). nested_divisions f b c d size ≡ scale (signed_of (f ∷ b ∷ c ∷ d ∷ [])) size) (sym e)
    (claim_0 b c d size hb hc hd h ∙ ap (λ (x : ℤ). scale x size) (word_0 b c d hb hc hd))
nested_divisions_scale first b c d size (inr e) hb hc hd h =
    subst (λ (f : ℕ). nested_divisions f b c d size ≡ scale (signed_of (f ∷ b ∷ c ∷ d ∷ [])) size) (sym e)
    (claim_255 b c d size hb hc hd h ∙ ap (λ (x : ℤ). scale x size) (word_255 b c d hb hc hd))
