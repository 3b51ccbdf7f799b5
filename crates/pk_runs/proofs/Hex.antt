-- Nybbles, and the numbers that they spell.
use Rattle.std.proofs.Common.{◌≡◌, ℕ, zero, suc, ◌+◌, ◌-◌, ◌*◌, ◌^◌, ◌<◌, ◌≤◌, inl, inr, List, [], ◌∷◌, ◌++◌, length, drop, replicate, min, refl, sym, ap, ◌∙◌, arith, append_assoc, length-append}
use Rattle.std.proofs.lemmas.Bool.{ne_eqb}
use Rattle.std.proofs.lemmas.List.{length-replicate, length-drop, append-nil, replicate_more}
use Rattle.std.proofs.Math.Nat.{pow-suc, mul-le-mul_right}
use Rattle.pk_runs.specs.Numbers.{nybbles_of, hex_of, SpellsNumber, CutsNumber}

pub length-nybbles_of : (bytes : List ℕ) → length (nybbles_of bytes) ≡ 2 * length bytes
length-nybbles_of [] = omega arith
length-nybbles_of (b ∷ bytes) = omega (arith, length-nybbles_of bytes)

pub few_nybbles : (bytes nybbles : List ℕ) (k : ℕ) → drop k (nybbles_of bytes) ≡ nybbles → length bytes < 2 ^ 64 → length nybbles < 2 ^ 65
few_nybbles bytes nybbles k e h = omega (arith, ap length e, length-drop k (nybbles_of bytes), length-nybbles_of bytes)

-- one digit more
hex_push : (l : List ℕ) (j : ℕ) → hex_of (l ++ j ∷ []) ≡ hex_of l * 16 + j
hex_push [] j = omega arith
hex_push (i ∷ l) j =
    let long : length (l ++ j ∷ []) ≡ suc (length l) = omega (arith, length-append l (j ∷ [])) in
    ap (λ n. i * 16 ^ n + hex_of (l ++ j ∷ [])) long ∙ ap (λ p. i * p + hex_of (l ++ j ∷ [])) (pow-suc 16 (length l)) ∙ omega (arith, hex_push l j)

pow_large : (n : ℕ) → 1 ≤ 16 ^ n
pow_large zero = omega arith
pow_large (suc n) = omega (arith, pow-suc 16 n, pow_large n)

-- a long number is at least 16
hex_long : (i : ℕ) (l : List ℕ) → 1 ≤ i → 1 ≤ length l → 16 ≤ hex_of (i ∷ l)
hex_long i [] h g = absurd (omega (arith, g))
hex_long i (j ∷ l) h g = omega (arith, pow-suc 16 (length l), mul-le-mul_right (16 ^ suc (length l)) h, pow_large (length l))

-- ---- the loops

pub record PassesZeros (old : List ℕ) (count nybble : ℕ) (rest : List ℕ) : Type 0 where
  pub passed : old ≡ replicate count 0 ++ nybble ∷ rest
  pub small : nybble < 16
  pub few : length old < 2 ^ 65

zeros_snoc : (k : ℕ) (l : List ℕ) → replicate k 0 ++ 0 ∷ l ≡ replicate (k + 1) 0 ++ l
zeros_snoc k l = sym (append_assoc (replicate k 0) (0 ∷ []) l) ∙ ap (λ z. z ++ l) (replicate_more k 0)

pub passes_more : (old : List ℕ) (count nybble next : ℕ) (rest more : List ℕ) → nybble ≡ 0 → rest ≡ next ∷ more → next < 16
    → PassesZeros old count nybble rest → PassesZeros old (count + 1) next more
passes_more old count nybble next rest more none e small before = record {
  passed = before.passed ∙ ap (λ n. replicate count 0 ++ n ∷ rest) none ∙ ap (λ l. replicate count 0 ++ 0 ∷ l) e ∙ zeros_snoc count (next ∷ more);
  small = small;
  few = before.few;
}

pub passes_all : (old : List ℕ) (count nybble : ℕ) (rest : List ℕ) → nybble ≡ 0 → rest ≡ [] → PassesZeros old count nybble rest → (k : ℕ) × (old ≡ replicate k 0)
passes_all old count nybble rest none e before =
    (count + 1, before.passed ∙ ap (λ n. replicate count 0 ++ n ∷ rest) none ∙ ap (λ l. replicate count 0 ++ 0 ∷ l) e ∙ zeros_snoc count [] ∙ append-nil (replicate (count + 1) 0))

abbrev zeros : ℕ → List ℕ
zeros k = replicate k 0

zeros_long : (k : ℕ) → length (zeros k) ≡ k
zeros_long k = length-replicate k 0

pub passes_few : (old : List ℕ) (count nybble : ℕ) (rest : List ℕ) → PassesZeros old count nybble rest → count < 2 ^ 65
passes_few old count nybble rest before = omega (arith, before.few, ap length before.passed, length-append (zeros count) (nybble ∷ rest), zeros_long count)

pub record ReadsDigits (old : List ℕ) (first count left value : ℕ) (rest : List ℕ) : Type 0 where
  pub others : List ℕ
  pub read : old ≡ others ++ rest
  pub many : length others + left ≡ count
  pub worth : value ≡ min (hex_of (first ∷ others)) (2 ^ 40)

pub reads_none : (old : List ℕ) (first count : ℕ) → first < 16 → ReadsDigits old first count count first old
reads_none old first count h = record { others = []; read = refl; many = omega arith; worth = omega arith }

capped : (a j : ℕ) → min (min a (2 ^ 40) * 16 + j) (2 ^ 40) ≡ min (a * 16 + j) (2 ^ 40)
capped a j = omega arith

pub reads_more : (old : List ℕ) (first count left value next : ℕ) (rest more : List ℕ) → 0 < left → rest ≡ next ∷ more
    → ReadsDigits old first count left value rest → ReadsDigits old first count (left - 1) (min (value * 16 + next) (2 ^ 40)) more
reads_more old first count left value next rest more some e before = record {
  others = before.others ++ next ∷ [];
  read = before.read ∙ ap (λ l. before.others ++ l) e ∙ sym (append_assoc before.others (next ∷ []) more);
  many = omega (arith, length-append before.others (next ∷ []), before.many, some);
  worth = ap (λ v. min (v * 16 + next) (2 ^ 40)) before.worth ∙ capped (hex_of (first ∷ before.others)) next ∙ ap (λ v. min v (2 ^ 40)) (sym (hex_push (first ∷ before.others) next));
}

pub reads_short : (old : List ℕ) (first count left value : ℕ) (rest : List ℕ) → 0 < left → rest ≡ [] → ReadsDigits old first count left value rest → length old < count
reads_short old first count left value rest some e before =
    omega (arith, some, before.many, ap length before.read, length-append before.others rest, ap (λ (l : List ℕ). length l) e)

pub reads_all : (old : List ℕ) (first count left value : ℕ) (rest : List ℕ) → left ≤ 0 → ReadsDigits old first count left value rest
    → (others : List ℕ) × (length others ≡ count) × (old ≡ others ++ rest) × (value ≡ min (hex_of (first ∷ others)) (2 ^ 40))
reads_all old first count left value rest none before = (before.others, omega (arith, none, before.many), before.read, before.worth)

-- ---- long numbers

pub cut_in_zeros : (dyn_f k : ℕ) (old : List ℕ) → old ≡ replicate k 0 → CutsNumber dyn_f (0 ∷ old)
cut_in_zeros dyn_f k old e = inr (inr (suc k, [], omega arith, omega arith, refl, ap (λ l. 0 ∷ l) (e ∙ sym (append-nil (replicate k 0)))))

pub cut_in_digits : (dyn_f k after : ℕ) (old rest : List ℕ) → 1 ≤ after → old ≡ replicate k 0 ++ after ∷ rest → length rest < k + 1 → CutsNumber dyn_f (0 ∷ old)
cut_in_digits dyn_f k after old rest some e short =
    inr (inr (suc k, after ∷ rest, omega arith, omega (arith, short), ne_eqb after 0 (λ z. absurd (omega (arith, z, some))), ap (λ l. 0 ∷ l) e))

pub long_is_whole : (dyn_f k after value : ℕ) (old middle rest others : List ℕ) → dyn_f ≤ 13 → 1 ≤ after → old ≡ replicate k 0 ++ after ∷ middle → length others ≡ k + 1
    → middle ≡ others ++ rest → value ≡ min (hex_of (after ∷ others)) (2 ^ 40)
    → (n : ℕ) × (number : List ℕ) × (0 ∷ old ≡ number ++ rest) × SpellsNumber dyn_f number n × (min (value - 15 + (13 - dyn_f) * 16 + dyn_f) (2 ^ 32 - 1) ≡ min n (2 ^ 32 - 1))
long_is_whole dyn_f k after value old middle rest others small some e long f worth = (
  hex_of (after ∷ others) - 15 + (13 - dyn_f) * 16 + dyn_f,
  replicate (suc k) 0 ++ after ∷ others,
  ap (λ l. 0 ∷ l) (e ∙ ap (λ l. replicate k 0 ++ after ∷ l) f ∙ sym (append_assoc (replicate k 0) (after ∷ others) rest)),
  inr (inr (suc k, after, others, omega arith, some, omega (arith, long), refl, total (hex_of (after ∷ others)) large)),
  same (hex_of (after ∷ others)) large worth,
)
  where
    large : 16 ≤ hex_of (after ∷ others)
    large = hex_long after others some (omega (arith, long))

    total : (v : ℕ) → 16 ≤ v → v - 15 + (13 - dyn_f) * 16 + dyn_f + 15 ≡ v + (13 - dyn_f) * 16 + dyn_f
    total v h = omega (arith, h)

    same : (v : ℕ) → 16 ≤ v → value ≡ min v (2 ^ 40) → min (value - 15 + (13 - dyn_f) * 16 + dyn_f) (2 ^ 32 - 1) ≡ min (v - 15 + (13 - dyn_f) * 16 + dyn_f) (2 ^ 32 - 1)
    same v h g = omega (arith, h, g)

pub long_is_large : (k after value : ℕ) (others : List ℕ) → 1 ≤ after → length others ≡ k + 1 → value ≡ min (hex_of (after ∷ others)) (2 ^ 40) → (16 ≤ value) × (value ≤ 2 ^ 40)
long_is_large k after value others some long worth = (omega (arith, worth, hex_long after others some (omega (arith, long))), omega (arith, worth))

-- ---- numbers of one and two nybbles

pub one_nybble : (dyn_f i : ℕ) (rest : List ℕ) → dyn_f ≤ 13 → 1 ≤ i → i ≤ dyn_f
    → (n : ℕ) × (number : List ℕ) × (i ∷ rest ≡ number ++ rest) × SpellsNumber dyn_f number n × (i ≡ min n (2 ^ 32 - 1))
one_nybble dyn_f i rest small some low = (i, i ∷ [], refl, inl (i, refl, some, low, refl), omega (arith, low, small))

pub two_nybbles : (dyn_f i j m : ℕ) (old rest : List ℕ) → dyn_f ≤ 13 → dyn_f < i → i ≤ 13 → old ≡ j ∷ rest → j < 16 → m ≡ (i - dyn_f - 1) * 16 + j + dyn_f + 1
    → (n : ℕ) × (number : List ℕ) × (i ∷ old ≡ number ++ rest) × SpellsNumber dyn_f number n × (m ≡ min n (2 ^ 32 - 1))
two_nybbles dyn_f i j m old rest small high low e few f =
    ((i - dyn_f - 1) * 16 + j + dyn_f + 1, i ∷ j ∷ [], ap (λ l. i ∷ l) e, inr (inl (i, j, refl, high, low, refl)), omega (arith, f, small, high, low, few))
