-- Scaled dimensions: Knuth, DVItype, "Reading the font information", whose computation with alpha
-- and beta gives the same numbers as the one floor below; and design sizes in DVI units. Exact,
-- with no reals.
use Rattle.std.specs.Prelude.{◌≡◌, ◌⊎◌, ◌-ℤ◌, ◌==◌, ℕ, ◌+◌, ◌*◌, ◌/◌, ◌^◌, ◌<◌, ◌≤◌, ℤ, pos, ◌*ℤ◌, [], ◌∷◌, nat_lt, if◌then◌else◌}
use Rattle.std.specs.Int.{int_div_euclid}
use Rattle.big_endian.specs.Numbers.{signed_of}

-- j is the least number for which z divided by 2 ^ j is below 2 ^ 23
pub record IsShift (z j : ℕ) : Type 0 where
  pub below : z / 2 ^ j < 2 ^ 23
  pub least : (i : ℕ) → z / 2 ^ i < 2 ^ 23 → j ≤ i

-- that number, for a size below 2 ^ 27
abbrev pub shift : ℕ → ℕ
shift z =
    if nat_lt z (2 ^ 23) then 0
    else if nat_lt z (2 ^ 24) then 1
    else if nat_lt z (2 ^ 25) then 2
    else if nat_lt z (2 ^ 26) then 3
    else 4

-- a size without its lowest bits, as many as its shift says
abbrev pub kept_size : ℕ → ℕ
kept_size z = z / 2 ^ shift z * 2 ^ shift z

-- the fix_word x at the size z, rounded down
abbrev pub scale : ℤ → ℕ → ℤ
scale x z = int_div_euclid (x *ℤ pos (kept_size z)) (pos (2 ^ 20))

-- a fraction to the nearest whole number, halves up
abbrev pub half_up : ℕ → ℕ → ℕ
half_up top bottom = (2 * top + bottom) / (2 * bottom)

-- a design size in points, a fix_word, in DVI units of num / den times 10 ^ -7 meters
abbrev pub tex_units : ℕ → ℕ → ℕ → ℕ
tex_units d num den = half_up (d * 25400000 * den) (num * 473628672 * 16)

-- ---- laws

-- the width that DVItype computes from the last three bytes of a fix_word, and from the first,
-- which is 0 or 255
abbrev pub nested_divisions : ℕ → ℕ → ℕ → ℕ → ℕ → ℤ
nested_divisions first b c d size =
    let z = size / 2 ^ shift size in
    let alpha = 16 * 2 ^ shift size in
    let beta = 256 / alpha in
    let width = (d * z / 256 + c * z) / 256 + b * z in
    if first == 0 then pos (width / beta) else pos (width / beta) -ℤ pos (alpha * z)

-- they are the one floor, of the number that the four bytes spell in two's complement
abbrev pub NestedDivisionsScale : Type 0
NestedDivisionsScale =
    (first b c d size : ℕ) → (first ≡ 0) ⊎ (first ≡ 255) → b < 256 → c < 256 → d < 256
    → size < 2 ^ 27
    → nested_divisions first b c d size ≡ scale (signed_of (first ∷ b ∷ c ∷ d ∷ [])) size

abbrev pub ShiftIsLeast : Type 0
ShiftIsLeast = (z : ℕ) → z < 2 ^ 27 → IsShift z (shift z)

-- n is the nearest whole number to a fraction, and the greater one where two are as near
abbrev pub IsNearest : ℕ → ℕ → ℕ → Type 0
IsNearest top bottom n =
    (2 * n * bottom ≤ 2 * top + bottom) × (2 * top + bottom < 2 * n * bottom + 2 * bottom)

abbrev pub HalfUpIsNearest : Type 0
HalfUpIsNearest =
    (top bottom n : ℕ) → 0 < bottom → (half_up top bottom ≡ n → IsNearest top bottom n) ×
    (IsNearest top bottom n → half_up top bottom ≡ n)
