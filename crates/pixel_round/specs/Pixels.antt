-- From DVI units to pixels: Knuth, DVItype, "Translation to symbolic form" (the rules of
-- pixel_round and rule_pixels), with an exact fraction where DVItype has a real.
use Rattle.std.specs.Prelude.{◌≡◌, ℕ, suc, ◌+◌, ◌*◌, ◌/◌, ◌<◌, ◌≤◌, ℤ, pos, negsuc, ◌-ℤ◌, ◌*ℤ◌, ◌<ℤ◌, ◌≤ℤ◌, neg_ℤ, unsigned_abs}
use Rattle.std.specs.Int.{div_ceil}
use Rattle.pixel_round.specs.declared.units.Units.{Units}

-- a fraction; the denominator is never 0
pub record Fraction : Type 0 where
  pub top : ℕ
  pub bottom : ℕ

-- two fractions of one value
pub record AreEqual (a b : Fraction) : Type 0 where
  pub first : 0 < a.bottom
  pub second : 0 < b.bottom
  pub value : a.top * b.bottom ≡ b.top * a.bottom

-- a fraction that lengths are converted by: more than 0 and at most 512 dots for one DVI unit
pub record IsUsable (c : Fraction) : Type 0 where
  pub top : 0 < c.top
  pub bottom : 0 < c.bottom
  pub bounded : c.top ≤ 512 * c.bottom

-- pixels for one DVI unit
abbrev pub conversion : Units → Fraction
conversion u = record { top = u.num * u.res * u.mag; bottom = 254000000 * u.den }

-- twice the distance from x converted to n, in parts of the denominator
abbrev pub twice_distance : Fraction → ℤ → ℤ → ℕ
twice_distance c x n = 2 * unsigned_abs (n *ℤ pos c.bottom -ℤ x *ℤ pos c.top)

-- n is x converted, to the nearest whole number; of two such numbers the one farther from 0
pub record IsRound (c : Fraction) (x n : ℤ) : Type 0 where
  pub near : twice_distance c x n ≤ c.bottom
  pub away : twice_distance c x n ≡ c.bottom → unsigned_abs x * c.top ≤ unsigned_abs n * c.bottom

-- n is the least whole number that is not below x converted
pub record IsCeil (c : Fraction) (x n : ℤ) : Type 0 where
  pub above : (x *ℤ pos c.top) ≤ℤ (n *ℤ pos c.bottom)
  pub least : (m : ℤ) → (x *ℤ pos c.top) ≤ℤ (m *ℤ pos c.bottom) → n ≤ℤ m

-- the one number that is x converted to the nearest
abbrev pub nearest : Fraction → ℕ → ℕ
nearest c m = (2 * (m * c.top) + c.bottom) / (2 * c.bottom)

abbrev pub round : Fraction → ℤ → ℤ
round c (pos m) = pos (nearest c m)
round c (negsuc m) = neg_ℤ (pos (nearest c (suc m)))

-- and the least one not below
abbrev pub ceil : Fraction → ℤ → ℤ
ceil c (pos m) = pos (div_ceil (m * c.top) c.bottom)
ceil c (negsuc m) = neg_ℤ (pos (suc m * c.top / c.bottom))

-- ---- laws: the functions give the one number that the relations name, of a bounded size, and a
-- side above 0 has a dot

abbrev pub RoundIsNearest : Type 0
RoundIsNearest = (c : Fraction) (x : ℤ) → 0 < c.bottom → IsRound c x (round c x)

abbrev pub OnlyOneIsRound : Type 0
OnlyOneIsRound = (c : Fraction) (x m n : ℤ) → 0 < c.bottom → IsRound c x m → IsRound c x n → m ≡ n

-- where the conversion is at most 512: how large a converted number is
abbrev pub ConvertedAreBounded : Type 0
ConvertedAreBounded = (c : Fraction) (x : ℤ) → 0 < c.bottom → c.top ≤ 512 * c.bottom
    → (unsigned_abs (round c x) ≤ 512 * unsigned_abs x + 1)
    × (unsigned_abs (ceil c x) ≤ 512 * unsigned_abs x + 1)

abbrev pub CeilIsLeast : Type 0
CeilIsLeast = (c : Fraction) (x : ℤ) → 0 < c.bottom → IsCeil c x (ceil c x)

abbrev pub SidesHaveDots : Type 0
SidesHaveDots = (c : Fraction) (x : ℤ) → IsUsable c → pos 0 <ℤ x → pos 0 <ℤ ceil c x

-- fractions of one value convert alike
abbrev pub EqualFractionsConvertAlike : Type 0
EqualFractionsConvertAlike =
    (a b : Fraction) (x : ℤ) → AreEqual a b → (round a x ≡ round b x) × (ceil a x ≡ ceil b x)
