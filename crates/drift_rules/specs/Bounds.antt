-- How large the numbers of commands, registers and marks are, so that sums of them fit.
use Rattle.std.specs.Prelude.{◌+◌, ◌<◌, ◌≤◌, ◌^◌, ℤ, pos, ◌≤ℤ◌, unsigned_abs}
use Rattle.std.specs.List.{AllByRecursion}
use Rattle.pixel_round.specs.Pixels.{Fraction}
use Rattle.outside.specs.Limits.{SIZES}
use Rattle.packed_rows.specs.declared.offset.TheConstants.{MAX_COORDINATE}
use Rattle.drift_rules.specs.declared.flat.Registers.{Registers}
use Rattle.drift_rules.specs.declared.flat.Mark.{Mark}
use Rattle.drift_rules.specs.declared.flat.Mark.TheVariants as code
use Rattle.drift_rules.specs.Position.{AreNear, FlatCommand, Skip, Char, Rule, Right, W, X, Down, Y, Z, W0, X0, Y0, Z0, Push, Pop, Enter, Leave, Advance, State}

-- a number of a command: four bytes in two's complement hold nothing farther from 0
abbrev pub IsNumber : ℤ → Type 0
IsNumber z = unsigned_abs z ≤ 2 ^ 31

-- a space: less than a font's size, which is below 2^27
pub record IsSpace (space : ℤ) : Type 0 where
  pub some : pos 0 ≤ℤ space
  pub small : space ≤ℤ pos SIZES

-- what may be handed to a pen
abbrev pub IsInReach : FlatCommand → Type 0
IsInReach Skip = Unit {0}
IsInReach (Char key number width put) = IsNumber width
IsInReach (Rule height width put) = IsNumber height × IsNumber width
IsInReach (Right by space) = IsNumber by × IsSpace space
IsInReach (W by space) = IsNumber by × IsSpace space
IsInReach (X by space) = IsNumber by × IsSpace space
IsInReach (Down by space) = IsNumber by × IsSpace space
IsInReach (Y by space) = IsNumber by × IsSpace space
IsInReach (Z by space) = IsNumber by × IsSpace space
IsInReach (W0 space) = IsSpace space
IsInReach (X0 space) = IsSpace space
IsInReach (Y0 space) = IsSpace space
IsInReach (Z0 space) = IsSpace space
IsInReach Push = Unit {0}
IsInReach Pop = Unit {0}
IsInReach Enter = Unit {0}
IsInReach Leave = Unit {0}
IsInReach (Advance width) = IsNumber width

-- registers that a pen may have
pub record AreHeld (c : Fraction) (r : Registers) : Type 0 where
  pub h : unsigned_abs r.h ≤ 2147483647
  pub v : unsigned_abs r.v ≤ 2147483647
  pub w : IsNumber r.w
  pub x : IsNumber r.x
  pub y : IsNumber r.y
  pub z : IsNumber r.z
  pub hh : unsigned_abs r.hh < 2 ^ 40
  pub vv : unsigned_abs r.vv < 2 ^ 40
  pub near : AreNear c r

-- a state that a pen may have: so are its registers, and every saved set of them
pub record IsHeldState (c : Fraction) (s : State) : Type 0 where
  pub now : AreHeld c s.now
  pub saved : AllByRecursion (AreHeld c) s.saved

-- a row or a column so near that it stays within 2^42 where a margin of at most 2^20 dots is added
abbrev pub IsWithinReach : ℤ → Type 0
IsWithinReach z = unsigned_abs z + 2 ^ 20 ≤ MAX_COORDINATE

-- a row or a column so near that it stays there where the offset of a glyph, a number of four
-- bytes, is taken away too
abbrev pub IsPlaceable : ℤ → Type 0
IsPlaceable z = unsigned_abs z + 2 ^ 32 ≤ MAX_COORDINATE

-- a rectangle with at least one dot
pub record IsRectangle (x y w h : ℤ) : Type 0 where
  pub left : IsWithinReach x
  pub top : IsWithinReach y
  pub columns : (pos 1 ≤ℤ w) × IsWithinReach w
  pub rows : (pos 1 ≤ℤ h) × IsWithinReach h

-- a mark as a page's painter takes it
abbrev pub IsPaintable : Mark → Type 0
IsPaintable (code.Char hh vv) = IsPlaceable hh × IsPlaceable vv
IsPaintable (code.Rule x y w h) = IsRectangle x y w h
