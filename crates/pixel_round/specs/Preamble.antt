-- What holds of the units of every document that is drawn: those of a sound preamble, and the
-- resolution of a page.
use Rattle.std.specs.Prelude.{◌^◌, ◌<◌, ◌≤◌}
use Rattle.pixel_round.specs.declared.units.Units.{Units}
use Rattle.pixel_round.specs.Limits.{MAX_RESOLUTION}

-- the numbers of a preamble are more than 0, and the resolution is at least 1 and
-- at most the highest
pub record AreUnits (u : Units) : Type 0 where
  pub num : (1 ≤ u.num) × (u.num < 2 ^ 31)
  pub den : (1 ≤ u.den) × (u.den < 2 ^ 31)
  pub mag : (1 ≤ u.mag) × (u.mag < 2 ^ 31)
  pub res : (1 ≤ u.res) × (u.res ≤ MAX_RESOLUTION)
