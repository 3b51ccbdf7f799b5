-- A desk without a cache, as its calls see it.
use Rattle.pixel_round.specs.declared.units.Units.{Units}

pub record PlainView (F : Type 0) : Type 0 where
  pub source : F
  pub units : Units
