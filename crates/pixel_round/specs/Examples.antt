-- What the worked values name.
use Rattle.pixel_round.specs.Pixels.{Fraction, conversion}
use Rattle.pixel_round.specs.declared.units.Units.{Units}

abbrev pub units : Units
units = record { num = 1270; den = 3; mag = 1000; res = 300 }

abbrev pub half : Fraction
half = conversion units
