-- What a flat command marks, at the registers before it: Knuth, DVItype, "Translation to symbolic
-- form" (a character stands at its reference point, a rule has its lower left corner at the present
-- place).
use Rattle.std.specs.Prelude.{ℤ, pos, ◌+ℤ◌, ◌-ℤ◌, Bool, ◌&&◌, int_lt, if◌then◌else◌, Option, Some, None}
use Rattle.pixel_round.specs.Pixels.{Fraction, ceil}
use Rattle.drift_rules.specs.declared.flat.Registers.{Registers}
use Rattle.drift_rules.specs.declared.flat.Mark.{Mark}
use Rattle.drift_rules.specs.declared.flat.Mark.TheVariants as code
use Rattle.drift_rules.specs.Position.{FlatCommand, Char, Rule}

abbrev pub is_positive : ℤ → Bool
is_positive z = int_lt (pos 0) z

-- without the sheet's margins: a character's reference point is at the present place, and a rule
-- covers the columns from hh on and the rows up to vv, where both of its sides are above 0
abbrev pub mark_of : Fraction → Registers → FlatCommand → Option Mark
mark_of c r (Char key number width put) = Some (code.Char r.hh r.vv)
mark_of c r (Rule height width put) =
    if is_positive height && is_positive width
    then Some (code.Rule r.hh (r.vv -ℤ ceil c height +ℤ pos 1) (ceil c width) (ceil c height))
    else None
mark_of c r _ = None
