-- What the worked motions name.
use Rattle.std.specs.Prelude.{ℤ, pos, negsuc, List, [], Result, Ok}
use Rattle.pixel_round.specs.Pixels.{Fraction, conversion}
use Rattle.drift_rules.specs.Position.{State, zeros}
use Rattle.drift_rules.specs.declared.flat.Registers.{Registers}
use Rattle.drift_rules.specs.declared.flat.Mark.{Mark}
use Rattle.drift_rules.specs.declared.flat.Mark.TheVariants as code
use Rattle.drift_rules.specs.declared.faults.PenFault.{PenFault}

-- with num 1270, den 3, mag 1000 and 300 dots to the inch a unit is one half of a dot
abbrev pub half : Fraction
half = conversion (record { num = 1270; den = 3; mag = 1000; res = 300 })

-- h, v, hh and vv, all else 0
abbrev pub at : ℤ → ℤ → ℤ → ℤ → State
at h v hh vv = record { now = record zeros { h = h; v = v; hh = hh; vv = vv }; saved = [] }

abbrev pub at_h_2 : State
at_h_2 = at (pos 2) (pos 0) (pos 2) (pos 0)

-- hh is two dots to the right of where 5 units are rounded to
abbrev pub at_h_5 : State
at_h_5 = at (pos 5) (pos 0) (pos 5) (pos 0)

abbrev pub at_v_2 : State
at_v_2 = at (pos 0) (pos 2) (pos 0) (pos 2)

abbrev pub row : ℤ → ℤ → Result State PenFault
row h hh = Ok (at h (pos 0) hh (pos 0))

-- hh is two dots to the right of where 6 units are rounded to, and vv two dots below 14 units
abbrev pub drifted_place : Registers
drifted_place =
    record {
      h = pos 6;
      v = pos 14;
      w = pos 1;
      x = pos 3;
      y = pos 5;
      z = pos 7;
      hh = pos 5;
      vv = pos 9;
    }

-- where a packet begins there: w, x, y and z are 0, all else is as it was
abbrev pub entered_place : Registers
entered_place =
    record {
      h = pos 6;
      v = pos 14;
      w = pos 0;
      x = pos 0;
      y = pos 0;
      z = pos 0;
      hh = pos 5;
      vv = pos 9;
    }

abbrev pub char_mark : ℤ → ℤ → Mark
char_mark hh vv = code.Char hh vv

abbrev pub with_saved : Registers → List Registers → State
with_saved r saved = record { now = r; saved = saved }

-- h, v, hh and vv are 2, and each of w, x, y and z holds another motion
abbrev pub remembered : Registers
remembered =
    record {
      h = pos 2;
      v = pos 2;
      w = pos 1;
      x = negsuc 6;
      y = pos 9;
      z = negsuc 9;
      hh = pos 2;
      vv = pos 2;
    }

abbrev pub at_remembered : State
at_remembered = with_saved remembered []

-- h and hh after a motion across from there, and what w and x then hold
abbrev pub across_to : ℤ → ℤ → ℤ → ℤ → Result State PenFault
across_to h hh w x =
    Ok (with_saved (record remembered { h = h; w = w; x = x; hh = hh }) [])

-- v and vv after a motion down from there, and what y and z then hold
abbrev pub down_to : ℤ → ℤ → ℤ → ℤ → Result State PenFault
down_to v vv y z =
    Ok (with_saved (record remembered { v = v; y = y; z = z; vv = vv }) [])

-- its upper left dot, how many dots wide and how many high
abbrev pub rule_mark : ℤ → ℤ → ℤ → ℤ → Mark
rule_mark x y w h = code.Rule x y w h
