use Rattle.std.proofs.Common.{◌≡◌, ◌≤◌}
use Rattle.vf_expand.specs.Expansion.{asks_left, rest_of, steps_left}
use Rattle.page_draw.specs.DrawnUpTo.{Continues}
use Rattle.page_draw.specs.Lacks.{values_of}
use Rattle.page_draw.proofs.Lists.{made}
use Rattle.page_draw.proofs.flats.draw_flats.Given as goal

-- the page goes on from where it was
abbrev pub invariant-flats : goal.invariant-flats
invariant-flats l =
    record {
      conv : l.pen.conv ≡ l.fn.pen.conv;
      asks : asks_left l.expander ≤ asks_left l.fn.expander;
      steps : steps_left l.expander ≤ steps_left l.fn.expander;
      drawn : Continues l.fn.pen.conv l.sheet (rest_of l.fn.expander) l.fn.pen.state (made l.fn.page (values_of l.fn.lacks)) (rest_of l.expander) l.pen.state (made l.page (values_of l.lacks));
    }

abbrev pub decreases-flats : goal.decreases-flats
decreases-flats l = steps_left l.expander
