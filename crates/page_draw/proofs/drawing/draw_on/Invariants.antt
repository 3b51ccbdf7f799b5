use Rattle.std.proofs.Common.{◌≡◌, ◌≤◌, ◌+◌, ◌^◌}
use Rattle.page_index.specs.Pages.{IsConversionOf, document_units}
use Rattle.font_decode.specs.Decoding.{IsFontOf}
use Rattle.font_decode.specs.Desks.{TrailGrew}
use Rattle.vf_expand.specs.Course.{course_of}
use Rattle.vf_expand.specs.Expansion.{asks_left, rest_of, steps_left}
use Rattle.page_draw.specs.Lacks.{values_of}
use Rattle.page_draw.proofs.Lists.{IsDrawnUpTo, made}
use Rattle.page_draw.proofs.drawing.draw_on.Given as goal

-- the page so far, and what is left of it
abbrev pub invariant-steps : goal.invariant-steps
invariant-steps g l =
    let desk = g.D.Desk in
    record {
      conv : IsConversionOf (document_units l.fn.wanted.index.now.res l.fn.wanted.index.now.reading) l.pen.conv;
      fits : desk.fits l.desk l.shared;
      room : desk.room l.fn.desk + asks_left l.expander ≤ desk.room l.desk + 2 ^ 24;
      library : desk.library l.desk ≡ desk.library l.fn.desk;
      units : desk.units l.desk ≡ desk.units l.fn.desk;
      faults : desk.faults l.fn.desk ≤ desk.faults l.desk;
      trail : TrailGrew (Unit {0}) (desk.asked l.fn.desk) (desk.asked l.desk) (desk.trail l.fn.desk) (desk.trail l.desk);
      so_far : IsDrawnUpTo (IsFontOf (desk.library l.fn.desk) (desk.units l.fn.desk)) l.pen.conv l.sheet (course_of l.sheet.tolerant l.fn.wanted.index.now.reading l.fn.wanted.number) (rest_of l.expander)
          l.pen.state (made l.page (values_of l.lacks)) (desk.asked l.fn.desk) (desk.asked l.desk);
    }

abbrev pub decreases-steps : goal.decreases-steps
decreases-steps g l = steps_left l.expander
