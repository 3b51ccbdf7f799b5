use Rattle.std.proofs.Common.{◌∙◌, sym, ap}
use Rattle.vf_expand.specs.Course.{Ends}
use Rattle.vf_expand.specs.Expansion.{rest_of}
use Rattle.page_draw.specs.Values.{value_of_drawn}
use Rattle.page_draw.proofs.Ends.{end_left, end_whole, stop_ends}
use Rattle.page_draw.proofs.drawing.end_page.Goals as goal

pub returns-in-End-clause-whole : goal.returns-in-End-clause-whole
returns-in-End-clause-whole c =
    let step = rw c.in-End.is at c.requires.next in
    end_whole c.args.pen.now.conv c.args.pen.now.state (value_of_drawn c.args.drawn) (rest_of c.args.expander.now) c.at.result (step.0 ∙ ap Ends (sym c.at.ensures)) _ c.finish_page.ensures.whole

pub returns-in-End-clause-stop : goal.returns-in-End-clause-stop
returns-in-End-clause-stop c =
    let step = rw c.in-End.is at c.requires.next in
    end_left c.args.pen.now.conv c.args.pen.now.state (value_of_drawn c.args.drawn) (rest_of c.args.expander.now) c.at.result (step.0 ∙ ap Ends (sym c.at.ensures)) _ c.finish_page.ensures.left

pub returns-in-Stop-clause-stop : goal.returns-in-Stop-clause-stop
returns-in-Stop-clause-stop c =
    let step = rw c.in-Stop.is at c.requires.next in
    stop_ends c.args.pen.now.conv c.args.pen.now.state (value_of_drawn c.args.drawn) (rest_of c.args.expander.now) c.args.expander.now.at c.in-Stop.fault c.at-in-Stop.result step.0 c.at-in-Stop.ensures
