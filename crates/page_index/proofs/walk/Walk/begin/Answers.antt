use Rattle.std.proofs.Common.{[], refl}
use Rattle.dvi_commands.specs.Spelling.{value_of_command}
use Rattle.page_index.specs.Walked.{after_preamble}
use Rattle.page_index.proofs.Begin.{begun, not_refused}
use Rattle.page_index.proofs.Steps.{read_as}
use Rattle.page_index.proofs.walk.Walk.begin.Goals as goal

pub unreachable-requires : goal.unreachable-requires
unreachable-requires c = not_refused c.args.bytes.now c.args.first.now c.in-Err.field-0 c.requires c.in-Err.ensures.refused

pub returns : goal.returns
returns c =
    read_as c.args.bytes.now c.args.first.now (after_preamble c.in-Ok.next) c.after_preamble.result [] c.new.result.items c.new-2.result c.new-2.result
    c.after_preamble.ensures c.new.ensures.items refl
    (begun c.args.bytes.now c.args.first.now c.requires (value_of_command c.in-Ok.field-0-0) c.in-Ok.next c.in-Ok.ensures.read c.in-Ok.ensures.place.0 c.in-Ok.ensures.place.1 c.in-Ok.ensures.allowed c.new-2.result c.new-2.ensures)
