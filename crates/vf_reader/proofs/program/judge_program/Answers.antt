use Rattle.std.proofs.Common.{arith}
use Rattle.std.proofs.lemmas.Result.{err_from_is_err_and}
use Rattle.dvi_commands.specs.Spelling.{value_of_command}
use Rattle.vf_reader.proofs.Steps.{all_read, command_read, command_wrong, few_open, left_open, not_read}
use Rattle.vf_reader.proofs.program.judge_program.Goals as goal

pub returns-in_err-depth-in-Ok-clause-fault : goal.returns-in_err-depth-in-Ok-clause-fault
returns-in_err-depth-in-Ok-clause-fault c =
    let p = err_from_is_err_and c.from_residual.result c.from_residual.ensures.1 in
    rw (p.1, p.2) (command_wrong c.args.code c.loop-at.depth c.loop-at.at c.in-Ok.after c.args.bytes.now (value_of_command c.in-Ok.command) c.in_err-depth-in-Ok.field-0.0
    c.loop-at.invariant.read c.in-Ok.ensures.place.0 c.in-Ok.ensures.read c.in-Ok.ensures.allowed c.in_err-depth-in-Ok.ensures.fault)

pub loop-at-preserved : goal.loop-at-preserved
loop-at-preserved c = record {
  place = c.in-Ok.ensures.place.1;
  shallow = omega (arith, few_open c.loop-at.depth (value_of_command c.in-Ok.command), c.in_ok-depth-in-Ok.ensures.depth, c.in-Ok.ensures.place.0, c.loop-at.invariant.shallow);
  read = command_read c.args.code c.loop-at.depth c.loop-at.at c.in-Ok.after c.in_ok-depth-in-Ok.depth c.args.bytes.now (value_of_command c.in-Ok.command)
      c.loop-at.invariant.read c.in-Ok.ensures.place.0 c.in-Ok.ensures.read c.in-Ok.ensures.allowed c.in_ok-depth-in-Ok.ensures.right c.in_ok-depth-in-Ok.ensures.depth;
}

pub returns-in-Err-clause-fault : goal.returns-in-Err-clause-fault
returns-in-Err-clause-fault c = not_read c.args.code c.loop-at.depth c.loop-at.at c.args.bytes.now c.in-Err.fault c.loop-at.invariant.read (omega arith) c.in-Err.ensures.refused

pub returns-then-depth-gt0-clause-fault : goal.returns-then-depth-gt0-clause-fault
returns-then-depth-gt0-clause-fault c = left_open c.args.code c.loop-at.depth c.loop-at.at c.args.bytes.now c.loop-at.invariant.read (omega arith) (omega arith)

pub returns-clause-sound : goal.returns-clause-sound
returns-clause-sound c = all_read c.args.code c.loop-at.depth c.loop-at.at c.args.bytes.now c.loop-at.invariant.read (omega arith) (omega arith)
