use Rattle.std.proofs.Common.{inl, inr, arith}
use Rattle.dvi_commands.proofs.SkippableCommands.{none_plain, skippable_here}
use Rattle.dvi_commands.proofs.Texts.{are_bytes}
use Rattle.dvi_commands.proofs.skippable.end_of_skippable.Goals as goal
use Rattle.dvi_commands.proofs.skippable.end_of_skippable.Goals.{then-length-eq0-via-then-length-eq0, then-length-eq0-via-else-length-eq0+then-bytes-at}

pub returns-then-length-eq0-clause-other : goal.returns-then-length-eq0-clause-other
returns-then-length-eq0-clause-other c _ command prefix rest begins =
    let few = are_bytes c.args.bytes.now (λ k. omega (arith, c.type_inv.bytes k)) in
    let no_command = none_plain c.args.bytes.now c.args.at c.skippable_length-length.result few (omega arith) c.skippable_length-length.ensures command prefix rest in
    elim c.then-length-eq0.branch [
      | then-length-eq0-via-then-length-eq0 w ↦ no_command (inl w.if-length-eq0.true) begins
      | then-length-eq0-via-else-length-eq0+then-bytes-at w ↦ no_command (inr w.if-bytes-at.true) begins
    ]

pub returns-clause-skippable : goal.returns-clause-skippable
returns-clause-skippable c =
    let few = are_bytes c.args.bytes.now (λ k. omega (arith, c.type_inv.bytes k)) in
    skippable_here c.args.bytes.now c.args.at c.skippable_length-length.result few (omega arith) c.skippable_length-length.ensures c.if-length-eq0.false c.if-bytes-at.false
