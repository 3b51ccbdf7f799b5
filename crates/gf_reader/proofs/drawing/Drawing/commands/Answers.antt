use Rattle.std.proofs.Common.{◌∙◌, length, Some, ap, arith}
use Rattle.std.proofs.lemmas.List.{length-append}
use Rattle.std.proofs.lemmas.Result.{err_from_is_err_and}
use Rattle.gf_reader.proofs.CharactersRead.{command_first, command_more, end_reached}
use Rattle.gf_reader.proofs.ItemsRead.{place_first}
use Rattle.gf_reader.proofs.drawing.Drawing.commands.Goals as goal

pub returns-in_err-item-clause-ended : goal.returns-in_err-item-clause-ended
returns-in_err-item-clause-ended c = λ bytes sum font h.
    let p = err_from_is_err_and c.from_residual.result c.from_residual.ensures.1 in
    rw (p.1, p.2) (place_first bytes c.commands.items sum font (Some c.commands.self) c.in_err-item.field-0.0 (c.commands.invariant.read bytes sum font h) c.in_err-item.ensures.fault)

pub returns-then-item-eq-EOC-clause-ended : goal.returns-then-item-eq-EOC-clause-ended
returns-then-item-eq-EOC-clause-ended c = λ bytes sum font h.
    let next = rw c.in-Some.is at c.in_ok-item.ensures.item in
    end_reached bytes c.commands.items c.in-Some.item.now c.next.new.self sum font c.commands.self (c.commands.invariant.read bytes sum font h) next.0 next.1 c.if-item-eq-EOC.true

pub returns-in_err-command-clause-ended : goal.returns-in_err-command-clause-ended
returns-in_err-command-clause-ended c = λ bytes sum font h.
    let p = err_from_is_err_and c.from_residual-in_err-command.result c.from_residual-in_err-command.ensures.1 in
    let next = rw c.in-Some.is at c.in_ok-item.ensures.item in
    rw (p.1, p.2) (command_first bytes c.commands.items c.in-Some.item.now c.next.new.self sum font c.commands.self c.in_err-command.field-0.0 (c.commands.invariant.read bytes sum font h) next.0 next.1 c.in_err-command.ensures.drawn)

pub commands-preserved : goal.commands-preserved
commands-preserved c =
    let inv = c.commands.invariant in
    let next = rw c.in-Some.is at c.in_ok-item.ensures.item in
    let item = c.in-Some.item.now in
    let more = c.short_commands-in-Some.ensures in
    let done = c.in_ok-command.ensures in
    record {
      wide = more.wide ∙ done.wide ∙ inv.wide;
      high = more.high ∙ done.high ∙ inv.high;
      column = more.column;
      row = more.row;
      fewer = omega (arith, ap length next.0, length-append item c.next.new.self, more.fewer, inv.fewer);
      read = λ bytes sum font h.
          more.read bytes sum font (command_more c.commands.items item c.next.new.self c.commands.self c.command.new.self next.0 next.1 c.if-item-eq-EOC.false done.drawn bytes sum font (inv.read bytes sum font h));
    }
