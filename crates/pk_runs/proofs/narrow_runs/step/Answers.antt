use Rattle.std.proofs.Common.{sym, subst, arith}
use Rattle.std.proofs.lemmas.Result.{err_from_is_err_and}
use Rattle.pk_runs.specs.Reading.{IsPaintedTo}
use Rattle.pk_runs.specs.declared.painter.Painter.{Painter}
use Rattle.pk_runs.proofs.Within.{next_too_long, next_too_many, next_ran, next_repeated}
use Rattle.pk_runs.proofs.narrow_runs.step.Goals as goal

pub returns-in_err-n-clause-painted : goal.returns-in_err-n-clause-painted
returns-in_err-n-clause-painted c = λ bytes first d.
    let p = err_from_is_err_and c.from_residual.result c.from_residual.ensures.1 in
    rw (p.1, p.2) (c.in_err-n.ensures.painted bytes first d)

pub returns-in_err-run-in-Run-clause-painted : goal.returns-in_err-run-in-Run-clause-painted
returns-in_err-run-in-Run-clause-painted c = λ bytes first d.
    let p = err_from_is_err_and c.from_residual-in_err-run-in-Run.result c.from_residual-in_err-run-in-Run.ensures.1 in
    rw (p.1, p.2, c.in_err-run-in-Run.ensures.overrun.0)
    (next_too_long bytes c.args.dyn_f first c.args.painter.now.bits.width c.args.painter.now.bits.height c.in-Run.n c.runs_in_row.new.nybbles c.runs_in_row.new.painter c.in_ok-n.field-0
    c.in-Run.is c.in_ok-n.ensures.wide c.in_ok-n.ensures.high c.in_ok-n.ensures.low c.in_err-run-in-Run.ensures.overrun.1 (c.in_ok-n.ensures.painted bytes first d))

pub returns-then-n-from-clause-painted : goal.returns-then-n-from-clause-painted
returns-then-n-from-clause-painted c = λ bytes first d.
    next_too_many bytes c.args.dyn_f first c.args.painter.now.bits.width c.args.painter.now.bits.height c.in-Repeat.n c.runs_in_row.new.nybbles c.runs_in_row.new.painter c.in_ok-n.field-0
    c.in-Repeat.is c.in_ok-n.ensures.high c.in_ok-n.ensures.low
    (omega (arith, c.if-n-from.true, c.from.ensures, c.rows_below.ensures)) (c.in_ok-n.ensures.painted bytes first d)

pub returns-in_ok-run-in-Run-clause-painted : goal.returns-in_ok-run-in-Run-clause-painted
returns-in_ok-run-in-Run-clause-painted c = λ bytes first d.
    next_ran bytes c.args.dyn_f first c.args.painter.now.bits.width c.args.painter.now.bits.height c.in-Run.n c.runs_in_row.new.nybbles c.runs_in_row.new.painter c.run.new.self c.in_ok-n.field-0
    c.in-Run.is c.in_ok-n.ensures.wide c.in_ok-n.ensures.high c.in_ok-n.ensures.low c.requires.narrow c.requires.short
    c.in_ok-run-in-Run.ensures.room c.in_ok-run-in-Run.ensures.turned c.in_ok-run-in-Run.ensures.drawn (c.in_ok-n.ensures.painted bytes first d)

pub returns-else-n-from-clause-painted : goal.returns-else-n-from-clause-painted
returns-else-n-from-clause-painted c = λ bytes first d.
    subst (λ (p : Painter). IsPaintedTo bytes c.args.dyn_f first c.args.painter.now.bits.width c.args.painter.now.bits.height c.runs_in_row.new.nybbles p) (sym c.repeat.ensures)
    (next_repeated bytes c.args.dyn_f first c.args.painter.now.bits.width c.args.painter.now.bits.height c.in-Repeat.n c.runs_in_row.new.nybbles c.runs_in_row.new.painter c.in_ok-n.field-0
    c.in-Repeat.is c.in_ok-n.ensures.high c.in_ok-n.ensures.low c.requires.short
    (omega (arith, c.if-n-from.false, c.from.ensures, c.rows_below.ensures)) (c.in_ok-n.ensures.painted bytes first d))
