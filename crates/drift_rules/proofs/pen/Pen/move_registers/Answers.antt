use Rattle.std.proofs.lemmas.Result.{err_from_is_err_and}
use Rattle.drift_rules.proofs.pen.Pen.move_registers.Goals as goal

pub returns-clause-moved : goal.returns-clause-moved
returns-clause-moved c =
    rw (← c.self.view_is) (c.in_ok-self-inside.ensures.after c.self.inside.saved)

pub returns-in_err-self-inside-clause-stop : goal.returns-in_err-self-inside-clause-stop
returns-in_err-self-inside-clause-stop c =
    let p = err_from_is_err_and c.from_residual.result c.from_residual.ensures.1 in
    rw (p.1, p.2, ← c.self.view_is) (c.in_err-self-inside.ensures.overflow.1 c.self.inside.saved)
