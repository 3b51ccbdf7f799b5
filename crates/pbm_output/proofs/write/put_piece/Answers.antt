use Rattle.std.proofs.Common.{◌++◌, sym, ap, ◌∙◌}
use Rattle.pbm_output.proofs.write.put_piece.Goals as goal

pub returns-clause-put : goal.returns-clause-put
returns-clause-put g c start before text longer h is =
    c.put.ensures start before text longer h (is ∙ ap (λ l. text ++ l) (sym c.deref.ensures.value))
