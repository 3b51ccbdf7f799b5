use Rattle.std.proofs.Common.{◌+◌, ◌∙◌, min, ap, arith}
use Rattle.pk_runs.specs.Narrow.{prefix}
use Rattle.pk_runs.specs.declared.painter.Painter.{Painter}
use Rattle.pk_runs.proofs.Kept.{word_cut}
use Rattle.pk_runs.proofs.RowWords.{joined_prefix, white_after}
use Rattle.pk_runs.proofs.narrow.NarrowPainter.finish.Goals as goal

pub join_rows-requires-clause-white : goal.join_rows-requires-clause-white
join_rows-requires-clause-white c = white_after c.self.inside.word c.self.inside.column c.self.inside.bits.width c.prefix.result c.self.invariant.0.inside c.prefix.ensures

pub returns : goal.returns
returns c =
    c.join_rows.ensures
    ∙ joined_prefix c.self.inside.bits c.self.inside.word c.self.inside.column c.prefix.result c.self.inside.row c.min-until.result c.self.invariant.0.narrow
    (omega (arith, c.self.invariant.0.narrow, c.self.invariant.0.inside)) c.prefix.ensures
    ∙ word_cut c.self.inside.bits (prefix c.self.inside.word c.self.inside.column) c.self.inside.row c.min-until.result (c.min-until.ensures ∙ ap (λ h. min h (c.self.inside.row + 1)) c.height.ensures.value)
    ∙ ap (λ (p : Painter). p.bits) c.self.view_is
