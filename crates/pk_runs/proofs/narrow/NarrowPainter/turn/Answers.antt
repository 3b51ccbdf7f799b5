use Rattle.std.proofs.Common.{◌∙◌, Bool, ap, sym, subst, arith}
use Rattle.packed_rows.specs.Stamped.{word_pixel}
use Rattle.pk_runs.specs.Narrow.{IsAhead, prefix}
use Rattle.pk_runs.proofs.Kept.{value_of_painter}
use Rattle.pk_runs.proofs.RowWords.{ahead_turned, last_turned, rekept, seen_turned}
use Rattle.pk_runs.proofs.narrow.NarrowPainter.turn.Goals as goal

pub invariant_of-self : goal.invariant_of-self
invariant_of-self c = (
  rekept c.self.inside.bits (prefix c.self.inside.word c.self.inside.column) c.turned_from-self-inside.result c.self.inside.row c.self.inside.column c.self.invariant.0,
  subst (λ (b : Bool). IsAhead c.turned_from-self-inside.result c.self.inside.column b) (sym (last_turned c.self.inside.word c.self.inside.column c.turned_from-self-inside.result
      (omega (arith, c.self.invariant.0.narrow, c.self.invariant.0.inside)) c.turned_from-self-inside.ensures))
      (ahead_turned c.self.inside.word c.self.inside.column c.turned_from-self-inside.result (word_pixel c.self.inside.word 63) c.turned_from-self-inside.ensures c.self.invariant.1),
)

pub returns : goal.returns
returns c = ap (λ (b : Bool). value_of_painter c.self.inside.bits (prefix c.turned_from-self-inside.result c.self.inside.column) c.self.inside.row c.self.inside.column c.self.inside.copies c.self.inside.repeated b)
    (last_turned c.self.inside.word c.self.inside.column c.turned_from-self-inside.result (omega (arith, c.self.invariant.0.narrow, c.self.invariant.0.inside)) c.turned_from-self-inside.ensures)
    ∙ seen_turned c.self.inside.bits c.self.inside.word c.turned_from-self-inside.result c.self.inside.row c.self.inside.column c.self.inside.copies c.self.inside.repeated (word_pixel c.self.inside.word 63)
    c.args.self.now c.self.invariant.0.narrow (omega (arith, c.self.invariant.0.narrow, c.self.invariant.0.inside)) c.turned_from-self-inside.ensures c.self.view_is
