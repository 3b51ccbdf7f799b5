use Rattle.std.proofs.Common.{◌+◌, ◌≤◌, ap, arith}
use Rattle.packed_rows.specs.Stamped.{word_pixel}
use Rattle.pk_runs.specs.Narrow.{prefix}
use Rattle.pk_runs.specs.declared.painter.Painter.{Painter}
use Rattle.pk_runs.proofs.Kept.{kept_painted, seen_painted}
use Rattle.pk_runs.proofs.RowWords.{prefix_run}
use Rattle.pk_runs.proofs.narrow.NarrowPainter.paint.Goals as goal

pub invariant_of-self : goal.invariant_of-self
invariant_of-self c = let fit : c.self.inside.column + c.args.n ≤ c.self.inside.bits.width =
    omega (arith, c.requires, ap (λ (p : Painter). p.column) c.self.view_is, ap (λ (p : Painter). p.bits.width) c.self.view_is) in (
      kept_painted c.self.inside.bits (prefix c.self.inside.word c.self.inside.column) (prefix c.self.inside.word (c.self.inside.column + c.args.n)) c.self.inside.row c.self.inside.column c.args.n (word_pixel c.self.inside.word 63)
          fit
          (prefix_run c.self.inside.word c.self.inside.column c.args.n (word_pixel c.self.inside.word 63) (omega (arith, fit, c.self.invariant.0.narrow)) c.self.invariant.1) c.self.invariant.0,
      λ i from few. c.self.invariant.1 i (omega (arith, from)) few,
    )

pub returns : goal.returns
returns c = let fit : c.self.inside.column + c.args.n ≤ c.self.inside.bits.width =
    omega (arith, c.requires, ap (λ (p : Painter). p.column) c.self.view_is, ap (λ (p : Painter). p.bits.width) c.self.view_is) in
    seen_painted c.self.inside.bits (prefix c.self.inside.word c.self.inside.column) (prefix c.self.inside.word (c.self.inside.column + c.args.n)) c.self.inside.row c.self.inside.column c.self.inside.copies c.args.n
    c.self.inside.repeated (word_pixel c.self.inside.word 63) c.args.self.now c.self.invariant.0.narrow
    (prefix_run c.self.inside.word c.self.inside.column c.args.n (word_pixel c.self.inside.word 63) (omega (arith, fit, c.self.invariant.0.narrow)) c.self.invariant.1) c.self.view_is
