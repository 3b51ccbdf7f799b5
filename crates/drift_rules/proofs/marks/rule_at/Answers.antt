use Rattle.std.proofs.Common.{refl, arith}
use Rattle.drift_rules.proofs.Held.{kept}
use Rattle.drift_rules.proofs.Rectangles.{not_positive, positive, rule_kept, paintable_kept, above}
use Rattle.drift_rules.proofs.marks.rule_at.Goals.{then-height-le0-via-then-height-le0, then-height-le0-via-else-height-le0+then-width-le0}
use Rattle.drift_rules.proofs.marks.rule_at.Goals as goal

pub returns-then-height-le0-clause-value : goal.returns-then-height-le0-clause-value
returns-then-height-le0-clause-value c =
    let height = kept c.args.height (omega (arith, c.requires.height)) in
    let width = kept c.args.width (omega (arith, c.requires.width)) in
    elim c.then-height-le0.branch [
      | then-height-le0-via-then-height-le0 w ↦ rw (not_positive c.args.height (rw height at w.if-height-le0.true)) refl
      | then-height-le0-via-else-height-le0+then-width-le0 w ↦ rw (positive c.args.height (rw height at w.if-height-le0.false), not_positive c.args.width (rw width at w.if-width-le0.true)) refl
    ]

pub returns-clause-value : goal.returns-clause-value
returns-clause-value c =
    let height = kept c.args.height (omega (arith, c.requires.height)) in
    let width = kept c.args.width (omega (arith, c.requires.width)) in
    let rows_bound = rw height at c.ceil-rows.ensures.bounded in
    let columns_bound = rw width at c.ceil.ensures.bounded in
    let rows = rw height at c.ceil-rows.ensures.value in
    let columns = rw width at c.ceil.ensures.value in
    let same = rule_kept c.args.now.hh c.args.now.vv c.ceil.result c.ceil-rows.result c.requires.held.hh c.requires.held.vv (omega (arith, columns_bound, c.requires.width)) (omega (arith, rows_bound, c.requires.height)) in
    rw (same, rows, columns, positive c.args.height (rw height at c.if-height-le0.false), positive c.args.width (rw width at c.if-width-le0.false)) refl

pub returns-clause-paintable : goal.returns-clause-paintable
returns-clause-paintable c =
    let height = kept c.args.height (omega (arith, c.requires.height)) in
    let width = kept c.args.width (omega (arith, c.requires.width)) in
    let rows_bound = rw height at c.ceil-rows.ensures.bounded in
    let columns_bound = rw width at c.ceil.ensures.bounded in
    let rows_some = rw height at c.ceil-rows.ensures.has_a_dot in
    let columns_some = rw width at c.ceil.ensures.has_a_dot in
    paintable_kept c.args.now.hh c.args.now.vv c.ceil.result c.ceil-rows.result c.requires.held.hh c.requires.held.vv (omega (arith, columns_bound, c.requires.width)) (omega (arith, rows_bound, c.requires.height))
    (columns_some (above _ (rw width at c.if-width-le0.false))) (rows_some (above _ (rw height at c.if-height-le0.false)))
