use Rattle.std.proofs.Common.{◌≡◌, ◌-◌, ℕ, refl, sym, ap, subst, ◌∙◌, arith}
use Rattle.pk_runs.specs.declared.painter.Painter.{Painter}
use Rattle.pk_runs.proofs.Drawn.{IsRun, runs_end}
use Rattle.pk_runs.proofs.Overruns.{RunsWhole, whole_row, whole_over, whole_end}
use Rattle.pk_runs.proofs.Steps.{room_is_enough}
use Rattle.pk_runs.proofs.narrow.NarrowPainter.run.Goals.{else-left-gt0-via-then-left-gt0+else-self-height, else-left-gt0-via-else-left-gt0}
use Rattle.pk_runs.proofs.narrow.NarrowPainter.run.Goals as goal

pub loop-left-preserved : goal.loop-left-preserved
loop-left-preserved c = subst (λ (k : ℕ). RunsWhole c.args.n c.args.self.now (c.loop-left.left - k) c.end_row.new.self) (sym c.from-left.ensures)
    (whole_row c.args.n c.args.self.now c.loop-left.left c.left-piece.result c.loop-left.self c.paint.new.self c.end_row.new.self c.left-piece.ensures.value
    (omega (arith, c.loop-left-test.true, c.from.ensures, c.left.ensures.value, c.left-piece.ensures.value)) c.paint.ensures c.end_row.ensures
    (elim c.else-left-gt0.branch [
      | else-left-gt0-via-then-left-gt0+else-self-height w ↦ (λ _ same. w.if-self-height.false (row ∙ same ∙ sym height ∙ sym w.height.ensures.value))
      | else-left-gt0-via-else-left-gt0 w ↦ (λ some. absurd (omega (arith, some, w.if-left-gt0.false, c.from-left.ensures)))
    ]) c.loop-left.invariant)
  where
    row : c.self.inside.row ≡ c.end_row.new.self.row
    row = ap (λ (p : Painter). p.row) c.self.view_is

    height : c.self.inside.bits.height ≡ c.end_row.new.self.bits.height
    height = ap (λ (p : Painter). p.bits.height) c.self.view_is

pub returns-then-self-height-clause-overrun : goal.returns-then-self-height-clause-overrun
returns-then-self-height-clause-overrun c = (
  refl,
  whole_over c.args.n c.args.self.now c.loop-left.left c.left-piece.result c.loop-left.self c.paint.new.self c.end_row.new.self c.requires.inside c.requires.ready c.requires.low c.left-piece.ensures.value
      (omega (arith, c.loop-left-test.true, c.from.ensures, c.left.ensures.value, c.left-piece.ensures.value)) c.paint.ensures c.end_row.ensures (omega (arith, c.if-left-gt0.true, c.from-left.ensures))
      (sym (ap (λ (p : Painter). p.row) c.self.view_is) ∙ c.if-self-height.true ∙ c.height.ensures.value ∙ ap (λ (p : Painter). p.bits.height) c.self.view_is) c.loop-left.invariant,
)

pub returns-clause-room : goal.returns-clause-room
returns-clause-room c = whole_end c.args.n c.args.self.now c.loop-left.left c.loop-left.self c.requires.inside c.requires.ready c.requires.low (omega (arith, c.loop-left-test.false, c.from.ensures, c.left.ensures.value)) c.loop-left.invariant

ended : (c : goal.After-run_within) → IsRun c.args.n c.args.self.now c.run_within.new.self
ended c =
    let room = room_is_enough c.args.n c.args.self.now.column c.args.self.now.bits.width c.args.self.now.copies c.args.self.now.row c.args.self.now.bits.height c.requires.inside (c.requires.ready.fit c.requires.low) (returns-clause-room c) in
    runs_end c.args.n c.args.self.now c.loop-left.left c.loop-left.self c.run_within.new.self (omega (arith, c.loop-left-test.false, c.from.ensures, c.left.ensures.value)) c.run_within.ensures (c.loop-left.invariant.runs room)

pub returns-clause-turned : goal.returns-clause-turned
returns-clause-turned c = (ended c).turned

pub returns-clause-drawn : goal.returns-clause-drawn
returns-clause-drawn c = (ended c).drawn
