use Rattle.std.proofs.Common.{ℕ, Bool, List, length, length-append, ap, subst, arith}
use Rattle.std.proofs.lemmas.Result.{err_from_is_err_and}
use Rattle.pk_runs.specs.Reading.{IsItemRead}
use Rattle.pk_runs.specs.declared.items.PackedNumber.{PackedNumber}
use Rattle.pk_runs.proofs.Steps.{cant_read_at}
use Rattle.pk_runs.proofs.Within.{within_none, within_more}
use Rattle.pk_runs.proofs.narrow_runs.runs_in_row.Goals as goal

pub loop-item-init : goal.loop-item-init
loop-item-init c = within_none c.args.dyn_f c.args.painter.now c.args.nybbles.now c.requires.inside c.requires.ready c.requires.low

pub returns-in_err-item-clause-painted : goal.returns-in_err-item-clause-painted
returns-in_err-item-clause-painted c = λ bytes first d.
    let p = err_from_is_err_and c.from_residual.result c.from_residual.ensures.1 in
    rw (p.1, p.2) (cant_read_at bytes c.args.dyn_f first c.args.painter.now.bits.width c.args.painter.now.bits.height c.row.result c.is_repeated.result c.loop-item.nybbles c.loop-item.painter c.in_err-item.field-0.0
    c.row.ensures c.is_repeated.ensures (omega (arith, c.loop-item.invariant.low, c.loop-item.invariant.high)) (c.loop-item.invariant.painted bytes first d) c.in_err-item.ensures)

pub returns-in_default-clause-painted : goal.returns-in_default-clause-painted
returns-in_default-clause-painted c = λ bytes first d. (
  c.loop-item.nybbles,
  c.loop-item.invariant.painted bytes first d,
  subst (λ (b : Bool). IsItemRead c.args.dyn_f c.loop-item.nybbles c.next_item.new.nybbles b c.in_ok-item.item) c.is_repeated.ensures c.in_ok-item.ensures,
)

pub returns-then-n-from-clause-painted : goal.returns-then-n-from-clause-painted
returns-then-n-from-clause-painted c = λ bytes first d. (
  c.loop-item.nybbles,
  c.loop-item.invariant.painted bytes first d,
  subst (λ (x : PackedNumber). IsItemRead c.args.dyn_f c.loop-item.nybbles c.next_item.new.nybbles c.loop-item.painter.repeated x) c.in-Run.is
      (subst (λ (b : Bool). IsItemRead c.args.dyn_f c.loop-item.nybbles c.next_item.new.nybbles b c.in_ok-item.item) c.is_repeated.ensures c.in_ok-item.ensures),
)

pub loop-item-preserved : goal.loop-item-preserved
loop-item-preserved c =
    let read = subst (λ (b : Bool). IsItemRead c.args.dyn_f c.loop-item.nybbles c.next_item.new.nybbles b c.in_ok-item.item) c.is_repeated.ensures c.in_ok-item.ensures in
    let item = subst (λ (x : PackedNumber). IsItemRead c.args.dyn_f c.loop-item.nybbles c.next_item.new.nybbles c.loop-item.painter.repeated x) c.in-Run.is read in
    within_more c.args.dyn_f c.args.painter.now c.args.nybbles.now c.loop-item.painter c.run_within.new.self c.loop-item.nybbles c.next_item.new.nybbles c.in-Run.n c.requires.narrow c.requires.short
    (omega (arith, c.if-n-from.false, c.from.ensures, c.left.ensures.value)) (omega (arith, ap (λ (l : List ℕ). length l) item.2, length-append item.1 c.next_item.new.nybbles)) item c.run_within.ensures c.loop-item.invariant
