use Rattle.std.proofs.Common.{sym, subst, arith}
use Rattle.std.proofs.lemmas.Result.{err_from_is_err_and}
use Rattle.pk_runs.specs.Reading.{IsItemRead, IsPaintedTo}
use Rattle.pk_runs.specs.declared.items.PackedNumber.{PackedNumber}
use Rattle.pk_runs.specs.declared.painter.Painter.{Painter}
use Rattle.pk_runs.proofs.Steps.{cant_read, no_room, run_too_long, too_many_rows, room_is_enough, ran, repeated_by}
use Rattle.pk_runs.proofs.runs.step.Goals as goal

pub returns-in_err-n-clause-painted : goal.returns-in_err-n-clause-painted
returns-in_err-n-clause-painted c = λ bytes first d.
    let p = err_from_is_err_and c.from_residual.result c.from_residual.ensures.1 in
    rw (p.1, p.2) (cant_read bytes c.args.dyn_f first c.args.painter.now.bits.width c.args.painter.now.bits.height c.args.nybbles.now c.args.painter.now c.in_err-n.field-0.0 c.requires.low d c.in_err-n.ensures)

pub returns-then-not-has_room-clause-painted : goal.returns-then-not-has_room-clause-painted
returns-then-not-has_room-clause-painted c = λ bytes first d.
    let item = subst (λ (x : PackedNumber). IsItemRead c.args.dyn_f c.args.nybbles.now c.next_item.new.nybbles c.args.painter.now.repeated x) c.in-Run.is c.in_ok-n.ensures in
    run_too_long bytes c.args.dyn_f first c.args.painter.now.bits.width c.args.painter.now.bits.height c.in-Run.n c.args.nybbles.now c.next_item.new.nybbles c.args.painter.now c.requires.low
    (no_room c.in-Run.n _ c.has_room.result c.has_room.ensures c.if-not-has_room.true) item d

pub run-requires-clause-room : goal.run-requires-clause-room
run-requires-clause-room c =
    room_is_enough c.in-Run.n c.args.painter.now.column c.args.painter.now.bits.width c.args.painter.now.copies c.args.painter.now.row c.args.painter.now.bits.height
    c.requires.inside (c.requires.ready.fit c.requires.low) (c.has_room.ensures.0 c.if-not-has_room.false)

pub returns-then-n-from-clause-painted : goal.returns-then-n-from-clause-painted
returns-then-n-from-clause-painted c = λ bytes first d.
    let item = subst (λ (x : PackedNumber). IsItemRead c.args.dyn_f c.args.nybbles.now c.next_item.new.nybbles c.args.painter.now.repeated x) c.in-Repeat.is c.in_ok-n.ensures in
    too_many_rows bytes c.args.dyn_f first c.args.painter.now.bits.width c.args.painter.now.bits.height c.in-Repeat.n c.args.nybbles.now c.next_item.new.nybbles c.args.painter.now c.requires.low
    (omega (arith, c.if-n-from.true, c.from.ensures, c.height.ensures.value)) item d

pub returns-else-not-has_room-clause-painted : goal.returns-else-not-has_room-clause-painted
returns-else-not-has_room-clause-painted c = λ bytes first d.
    let item = subst (λ (x : PackedNumber). IsItemRead c.args.dyn_f c.args.nybbles.now c.next_item.new.nybbles c.args.painter.now.repeated x) c.in-Run.is c.in_ok-n.ensures in
    ran bytes c.args.dyn_f first c.args.painter.now.bits.width c.args.painter.now.bits.height c.in-Run.n c.args.nybbles.now c.next_item.new.nybbles c.args.painter.now c.run.new.self c.requires.low c.requires.narrow c.requires.short
    (c.has_room.ensures.0 c.if-not-has_room.false) item c.run.ensures.turned c.run.ensures.drawn d

pub returns-else-n-from-clause-painted : goal.returns-else-n-from-clause-painted
returns-else-n-from-clause-painted c = λ bytes first d.
    let item = subst (λ (x : PackedNumber). IsItemRead c.args.dyn_f c.args.nybbles.now c.next_item.new.nybbles c.args.painter.now.repeated x) c.in-Repeat.is c.in_ok-n.ensures in
    subst (λ (p : Painter). IsPaintedTo bytes c.args.dyn_f first c.args.painter.now.bits.width c.args.painter.now.bits.height c.next_item.new.nybbles p) (sym c.repeat.ensures)
    (repeated_by bytes c.args.dyn_f first c.args.painter.now.bits.width c.args.painter.now.bits.height c.in-Repeat.n c.args.nybbles.now c.next_item.new.nybbles c.args.painter.now c.requires.low c.requires.short
    (omega (arith, c.if-n-from.false, c.from.ensures, c.height.ensures.value)) item d)
