use Rattle.std.proofs.Common.{◌∙◌, ◌+◌, ℕ, ap, sym, arith, false, true}
use Rattle.std.specs.Prelude.{◌&&◌, ◌||◌, nat_le, nat_lt}
use Rattle.gf_reader.specs.Painting.{after_paint}
use Rattle.gf_reader.proofs.CommandSums.{black_by, column_by, no_kind, paint_kind, row_by, row_kind, skip_kind}
use Rattle.gf_reader.proofs.DrawingSteps.{move_drawn, other_drawn, paint_drawn}
use Rattle.gf_reader.proofs.drawing.Drawing.command.Goals as goal

pub returns-else-is_outside-clause-drawn : goal.returns-else-is_outside-clause-drawn
returns-else-is_outside-clause-drawn c = λ ch h.
    let d = c.args.self.now in
    let item = c.args.item.now in
    let n = c.paint_length-n.ensures.length in
    paint_drawn ch item d c.paint.new.self h (paint_kind item c.if-op-le-LAST_PAINT.true) (c.paint.ensures ∙ ap (after_paint d) n)
    (sym (c.is_outside.ensures ∙ ap (λ (k : ℕ). d.black && nat_lt 0 k && (nat_lt d.bits.width (d.column + k) || nat_le d.bits.height d.row)) n) ∙ c.if-is_outside.false)

pub returns-then-op-le-LAST_SKIP-clause-drawn : goal.returns-then-op-le-LAST_SKIP-clause-drawn
returns-then-op-le-LAST_SKIP-clause-drawn c = λ ch h.
    let item = c.args.item.now in
    let kind = skip_kind item c.if-op-ge-SKIP.true c.if-op-le-LAST_SKIP.true in
    move_drawn ch item c.args.self.now c.move_to.new.self (1 + c.number_of.result) 0 false true false h kind c.move_to.ensures
    (row_by item ch.commands false true false kind ∙ omega (arith, c.number_of.ensures.number)) (column_by item ch.commands false true false kind) (black_by item ch.commands false true false kind)

pub returns-then-op-le-LAST_NEW_ROW-clause-drawn : goal.returns-then-op-le-LAST_NEW_ROW-clause-drawn
returns-then-op-le-LAST_NEW_ROW-clause-drawn c = λ ch h.
    let item = c.args.item.now in
    let kind = row_kind item c.if-op-ge-NEW_ROW.true c.if-op-le-LAST_NEW_ROW.true in
    move_drawn ch item c.args.self.now c.move_to-then-op-le-LAST_NEW_ROW.new.self 1 c.from.result true false true h kind c.move_to-then-op-le-LAST_NEW_ROW.ensures
    (row_by item ch.commands false false true kind) (column_by item ch.commands false false true kind ∙ omega (arith, c.from.ensures)) (black_by item ch.commands false false true kind)

pub returns-else-op-ge-NEW_ROW-clause-drawn : goal.returns-else-op-ge-NEW_ROW-clause-drawn
returns-else-op-ge-NEW_ROW-clause-drawn c = λ ch h.
    let item = c.args.item.now in
    other_drawn ch item c.args.self.now h (no_kind item c.if-op-le-LAST_PAINT.false c.else-op-ge-SKIP.either c.else-op-ge-NEW_ROW.either)
