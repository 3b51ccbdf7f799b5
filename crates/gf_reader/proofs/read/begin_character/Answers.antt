use Rattle.std.proofs.Common.{◌≡◌, ◌∙◌, inl, inr, true, Some, ap, sym}
use Rattle.std.proofs.lemmas.Result.{err_from_is_err_and}
use Rattle.gf_reader.specs.Items.{begins_character, opcode}
use Rattle.gf_reader.proofs.ItemsRead.{begins_by, head_read, head_too_much}
use Rattle.gf_reader.proofs.read.begin_character.Goals as goal
use Rattle.gf_reader.proofs.read.begin_character.Goals.{else-item-ne-BOC-via-then-item-ne-BOC+else-item-ne-BOC1, else-item-ne-BOC-via-else-item-ne-BOC}

pub returns-in_err-sum-clause-begun : goal.returns-in_err-sum-clause-begun
returns-in_err-sum-clause-begun c = λ before font sum_is read.
    let item = c.args.item.now in
    let begins : begins_character (opcode item) ≡ true = elim c.else-item-ne-BOC.branch [
      | else-item-ne-BOC-via-then-item-ne-BOC+else-item-ne-BOC1 w ↦ begins_by item (inr w.if-item-ne-BOC1.false)
      | else-item-ne-BOC-via-else-item-ne-BOC w ↦ begins_by item (inl w.if-item-ne-BOC.false)
    ] in
    let sides = c.in_ok-sides.ensures.sides item c.of-head.ensures in
    let much = c.in_err-sum.ensures.fault in
    let p = err_from_is_err_and c.from_residual-in_err-sum.result c.from_residual-in_err-sum.ensures.1 in
    rw (p.1, p.2) (head_too_much item before c.in_ok-sides.sides.width c.in_ok-sides.sides.height c.args.sum.now begins sum_is sides much.0 ∙ ap Some (sym much.1))

pub returns-clause-begun : goal.returns-clause-begun
returns-clause-begun c = λ before font sum_is read.
    let item = c.args.item.now in
    let begins : begins_character (opcode item) ≡ true = elim c.else-item-ne-BOC.branch [
      | else-item-ne-BOC-via-then-item-ne-BOC+else-item-ne-BOC1 w ↦ begins_by item (inr w.if-item-ne-BOC1.false)
      | else-item-ne-BOC-via-else-item-ne-BOC w ↦ begins_by item (inl w.if-item-ne-BOC.false)
    ] in
    let sides = c.in_ok-sides.ensures.sides item c.of-head.ensures in
    head_read item before font c.in_ok-new.field-0 c.in_ok-sides.sides.width c.in_ok-sides.sides.height c.args.sum.now c.in_ok-sum.field-0 begins read sum_is sides
    c.in_ok-sum.ensures.sum c.in_ok-sum.ensures.few (c.in_ok-new.ensures item c.of-head.ensures sides.0 sides.1)
