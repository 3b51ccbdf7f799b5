use Rattle.std.proofs.lemmas.Bool.{lt-ltb, le-ltb}
use Rattle.std.proofs.lemmas.Result.{err_from_is_err_and}
use Rattle.pk_packets.proofs.SoFar.{item_read, packet_read, packet_stop}
use Rattle.pk_packets.proofs.font.PkFont.of_items.Goals as goal

pub returns-in_err-sum-clause-fault : goal.returns-in_err-sum-clause-fault
returns-in_err-sum-clause-fault c =
    let p = err_from_is_err_and c.from_residual-in_err-sum.result c.from_residual-in_err-sum.ensures.1 in
    let h = c.loop-font.invariant.read in
    let next = rw c.in-Some.is at c.in_ok-item.ensures.item in
    rw (p.1, p.2) (packet_stop c.args.bytes.now c.loop-font.items c.in-Some.item.now c.next.new.self c.loop-font.sum c.loop-font.font c.in_err-sum.field-0.0 h next.0 next.1
    (lt-ltb _ 240 c.if-item-lt-SPECIAL.true) (c.in_err-sum.ensures.added h.items h.sum_is h.glyphs))

pub loop-font-preserved-then-item-lt-SPECIAL : goal.loop-font-preserved-then-item-lt-SPECIAL
loop-font-preserved-then-item-lt-SPECIAL c =
    let h = c.loop-font.invariant.read in
    let next = rw c.in-Some.is at c.in_ok-item.ensures.item in
    record {
      read = packet_read c.args.bytes.now c.loop-font.items c.in-Some.item.now c.next.new.self c.loop-font.sum c.in_ok-sum.sum c.loop-font.font c.add.new.self h next.0 next.1 (c.in_ok-sum.ensures.added h.items h.sum_is h.glyphs);
      few = c.in_ok-sum.ensures.few;
    }

pub loop-font-preserved : goal.loop-font-preserved
loop-font-preserved c =
    let next = rw c.in-Some.is at c.in_ok-item.ensures.item in
    record {
      read = item_read c.args.bytes.now c.loop-font.items c.in-Some.item.now c.next.new.self c.loop-font.sum c.loop-font.font c.loop-font.invariant.read next.0 next.1 (le-ltb _ 240 c.if-item-lt-SPECIAL.false);
      few = c.loop-font.invariant.few;
    }
