use Rattle.std.proofs.Common.{◌≡◌, ◌∙◌, ◌-◌, length, arith}
use Rattle.std.proofs.lemmas.Bool.{le-leb, lt-leb}
use Rattle.std.proofs.lemmas.Result.{err_from_is_err_and}
use Rattle.vf_reader.proofs.SoFar.{item_place, item_stop, local_read, nothing_read, packet_read}
use Rattle.vf_reader.proofs.font.VfFont.of_items.Goals as goal

pub loop-locals-init : goal.loop-locals-init
loop-locals-init c = record {
  read = nothing_read c.args.bytes.now c.new-items.result c.in_ok-packets.packets c.new-locals.result c.in_ok-after_preamble.ensures.right
      (c.new-items.ensures ∙ c.in_ok-after_preamble.ensures.rest) c.in_ok-packets.ensures c.new-locals.ensures;
}

pub loop-locals-preserved-in_ok-add_packet : goal.loop-locals-preserved-in_ok-add_packet
loop-locals-preserved-in_ok-add_packet c =
    let bytes = c.args.bytes.now in
    let h = c.loop-locals.invariant.read in
    let next = rw c.in-Some.is at c.in_ok-item.ensures.item in
    let end : length bytes - c.left.result ≡ length bytes - length c.next.new.self = omega (arith, c.left.ensures) in
    record {
      read = packet_read bytes c.loop-locals.items c.in-Some.item.now c.next.new.self c.loop-locals.packets c.add_packet.new.packets c.loop-locals.locals h next.0 next.1 (le-leb _ 242 c.if-item-le-LONG_PACKET.true)
          (c.in_ok-add_packet.ensures.added bytes c.next.new.self h.items
          (item_place bytes c.loop-locals.items c.in-Some.item.now c.next.new.self (length bytes - c.left.result) h.ends h.inside next.0 end) (omega arith) h.spans_are);
    }

pub returns-in_err-add_packet-clause-fault : goal.returns-in_err-add_packet-clause-fault
returns-in_err-add_packet-clause-fault c =
    let bytes = c.args.bytes.now in
    let h = c.loop-locals.invariant.read in
    let next = rw c.in-Some.is at c.in_ok-item.ensures.item in
    let end : length bytes - c.left.result ≡ length bytes - length c.next.new.self = omega (arith, c.left.ensures) in
    let p = err_from_is_err_and c.from_residual-in_err-add_packet.result c.from_residual-in_err-add_packet.ensures.1 in
    rw (p.1, p.2) (
    item_stop bytes c.loop-locals.items c.in-Some.item.now c.next.new.self c.loop-locals.packets c.loop-locals.locals c.in_err-add_packet.field-0.0 h next.0 next.1
    (c.in_err-add_packet.ensures.added bytes c.next.new.self h.items
    (item_place bytes c.loop-locals.items c.in-Some.item.now c.next.new.self (length bytes - c.left.result) h.ends h.inside next.0 end) (omega arith) h.spans_are))

pub loop-locals-preserved : goal.loop-locals-preserved
loop-locals-preserved c =
    let h = c.loop-locals.invariant.read in
    let next = rw c.in-Some.is at c.in_ok-item.ensures.item in
    record {
      read = local_read c.args.bytes.now c.loop-locals.items c.in-Some.item.now c.next.new.self c.loop-locals.packets c.loop-locals.locals c.in_ok-locals.locals h next.0 next.1
          (lt-leb _ 242 c.if-item-le-LONG_PACKET.false) (c.in_ok-locals.ensures.added h.items h.locals_are);
    }
