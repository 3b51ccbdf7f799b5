use Rattle.std.proofs.Common.{◌≡◌, ◌∙◌, ◌++◌, List, ℕ, ℤ, Vec, Global, ap, subst, sym, arith}
use Rattle.std.proofs.lemmas.Int.{ints}
use Rattle.dvi_commands.proofs.Motions.{stored}
use Rattle.sample_maker.specs.VfFile.{IsPacketWritable, VfPacket, packet_item}
use Rattle.sample_maker.proofs.Loops.{rest_more, seen_at}
use Rattle.sample_maker.proofs.vf.append_packets.Goals as goal

seen : ℕ × ℤ × Vec ℕ Global → VfPacket
seen p = (p.0, p.1, p.2.items)

same_packet : (code : ℕ) (x width : ℤ) (a b : List ℕ) → x ≡ width → a ≡ b → ◌≡◌ {A = VfPacket} (code, x, a) (code, width, b)
same_packet code x width a b ex ea = ap (λ (z : ℤ). (code, z, a)) ex ∙ ap (λ (t : List ℕ). (code, width, t)) ea

pub append_packet-requires : goal.append_packet-requires
unfolding seen
append_packet-requires c =
    let packet = c.index-packets-i.result in
    let width : stored packet.1 ≡ packet.1 = omega (arith, ints) in
    let h = subst (λ (p : ℕ × ℤ × Vec ℕ Global). IsPacketWritable (seen p)) (sym c.index-packets-i.is) (seen_at seen IsPacketWritable c.args.packets.now c.loop-i.i packet c.requires c.loop-i-test.true) in
    subst IsPacketWritable (sym (same_packet packet.0 (stored packet.1) packet.1 c.deref.result.now packet.2.items width c.deref.ensures.value)) h

pub loop-i-preserved : goal.loop-i-preserved
unfolding seen
loop-i-preserved c =
    let packet = c.index-packets-i.result in
    let width : stored packet.1 ≡ packet.1 = omega (arith, ints) in
    let same = same_packet packet.0 (stored packet.1) packet.1 c.deref.result.now packet.2.items width c.deref.ensures.value in
    rest_more seen c.args.packets.now c.loop-i.i packet_item _ c.loop-i.out.items c.append_packet.new.out.items packet c.loop-i-test.true c.index-packets-i.is c.loop-i.invariant
    (c.in_ok-append_packet.ensures ∙ ap (λ (p : VfPacket). c.loop-i.out.items ++ packet_item p) same)
