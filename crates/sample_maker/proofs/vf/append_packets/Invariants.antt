use Rattle.std.proofs.Common.{◌≡◌, ◌++◌, drop, map}
use Rattle.std.specs.List.{flat_map}
use Rattle.sample_maker.specs.VfFile.{packet_item}
use Rattle.sample_maker.proofs.vf.append_packets.Given as goal

abbrev pub invariant-loop-i : goal.invariant-loop-i
invariant-loop-i l =
    l.fn.out.items ++ flat_map packet_item (map (λ p. (p.0, p.1, p.2.items)) l.packets)
    ≡ l.out.items ++ flat_map packet_item (map (λ p. (p.0, p.1, p.2.items)) (drop l.i l.packets))
