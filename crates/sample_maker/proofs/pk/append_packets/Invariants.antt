use Rattle.std.proofs.Common.{◌≡◌, ◌++◌, take}
use Rattle.std.specs.List.{flat_map}
use Rattle.std.specs.Prelude.{All}
use Rattle.sample_maker.specs.PkFile.{IsMeasured, packet_item}
use Rattle.sample_maker.proofs.pk.append_packets.Given as goal

abbrev pub invariant-loop-i : goal.invariant-loop-i
invariant-loop-i l = record {
  items : l.out.items ≡ l.fn.out.items ++ flat_map (packet_item l.coding) (take l.i l.glyphs);
  measured : All (IsMeasured l.coding) (take l.i l.glyphs);
}
