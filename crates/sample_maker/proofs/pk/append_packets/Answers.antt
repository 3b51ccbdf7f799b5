use Rattle.sample_maker.specs.PkFile.{IsMeasured, packet_item}
use Rattle.sample_maker.proofs.Loops.{all_more, all_taken, appended_more}
use Rattle.sample_maker.proofs.pk.append_packets.Goals as goal

pub loop-i-preserved : goal.loop-i-preserved
loop-i-preserved c = record {
  items = appended_more c.args.glyphs.now c.loop-i.i (packet_item c.args.coding) c.args.out.now.items c.loop-i.out.items _ c.index-glyphs-i.result c.loop-i-test.true c.index-glyphs-i.is c.loop-i.invariant.items c.in_ok-append_glyph.ensures.appended;
  measured = all_more c.args.glyphs.now c.loop-i.i (IsMeasured c.args.coding) c.index-glyphs-i.result c.loop-i-test.true c.index-glyphs-i.is c.loop-i.invariant.measured c.in_ok-append_glyph.ensures.measured;
}

pub returns-clause-measured : goal.returns-clause-measured
returns-clause-measured c = all_taken c.args.glyphs.now c.loop-i.i (IsMeasured c.args.coding) c.loop-i-test.false c.loop-i.invariant.measured
