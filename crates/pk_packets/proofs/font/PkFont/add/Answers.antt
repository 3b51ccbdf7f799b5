use Rattle.pk_packets.proofs.Added.{packet_added}
use Rattle.pk_packets.proofs.font.PkFont.add.Goals as goal

pub returns-clause-added : goal.returns-clause-added
returns-clause-added c = λ before sum_is glyphs.
    packet_added c.in_ok-packet.packet c.args.bytes.now before c.args.sum c.in_ok-sum.sum c.in_ok-glyph.glyph c.args.self.now c.put.new.self
    c.in_ok-packet.ensures.fields c.requires.packet c.in_ok-packet.ensures.long c.in_ok-sum.ensures.narrow c.in_ok-sum.ensures.low c.in_ok-sum.ensures.sum c.in_ok-sum.ensures.few
    c.in_ok-glyph.ensures.raster c.in_ok-glyph.ensures.hoff c.in_ok-glyph.ensures.voff c.in_ok-put.ensures sum_is glyphs
