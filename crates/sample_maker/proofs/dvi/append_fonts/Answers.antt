use Rattle.std.proofs.Common.{sym, subst}
use Rattle.sample_maker.specs.DviFile.{IsWritable}
use Rattle.sample_maker.proofs.Appended.{all_taken, one_font, spelled_more, writable_at}
use Rattle.sample_maker.proofs.dvi.append_fonts.Goals as goal

pub append_font-requires : goal.append_font-requires
append_font-requires c = subst IsWritable (sym c.index-fonts-i.is) (writable_at c.args.fonts.now c.loop-i.i _ c.requires c.loop-i-test.true)

pub loop-i-preserved : goal.loop-i-preserved
loop-i-preserved c = record {
  items = one_font c.args.out.now.items c.loop-i.out.items _ c.args.fonts.now c.loop-i.i c.index-fonts-i.result c.loop-i-test.true c.index-fonts-i.is c.loop-i.invariant.items c.in_ok-append_font.ensures.appended;
  spelled = spelled_more c.args.fonts.now c.loop-i.i c.index-fonts-i.result c.loop-i-test.true c.index-fonts-i.is c.loop-i.invariant.spelled c.append_font.ensures.spelled;
}

pub returns-clause-spelled : goal.returns-clause-spelled
returns-clause-spelled c = all_taken c.args.fonts.now c.loop-i.i c.loop-i-test.false c.loop-i.invariant.spelled
