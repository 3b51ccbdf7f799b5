use Rattle.std.proofs.Common.{arith}
use Rattle.packed_rows.specs.Packing.{pixel}
use Rattle.pk_runs.proofs.PlainWords.{plain_word_none, plain_word_byte, plain_word_cut}
use Rattle.pk_runs.proofs.plain.plain_word.Goals as goal

pub loop-x-init : goal.loop-x-init
loop-x-init c = plain_word_none (pixel c.args.bytes.now) c.args.place

pub loop-x-preserved : goal.loop-x-preserved
loop-x-preserved c = plain_word_byte (pixel c.args.bytes.now) c.args.place c.loop-x.x _ c.loop-x.word c.byte_pixels-word.result c.byte_pixels-word.ensures c.loop-x.invariant

pub returns : goal.returns
returns c = plain_word_cut (pixel c.args.bytes.now) c.args.place c.args.w c.loop-x.x c.loop-x.word c.prefix.result (omega (arith, c.loop-x-test.false)) c.prefix.ensures c.loop-x.invariant
