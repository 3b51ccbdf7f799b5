use Rattle.std.proofs.Common.{arith}
use Rattle.pk_packer.proofs.FourDigits.{four_after_half, four_after_whole}
use Rattle.pk_packer.proofs.nybbles.Nybbles.push_four.Goals as goal

pub returns-then-self-clause-written : goal.returns-then-self-clause-written
returns-then-self-clause-written c =
    four_after_half c.args.self.now.bytes.items c.extend_from_slice.new.self.items c.args.self.now.high c.args.value c.args.self.now.half c.if-self.true c.requires (omega (arith, c.ranges.value.fits)) c.in_ok-extend_from_slice.ensures.items

pub returns-clause-written : goal.returns-clause-written
returns-clause-written c =
    four_after_whole c.args.self.now.bytes.items c.extend_from_slice-2.new.self.items c.args.self.now.high c.args.value c.args.self.now.half c.if-self.false (omega (arith, c.ranges.value.fits)) c.in_ok-extend_from_slice-2.ensures.items
