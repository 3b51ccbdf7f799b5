use Rattle.std.proofs.Common.{arith}
use Rattle.pk_packer.proofs.HeldBytes.{byte_after_half, byte_after_whole}
use Rattle.pk_packer.proofs.nybbles.Nybbles.push_byte.Goals as goal

pub returns-then-self-clause-written : goal.returns-then-self-clause-written
returns-then-self-clause-written c =
    byte_after_half c.args.self.now.bytes.items c.push.new.self.items c.args.self.now.high c.args.byte c.args.self.now.half c.if-self.true c.requires (omega (arith, c.ranges.byte.fits)) c.in_ok-push.ensures.items

pub returns-clause-written : goal.returns-clause-written
returns-clause-written c = byte_after_whole c.args.self.now.bytes.items c.push-2.new.self.items c.args.self.now.high c.args.byte c.args.self.now.half c.if-self.false c.in_ok-push-2.ensures.items
