use Rattle.std.proofs.Common.{◌∙◌, ◌++◌, ap, arith}
use Rattle.pk_packer.proofs.PlainBits.{all_bytes}
use Rattle.pk_packer.proofs.plain.append_plain.Goals as goal

pub returns : goal.returns
returns c =
    c.loop-i.invariant
    ∙ ap (λ t. c.args.out.now.items ++ t) (all_bytes c.args.bits.now c.loop-i.i (omega (arith, c.plain_size-i-end.ensures.bytes, c.loop-i-test.false, c.loop-i.auto.i-end)))
