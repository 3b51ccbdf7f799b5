use Rattle.std.proofs.Common.{◌≡◌, ◌∙◌, ◌+◌, ◌*◌, ap, arith}
use Rattle.packed_rows.specs.Packing.{pixel}
use Rattle.packed_rows.proofs.EightBytes.{word_read}
use Rattle.pk_packer.proofs.words.short_word.Goals as goal

pub returns : goal.returns
returns c = λ i h.
    let place : 8 * 0 + i ≡ i = omega arith in
    word_read c.args.row.now 0 c.from_be_bytes.result i (λ j. omega (arith, c.type_inv.row j)) h
    (omega (arith, c.from_be_bytes.ensures, c.byte_or_white.ensures, c.byte_or_white-2.ensures, c.byte_or_white-3.ensures, c.byte_or_white-4.ensures, c.byte_or_white-5.ensures, c.byte_or_white-6.ensures, c.byte_or_white-7.ensures, c.byte_or_white-8.ensures)) ∙ ap (pixel c.args.row.now) place
