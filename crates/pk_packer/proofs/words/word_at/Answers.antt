use Rattle.std.proofs.Common.{arith}
use Rattle.packed_rows.proofs.EightBytes.{word_read}
use Rattle.pk_packer.proofs.words.word_at.Goals as goal

pub returns : goal.returns
returns c = λ i h. word_read c.args.row.now c.args.at c.from_be_bytes.result i (λ j. omega (arith, c.type_inv.row j)) h c.from_be_bytes.ensures
