use Rattle.std.proofs.Common.{arith}
use Rattle.pk_packer.proofs.JoinedWords.{two}
use Rattle.pk_packer.proofs.blocks.others_128.Goals as goal

pub returns : goal.returns
returns c = two c.args.row.now c.args.at 64 64 128 c.args.black c.others_64.result c.others_64-2.result (omega arith) c.others_64.ensures c.others_64-2.ensures
