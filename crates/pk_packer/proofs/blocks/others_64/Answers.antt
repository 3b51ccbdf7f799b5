use Rattle.pk_packer.proofs.JoinedWords.{eight}
use Rattle.pk_packer.proofs.blocks.others_64.Goals as goal

pub returns : goal.returns
returns c =
    eight c.args.row.now c.args.at 8 c.args.black c.others_8.result c.others_8-2.result c.others_8-3.result c.others_8-4.result c.others_8-5.result c.others_8-6.result c.others_8-7.result c.others_8-8.result
    c.others_8.ensures c.others_8-2.ensures c.others_8-3.ensures c.others_8-4.ensures c.others_8-5.ensures c.others_8-6.ensures c.others_8-7.ensures c.others_8-8.ensures
