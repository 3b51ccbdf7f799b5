use Rattle.real_streams.proofs.Cut.{cut_all}
use Rattle.real_streams.proofs.opener.read_file.Goals as goal

pub returns-in-Ok : goal.returns-in-Ok
returns-in-Ok g c = cut_all g.T.Read.remaining c.take.result c.args.file 8388609 _ _ c.take.ensures.inner c.take.ensures.limit c.new-bytes.ensures.items c.in-Ok.ensures.bytes
