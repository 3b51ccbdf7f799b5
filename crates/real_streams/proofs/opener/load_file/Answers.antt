use Rattle.std.proofs.Common.{rules}
use Rattle.real_streams.proofs.Cut.{found, not_found}
use Rattle.real_streams.proofs.opener.load_file.Goals as goal

pub returns-in-Err : goal.returns-in-Err
returns-in-Err g c = not_found g.O.File.Read.remaining (g.O.Opener.files c.args.opener.now) c.args.name.now c.in-Err.error c.in-Err.ensures (search rules)

pub returns-in-Ok-read_file : goal.returns-in-Ok-read_file
returns-in-Ok-read_file g c = found g.O.File.Read.remaining (g.O.Opener.files c.args.opener.now) c.args.name.now c.in-Ok.file c.in-Ok-read_file.bytes.items c.in-Ok.ensures c.in-Ok-read_file.ensures
