use Rattle.real_streams.proofs.Kept.{consumes_kept, keeps_same, keeps_twice}
use Rattle.real_streams.proofs.logged_reader.read_again.Goals as goal

pub loop-init : goal.loop-init
loop-init g c = keeps_same _

pub returns-in-Ok-clause-bytes : goal.returns-in-Ok-clause-bytes
returns-in-Ok-clause-bytes g c = (consumes_kept _ _ _ _ c.loop.invariant c.in-Ok.ensures.bytes.0, c.in-Ok.ensures.bytes.1)

pub returns-in-Err-2-clause-bytes : goal.returns-in-Err-2-clause-bytes
returns-in-Err-2-clause-bytes g c = keeps_twice _ _ _ c.loop.invariant c.in-Err-2.ensures.bytes

pub loop-preserved : goal.loop-preserved
loop-preserved g c = keeps_twice _ _ _ c.loop.invariant c.in-Err.ensures.bytes

pub returns-clause-bytes : goal.returns-clause-bytes
returns-clause-bytes g c = c.loop.invariant
