use Rattle.std.specs.Io.KnownBytes.{Keeps}
use Rattle.real_streams.proofs.logged_writer.write_again.Given as goal

-- the calls that were interrupted wrote nothing
abbrev pub invariant-loop : goal.invariant-loop
invariant-loop g l = Keeps (g.W.Write.contents l.initial.writer) (g.W.Write.contents l.writer)
