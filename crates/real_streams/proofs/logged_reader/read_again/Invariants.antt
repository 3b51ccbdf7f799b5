use Rattle.std.specs.Io.KnownBytes.{Keeps}
use Rattle.real_streams.proofs.logged_reader.read_again.Given as goal

-- the calls that were interrupted took nothing
abbrev pub invariant-loop : goal.invariant-loop
invariant-loop g l = Keeps (g.R.Read.remaining l.initial.reader) (g.R.Read.remaining l.reader)
