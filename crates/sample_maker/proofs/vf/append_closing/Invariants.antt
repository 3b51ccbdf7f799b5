use Rattle.std.proofs.Common.{◌≡◌, ◌++◌, replicate}
use Rattle.sample_maker.proofs.vf.append_closing.Given as goal

abbrev pub invariant-loop : goal.invariant-loop
invariant-loop l = l.out.items ≡ l.fn.out.items ++ replicate l.counter 248
