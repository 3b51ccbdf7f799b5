use Rattle.std.proofs.Common.{ℕ, ◌<◌}
use Rattle.std.specs.Int.{IsGcd}
use Rattle.pixel_round.proofs.quotients.gcd.Given as goal

abbrev pub invariant-loop-rest : goal.invariant-loop-rest
invariant-loop-rest l = record {
  divides : (g : ℕ) → IsGcd l.greater l.rest g → IsGcd l.fn.a l.fn.b g;
  some : 0 < l.greater;
}

abbrev pub decreases-loop-rest : goal.decreases-loop-rest
decreases-loop-rest l = l.rest
