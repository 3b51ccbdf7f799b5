use Rattle.std.proofs.Common.{◌%◌, subst, arith}
use Rattle.std.specs.Int.{IsGcd}
use Rattle.std.proofs.lemmas.Nat.Gcd.{IsGcd-from_zero, IsGcd-from_mod}
use Rattle.pixel_round.proofs.quotients.gcd.Goals as goal

pub loop-rest-init : goal.loop-rest-init
loop-rest-init c = record { divides = λ g h. IsGcd-from_mod _ _ g (subst (λ n. IsGcd c.args.b (c.args.a % n) g) c.from.ensures h); some = c.requires }

pub loop-rest-preserved : goal.loop-rest-preserved
loop-rest-preserved c = record { divides = λ g h. c.loop-rest.invariant.divides g (IsGcd-from_mod _ _ g h); some = omega arith }

pub returns-clause-divides : goal.returns-clause-divides
returns-clause-divides c = c.loop-rest.invariant.divides _ (IsGcd-from_zero _ _ (omega arith))
