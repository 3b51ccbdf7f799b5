use Rattle.std.proofs.Common.{◌≡◌, List, ℕ, Option, Bool, false, [], subst}
use Rattle.std.specs.Io.KnownBytes.{Appends}
use Rattle.outside.proofs.Pieces.{Grown, ended_badly, ended_well}
use Rattle.outside.proofs.gather.Gather.finish.Goals as goal

-- the end, where no byte is held
ended : (failed : Bool) (held : List ℕ) (start now : Option (List ℕ)) (text : List ℕ) → held ≡ [] → failed ≡ false
    → Grown failed held start now text → Appends start now text
ended failed held start now text none e h =
    ended_well failed start now text e (subst (λ t. Grown failed t start now text) none h)

pub returns-then-self : goal.returns-then-self
returns-then-self g c start before text h = let made = c.flush.ensures.gathers start before text h in record {
  grew = ended_badly c.flush.new.self.failed _ start _ text c.if-self.true made.gathered;
  cause = record { never_falls = made.cause.never_falls; rose = λ _. made.cause.rose c.if-self.true };
}

pub returns : goal.returns
returns g c start before text h = let made = c.flush.ensures.gathers start before text h in record {
  grew = ended c.flush.new.self.failed _ start _ text c.flush.ensures.none_held c.if-self.false made.gathered;
  cause = record { never_falls = made.cause.never_falls; rose = λ e. cc };
}
