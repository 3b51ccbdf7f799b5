use Rattle.std.proofs.Common.{◌≡◌, ◌∷◌}
use Rattle.std.specs.List.{repeat}
use Rattle.sample_maker.specs.Sample.{line}
use Rattle.sample_maker.proofs.samples.page.Given as goal

abbrev pub invariant-loop : goal.invariant-loop
invariant-loop l = l.page.items ≡ 0xab ∷ repeat l.counter line
