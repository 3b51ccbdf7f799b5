use Rattle.std.proofs.Common.{rules, ◌≡◌, [], ◌∷◌}
use Rattle.seat_tests.proofs.Joined.{both_joined}
use Rattle.seat_tests.proofs.tests.caches.noted.noted.Goals as goal

pub close-entries-requires-clause-joined : goal.close-entries-requires-clause-joined
close-entries-requires-clause-joined g c =
    let made : c.join-2.new.first.view.made ≡ 3 = search rules in
    let joined : c.join-2.new.first.view.joined ≡ 1 ∷ 2 ∷ [] = search rules in
    both_joined c.join-2.new.first.view made joined
