use Rattle.std.proofs.Common.{rules, ◌≡◌, [], ◌∷◌}
use Rattle.seat_tests.proofs.Joined.{both_joined}
use Rattle.seat_tests.proofs.tests.caches.shared.shared.Goals as goal

pub close-requires-clause-joined : goal.close-requires-clause-joined
close-requires-clause-joined g c =
    let made : c.join-2.new.first.view.made ≡ 3 = search rules in
    let joined : c.join-2.new.first.view.joined ≡ 1 ∷ 2 ∷ [] = search rules in
    both_joined c.join-2.new.first.view made joined
