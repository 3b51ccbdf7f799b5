use Rattle.std.proofs.Common.{rules, ◌≡◌, [], ◌∷◌}
use mathlib.Core.List.{IsPrefix}
use Rattle.cache_core.specs.Histories.{own}
use Rattle.turn_lock.specs.Diaries.{call_by, calls_by}
use Rattle.turn_lock.specs.Histories.{AllMade}
use Rattle.turn_lock.proofs.TwoSeats.{two_calls}
use Rattle.turn_lock.proofs.example.two_turns.Goals as goal

pub returns : goal.returns
returns g c =
    let whole = calls_by c.finish.result.seats.items in
    let made : AllMade 2 whole = search rules in
    let begins : IsPrefix c.turn.new.seat.view.seen whole = search rules in
    let none : own 1 c.turn.new.seat.view.seen ≡ [] = search rules in
    let mine : own 0 c.turn.new.seat.view.seen ≡ call_by 0 ∷ [] = search rules in
    let same : own 0 whole ≡ call_by 0 ∷ [] = search rules in
    let theirs : own 1 whole ≡ call_by 1 ∷ [] = search rules in
    two_calls (call_by 0) (call_by 1) c.turn.new.seat.view.seen whole made begins none mine same theirs
