use Rattle.std.proofs.Common.{rules, ◌≡◌, subst, sym}
use Rattle.turn_lock.specs.Diaries.{calls_by}
use Rattle.turn_lock.specs.Histories.{Grows}
use Rattle.turn_lock.proofs.NotedSeats.{grows_noted}
use Rattle.turn_lock.proofs.example.turn.Goals as goal

-- src/example.rt:78:5
pub give-requires-clause-grows : goal.give-requires-clause-grows
give-requires-clause-grows g c =
    let seat = c.take-diary.new.seat.view in
    let had = c.take-diary.result.seats.items in
    let has = c.note-noted.new.self.seats.items in
    let seen : seat.seen ≡ calls_by had = search rules in
    let grown : Grows seat.number (calls_by had) (calls_by has) = grows_noted seat.number had has c.note-noted.result (search rules) (search rules) in
    subst (λ before. Grows seat.number before (calls_by has)) (sym seen) grown
