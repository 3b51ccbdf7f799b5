use Rattle.std.proofs.Common.{◌≡◌, ℕ, List, [], ◌∷◌, ◌++◌, Result, Ok, Err, OnOk, OnErr, sym, ap, ◌∙◌}
use Rattle.std.proofs.lemmas.List.{append-nil}
use Rattle.cache_core.specs.declared.calls.Call.{Call}
use Rattle.turn_lock.specs.Diaries.{call_by, calls_by}
use Rattle.turn_lock.specs.Histories.{Grows}
use Rattle.seat_tests.proofs.tests.turns.late.give_late.Goals as goal

-- a turn that was noted, or refused
grew : {R E : Type 0} (r : Result R E) (n m : ℕ) (seen : List Call) (seats seats' : List ℕ) → m ≡ n → seen ≡ calls_by seats
    → OnOk r (calls_by seats' ≡ calls_by seats ++ call_by m ∷ []) → OnErr r (seats' ≡ seats) → Grows n seen (calls_by seats')
grew (Ok x) n m seen seats seats' number is noted same = (call_by m ∷ [], (number, tt), noted ∙ ap (λ (l : List Call). l ++ call_by m ∷ []) (sym is))
grew (Err e) n m seen seats seats' number is noted same = ([], tt, ap calls_by same ∙ (sym is ∙ sym (append-nil seen)))

pub give-requires-clause-grows : goal.give-requires-clause-grows
give-requires-clause-grows g c =
    grew c.note-noted.result c.take-diary.new.seat.view.number c.number.result c.take-diary.new.seat.view.seen c.take-diary.result.seats.items c.note-noted.new.self.seats.items
    c.number.ensures (ap (λ v. v.seen) c.take-diary.ensures.seen) c.note-noted.ensures.noted c.note-noted.ensures.same
