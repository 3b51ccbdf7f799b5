use Rattle.std.proofs.Common.{ℕ, ◌<◌, ◌^◌, arith, sym, ap, ◌∙◌, subst}
use Rattle.turn_lock.proofs.Keeps.{draws}
use Rattle.turn_lock.proofs.lock.TurnLock.take.Goals as goal

pub fetch_add-ticket-requires : goal.fetch_add-ticket-requires
fetch_add-ticket-requires g c =
    let two = c.self.invariant.0 in
    let is = c.seat.view_is in (
      ap (λ s. s.lock) is ∙ (c.requires.lock ∙ sym c.self.view_is),
      omega arith,
      draws _ _ _ _ _ _ _ (ap (λ s. s.view.stage) is ∙ c.requires.idle) (subst (λ (n : ℕ). n < 2 ^ 48) (sym (ap (λ s. s.view.drawn) is)) c.requires.room),
    )
