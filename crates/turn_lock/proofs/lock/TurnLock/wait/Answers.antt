use Rattle.std.proofs.Common.{◌∷◌, Some, arith, sym, ap, ◌∙◌}
use Rattle.atomic_table.specs.Table.{rest}
use Rattle.turn_lock.specs.Views.{ticket_of}
use Rattle.turn_lock.proofs.Keeps.{looks}
use Rattle.turn_lock.proofs.lock.TurnLock.wait.Goals as goal

pub load-requires : goal.load-requires
load-requires g c =
    let i = c.loop.invariant in
    let two = c.self.invariant.0 in (
      i.table ∙ (c.requires.lock ∙ sym c.self.view_is),
      omega arith,
      looks _ _ _ _ _ _ _ c.args.ticket (ap (λ m. m.0.stage) i.me ∙ c.requires.waits) (ap (λ m. m.1) i.me ∙ c.requires.empty),
    )

pub exchange-requires : goal.exchange-requires
exchange-requires g c =
    let i = c.loop.invariant in
    let l = c.load.ensures in
    let mine = ap (λ m. ticket_of m.0.stage) i.me ∙ ap ticket_of c.requires.waits in
    let took = l.2.0 (c.if-load-ticket.true ∙ sym mine) in
    (l.0 ∙ (i.table ∙ (c.requires.lock ∙ sym c.self.view_is)), (Some took.0, took.1 ∙ (λ k. (0, Some took.0) ∷ sym (ap rest took.1) k)))
