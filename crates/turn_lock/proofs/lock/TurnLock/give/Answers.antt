use Rattle.std.proofs.Common.{◌≡◌, ℕ, ◌+◌, ◌∷◌, Option, Some, refl, arith, sym, ap, ◌∙◌, subst}
use Rattle.atomic_table.specs.Table.{Me, rest}
use Rattle.turn_lock.specs.declared.view.View.{View}
use Rattle.turn_lock.specs.declared.view.Stage.TheVariants.{Holding}
use Rattle.turn_lock.specs.Histories.{Grows}
use Rattle.turn_lock.specs.Views.{ticket_of}
use Rattle.turn_lock.specs.Seats.{IsKept}
use Rattle.turn_lock.proofs.Keeps.{hands}
use Rattle.turn_lock.proofs.lock.TurnLock.give.Goals as goal

pub store-requires : goal.store-requires
store-requires g c =
    let two = c.self.invariant.0 in
    let is = c.seat.view_is in
    let kept = subst (λ (t : Option ℕ). IsKept t c.seat.inside.place.me) c.in-Some.is c.seat.invariant.3 in
    let e = c.exchange.ensures in
    let view : c.exchange.new.seat.me.0 ≡ c.args.seat.now.view = ap (λ (m : Me (Option g.row.T.Denot) View). m.0) e.3 ∙ ap (λ s. s.view) is in
    let old : c.args.seat.now.view.stage ≡ Holding c.in-Some.ticket = sym (ap (λ s. s.view.stage) is) ∙ kept.0 in (
      e.0 ∙ (ap (λ s. s.lock) is ∙ (c.requires.lock ∙ sym c.self.view_is)),
      omega arith,
      hands _ _ _ _ _ _ _ c.in-Some.ticket _ c.args.value (ap (λ (v : View). v.stage) view ∙ old)
          (ap (λ (m : Me (Option g.row.T.Denot) View). m.1) e.3 ∙ (λ k. (0, Some c.args.value) ∷ ap rest kept.1 k)) refl (c.requires.one_turn ∙ ap (λ st. ticket_of st + 1) old)
          (subst (λ (v : View). g.T.Told.stands c.args.value v.part) (sym view) c.requires.stands)
          (subst (λ (v : View). Grows v.number v.seen (g.T.Told.history c.args.value)) (sym view) c.requires.grows),
    )
