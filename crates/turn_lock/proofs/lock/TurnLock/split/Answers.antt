use Rattle.std.proofs.Common.{◌≡◌, ◌<◌, arith, sym, ap, ◌∙◌, subst}
use Rattle.turn_lock.specs.declared.view.View.{View}
use Rattle.turn_lock.specs.Views.{IsLive}
use Rattle.turn_lock.proofs.Keeps.{asks, splits}
use Rattle.turn_lock.proofs.BetweenCalls.{kept_live}
use Rattle.turn_lock.proofs.lock.TurnLock.split.Goals as goal

pub load-requires : goal.load-requires
load-requires g c =
    let two = c.self.invariant.0 in
    let is = c.first.view_is in (
      ap (λ s. s.lock) is ∙ (c.requires.lock ∙ sym c.self.view_is),
      omega arith,
      asks _ _ _ _ _ _ _ (ap (λ s. s.view.number) is ∙ c.requires.first) (kept_live _ _ c.first.invariant.3),
    )

pub split_seat-place-requires : goal.split_seat-place-requires
split_seat-place-requires g c =
    let two = c.self.invariant.0 in
    let is = c.first.view_is in
    let l = c.load.ensures in
    let view : c.load.new.seat.me.0 ≡ c.args.first.now.view = ap (λ m. m.0) l.2.0 ∙ ap (λ s. s.view) is in (
      l.0 ∙ (ap (λ s. s.lock) is ∙ (c.requires.lock ∙ sym c.self.view_is)),
      omega arith,
      splits _ _ _ _ _ _ (ap (λ (v : View). v.number) view ∙ c.requires.first)
          (subst IsLive (sym (ap (λ m. m.0.stage) l.2.0)) (kept_live _ _ c.first.invariant.3))
          (subst (λ (v : View). v.made < 1024) (sym view) c.requires.room),
    )
