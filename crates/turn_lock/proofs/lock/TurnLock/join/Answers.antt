use Rattle.std.proofs.Common.{◌≡◌, ◌+◌, ◌<◌, [], ◌∷◌, ◌++◌, length, Option, arith, sym, ap, ◌∙◌, subst, length-append}
use lib.ListN.{get_elem?}
use Rattle.atomic_table.specs.Table.{Me}
use Rattle.atomic_table.proofs.Lists.{at_longer}
use Rattle.cache_core.specs.Histories.{own}
use Rattle.turn_lock.specs.declared.view.View.{View}
use Rattle.turn_lock.specs.Histories.{longer_of}
use Rattle.turn_lock.specs.Steps.{CompareGives}
use Rattle.turn_lock.proofs.Lines.{at_inside}
use Rattle.turn_lock.proofs.Keeps.{joins, settles}
use Rattle.turn_lock.proofs.BetweenCalls.{kept_empty}
use Rattle.turn_lock.proofs.lock.TurnLock.join.Goals as goal

pub join_seat-requires : goal.join_seat-requires
join_seat-requires g c =
    let two = c.self.invariant.0 in
    let is = c.first.view_is in
    let its = c.other.view_is in
    let idle = ap (λ s. s.view.stage) its ∙ c.requires.other_idle in (
      ap (λ s. s.lock) is ∙ (c.requires.lock ∙ sym c.self.view_is),
      ap (λ s. s.lock) its ∙ (c.requires.other_lock ∙ sym c.self.view_is),
      kept_empty _ _ c.other.invariant.3 idle,
      omega arith,
      joins _ _ _ _ _ _ _ _ (ap (λ s. s.view.number) is ∙ c.requires.first) (ap (λ s. s.view.stage) is ∙ c.requires.idle) idle,
    )

pub load-requires : goal.load-requires
load-requires g c =
    let two = c.self.invariant.0 in
    let is = c.first.view_is in
    let j = c.join_seat.ensures in (
      j.0 ∙ (ap (λ s. s.lock) is ∙ (c.requires.lock ∙ sym c.self.view_is)),
      omega arith,
      settles _ _ _ _ _ _ _ _ _ _ _ (ap (λ (m : Me (Option g.row.T.Denot) View). m.0.number) j.2 ∙ (ap (λ s. s.view.number) is ∙ c.requires.first)) (ap (λ (m : Me (Option g.row.T.Denot) View). m.0.stage) j.2),
    )

pub returns-clause-before : goal.returns-clause-before
returns-clause-before g c = λ i m at.
    let a : View = c.first.inside.place.me.0 in
    let b : View = c.other.inside.place.me.0 in
    let is = c.first.view_is in
    let j = c.join_seat.ensures in
    let l = c.load.ensures in
    let told = subst (λ (v : View). CompareGives v v.stage) (ap (λ (m : Me (Option g.row.T.Denot) View). m.0) j.2) l.2.1 in
    let seen : c.load.new.seat.me.0.seen ≡ longer_of a.seen b.seen = ap (λ (m : Me (Option g.row.T.Denot) View). m.0.seen) l.2.0 ∙ ap (λ (m : Me (Option g.row.T.Denot) View). m.0.seen) j.2 in
    let at_a = ap (λ s. get_elem? s.view.joined i) is ∙ at in
    let inside : i + 1 < length (a.joined ++ b.number ∷ []) = let h = at_inside a.joined i m at_a in let n = length-append a.joined (b.number ∷ []) in omega arith in
    ap (own m) seen ∙ (told.before i m (at_longer a.joined (b.number ∷ []) i m at_a) inside ∙ ap (λ s. own m s.view.seen) is)
