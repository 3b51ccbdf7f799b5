use Rattle.std.proofs.Common.{◌≡◌, sym, ap, ◌∙◌, subst}
use Rattle.turn_lock.proofs.BetweenCalls.{closes_with}
use Rattle.turn_lock.proofs.lock.TurnLock.close.Goals as goal

pub unreachable-requires : goal.unreachable-requires
unreachable-requires g c =
    let k = closes_with g.T.Told.history g.T.Told.turns g.T.Told.stands c.self.inside.table.shared.key.part _ _ _ _ _ _ (ap (λ s. s.view) c.first.view_is) c.requires.first c.requires.idle c.requires.joined c.close_with-closed.ensures.values.2 c.take-value.ensures.value in
    let some = k.found_is in
    let none = c.in_default.is in cc

pub returns-clause-history : goal.returns-clause-history
returns-clause-history g c =
    let k = closes_with g.T.Told.history g.T.Told.turns g.T.Told.stands c.self.inside.table.shared.key.part _ _ _ _ _ _ (ap (λ s. s.view) c.first.view_is) c.requires.first c.requires.idle c.requires.joined c.close_with-closed.ensures.values.2 c.take-value.ensures.value in
    let same : c.in-Some.value ≡ k.value = let a = k.found_is in let b = c.in-Some.is in cc in
    ap g.T.Told.history same ∙ k.whole

pub returns-clause-stands : goal.returns-clause-stands
returns-clause-stands g c =
    let k = closes_with g.T.Told.history g.T.Told.turns g.T.Told.stands c.self.inside.table.shared.key.part _ _ _ _ _ _ (ap (λ s. s.view) c.first.view_is) c.requires.first c.requires.idle c.requires.joined c.close_with-closed.ensures.values.2 c.take-value.ensures.value in
    let same : c.in-Some.value ≡ k.value = let a = k.found_is in let b = c.in-Some.is in cc in
    subst (λ (x : g.row.T.Denot). g.T.Told.stands x c.args.first.view.part) (sym same) k.stood

pub returns-clause-made : goal.returns-clause-made
returns-clause-made g c =
    let k = closes_with g.T.Told.history g.T.Told.turns g.T.Told.stands c.self.inside.table.shared.key.part _ _ _ _ _ _ (ap (λ s. s.view) c.first.view_is) c.requires.first c.requires.idle c.requires.joined c.close_with-closed.ensures.values.2 c.take-value.ensures.value in k.made
