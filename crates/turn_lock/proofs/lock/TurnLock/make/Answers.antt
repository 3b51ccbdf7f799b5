use Rattle.std.proofs.Common.{◌≡◌, [], ◌∷◌, Some, List, Option, rules, sym, subst}
use Rattle.atomic_table.specs.Table.{opening}
use Rattle.cache_core.specs.declared.common.Common.{Common}
use Rattle.turn_lock.specs.Views.{opening_view}
use Rattle.turn_lock.specs.TurnRule.{TurnRule}
use Rattle.turn_lock.proofs.Keeps.{opens}
use Rattle.turn_lock.proofs.lock.TurnLock.make.Goals as goal

pub new-requires : goal.new-requires
new-requires g c =
    let part : Common = c.pick-about.result.part in
    let one : c.push.new.self.items ≡ Some c.args.value ∷ [] = search rules in
    let stood = subst (λ (p : Common). g.T.Told.stands c.args.value p) (sym c.pick-about.ensures) c.requires.1.1.1 in
    subst (λ (xs : List (Option g.row.T.Denot)). TurnRule g.T.Told.history g.T.Told.turns g.T.Told.stands part (opening (0 ∷ 0 ∷ []) xs (opening_view part))) (sym one) (opens _ _ _ _ c.args.value c.requires.1.0 c.requires.1.1.0 stood)
