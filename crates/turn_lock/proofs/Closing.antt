-- Seat 0 is idle, and all others were joined.
use Rattle.std.proofs.Common.{◌≡◌, ℕ, Bool, true, List, arith, sym, ap, ◌∙◌, subst, length}
use mathlib.Core.Option.{some, some-injective}
use mathlib.Core.Logic.{dite}
use native.Mathlib.Decide.{ℕ_discrete}
use lib.ListN.{get_elem?}
use Rattle.cache_core.specs.declared.calls.Call.{Call}
use Rattle.cache_core.specs.declared.common.Common.{Common}
use Rattle.cache_core.specs.Histories.{own}
use Rattle.turn_lock.specs.declared.view.View.{View}
use Rattle.turn_lock.specs.declared.view.Stage.TheVariants.{Idle, Holding, Spent}
use Rattle.turn_lock.specs.TurnRule.{SeatsFit}
use Rattle.turn_lock.specs.Seats.{AllJoined}
use Rattle.turn_lock.proofs.OwnCalls.{prefix_all}
use Rattle.turn_lock.proofs.Lines.{at_inside}

module _ (part : Common) (words : List ℕ) (views : List View) (log : List Call) (out : Bool) (serving : ℕ) where
  -- no seat has the turn
  pub nobody_holds : SeatsFit part words views log out serving → (v : View) → get_elem? views 0 ≡ some v → v.stage ≡ Idle → AllJoined v → out ≡ true → ⊥
  nobody_holds q v at idle all is_out =
      let f = q.first v at in
      let holder = q.served is_out in
      let n : ℕ = holder.0 in
      let u : View = holder.1 in dite (ℕ_discrete n 0)
      (λ e. let same : u ≡ v = some-injective u v (sym holder.2 ∙ (ap (get_elem? views) e ∙ at)) in
      let both : Holding serving ≡ Idle = sym holder.3 ∙ (ap (λ (x : View). x.stage) same ∙ idle) in cc)
      (λ other. let count = f.made in
      let inside = at_inside views n u holder.2 in
      let joined = all n (omega arith) (omega arith) in
      let gone = f.are_spent joined.0 n joined.1 in
      let x : View = gone.0 in
      let same : u ≡ x = some-injective u x (sym holder.2 ∙ gone.1) in
      let both : Holding serving ≡ Spent = sym holder.3 ∙ (ap (λ (y : View). y.stage) same ∙ gone.2) in cc)

  -- seat 0 has seen the whole history
  pub sees_whole : SeatsFit part words views log out serving → (v : View) → get_elem? views 0 ≡ some v → AllJoined v → v.seen ≡ log
  sees_whole q v at all =
      let f = q.first v at in
      let mine = q.each 0 v at f.live in
      let count = f.made in
      prefix_all (length views) v.seen log mine.begins q.made
      (λ n inside. dite (ℕ_discrete n 0) (λ e. subst (λ (m : ℕ). own m v.seen ≡ own m log) (sym e) mine.after)
      (λ other. let joined = all n (omega arith) (omega arith) in f.after joined.0 n joined.1))
