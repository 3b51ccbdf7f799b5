-- What a seat between two calls is.
use Rattle.std.proofs.Common.{◌≡◌, ℕ, List, [], Option, Some, None, sym, ◌∙◌, subst}
use mathlib.Core.Option.{some, some-injective}
use lib.ListN.{get_elem?}
use Rattle.atomic_table.specs.Table.{Me, Final, Seen}
use Rattle.cache_core.specs.declared.calls.Call.{Call}
use Rattle.cache_core.specs.declared.common.Common.{Common}
use Rattle.turn_lock.specs.Histories.{AllMade}
use Rattle.turn_lock.specs.declared.view.View.{View}
use Rattle.turn_lock.specs.declared.view.Stage.TheVariants.{Idle, Holding}
use Rattle.turn_lock.specs.Views.{IsLive}
use Rattle.turn_lock.specs.TurnRule.{TurnRule}
use Rattle.turn_lock.specs.Seats.{IsKept, AllJoined}
use Rattle.turn_lock.proofs.Keeps.{closes}

module _ {T : Type 0} where
  pub kept_live : (o : Option ℕ) (me : Me (Option T) View) → IsKept o me → IsLive me.0.stage
  kept_live None me s = subst IsLive (sym s.0) tt
  kept_live (Some t) me s = subst IsLive (sym s.0) tt

  pub kept_empty : (o : Option ℕ) (me : Me (Option T) View) → IsKept o me → me.0.stage ≡ Idle → me.1 ≡ []
  kept_empty None me s idle = s.1
  kept_empty (Some t) me s idle = let e : Holding t ≡ Idle = sym s.0 ∙ idle in absurd (cc)

-- what a look into the slot of the closed table finds
pub record Finds {T : Type 0} (history : T → List Call) (stands : T → Common → Type 0) (v : View) (found : Option T) : Type 0 where
  pub value : T
  pub found_is : found ≡ Some value
  pub whole : history value ≡ v.seen
  pub stood : stands value v.part
  pub made : AllMade v.made v.seen

pub closes_with : {T : Type 0} (history : T → List Call) (turns : T → ℕ) (stands : T → Common → Type 0) (part : Common) (id : ℕ) (v u : View) (ws : List ℕ) (xs : List (Option T)) (found : Option T) → v ≡ u → u.number ≡ 0 → u.stage ≡ Idle → AllJoined u
    → Final (Seen (TurnRule history turns stands part) id v) ws xs → get_elem? xs 0 ≡ some found → Finds history stands u found
closes_with history turns stands part id v u ws xs found same first idle all final at =
    let k = closes history turns stands part id u ws xs first idle all (subst (λ (w : View). Final (Seen (TurnRule history turns stands part) id w) ws xs) same final) in
    record { value = k.value; found_is = some-injective found (Some k.value) (sym at ∙ k.slot_is); whole = k.whole; stood = k.stood; made = k.made }
