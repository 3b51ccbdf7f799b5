-- A character whose font was not looked up since it became current asks for it.
use Rattle.std.proofs.Common.{◌≡◌, ℕ, ℤ, Bool, true, false, refl, sym, subst}
use Rattle.std.specs.Arc.{arc_value}
use Rattle.vf_expand.specs.Course.{Place, Current, Chosen}
use Rattle.vf_expand.specs.Effects.{HasEffect}
use Rattle.vf_expand.specs.Sets.{character_command}
use Rattle.vf_expand.specs.declared.effect.Effect.TheVariants as effect

at_chosen : (place : Place) (n : ℕ) (key : _) (code : ℤ) (put : Bool) → HasEffect place n (Chosen (arc_value key)) (character_command code put) (effect.Ask key)
at_chosen place n key code false = (refl, λ at others. refl)
at_chosen place n key code true = (refl, λ at others. refl)

pub ask_command : (place : Place) (n : ℕ) (current : Current) (key : _) (code : ℤ) (put : Bool) → current ≡ Chosen (arc_value key) → HasEffect place n current (character_command code put) (effect.Ask key)
ask_command place n current key code put is =
    subst (λ (x : Current). HasEffect place n x (character_command code put) (effect.Ask key)) (sym is) (at_chosen place n key code put)
