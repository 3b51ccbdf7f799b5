use Rattle.std.proofs.Common.{◌≡◌, ◌∙◌, ℕ, Result, Ok, Err, sym, ap, subst, to_z, of_z, w32, arith, IfOk}
use Rattle.std.proofs.lemmas.Int.{ints}
use Rattle.dvi_commands.specs.Spelling.{DviCommand, Font, Put, Set, value_of_command}
use Rattle.vf_expand.specs.Effects.{HasEffect, value_of_current, value_of_place}
use Rattle.vf_expand.proofs.effect.effect_of.Goals as goal

pub returns-in-Set-clause-has_effect : goal.returns-in-Set-clause-has_effect
returns-in-Set-clause-has_effect c =
    let same : c.in-Set.code ≡ to_z w32 (of_z w32 c.in-Set.code) = omega (arith, ints) in
    subst (λ (x : DviCommand). IfOk c.character.result (HasEffect (value_of_place c.args.place) c.args.room (value_of_current c.args.current.now) x))
    (sym (ap value_of_command c.in-Set.is ∙ ap Set same)) c.character.ensures.has_effect

pub returns-in-Put-clause-has_effect : goal.returns-in-Put-clause-has_effect
returns-in-Put-clause-has_effect c =
    let same : c.in-Put.code ≡ to_z w32 (of_z w32 c.in-Put.code) = omega (arith, ints) in
    subst (λ (x : DviCommand). IfOk c.character-in-Put.result (HasEffect (value_of_place c.args.place) c.args.room (value_of_current c.args.current.now) x))
    (sym (ap value_of_command c.in-Put.is ∙ ap Put same)) c.character-in-Put.ensures.has_effect

at_room : {A E : Type 0} (P : ℕ → A → Type 0) (r : Result A E) (n : ℕ) → IfOk r (λ a. (m : ℕ) → P m a) → IfOk r (P n)
at_room P (Ok a) n h = h n
at_room P (Err e) n h = tt

pub returns-in-Font-clause-has_effect : goal.returns-in-Font-clause-has_effect
returns-in-Font-clause-has_effect c =
    let same : c.in-Font.number ≡ to_z w32 (of_z w32 c.in-Font.number) = omega (arith, ints) in
    subst (λ (x : DviCommand). IfOk c.change.result (HasEffect (value_of_place c.args.place) c.args.room (value_of_current c.args.current.now) x))
    (sym (ap value_of_command c.in-Font.is ∙ ap Font same))
    (at_room (λ n a. HasEffect (value_of_place c.args.place) n (value_of_current c.args.current.now) (Font (to_z w32 (of_z w32 c.in-Font.number))) a) c.change.result c.args.room c.change.ensures.has_effect)
