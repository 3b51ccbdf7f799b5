-- What holds of each use that arguments spell.
use Rattle.std.proofs.Common.{◌≡◌, ◌∙◌, refl, sym, ap, ℕ, Bool, cond, true, false, List, [], ◌∷◌}
use Rattle.std.proofs.Common.{Option, Some, None}
use Rattle.std.specs.List.{AllByRecursion}
use Rattle.std.specs.Prelude.{find, is_some, option_map}
use Rattle.std.proofs.lemmas.Bool.{false≢true}
use Rattle.std.proofs.lemmas.Slice.Eq.{bytes_eq-Decides}
use Rattle.command_line.specs.Line.{Choice, Part, Text, Use, after_hyphens, choice_of, choice_part}
use Rattle.command_line.specs.Line.{is_named, is_value, name_of, opens, option_part, part_of_argument, stray}
use Rattle.command_line.specs.Line.{use_before, uses_from, value_of, waiting_after, whole}
use Rattle.command_line.specs.Line.{with_value}
use Rattle.command_line.proofs.Looks.{is_found}

-- the option is the table's, and a number is spelled in digits
pub record IsSpelled (t : List Choice) (u : Use) : Type 0 where
  pub found : choice_of t u.choice.name ≡ Some u.choice
  pub digits : is_some u.choice.range ≡ true → is_value u.value ≡ true

-- what an argument comes to has to do with the table
abbrev IsPart : List Choice → Part → Type 0
IsPart t stray = Unit {0}
IsPart t (opens c) = (choice_of t c.name ≡ Some c) × (is_some c.range ≡ true)
IsPart t (whole u) = IsSpelled t u

abbrev IsWaiting : List Choice → Option Choice → Type 0
IsWaiting t None = Unit {0}
IsWaiting t (Some c) = (choice_of t c.name ≡ Some c) × (is_some c.range ≡ true)

value_part : (t : List Choice) (c : Choice) (v : Text) → choice_of t c.name ≡ Some c
    → IsPart t (with_value c v)
value_part t c v f = go (is_value v) refl
  where
    go : (b : Bool) → is_value v ≡ b → IsPart t (with_value c v)
    go true e = rw e (record { found = f; digits = λ _. e })
    go false e = rw e tt

choice_parts : (t : List Choice) (name : Text) (r : Option (ℕ × ℕ)) (v : Option Text)
    → choice_of t name ≡ Some (record { name = name; range = r })
    → IsPart t (choice_part (Some (record { name = name; range = r })) v)
choice_parts t name None None f = record { found = f; digits = λ e. absurd (false≢true e) }
choice_parts t name None (Some v) f = tt
choice_parts t name (Some r) None f = (f, refl)
choice_parts t name (Some r) (Some v) f = value_part t _ v f

option_parts : (t : List Choice) (rest : Text) (o : Option Choice) → choice_of t (name_of rest) ≡ o
    → IsPart t (choice_part o (value_of rest))
option_parts t rest None f = tt
option_parts t rest (Some c) f = choice_parts t c.name c.range (value_of rest) (is_found t _ c f)

parts : (t : List Choice) (waiting : Option Choice) (argument : Text) → IsWaiting t waiting
    → IsPart t (part_of_argument t waiting argument)
parts t (Some c) argument w = value_part t c argument w.0
parts t None argument w = go (after_hyphens argument)
  where
    go : (o : Option Text) → IsPart t (option_part t o)
    go None = tt
    go (Some rest) = option_parts t rest _ refl

pub all_spelled : (t : List Choice) (waiting : Option Choice) (arguments : List Text)
    (us : List Use) → IsWaiting t waiting → uses_from t waiting arguments ≡ Some us
    → AllByRecursion (IsSpelled t) us
all_spelled t None [] us w e = let none : [] ≡ us = cc in rw (← none) tt
all_spelled t (Some c) [] us w e = cc
all_spelled t waiting (argument ∷ arguments) us w e =
    go (part_of_argument t waiting argument) (parts t waiting argument w) e
    (λ x vs. all_spelled t x arguments vs)
  where
    go : (p : Part) → IsPart t p → use_before p (uses_from t (waiting_after p) arguments) ≡ Some us
        → ((x : Option Choice) (vs : List Use) → IsWaiting t x → uses_from t x arguments ≡ Some vs
        → AllByRecursion (IsSpelled t) vs) → AllByRecursion (IsSpelled t) us
    go stray p e rest = cc
    go (opens c) p e rest = rest (Some c) us p e
    go (whole u) p e rest = last (uses_from t None arguments) e (rest None)
      where
        last : (o : Option (List Use)) → option_map (λ vs. u ∷ vs) o ≡ Some us
            → ((vs : List Use) → Unit {0} → o ≡ Some vs → AllByRecursion (IsSpelled t) vs)
            → AllByRecursion (IsSpelled t) us
        last None e rest = cc
        last (Some vs) e rest = let is : u ∷ vs ≡ us = cc in rw (← is) (p, rest vs tt refl)

-- the use that a name finds is of the option that the name finds
pub use_found : (t : List Choice) (name : Text) (c : Choice) (us : List Use) (u : Use)
    → choice_of t name ≡ Some c → AllByRecursion (IsSpelled t) us
    → find (is_named name) us ≡ Some u → (u.choice ≡ c) × IsSpelled t u
use_found t name c [] u f all e = cc
use_found t name c (x ∷ us) u f all e =
    go (is_named name x) refl e (use_found t name c us u f all.1)
  where
    go : (b : Bool) → is_named name x ≡ b → cond b (Some x) (find (is_named name) us) ≡ Some u
        → (find (is_named name) us ≡ Some u → (u.choice ≡ c) × IsSpelled t u)
        → (u.choice ≡ c) × IsSpelled t u
    go false b e rest = rest e
    go true b e rest =
        let is : x ≡ u = cc in
        let named : x.choice.name ≡ name = (bytes_eq-Decides _ _).0 b in
        let same : Some x.choice ≡ Some c = sym all.0.found ∙ (ap (choice_of t) named ∙ f) in
        let choice : x.choice ≡ c = cc in
        rw (← is) (choice, all.0)
