-- What `clap` finds in the rules of a table.
use Rattle.std.proofs.Common.{◌≡◌, ◌∙◌, refl, sym, ap, ℕ, Bool, cond, true, false, ◌||◌, List, []}
use Rattle.std.proofs.Common.{◌∷◌, Some, None}
use Rattle.std.specs.Prelude.{option_map, bytes_eq}
use Rattle.std.proofs.lemmas.Slice.Eq.{bytes_eq-Decides}
use Rattle.clap.specs.Walk.{Rule, Text, arg_by_id, arg_by_index, arg_by_long}
use Rattle.clap.proofs.WalkLemmas.{find-map}
use Rattle.command_line.specs.Line.{Choice, choice_of}
use Rattle.command_line.proofs.Rules.{rule_for, rules}

pub by_id : (t : List Choice) (id : Text)
    → arg_by_id (rules t) id ≡ option_map rule_for (choice_of t id)
by_id t id = sym (find-map (λ (a : Rule). bytes_eq a.id id) rule_for t)

pub by_long : (t : List Choice) (name : Text)
    → arg_by_long (rules t) name ≡ option_map rule_for (choice_of t name)
by_long [] name = refl
by_long (c ∷ t) name = go (bytes_eq c.name name) (by_long t name)
  where
    go : (b : Bool) → arg_by_long (rules t) name ≡ option_map rule_for (choice_of t name)
        → cond (b || false) (Some (rule_for c)) (arg_by_long (rules t) name)
        ≡ option_map rule_for (cond b (Some c) (choice_of t name))
    go true e = refl
    go false e = e

-- no option is found by its place
pub by_place : (t : List Choice) (i : ℕ) → arg_by_index (rules t) i ≡ None
by_place [] i = refl
by_place (c ∷ t) i = by_place t i

-- an option that a name finds has that name
pub has_name : (t : List Choice) (name : Text) (c : Choice) → choice_of t name ≡ Some c
    → c.name ≡ name
has_name [] name c e = cc
has_name (d ∷ t) name c e = go (bytes_eq d.name name) refl (has_name t name c)
  where
    go : (b : Bool) → bytes_eq d.name name ≡ b → (choice_of t name ≡ Some c → c.name ≡ name)
        → c.name ≡ name
    go true b rest =
        let same : Some d ≡ Some c = rw b at e in
        let is : d ≡ c = cc in
        rw (← is) ((bytes_eq-Decides d.name name).0 b)
    go false b rest = rest (rw b at e)

pub is_found : (t : List Choice) (name : Text) (c : Choice) → choice_of t name ≡ Some c
    → choice_of t c.name ≡ Some c
is_found t name c e = ap (choice_of t) (has_name t name c e) ∙ e

pub rule_found : (t : List Choice) (c : Choice) → choice_of t c.name ≡ Some c
    → arg_by_id (rules t) c.name ≡ Some (rule_for c)
rule_found t c e = by_id t c.name ∙ ap (option_map rule_for) e
