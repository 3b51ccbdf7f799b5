-- Arguments that spell uses have the shape of values and options.
use Rattle.std.proofs.Common.{◌≡◌, ◌∙◌, refl, sym, ℕ, Bool, cond, true, false, ◌||◌, List, [], ◌∷◌}
use Rattle.std.proofs.Common.{Option, Some, None}
use Rattle.std.specs.List.{list_all}
use Rattle.std.specs.Prelude.{option_map}
use Rattle.std.specs.Option.{option_map_or}
use Rattle.std.proofs.lemmas.Bool.{and_from, false≢true}
use Rattle.command_line.specs.Line.{Choice, Part, Text, Use, after_hyphens, choice_of, choice_part}
use Rattle.command_line.specs.Line.{is_value, name_of, opens, option_part, part_of_argument, stray}
use Rattle.command_line.specs.Line.{use_before, uses_from, value_of, waiting_after, whole}
use Rattle.command_line.specs.Line.{with_value}
use Rattle.command_line.specs.Shaped.{is_option_rest, is_shaped}

abbrev is_part : Part → Bool
is_part stray = false
is_part _ = true

value_shaped : (c : Choice) (v : Text) → is_part (with_value c v) ≡ true → is_value v ≡ true
value_shaped c v e = go (is_value v) refl e
  where
    go : (b : Bool) → is_value v ≡ b
        → is_part (cond b (whole (record { choice = c; value = v })) stray) ≡ true → b ≡ true
    go true is h = refl
    go false is h = absurd (false≢true h)

or_true : (a : Bool) → (a || true) ≡ true
or_true true = refl
or_true false = refl

module _ (t : List Choice) (named : choice_of t [] ≡ None) where
  choice_shaped : (r : Option (ℕ × ℕ)) (name : Text) (v : Option Text)
      → is_part (choice_part (Some (record { name = name; range = r })) v) ≡ true
      → option_map_or is_value v true ≡ true
  choice_shaped r name None e = refl
  choice_shaped None name (Some v) e = absurd (false≢true e)
  choice_shaped (Some r) name (Some v) e = value_shaped (record { name = name; range = Some r }) v e

  rest_shaped : (rest : Text) (o : Option Choice) → choice_of t (name_of rest) ≡ o
      → is_part (choice_part o (value_of rest)) ≡ true → is_option_rest rest ≡ true
  rest_shaped rest None f e = absurd (false≢true e)
  rest_shaped [] (Some c) f e = let no : None ≡ Some c = sym named ∙ f in cc
  rest_shaped (x ∷ xs) (Some c) f e = choice_shaped c.range c.name (value_of (x ∷ xs)) e

  argument_shaped : (waiting : Option Choice) (argument : Text)
      → is_part (part_of_argument t waiting argument) ≡ true → is_shaped argument ≡ true
  argument_shaped (Some c) argument e = rw (value_shaped c argument e) refl
  argument_shaped None argument e = go (after_hyphens argument) refl e
    where
      go : (o : Option Text) → after_hyphens argument ≡ o → is_part (option_part t o) ≡ true
          → is_shaped argument ≡ true
      go None b h = absurd (false≢true h)
      go (Some rest) b h = rw (b, rest_shaped rest _ refl h) (or_true (is_value argument))

  pub all_shaped : (waiting : Option Choice) (arguments : List Text) (us : List Use)
      → uses_from t waiting arguments ≡ Some us → list_all is_shaped arguments ≡ true
  all_shaped waiting [] us e = refl
  all_shaped waiting (argument ∷ arguments) us e =
      and_from _ _ (argument_shaped waiting argument (first (part_of_argument t waiting argument) e))
      (go (part_of_argument t waiting argument) e (λ w vs. all_shaped w arguments vs))
    where
      first : (p : Part) → use_before p (uses_from t (waiting_after p) arguments) ≡ Some us
          → is_part p ≡ true
      first stray e = cc
      first (opens c) e = refl
      first (whole u) e = refl

      go : (p : Part) → use_before p (uses_from t (waiting_after p) arguments) ≡ Some us
          → ((w : Option Choice) (vs : List Use) → uses_from t w arguments ≡ Some vs
          → list_all is_shaped arguments ≡ true) → list_all is_shaped arguments ≡ true
      go stray e rest = cc
      go (opens c) e rest = rest (Some c) us e
      go (whole u) e rest = last (uses_from t None arguments) e (rest None)
        where
          last : (o : Option (List Use)) → option_map (λ vs. u ∷ vs) o ≡ Some us
              → ((vs : List Use) → o ≡ Some vs → list_all is_shaped arguments ≡ true)
              → list_all is_shaped arguments ≡ true
          last None e rest = cc
          last (Some vs) e rest = rest vs refl
