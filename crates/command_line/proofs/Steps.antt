-- What `clap` makes of one argument of a line.
use Rattle.std.proofs.Common.{◌≡◌, ◌∙◌, inl, inr, refl, sym, ap, ℕ, Bool, true, false}
use Rattle.std.proofs.Common.{List, [], ◌∷◌, ◌++◌, Option, Some, None}
use Rattle.std.proofs.lemmas.List.{map-append}
use Rattle.std.specs.Prelude.{option_map}
use Rattle.std.specs.Option.{option_map_or}
use Rattle.std.proofs.lemmas.Bool.{or_cases, false≢true}
use Rattle.clap.specs.Kinds.{or_else}
use Rattle.clap.specs.Faults.{long_fault, react_fault, settle_fault, step_fault}
use Rattle.clap.specs.Faults.{turn_fault, use_fault}
use Rattle.clap.specs.Walk.{Held, Rule, Text, after_flag, after_step}
use Rattle.clap.specs.Walk.{Step, idle, long_met}
use Rattle.clap.specs.Walk.{reacted, used, walked}
use Rattle.clap.specs.declared.error.kind.ErrorKind.TheVariants as kind
use Rattle.command_line.specs.Line.{Choice, Use, after_hyphens, choice_of, choice_part, is_used}
use Rattle.command_line.specs.Line.{is_value, name_of, opens, part_of_argument, stray, value_of, whole}
use Rattle.command_line.specs.Shaped.{is_option_rest, is_shaped}
use Rattle.command_line.proofs.Rules.{rule_for, rules, top}
use Rattle.command_line.proofs.Looks.{by_long, is_found, rule_found}
use Rattle.command_line.proofs.Forms.{IsLongArgument, IsPositionalArgument, long_argument_of}
use Rattle.command_line.proofs.Forms.{positional_argument_of}
use Rattle.command_line.proofs.States.{IsIdle, IsOpen, IsSpoiled, Stands, at, choice_with}
use Rattle.command_line.proofs.States.{fault_again, fault_when_new, first_empty, given_by}
use Rattle.command_line.proofs.States.{given_some, has_row-rows_for, open_is_spoiled, row_for}
use Rattle.command_line.proofs.States.{rows_for, some≢none, used_when_new}
use Rattle.command_line.proofs.Shapes.{digits_idle, digits_open, digits_walked, filled_with}
use Rattle.command_line.proofs.Shapes.{long_turn, long_turn_spoiled, long_walked}
use Rattle.command_line.proofs.States.{some_kind}

-- ---- one use of an option

module _ (t : List Choice) (us : List Use) (name : Text) (r : Option (ℕ × ℕ)) (v : Text) (h : Held)
    (i : IsIdle t us h) where
  abbrev it : Choice
  it = choice_with name r

  abbrev this_use : Use
  this_use = record { choice = it; value = v }

  react_new : is_used name us ≡ false
      → react_fault (rules t) false (rule_for it) (given_by r v) h ≡ []
  react_new new =
      rw (i.passes, i.rows) (fault_when_new name r v (rows_for us) (has_row-rows_for name us ∙ new))

  react_again : is_used name us ≡ true
      → react_fault (rules t) false (rule_for it) (given_by r v) h ≡ [] → ⊥
  react_again again e =
      some_kind kind.ArgumentConflict []
      (sym (fault_again name r v (rows_for us) (has_row-rows_for name us ∙ again))
      ∙ rw (i.passes, i.rows) at e)

  react_idle : is_used name us ≡ false
      → IsIdle t (us ++ this_use ∷ []) (reacted (rules t) (rule_for it) (given_by r v) h)
  react_idle new = record {
    rows = rw i.rows
        (used_when_new name r v (rows_for us) (has_row-rows_for name us ∙ new)
        ∙ sym (map-append row_for us (this_use ∷ [])));
    passes = refl;
  }

-- what one argument of a line comes to
pub data Turn (t : List Choice) (us : List Use) (waiting : Option Choice) (argument : Text)
    (h : Held) : Type 0 where
  refused : (turn_fault (top t) [] (at h waiting) argument ≡ [] → ⊥)
      → part_of_argument t waiting argument ≡ stray → Turn t us waiting argument h
  repeats : (turn_fault (top t) [] (at h waiting) argument ≡ [] → ⊥) → (u : Use)
      → part_of_argument t waiting argument ≡ whole u → is_used u.choice.name us ≡ true
      → Turn t us waiting argument h
  spoils : (after : Held) → turn_fault (top t) [] (at h waiting) argument ≡ []
      → walked (rules t) [] (at h waiting) argument ≡ at after None → IsSpoiled t after
      → (u : Use) → part_of_argument t waiting argument ≡ whole u → is_used u.choice.name us ≡ true
      → Turn t us waiting argument h
  goes_on : (after : Held) → turn_fault (top t) [] (at h waiting) argument ≡ [] → (c : Choice)
      → walked (rules t) [] (at h waiting) argument ≡ at after (Some c) → IsOpen t us c after
      → part_of_argument t waiting argument ≡ opens c → Turn t us waiting argument h
  takes : (after : Held) → turn_fault (top t) [] (at h waiting) argument ≡ []
      → walked (rules t) [] (at h waiting) argument ≡ at after None
      → (u : Use) → IsIdle t (us ++ u ∷ []) after → part_of_argument t waiting argument ≡ whole u
      → is_used u.choice.name us ≡ false → Turn t us waiting argument h

module _ (t : List Choice) (us : List Use) (argument rest : Text) (h : Held)
    (w : IsLongArgument argument rest) (b : after_hyphens argument ≡ Some rest)
    (i : IsIdle t us h) where
  abbrev done_by : Option Rule → Option Text → Held × Step
  done_by a v = after_flag (rules t) idle argument (long_met (rules t) a v h).0
      (long_met (rules t) a v h).1

  fault_by : (o : Option Choice) (v : Option Text) → choice_of t (name_of rest) ≡ o
      → value_of rest ≡ v
      → turn_fault (top t) [] (at h None) argument
      ≡ or_else (long_fault (rules t) false (option_map rule_for o) v h)
      (step_fault (top t) 1 (done_by (option_map rule_for o) v).0
      (done_by (option_map rule_for o) v).1)
  fault_by o v found e =
      rw (by_long t (name_of rest), found, e) at (long_turn t None argument rest h w)

  walked_by : (o : Option Choice) (v : Option Text) → choice_of t (name_of rest) ≡ o
      → value_of rest ≡ v
      → walked (rules t) [] (at h None) argument
      ≡ after_step (rules t) argument (at h None) (done_by (option_map rule_for o) v).0
      (done_by (option_map rule_for o) v).1
  walked_by o v found e =
      rw (by_long t (name_of rest), found, e) at (long_walked t None argument rest h w)

  part_by : (o : Option Choice) (v : Option Text) → choice_of t (name_of rest) ≡ o
      → value_of rest ≡ v → part_of_argument t None argument ≡ choice_part o v
  part_by o v found e = rw (b, found, e) refl

  by_used : (name : Text) (r : Option (ℕ × ℕ)) (v : Text)
      → part_of_argument t None argument ≡ whole (this_use t us name r v h i)
      → turn_fault (top t) [] (at h None) argument
      ≡ or_else (react_fault (rules t) false (rule_for (choice_with name r)) (given_by r v) h)
      []
      → walked (rules t) [] (at h None) argument
      ≡ at (reacted (rules t) (rule_for (choice_with name r)) (given_by r v) h) None
      → (u : Bool) → is_used name us ≡ u → Turn t us None argument h
  by_used name r v part fault after true again =
      repeats (λ e. react_again t us name r v h i again (first_empty _ _ (sym fault ∙ e))) _ part
      again
  by_used name r v part fault after false new =
      takes _ (fault ∙ ap (λ k. or_else k []) (react_new t us name r v h i new)) after _
      (react_idle t us name r v h i new) part new

  by_value : (name : Text) (r : Option (ℕ × ℕ)) (v : Option Text)
      → choice_of t (name_of rest) ≡ Some (choice_with name r) → value_of rest ≡ v
      → option_map_or is_value v true ≡ true → Turn t us None argument h
  by_value name None None found e ok =
      by_used name None [] (part_by _ None found e) (fault_by _ None found e)
      (walked_by _ None found e) _ refl
  by_value name None (Some v) found e ok =
      refused (λ none. some_kind kind.TooManyValues [] (sym (fault_by _ (Some v) found e) ∙ none))
      (part_by _ (Some v) found e)
  by_value name (Some r) (Some v) found e ok =
      by_used name (Some r) v (part_by _ (Some v) found e ∙ rw ok refl)
      (fault_by _ (Some v) found e) (walked_by _ (Some v) found e) _ refl
  by_value name (Some r) None found e ok =
      goes_on _ (fault_by _ None found e ∙ rw i.passes refl) _ (walked_by _ None found e)
      (record { pending = refl; rows = i.rows; found = is_found t _ _ found; takes = refl })
      (part_by _ None found e)

  by_choice : (o : Option Choice) → choice_of t (name_of rest) ≡ o
      → option_map_or is_value (value_of rest) true ≡ true → Turn t us None argument h
  by_choice None found ok =
      refused (λ none. some_kind kind.UnknownArgument [] (sym (fault_by None _ found refl) ∙ none))
      (part_by None _ found refl)
  by_choice (Some c) found ok = by_value c.name c.range _ found refl ok

long_idle : (t : List Choice) (us : List Use) (argument rest : Text) (h : Held)
    → IsLongArgument argument rest → after_hyphens argument ≡ Some rest
    → is_option_rest rest ≡ true → IsIdle t us h → Turn t us None argument h
long_idle t us argument [] h w b ok i = absurd (false≢true ok)
long_idle t us argument (x ∷ rest) h w b ok i = by_choice t us argument (x ∷ rest) h w b i _ refl ok

digits_turn : (t : List Choice) (us : List Use) (waiting : Option Choice) (argument : Text)
    (h : Held) → is_value argument ≡ true → Stands t us waiting h → Turn t us waiting argument h
digits_turn t us None argument h v s = let w = positional_argument_of argument v in
    refused (digits_idle t argument h w) (rw w.no_option refl)
digits_turn t us (Some c) argument h v o = go (is_used c.name us) refl
  where
    w : IsPositionalArgument argument
    w = positional_argument_of argument v

    part : part_of_argument t (Some c) argument ≡ whole (record { choice = c; value = argument })
    part = rw v refl

    given : given_by c.range argument ≡ argument ∷ []
    given = given_some c.range argument o.takes

    settles : settle_fault (rules t) false (filled_with c argument h)
        ≡ use_fault false (rule_for c) (given_by c.range argument) (rows_for us)
    settles = rw (rule_found t c o.found, o.rows, given) refl

    go : (u : Bool) → is_used c.name us ≡ u → Turn t us (Some c) argument h
    go true again =
        spoils (filled_with c argument h) (digits_open t us c argument h w o)
        (digits_walked t us c argument h w o)
        (λ e. some_kind kind.ArgumentConflict []
        (sym (fault_again c.name c.range argument (rows_for us)
        (has_row-rows_for c.name us ∙ again)) ∙ (sym settles ∙ e)))
        _ part again
    go false new =
        takes (filled_with c argument h) (digits_open t us c argument h w o)
        (digits_walked t us c argument h w o) (record { choice = c; value = argument })
        (record {
          rows = rw (rule_found t c o.found, o.rows)
              (ap (λ vs. used (rule_for c) vs (rows_for us)) (sym given)
              ∙ used_when_new c.name c.range argument (rows_for us)
              (has_row-rows_for c.name us ∙ new) ∙ sym (map-append row_for us _));
          passes = settles
              ∙ fault_when_new c.name c.range argument (rows_for us)
              (has_row-rows_for c.name us ∙ new);
        }) part new

-- an argument of the shape of an option is no value
option_no_value : (argument rest : Text) → after_hyphens argument ≡ Some rest
    → is_value argument ≡ false
option_no_value argument rest b = go (is_value argument) refl
  where
    go : (v : Bool) → is_value argument ≡ v → v ≡ false
    go false e = refl
    go true e = absurd (some≢none rest (sym b ∙ (positional_argument_of argument e).no_option))

long_open : (t : List Choice) (us : List Use) (c : Choice) (argument rest : Text) (h : Held)
    → IsLongArgument argument rest → after_hyphens argument ≡ Some rest
    → IsOpen t us c h → Turn t us (Some c) argument h
long_open t us c argument rest h w b o =
    refused (long_turn_spoiled t (Some c) argument rest h w (open_is_spoiled t us c h o))
    (rw (option_no_value argument rest b) refl)

-- what an argument of either shape comes to
pub turn : (t : List Choice) (us : List Use) (waiting : Option Choice) (argument : Text) (h : Held)
    → is_shaped argument ≡ true → Stands t us waiting h → Turn t us waiting argument h
turn t us waiting argument h shaped s = elim (or_cases _ _ shaped) [
  | inl v ↦ digits_turn t us waiting argument h v s
  | inr o ↦ long (after_hyphens argument) refl o
]
  where
    long : (r : Option Text) → after_hyphens argument ≡ r
        → option_map_or is_option_rest r false ≡ true → Turn t us waiting argument h
    long None b ok = absurd (false≢true ok)
    long (Some rest) b ok = at_rest waiting s
      where
        at_rest : (wait : Option Choice) → Stands t us wait h → Turn t us wait argument h
        at_rest None i = long_idle t us argument rest h (long_argument_of argument rest b ok) b ok i
        at_rest (Some c) o =
            long_open t us c argument rest h (long_argument_of argument rest b ok) b o

-- where what is held can't be settled, no argument is taken
pub spoiled_turn : (t : List Choice) (argument : Text) (h : Held) → is_shaped argument ≡ true
    → IsSpoiled t h → turn_fault (top t) [] (at h None) argument ≡ [] → ⊥
spoiled_turn t argument h shaped bad = elim (or_cases _ _ shaped) [
  | inl v ↦ digits_idle t argument h (positional_argument_of argument v)
  | inr o ↦ long (after_hyphens argument) refl o
]
  where
    long : (r : Option Text) → after_hyphens argument ≡ r
        → option_map_or is_option_rest r false ≡ true
        → turn_fault (top t) [] (at h None) argument ≡ [] → ⊥
    long None b ok = absurd (false≢true ok)
    long (Some rest) b ok =
        long_turn_spoiled t None argument rest h (long_argument_of argument rest b ok) bad
