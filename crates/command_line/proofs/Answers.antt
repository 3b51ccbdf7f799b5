-- What a parse of the arguments gives of their settings.
use Rattle.std.proofs.Common.{◌≡◌, ◌∙◌, ◌⊎◌, inl, inr, refl, sym, ap, ap₂, ℕ, Bool, cond, true}
use Rattle.std.proofs.Common.{false, not, ◌||◌, ◌&&◌, List, [], ◌∷◌, Option, Some, None, codes}
use Rattle.std.specs.List.{AllByRecursion, fold, list_all, list_any}
use Rattle.std.specs.Prelude.{IfOk, IsErrOf, Result, Err, bytes_eq, find, is_some, ok_or}
use Rattle.std.specs.Prelude.{option_and_then, option_map, slice_get}
use Rattle.clap.specs.Kinds.{IsAmong, Kinds, or_else}
use Rattle.clap.specs.Faults.{default_fault, defaults_fault, entered_fault, fault_of}
use Rattle.clap.specs.Faults.{is_simple_and_free}
use Rattle.clap.specs.Simple.{App, built, entered, is_simple, matches_of}
use Rattle.clap.specs.Takes.{is_given}
use Rattle.clap.specs.Walk.{Row, Rule, Text, has_row, nothing_held, row_text, rows_of, settled}
use Rattle.clap.specs.Walk.{walk, with_default}
use Rattle.clap.specs.declared.error.kind.ErrorKind.{ErrorKind}
use Rattle.clap.specs.declared.error.kind.ErrorKind.TheVariants as kind
use Rattle.clap.specs.declared.parser.matches.Found.{Found}
use Rattle.clap.proofs.WalkLemmas.{find-map, first_value-rows, one_text-rows}
use Rattle.command_line.specs.Line.{Choice, Use, are_distinct, choice_of, choices, is_named}
use Rattle.command_line.specs.Line.{is_in_range, is_short, is_used, is_value, settings_among, settings_of, uses_of}
use Rattle.command_line.specs.declared.settings.Settings.{Settings}
use Rattle.command_line.specs.declared.parse.LineStop.{LineStop}
use Rattle.command_line.specs.declared.parse.LineStop.TheVariants.{Usage}
use Rattle.command_line.specs.Commands.{line_app}
use Rattle.std.proofs.lemmas.Bool.{true≢false}
use Rattle.command_line.specs.Shaped.{is_shaped}
use Rattle.command_line.specs.Reads.{MatchesHold, given_of, is_allowed, settings_with}
use Rattle.command_line.proofs.Rules.{is_exact, is_plain, rule_for, rules}
use Rattle.command_line.proofs.Lines.{Agrees, Refused, agrees, line_fault, line_rows, walk_end}
use Rattle.command_line.proofs.Spelled.{IsSpelled, all_spelled, use_found}
use Rattle.command_line.proofs.Found.{finished_row, or_default}
use Rattle.command_line.proofs.ShapedLemmas.{all_shaped}
use Rattle.command_line.proofs.States.{at, row_for, rows_for}

or_true : (a : Bool) → (a || true) ≡ true
or_true true = refl
or_true false = refl

both_empty : (b : Bool) → ◌≡◌ {A = Kinds} (cond b [] []) []
both_empty true = refl
both_empty false = refl

-- the defaults of the switches pass
no_default_fault : (name : Text) (r : Option (ℕ × ℕ)) (rows : List Row)
    → default_fault rows (rule_for (record { name = name; range = r })) ≡ []
no_default_fault name None rows = go (has_row name rows)
  where
    go : (b : Bool) → ◌≡◌ {A = Kinds} (cond (b || false) [] []) []
    go true = refl
    go false = refl
no_default_fault name (Some r) rows = rw (or_true (has_row name rows)) refl

no_defaults_fault : (t : List Choice) (rows : List Row) → defaults_fault rows (rules t) ≡ []
unfolding defaults_fault
no_defaults_fault [] rows = refl
no_defaults_fault (c ∷ t) rows =
    rw (no_default_fault c.name c.range rows) (no_defaults_fault t (with_default rows (rule_for c)))

none_wanted : (t : List Choice) (rows : List Row)
    → list_any (λ (a : Rule). a.required && not (is_given a.id rows)) (rules t) ≡ false
none_wanted [] rows = refl
none_wanted (c ∷ t) rows = none_wanted t rows

or_none : (a : Kinds) → or_else a [] ≡ a
or_none [] = refl
or_none (k ∷ ks) = refl

-- no subcommand is entered
none_entered : (o : Option (Text × List Text)) → is_some (entered (built line_app) o) ≡ false
none_entered None = refl
none_entered (Some p) = refl

none_below : (o : Option (Text × List Text)) → entered_fault (built line_app) o ≡ []
none_below None = refl
none_below (Some p) = refl

pub fault_is : (arguments : List Text)
    → fault_of line_app arguments ≡ line_fault choices (at nothing_held None) arguments
fault_is arguments =
    let end = walk_end choices (at nothing_held None) arguments in
    let stop = (walk (rules choices) [] nothing_held arguments).stopped in
    rw (
      none_entered stop,
      none_below stop,
      no_defaults_fault choices
          (settled (rules choices) end).rows,
      or_none,
    ) refl

pub rows_are : (arguments : List Text)
    → matches_of line_app arguments
    ≡ fold with_default (line_rows choices (at nothing_held None) arguments) (rules choices)
rows_are arguments = refl

pub outcome : (arguments : List Text) → list_all is_shaped arguments ≡ true
    → Agrees choices [] None nothing_held arguments
outcome arguments ok =
    agrees choices [] None nothing_held arguments ok refl (record { rows = refl; passes = refl })

used_if_found : (name : Text) (us : List Use) → is_used name us ≡ is_some (find (is_named name) us)
used_if_found name [] = refl
used_if_found name (u ∷ us) = go (is_named name u) (used_if_found name us)
  where
    go : (b : Bool) → is_used name us ≡ is_some (find (is_named name) us)
        → (b || is_used name us) ≡ is_some (cond b (Some u) (find (is_named name) us))
    go true e = refl
    go false e = e

module _ (us : List Use) (f : Found) (all : AllByRecursion (IsSpelled choices) us)
    (is : rows_of f ≡ fold with_default (rows_for us) (rules choices)) where
  row_is : (name : Text) (c : Choice) → choice_of choices name ≡ Some c
      → find (λ (r : Row). bytes_eq r.id name) (rows_of f)
      ≡ or_default (option_map row_for (find (is_named name) us)) (Some c)
  row_is name c e =
      ap (find (λ (r : Row). bytes_eq r.id name)) is ∙ finished_row choices name (rows_for us) refl
      ∙ ap₂ or_default (sym (find-map (λ (r : Row). bytes_eq r.id name) row_for us)) e

  number_value : (name : Text) (r : ℕ × ℕ) (o : Option Use)
      → choice_of choices name ≡ Some (record { name = name; range = Some r })
      → find (is_named name) us ≡ o
      → option_and_then (λ (x : Row). slice_get x.values 0)
      (or_default (option_map row_for o) (Some (record { name = name; range = Some r })))
      ≡ option_map (λ u. u.value) o
  number_value name r None e found = refl
  number_value name r (Some u) e found =
      let choice = (use_found choices name _ us u e all found).0 in
      let range : u.choice.range ≡ Some r = ap (λ (c : Choice). c.range) choice in
      rw range refl

  number_digits : (name : Text) (r : ℕ × ℕ) (v : Text) (o : Option Use)
      → choice_of choices name ≡ Some (record { name = name; range = Some r })
      → find (is_named name) us ≡ o
      → option_map (λ u. u.value) o ≡ Some v → is_value v ≡ true
  number_digits name r v None e found h = cc
  number_digits name r v (Some u) e found h =
      let known = use_found choices name _ us u e all found in
      let range : u.choice.range ≡ Some r = ap (λ (c : Choice). c.range) known.0 in
      let value : u.value ≡ v = cc in
      rw (← value) (known.1.digits (rw range refl))

  switch_value : (name : Text) (o : Option Use)
      → choice_of choices name ≡ Some (record { name = name; range = None })
      → find (is_named name) us ≡ o
      → option_and_then row_text
      (or_default (option_map row_for o) (Some (record { name = name; range = None })))
      ≡ Some (cond (is_some o) (codes "true") (codes "false"))
  switch_value name None e found = refl
  switch_value name (Some u) e found =
      let choice = (use_found choices name _ us u e all found).0 in
      let range : u.choice.range ≡ None = ap (λ (c : Choice). c.range) choice in
      rw range refl

  pub reads : MatchesHold us f
  reads =
      let number = λ (name : Text) (r : ℕ × ℕ) (e : choice_of choices name
      ≡ Some (record { name = name; range = Some r })).
      first_value-rows f name
      ∙ (ap (option_and_then (λ (x : Row). slice_get x.values 0)) (row_is name _ e)
      ∙ number_value name r _ e refl) in
      record {
        number = number;
        digits = λ name r v e h. number_digits name r v _ e refl (sym (number name r e) ∙ h);
        switch = λ name e. one_text-rows f name
            ∙ (ap (option_and_then row_text) (row_is name _ e) ∙ (switch_value name _ e refl
            ∙ ap (λ b. Some (cond b (codes "true") (codes "false")))
            (sym (used_if_found name us))));
      }

-- ---- what the call answers

-- arguments of which one has neither shape give nothing
pub misshapen : (arguments : List Text) (workers : ℕ) → list_all is_shaped arguments ≡ false
    → settings_of workers arguments ≡ None
unfolding settings_of
misshapen arguments workers bad = go (uses_of arguments) refl
  where
    go : (o : Option (List Use)) → uses_of arguments ≡ o
        → option_and_then (settings_among workers) o ≡ None
    go None e = refl
    go (Some us) e = absurd (true≢false (sym (all_shaped choices refl None arguments us e) ∙ bad))

-- arguments that `clap` refuses give nothing
pub refused_arguments : (arguments : List Text) (workers : ℕ) → list_all is_shaped arguments ≡ true
    → (fault_of line_app arguments ≡ [] → ⊥) → settings_of workers arguments ≡ None
unfolding settings_of
refused_arguments arguments workers ok bad = elim (outcome arguments ok) [
  | inl y ↦ absurd (bad (fault_is arguments ∙ y.no_fault))
  | inr n ↦ go n (uses_of arguments) refl
]
  where
    go : Refused choices [] None nothing_held arguments → (o : Option (List Use))
        → uses_of arguments ≡ o → option_and_then (settings_among workers) o ≡ None
    go n None e = refl
    go n (Some us) e = rw (n.unspelled us e) refl

-- arguments that `clap` takes spell uses, which its matches have
pub record TakenArguments (arguments : List Text) (f : Found) : Type 0 where
  pub uses : List Use
  pub spelled : uses_of arguments ≡ Some uses
  pub distinct : are_distinct uses ≡ true
  pub reads : MatchesHold uses f

pub taken_arguments : (arguments : List Text) (f : Found) → list_all is_shaped arguments ≡ true
    → fault_of line_app arguments ≡ [] → rows_of f ≡ matches_of line_app arguments
    → TakenArguments arguments f
taken_arguments arguments f ok none rows = elim (outcome arguments ok) [
  | inl y ↦ record {
    uses = y.more;
    spelled = y.spelled;
    distinct = y.distinct;
    reads = reads y.more f (all_spelled choices None arguments y.more tt y.spelled)
        (rows ∙ rows_are arguments ∙ ap (λ rs. fold with_default rs (rules choices)) y.rows);
  }
  | inr n ↦ absurd (n.fault (sym (fault_is arguments) ∙ none))
]

and_regrouped : (a b c d : Bool) → (((a && b) && c) && d) ≡ (a && ((b && c) && d))
and_regrouped true b c d = refl
and_regrouped false b c d = refl

-- and their settings are read off these
pub settings_taken : (arguments : List Text) (workers : ℕ) (us : List Use)
    → uses_of arguments ≡ Some us → are_distinct us ≡ true
    → settings_of workers arguments
    ≡ cond (list_all (is_short us) choices && is_allowed workers (given_of us))
    (Some (settings_with (given_of us))) None
unfolding settings_of
settings_taken arguments workers us e d =
    rw (e, d) (ap (λ b. cond b (Some (settings_with (given_of us))) None)
    (and_regrouped (list_all (is_short us) choices) (list_all (is_in_range us) choices) _ _))

-- ---- what the call of `clap` tells

pub no_fault : (a : App) (arguments : List Text) → a ≡ line_app
    → (is_simple_and_free a ≡ true → fault_of a arguments ≡ []) → fault_of line_app arguments ≡ []
no_fault a arguments same h = sym (ap (λ b. fault_of b arguments) same)
    ∙ h (ap is_simple_and_free same ∙ is_exact)

pub found_rows : (a : App) (arguments : List Text) (rows : List Row) (more : Type 0) → a ≡ line_app
    → (is_simple a ≡ true → (rows ≡ matches_of a arguments) × more)
    → rows ≡ matches_of line_app arguments
found_rows a arguments rows more same h = (h (ap is_simple same ∙ is_plain)).0
    ∙ ap (λ b. matches_of b arguments) same

no_kinds : (k : ErrorKind) (ks : Kinds) → IsAmong k ks → ks ≡ [] → ⊥
no_kinds k [] h e = h
no_kinds k (x ∷ ks) h e = cc

pub some_fault : (a : App) (arguments : List Text) (k : ErrorKind) → a ≡ line_app
    → (is_simple_and_free a ≡ true → (k ≡ kind.OutOfMemory) ⊎ IsAmong k (fault_of a arguments))
    → (k ≡ kind.OutOfMemory → ⊥) → fault_of line_app arguments ≡ [] → ⊥
some_fault a arguments k same h not_memory none = elim (h (ap is_simple_and_free same ∙ is_exact)) [
  | inl e ↦ not_memory e
  | inr among ↦ no_kinds k (fault_of a arguments) among (ap (λ b. fault_of b arguments) same ∙ none)
]

-- ---- what the call answers of an option

pub answer_ok : (o want : Option Settings) (r : Result Settings LineStop) → r ≡ ok_or o Usage
    → want ≡ o → IfOk r (λ s. want ≡ Some s)
answer_ok None want r e same = rw e tt
answer_ok (Some s) want r e same = rw e same

pub answer_usage : (o want : Option Settings) (r : Result Settings LineStop) → r ≡ ok_or o Usage
    → want ≡ o → IsErrOf r Usage → want ≡ None
answer_usage None want r e same usage = same
answer_usage (Some s) want r e same usage = let bad : ok_or (Some s) Usage ≡ Err Usage =
    rw e at usage in cc
