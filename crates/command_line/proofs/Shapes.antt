-- What `clap` makes of one argument by its shape.
use Rattle.std.proofs.Common.{◌≡◌, ◌∙◌, refl, sym, Bool, cond, true, false}
use Rattle.std.proofs.Common.{List, [], ◌∷◌, Option, Some, None}
use Rattle.std.specs.Prelude.{is_some, bytes_eq}
use Rattle.std.proofs.lemmas.Slice.Eq.{bytes_eq-Decides}
use Rattle.clap.specs.Kinds.{Kinds, or_else}
use Rattle.clap.specs.Faults.{long_fault, option_fault, react_fault, settle_fault, step_fault}
use Rattle.clap.specs.Faults.{turn_fault}
use Rattle.clap.specs.Walk.{Held, Rule, Text, after_flag, after_step}
use Rattle.clap.specs.Walk.{arg_by_long, Step, long_met}
use Rattle.clap.specs.Walk.{takes_values, walked}
use Rattle.clap.specs.declared.error.kind.ErrorKind.TheVariants as kind
use Rattle.command_line.specs.Line.{Choice, Use}
use Rattle.command_line.specs.Line.{name_of, value_of}
use Rattle.command_line.proofs.Rules.{rules, top}
use Rattle.command_line.proofs.Looks.{by_place, rule_found}
use Rattle.command_line.proofs.Forms.{IsLongArgument, IsPositionalArgument}
use Rattle.command_line.proofs.States.{IsOpen, IsSpoiled, at, first_empty, least_by, waits}
use Rattle.command_line.proofs.States.{some_kind}

-- ---- an argument of the shape of an option

-- what the argument does to what is held, and what waits after it
abbrev long_done : List Choice → Option Choice → Text → Text → Held → Held × Step
long_done t waiting argument rest h =
    let met = long_met (rules t) (arg_by_long (rules t) (name_of rest)) (value_of rest) h in
    after_flag (rules t) (waits waiting) argument met.0 met.1

abbrev long_refusal : List Choice → Text → Held → Kinds
long_refusal t rest h =
    long_fault (rules t) false (arg_by_long (rules t) (name_of rest)) (value_of rest) h

pub long_turn : (t : List Choice) (waiting : Option Choice) (argument rest : Text) (h : Held)
    → IsLongArgument argument rest
    → turn_fault (top t) [] (at h waiting) argument
    ≡ or_else (long_refusal t rest h)
    (step_fault (top t) 1 (long_done t waiting argument rest h).0
    (long_done t waiting argument rest h).1)
long_turn t None argument rest h w = rw (w.no_end, w.long) refl
long_turn t (Some c) argument rest h w = rw (w.no_end, w.long) refl

pub long_walked : (t : List Choice) (waiting : Option Choice) (argument rest : Text) (h : Held)
    → IsLongArgument argument rest
    → walked (rules t) [] (at h waiting) argument
    ≡ after_step (rules t) argument (at h waiting) (long_done t waiting argument rest h).0
    (long_done t waiting argument rest h).1
unfolding walked
long_walked t None argument rest h w = rw (w.no_end, w.long) refl
long_walked t (Some c) argument rest h w = rw (w.no_end, w.long) refl

-- where what is held can't be settled, no option is taken
long_spoiled : (c : List Rule) (found : Option Rule) (v : Option Text) (h : Held)
    → (settle_fault c false h ≡ [] → ⊥) → long_fault c false found v h ≡ [] → ⊥
long_spoiled c None v h bad e = some_kind kind.UnknownArgument [] e
long_spoiled c (Some a) v h bad e = go (takes_values a) v e
  where
    go : (b : Bool) (v : Option Text)
        → cond b (option_fault c false a v h)
        (cond (is_some v) (kind.TooManyValues ∷ []) (react_fault c false a [] h)) ≡ [] → ⊥
    go true (Some v) e = bad (first_empty _ _ e)
    go true None e = bad e
    go false (Some v) e = some_kind kind.TooManyValues [] e
    go false None e = bad (first_empty _ _ e)

pub long_turn_spoiled : (t : List Choice) (waiting : Option Choice) (argument rest : Text)
    (h : Held) → IsLongArgument argument rest → IsSpoiled t h
    → turn_fault (top t) [] (at h waiting) argument ≡ [] → ⊥
long_turn_spoiled t waiting argument rest h w bad e =
    long_spoiled (rules t) (arg_by_long (rules t) (name_of rest)) (value_of rest) h bad
    (first_empty _ _ (sym (long_turn t waiting argument rest h w) ∙ e))

-- ---- an argument of the shape of a value

pub digits_idle : (t : List Choice) (argument : Text) (h : Held) → IsPositionalArgument argument
    → turn_fault (top t) [] (at h None) argument ≡ [] → ⊥
digits_idle t argument h w e =
    some_kind kind.UnknownArgument [] (rw (w.no_end, w.no_long, w.no_short, by_place t 1) at e)

abbrev pub filled_with : Choice → Text → Held → Held
filled_with c argument h = record h { pending = Some (c.name, argument ∷ []) }

bytes_same : (x : Text) → bytes_eq x x ≡ true
bytes_same x = (bytes_eq-Decides x x).1 refl

pub digits_open : (t : List Choice) (us : List Use) (c : Choice) (argument : Text) (h : Held)
    → IsPositionalArgument argument → IsOpen t us c h
    → turn_fault (top t) [] (at h (Some c)) argument ≡ []
digits_open t us c argument h w o = rw (w.no_end, w.no_long, w.no_short) refl

pub digits_walked : (t : List Choice) (us : List Use) (c : Choice) (argument : Text) (h : Held)
    → IsPositionalArgument argument → IsOpen t us c h
    → walked (rules t) [] (at h (Some c)) argument ≡ at (filled_with c argument h) None
unfolding walked
digits_walked t us c argument h w o =
    let one = least_by c.range o.takes in
    rw (w.no_end, w.no_long, w.no_short, rule_found t c o.found, o.pending, bytes_same c.name, one)
    refl
