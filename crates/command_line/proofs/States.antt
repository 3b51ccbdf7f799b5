-- What `clap` holds after some arguments, by the uses that they spelled.
use Rattle.std.proofs.Common.{◌≡◌, ◌∙◌, refl, sym, ap, ℕ, Bool, true, false, ◌||◌}
use Rattle.std.proofs.Common.{List, [], ◌∷◌, ◌++◌, map, Option, Some, None, codes, append-nil}
use Rattle.std.specs.Prelude.{is_some, bytes_eq}
use Rattle.std.proofs.lemmas.Bool.{true≢false, false≢true}
use Rattle.clap.specs.Kinds.{Kinds, or_else}
use Rattle.clap.specs.Faults.{settle_fault}
use Rattle.clap.specs.Faults.{use_fault}
use Rattle.clap.specs.Walk.{Held, Row, Text, Waiting, Walk}
use Rattle.clap.specs.Walk.{at_row, has_row, idle, more_values, option}
use Rattle.clap.specs.Walk.{reading_by, settled_rows, used, without}
use Rattle.clap.specs.declared.error.kind.ErrorKind.{ErrorKind}
use Rattle.clap.specs.declared.error.kind.ErrorKind.TheVariants as kind
use Rattle.clap.specs.declared.parser.matches.ValueSource.TheVariants.{CommandLine}
use Rattle.clap.proofs.WalkLemmas.{list_any-map}
use Rattle.command_line.specs.Line.{Choice, Use, choice_of, is_used}
use Rattle.command_line.proofs.Rules.{count_by, rule_for, rules}
use Rattle.command_line.proofs.Looks.{rule_found}

-- ---- rows of uses

abbrev pub given_by : Option (ℕ × ℕ) → Text → List Text
given_by None v = []
given_by (Some r) v = v ∷ []

abbrev pub kept_by : Option (ℕ × ℕ) → Text → List Text
kept_by None v = codes "true" ∷ []
kept_by (Some r) v = v ∷ []

abbrev pub row_for : Use → Row
row_for u = record {
  id = u.choice.name;
  values = kept_by u.choice.range u.value;
  count = None;
  source = Some CommandLine;
  reading = reading_by (rule_for u.choice);
}

abbrev pub rows_for : List Use → List Row
rows_for = map row_for

pub has_row-rows_for : (name : Text) (us : List Use) → has_row name (rows_for us) ≡ is_used name us
has_row-rows_for name us = sym (list_any-map (λ (r : Row). bytes_eq r.id name) row_for us)

pub at_new_row : (id : Text) (change : Row → List Row) (missing rows : List Row)
    → has_row id rows ≡ false → at_row id change missing rows ≡ rows ++ missing
at_new_row id change missing [] e = refl
at_new_row id change missing (r ∷ rows) e =
    go (bytes_eq r.id id) refl e (at_new_row id change missing rows)
  where
    go : (b : Bool) → bytes_eq r.id id ≡ b → (b || has_row id rows) ≡ false
        → (has_row id rows ≡ false → at_row id change missing rows ≡ rows ++ missing)
        → at_row id change missing (r ∷ rows) ≡ (r ∷ rows) ++ missing
    go true is h rest = absurd (true≢false h)
    go false is h rest = rw is (ap (λ rs. r ∷ rs) (rest h))

-- ---- one use

abbrev pub choice_with : Text → Option (ℕ × ℕ) → Choice
choice_with name r = record { name = name; range = r }

pub fault_when_new : (name : Text) (r : Option (ℕ × ℕ)) (v : Text) (rows : List Row)
    → has_row name rows ≡ false
    → use_fault false (rule_for (choice_with name r)) (given_by r v) rows ≡ []
fault_when_new name None v rows e = rw e refl
fault_when_new name (Some r) v rows e = rw e refl

pub fault_again : (name : Text) (r : Option (ℕ × ℕ)) (v : Text) (rows : List Row)
    → has_row name rows ≡ true
    → use_fault false (rule_for (choice_with name r)) (given_by r v) rows
    ≡ kind.ArgumentConflict ∷ []
fault_again name None v rows e = rw e refl
fault_again name (Some r) v rows e = rw e refl

kept_rows : (name : Text) (rows : List Row) → has_row name rows ≡ false → without name rows ≡ rows
kept_rows name rows e = at_new_row name (λ _. []) [] rows e ∙ append-nil rows

pub used_when_new : (name : Text) (r : Option (ℕ × ℕ)) (v : Text) (rows : List Row)
    → has_row name rows ≡ false
    → used (rule_for (choice_with name r)) (given_by r v) rows
    ≡ rows ++ row_for (record { choice = choice_with name r; value = v }) ∷ []
used_when_new name None v rows e =
    rw (kept_rows name rows e)
    (at_new_row name (more_values CommandLine (codes "true" ∷ [])) _ rows e)
used_when_new name (Some r) v rows e =
    rw (kept_rows name rows e) (at_new_row name (more_values CommandLine (v ∷ [])) _ rows e)

-- ---- what is held

abbrev pub waits : Option Choice → Waiting
waits None = idle
waits (Some c) = option c.name

abbrev pub at : Held → Option Choice → Walk
at h waiting =
    record { held = h; waiting = waits waiting; position = 1; is_trailing = false; stopped = None }

-- the uses are done, and no option waits
pub record IsIdle (t : List Choice) (us : List Use) (h : Held) : Type 0 where
  pub rows : settled_rows (rules t) h.pending h.rows ≡ rows_for us
  pub passes : settle_fault (rules t) false h ≡ []

-- the uses are done, and this option waits for its value
pub record IsOpen (t : List Choice) (us : List Use) (c : Choice) (h : Held) : Type 0 where
  pub pending : h.pending ≡ Some (c.name, [])
  pub rows : h.rows ≡ rows_for us
  pub found : choice_of t c.name ≡ Some c
  pub takes : is_some c.range ≡ true

-- what is held can't be settled
abbrev pub IsSpoiled : List Choice → Held → Type 0
IsSpoiled t h = settle_fault (rules t) false h ≡ [] → ⊥

abbrev pub Stands : List Choice → List Use → Option Choice → Held → Type 0
Stands t us None h = IsIdle t us h
Stands t us (Some c) h = IsOpen t us c h

pub least_by : (r : Option (ℕ × ℕ)) → is_some r ≡ true → count_by r ≡ 1
least_by None e = absurd (false≢true e)
least_by (Some r) e = refl

pub given_some : (r : Option (ℕ × ℕ)) (v : Text) → is_some r ≡ true → given_by r v ≡ v ∷ []
given_some None v e = absurd (false≢true e)
given_some (Some r) v e = refl

pub some≢none : {X : Type 0} (x : X) → Some x ≡ None → ⊥
some≢none x e = cc

pub some_kind : (k : ErrorKind) (ks : Kinds) → ◌≡◌ {A = Kinds} (k ∷ ks) [] → ⊥
some_kind k ks e = cc

pub first_empty : (a b : Kinds) → or_else a b ≡ [] → a ≡ []
first_empty [] b e = refl
first_empty (k ∷ ks) b e = absurd (some_kind k ks e)

pub open_is_spoiled : (t : List Choice) (us : List Use) (c : Choice) (h : Held) → IsOpen t us c h
    → IsSpoiled t h
open_is_spoiled t us c h o e =
    let one = least_by c.range o.takes in
    some_kind kind.InvalidValue [] (rw (o.pending, rule_found t c o.found, one) at e)
