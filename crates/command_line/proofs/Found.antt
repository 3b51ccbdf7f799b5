-- What is found in the matches of a line, by its uses.
use Rattle.std.proofs.Common.{◌≡◌, ◌∙◌, refl, ap, ℕ, Bool, cond, true, false, ◌||◌, ◌&&◌, List, []}
use Rattle.std.proofs.Common.{◌∷◌, ◌++◌, Option, Some, None, codes}
use Rattle.std.specs.List.{fold}
use Rattle.std.specs.Prelude.{bytes_eq, find, is_none}
use Rattle.std.proofs.lemmas.Bool.{and_parts, false≢true, true≢false}
use Rattle.std.proofs.lemmas.Slice.Eq.{bytes_eq-Decides}
use Rattle.clap.specs.Walk.{Row, Text, has_row, more_values, reading_by, with_default}
use Rattle.clap.specs.declared.parser.matches.ValueSource.TheVariants.{DefaultValue}
use Rattle.command_line.specs.Line.{Choice, choice_of}
use Rattle.command_line.proofs.Rules.{rule_for, rules}
use Rattle.command_line.proofs.States.{at_new_row}

abbrev pub row_of_id : Text → List Row → Option Row
row_of_id id rows = find (λ (r : Row). bytes_eq r.id id) rows

-- the row of an option that wasn't used
abbrev pub default_row : Text → Option (ℕ × ℕ) → Option Row
default_row name (Some r) = None
default_row name None = Some (record {
  id = name;
  values = codes "false" ∷ [];
  count = None;
  source = Some DefaultValue;
  reading = reading_by (rule_for (record { name = name; range = None }));
})

abbrev pub or_default : Option Row → Option Choice → Option Row
or_default (Some r) o = Some r
or_default None None = None
or_default None (Some c) = default_row c.name c.range

-- no name stands twice in the table
abbrev pub are_apart : List Choice → Bool
are_apart [] = true
are_apart (c ∷ t) = is_none (choice_of t c.name) && are_apart t

or_nothing : (o : Option Row) → o ≡ or_default o None
or_nothing None = refl
or_nothing (Some r) = refl

cond_same : {X : Type 0} (b : Bool) (x : X) → cond b x x ≡ x
cond_same true x = refl
cond_same false x = refl

none_of : (o : Option Choice) → is_none o ≡ true → o ≡ None
none_of None e = refl
none_of (Some c) e = absurd (false≢true e)

no_row : (id : Text) (rows : List Row) → has_row id rows ≡ false → row_of_id id rows ≡ None
no_row id [] e = refl
no_row id (r ∷ rows) e = go (bytes_eq r.id id) e (no_row id rows)
  where
    go : (b : Bool) → (b || has_row id rows) ≡ false
        → (has_row id rows ≡ false → row_of_id id rows ≡ None)
        → cond b (Some r) (row_of_id id rows) ≡ None
    go true e rest = absurd (true≢false e)
    go false e rest = rest e

some_row : (id : Text) (rows : List Row) (o p : Option Choice) → has_row id rows ≡ true
    → or_default (row_of_id id rows) o ≡ or_default (row_of_id id rows) p
some_row id [] o p e = absurd (false≢true e)
some_row id (r ∷ rows) o p e = go (bytes_eq r.id id) e (some_row id rows o p)
  where
    go : (b : Bool) → (b || has_row id rows) ≡ true
        → (has_row id rows ≡ true
        → or_default (row_of_id id rows) o ≡ or_default (row_of_id id rows) p)
        → or_default (cond b (Some r) (row_of_id id rows)) o
        ≡ or_default (cond b (Some r) (row_of_id id rows)) p
    go true e rest = refl
    go false e rest = rest e

abbrev or_else_row : Option Row → Option Row → Option Row
or_else_row (Some r) o = Some r
or_else_row None o = o

row_after : (id : Text) (rows : List Row) (x : Row)
    → row_of_id id (rows ++ x ∷ [])
    ≡ or_else_row (row_of_id id rows) (cond (bytes_eq x.id id) (Some x) None)
row_after id [] x = refl
row_after id (r ∷ rows) x = go (bytes_eq r.id id) (row_after id rows x)
  where
    go : (b : Bool)
        → row_of_id id (rows ++ x ∷ [])
        ≡ or_else_row (row_of_id id rows) (cond (bytes_eq x.id id) (Some x) None)
        → cond b (Some r) (row_of_id id (rows ++ x ∷ []))
        ≡ or_else_row (cond b (Some r) (row_of_id id rows))
        (cond (bytes_eq x.id id) (Some x) None)
    go true e = refl
    go false e = e

abbrev unused : Text → Choice
unused name = record { name = name; range = None }

abbrev new_row : Text → Row
new_row name = record {
  id = name;
  values = codes "false" ∷ [];
  count = None;
  source = Some DefaultValue;
  reading = reading_by (rule_for (unused name));
}

-- one more option of the table gets its default
default_step : (id name : Text) (r : Option (ℕ × ℕ)) (rows : List Row) (o : Option Choice)
    → (bytes_eq name id ≡ true → o ≡ None)
    → or_default (row_of_id id (with_default rows (rule_for (record { name = name; range = r })))) o
    ≡ or_default (row_of_id id rows)
    (cond (bytes_eq name id) (Some (record { name = name; range = r })) o)
default_step id name (Some r) rows o apart =
    ap (λ rs. or_default (row_of_id id rs) o) (cond_same (has_row name rows) rows)
    ∙ go (bytes_eq name id) refl
  where
    none : (a : Option Row)
        → or_default a None ≡ or_default a (Some (record { name = name; range = Some r }))
    none None = refl
    none (Some x) = refl

    go : (b : Bool) → bytes_eq name id ≡ b
        → or_default (row_of_id id rows) o
        ≡ or_default (row_of_id id rows) (cond b (Some (record { name = name; range = Some r })) o)
    go false e = refl
    go true e = rw (apart e) (none (row_of_id id rows))
default_step id name None rows o apart = has (has_row name rows) refl
  where
    used : (b : Bool) → bytes_eq name id ≡ b → has_row name rows ≡ true
        → or_default (row_of_id id rows) o
        ≡ or_default (row_of_id id rows) (cond b (Some (unused name)) o)
    used false e h = refl
    used true e h =
        let same : name ≡ id = (bytes_eq-Decides name id).0 e in
        some_row id rows o (Some (unused name)) (rw same at h)

    later : (b : Bool) → bytes_eq name id ≡ b → has_row name rows ≡ false
        → or_default (or_else_row (row_of_id id rows) (cond b (Some (new_row name)) None)) o
        ≡ or_default (row_of_id id rows) (cond b (Some (unused name)) o)
    later true e h =
        let same : name ≡ id = (bytes_eq-Decides name id).0 e in
        rw (no_row id rows (rw same at h)) refl
    later false e h = other (row_of_id id rows)
      where
        other : (a : Option Row) → or_default (or_else_row a None) o ≡ or_default a o
        other None = refl
        other (Some x) = refl

    has : (b : Bool) → has_row name rows ≡ b
        → or_default (row_of_id id (with_default rows (rule_for (unused name)))) o
        ≡ or_default (row_of_id id rows) (cond (bytes_eq name id) (Some (unused name)) o)
    has true h = rw h (used _ refl h)
    has false h = rw (
      h,
      at_new_row name (more_values DefaultValue (codes "false" ∷ []))
          (new_row name ∷ []) rows h,
    )
        (ap (λ a. or_default a o) (row_after id rows (new_row name)) ∙ later _ refl h)

pub finished_row : (t : List Choice) (id : Text) (rows : List Row) → are_apart t ≡ true
    → row_of_id id (fold with_default rows (rules t))
    ≡ or_default (row_of_id id rows) (choice_of t id)
finished_row [] id rows apart = or_nothing (row_of_id id rows)
finished_row (c ∷ t) id rows apart =
    finished_row t id (with_default rows (rule_for c)) (and_parts _ _ apart).1
    ∙ default_step id c.name c.range rows (choice_of t id) (λ e.
    let same : c.name ≡ id = (bytes_eq-Decides c.name id).0 e in
    rw same at (none_of (choice_of t c.name) (and_parts _ _ apart).0))
