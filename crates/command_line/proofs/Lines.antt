-- What `clap` makes of the arguments of a line, against the uses that they spell.
use Rattle.std.proofs.Common.{◌≡◌, ◌∙◌, ◌⊎◌, inl, inr, refl, sym, ap, Bool, true, false, not, ◌||◌}
use Rattle.std.proofs.Common.{List, [], ◌∷◌, ◌++◌, Option, Some, None, append-nil, append_assoc}
use Rattle.std.specs.List.{fold, list_all, list_any}
use Rattle.std.specs.Prelude.{bytes_eq, option_map}
use Rattle.std.proofs.lemmas.Bool.{and_from, and_left, and_parts, and_right, false≢true, not-true}
use Rattle.std.proofs.lemmas.Bool.{true≢false}
use Rattle.std.proofs.lemmas.List.Folds.{list_any-append}
use Rattle.std.proofs.lemmas.Slice.Eq.{bytes_eq-Decides}
use Rattle.clap.specs.Kinds.{Kinds, or_else}
use Rattle.clap.specs.Faults.{settle_fault, turn_fault, walk_fault}
use Rattle.clap.specs.Walk.{Held, Row, Text, Walk, settled_rows, walked}
use Rattle.command_line.specs.Line.{Choice, Use, are_distinct, is_named, is_used, uses_from}
use Rattle.command_line.specs.Shaped.{is_shaped}
use Rattle.command_line.proofs.Rules.{rules, top}
use Rattle.command_line.proofs.States.{IsSpoiled, Stands, at, first_empty, open_is_spoiled}
use Rattle.command_line.proofs.States.{rows_for}
use Rattle.command_line.proofs.Steps.{Turn, goes_on, refused, repeats, spoiled_turn, spoils, takes}
use Rattle.command_line.proofs.Steps.{turn}

-- ---- no option twice

or_true : (a b : Bool) → (a || (true || b)) ≡ true
or_true true b = refl
or_true false b = refl

-- the name of one option, as a test from either side
same_name : (x y : Text) → bytes_eq x y ≡ true → bytes_eq y x ≡ true
same_name x y e = (bytes_eq-Decides y x).1 (sym ((bytes_eq-Decides x y).0 e))

other_name : (x y : Text) → bytes_eq x y ≡ false → bytes_eq y x ≡ false
other_name x y e = go (bytes_eq y x) refl
  where
    go : (b : Bool) → bytes_eq y x ≡ b → b ≡ false
    go false is = refl
    go true is = absurd (true≢false (sym (same_name y x is) ∙ e))

among : (name : Text) (u : Use) (us vs : List Use) → is_named name u ≡ true
    → list_any (is_named name) (us ++ u ∷ vs) ≡ true
among name u us vs e = list_any-append (is_named name) us (u ∷ vs)
    ∙ (ap (λ b. list_any (is_named name) us || (b || list_any (is_named name) vs)) e
    ∙ or_true _ (list_any (is_named name) vs))

not_among : (name : Text) (u : Use) (us : List Use) → is_used name us ≡ false
    → is_named name u ≡ false → list_any (is_named name) (us ++ u ∷ []) ≡ false
not_among name u us e n = list_any-append (is_named name) us (u ∷ []) ∙ rw (e, n) refl

-- an option that was used makes what follows no line
repeated : (u : Use) (us vs : List Use) → is_used u.choice.name us ≡ true
    → are_distinct (us ++ u ∷ vs) ≡ false
repeated u [] vs e = absurd (false≢true e)
repeated u (x ∷ us) vs e = go (bytes_eq x.choice.name u.choice.name) refl e (repeated u us vs)
  where
    go : (b : Bool) → bytes_eq x.choice.name u.choice.name ≡ b
        → (b || is_used u.choice.name us) ≡ true
        → (is_used u.choice.name us ≡ true → are_distinct (us ++ u ∷ vs) ≡ false)
        → are_distinct (x ∷ (us ++ u ∷ vs)) ≡ false
    go true is h rest =
        and_left _ _ (ap not
        (among x.choice.name u us vs (same_name x.choice.name u.choice.name is)))
    go false is h rest = and_right _ _ (rest h)

distinct_more : (u : Use) (us : List Use) → are_distinct us ≡ true
    → is_used u.choice.name us ≡ false → are_distinct (us ++ u ∷ []) ≡ true
distinct_more u [] d e = refl
distinct_more u (x ∷ us) d e =
    go (bytes_eq x.choice.name u.choice.name) refl e (distinct_more u us (and_parts _ _ d).1)
  where
    go : (b : Bool) → bytes_eq x.choice.name u.choice.name ≡ b
        → (b || is_used u.choice.name us) ≡ false
        → (is_used u.choice.name us ≡ false → are_distinct (us ++ u ∷ []) ≡ true)
        → are_distinct (x ∷ (us ++ u ∷ [])) ≡ true
    go true is h rest = absurd (true≢false h)
    go false is h rest =
        and_from _ _ (ap not
        (not_among x.choice.name u us (not-true _ (and_parts _ _ d).0)
        (other_name x.choice.name u.choice.name is))) (rest h)

-- ---- the walk

-- the kinds of the walk and of what is held at its end
abbrev pub walk_end : List Choice → Walk → List Text → Held
walk_end t w arguments = (fold (walked (rules t) []) w arguments).held

abbrev pub line_fault : List Choice → Walk → List Text → Kinds
line_fault t w arguments =
    or_else (walk_fault (top t) [] w arguments)
    (settle_fault (rules t) false (walk_end t w arguments))

abbrev pub line_rows : List Choice → Walk → List Text → List Row
line_rows t w arguments =
    settled_rows (rules t) (walk_end t w arguments).pending (walk_end t w arguments).rows

-- `clap` takes the arguments, and they spell uses of which each option has one
pub record Taken (t : List Choice) (us : List Use) (waiting : Option Choice) (h : Held)
    (arguments : List Text) : Type 0 where
  pub no_fault : line_fault t (at h waiting) arguments ≡ []
  pub more : List Use
  pub spelled : uses_from t waiting arguments ≡ Some more
  pub distinct : are_distinct (us ++ more) ≡ true
  pub rows : line_rows t (at h waiting) arguments ≡ rows_for (us ++ more)

-- `clap` refuses the arguments, and they spell nothing, or an option twice
pub record Refused (t : List Choice) (us : List Use) (waiting : Option Choice) (h : Held)
    (arguments : List Text) : Type 0 where
  pub fault : line_fault t (at h waiting) arguments ≡ [] → ⊥
  pub unspelled : (vs : List Use) → uses_from t waiting arguments ≡ Some vs
      → are_distinct (us ++ vs) ≡ false

abbrev pub Agrees : List Choice → List Use → Option Choice → Held → List Text → Type 0
Agrees t us waiting h arguments = Taken t us waiting h arguments ⊎ Refused t us waiting h arguments

or_assoc : (a b c : Kinds) → or_else (or_else a b) c ≡ or_else a (or_else b c)
or_assoc [] b c = refl
or_assoc (k ∷ ks) b c = refl

-- the fault of an argument comes before those of the rest
fault_next : (t : List Choice) (w : Walk) (argument : Text) (arguments : List Text)
    → line_fault t w (argument ∷ arguments)
    ≡ or_else (turn_fault (top t) [] w argument)
    (line_fault t (walked (rules t) [] w argument) arguments)
unfolding walk_fault
fault_next t w argument arguments = or_assoc (turn_fault (top t) [] w argument) _ _

fault_after : (t : List Choice) (w next : Walk) (argument : Text) (arguments : List Text)
    → turn_fault (top t) [] w argument ≡ [] → walked (rules t) [] w argument ≡ next
    → line_fault t w (argument ∷ arguments) ≡ line_fault t next arguments
fault_after t w next argument arguments none is = fault_next t w argument arguments
    ∙ rw (none, is) refl

fault_here : (t : List Choice) (w : Walk) (argument : Text) (arguments : List Text)
    → (turn_fault (top t) [] w argument ≡ [] → ⊥) → line_fault t w (argument ∷ arguments) ≡ [] → ⊥
fault_here t w argument arguments bad e =
    bad (first_empty _ _ (sym (fault_next t w argument arguments) ∙ e))

-- what can't be settled is refused at the next argument, or at the end
spoiled : (t : List Choice) (h : Held) (arguments : List Text) → list_all is_shaped arguments ≡ true
    → IsSpoiled t h → line_fault t (at h None) arguments ≡ [] → ⊥
unfolding walk_fault
spoiled t h [] ok bad e = bad e
spoiled t h (argument ∷ arguments) ok bad e =
    fault_here t (at h None) argument arguments
    (spoiled_turn t argument h (and_parts _ _ ok).0 bad) e

-- the uses of the rest, with one before them
first_use : (u : Use) (o : Option (List Use)) (vs : List Use)
    → option_map (λ us. u ∷ us) o ≡ Some vs → (ws : List Use) × (o ≡ Some ws) × (vs ≡ u ∷ ws)
first_use u None vs e = cc
first_use u (Some ws) vs e = (ws, refl, cc)

pub agrees : (t : List Choice) (us : List Use) (waiting : Option Choice) (h : Held)
    (arguments : List Text) → list_all is_shaped arguments ≡ true → are_distinct us ≡ true
    → Stands t us waiting h → Agrees t us waiting h arguments
unfolding walk_fault
agrees t us None h [] ok d s =
    inl (record {
      no_fault = s.passes;
      more = [];
      spelled = refl;
      distinct = rw append-nil d;
      rows = rw append-nil s.rows;
    })
agrees t us (Some c) h [] ok d s =
    inr (record { fault = open_is_spoiled t us c h s; unspelled = λ vs e. cc })
agrees t us waiting h (argument ∷ arguments) ok d s =
    go (turn t us waiting argument h (and_parts _ _ ok).0 s)
    (λ us w h. agrees t us w h arguments (and_parts _ _ ok).1)
  where
    go : Turn t us waiting argument h
        → ((us : List Use) (w : Option Choice) (h : Held) → are_distinct us ≡ true → Stands t us w h
        → Agrees t us w h arguments)
        → Agrees t us waiting h (argument ∷ arguments)
    go (refused bad part) rest = inr (record {
      fault = fault_here t (at h waiting) argument arguments bad;
      unspelled = λ vs e. let none : None ≡ Some vs = rw part at e in cc;
    })
    go (repeats bad u part again) rest = inr (record {
      fault = fault_here t (at h waiting) argument arguments bad;
      unspelled = λ vs e. let f = first_use u _ vs (rw part at e) in
          rw f.2 (repeated u us f.0 again);
    })
    go (spoils after none is bad u part again) rest = inr (record {
      fault = λ e. spoiled t after arguments (and_parts _ _ ok).1 bad
          (sym (fault_after t (at h waiting) (at after None) argument arguments none is) ∙ e);
      unspelled = λ vs e. let f = first_use u _ vs (rw part at e) in
          rw f.2 (repeated u us f.0 again);
    })
    go (goes_on after none c is opened part) rest = elim (rest us (Some c) after d opened) [
      | inl y ↦ inl (record {
        no_fault = fault_after t (at h waiting) (at after (Some c)) argument arguments none is
            ∙ y.no_fault;
        more = y.more;
        spelled = rw part y.spelled;
        distinct = y.distinct;
        rows = ap (λ w. line_rows t w arguments) is ∙ y.rows;
      })
      | inr n ↦ inr (record {
        fault = λ e. n.fault
            (sym (fault_after t (at h waiting) (at after (Some c)) argument arguments none is) ∙ e);
        unspelled = λ vs e. n.unspelled vs (rw part at e);
      })
    ]
    go (takes after none is u idle part new) rest =
        elim (rest (us ++ u ∷ []) None after (distinct_more u us d new) idle) [
          | inl y ↦ inl (record {
            no_fault = fault_after t (at h waiting) (at after None) argument arguments none is
                ∙ y.no_fault;
            more = u ∷ y.more;
            spelled = rw (part, y.spelled) refl;
            distinct = rw append_assoc at y.distinct;
            rows = ap (λ w. line_rows t w arguments) is ∙ y.rows
                ∙ ap rows_for (append_assoc us (u ∷ []) y.more);
          })
          | inr n ↦ inr (record {
            fault = λ e. n.fault
                (sym (fault_after t (at h waiting) (at after None) argument arguments none is) ∙ e);
            unspelled = λ vs e. let f = first_use u _ vs (rw part at e) in
                rw (f.2, ← append_assoc us (u ∷ []) f.0) (n.unspelled f.0 f.1);
          })
        ]
