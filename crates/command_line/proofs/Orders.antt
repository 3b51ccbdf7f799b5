-- Options that stand side by side may change places.
use Rattle.std.proofs.Common.{◌≡◌, ◌∙◌, ◌||◌, ◌&&◌, ◌++◌, ℕ, Bool, cond, true, false, not, List, []}
use Rattle.std.proofs.Common.{◌∷◌, Option, Some, None, codes, refl, sym, ap, ap₂}
use Rattle.std.specs.Prelude.{bytes_eq, find, min, nat_le, option_and_then, option_map, unwrap_or}
use Rattle.std.specs.Prelude.{◌*◌, ◌/◌, length}
use Rattle.std.specs.List.{list_all, list_any}
use Rattle.std.specs.Option.{option_map_or}
use Rattle.std.specs.Str.Parse.{digits_value}
use Rattle.std.proofs.lemmas.Bool.{and_parts, true≢false}
use Rattle.std.proofs.lemmas.Slice.Eq.{bytes_eq-Decides}
use Rattle.raster_page.specs.Limits.{MAX_PAGE_SIDE}
use Rattle.command_line.specs.declared.settings.Settings.{Settings}
use Rattle.command_line.specs.Line.{has_sample, Choice, Part, Text, Use, are_distinct, choices, is_named}
use Rattle.command_line.specs.Line.{is_used}
use Rattle.command_line.specs.Limits.{MAX_ROOM}
use Rattle.command_line.specs.Line.{is_within, most_digits, opens, part_of_argument, settings_among}
use Rattle.command_line.specs.Line.{settings_of}
use Rattle.command_line.specs.Line.{stray, use_before, uses_from, uses_of, waiting_after, whole}

-- ---- the uses of arguments that stand one after another

-- these arguments have the uses vs before those of the rest
abbrev HasBefore : List Choice → Option Choice → List Text → List Use → List Text → Type 0
HasBefore t waiting arguments vs rest =
    uses_from t waiting arguments ≡ option_map (λ ws. vs ++ ws) (uses_from t None rest)

one_more : (u : Use) (us : List Use) (rest : Option (List Use))
    → option_map (λ vs. u ∷ vs) (option_map (λ vs. us ++ vs) rest)
    ≡ option_map (λ vs. u ∷ (us ++ vs)) rest
one_more u us None = refl
one_more u us (Some vs) = refl

no_more : (rest : Option (List Use)) → rest ≡ option_map (λ vs. [] ++ vs) rest
no_more None = refl
no_more (Some vs) = refl

uses_append : (t : List Choice) (waiting : Option Choice) (a b : List Text) (us : List Use)
    → uses_from t waiting a ≡ Some us → HasBefore t waiting (a ++ b) us b
uses_append t None [] b us e = let is : [] ≡ us = cc in rw (← is) (no_more (uses_from t None b))
uses_append t (Some c) [] b us e = cc
uses_append t waiting (x ∷ a) b us e = go (part_of_argument t waiting x) e (λ w vs. uses_append t w a b vs)
  where
    go : (p : Part) → use_before p (uses_from t (waiting_after p) a) ≡ Some us
        → ((w : Option Choice) (vs : List Use) → uses_from t w a ≡ Some vs
        → HasBefore t w (a ++ b) vs b)
        → use_before p (uses_from t (waiting_after p) (a ++ b))
        ≡ option_map (λ ws. us ++ ws) (uses_from t None b)
    go stray e rest = cc
    go (opens c) e rest = rest (Some c) us e
    go (whole u) e rest = last (uses_from t None a) e (rest None)
      where
        last : (o : Option (List Use)) → option_map (λ vs. u ∷ vs) o ≡ Some us
            → ((vs : List Use) → o ≡ Some vs → HasBefore t None (a ++ b) vs b)
            → option_map (λ vs. u ∷ vs) (uses_from t None (a ++ b))
            ≡ option_map (λ ws. us ++ ws) (uses_from t None b)
        last None e rest = cc
        last (Some vs) e rest =
            let is : u ∷ vs ≡ us = cc in
            rw (← is) (ap (option_map (λ ws. u ∷ ws)) (rest vs refl)
            ∙ one_more u vs (uses_from t None b))

-- ---- what two uses in either order have in common

same_name : (x y : Text) → bytes_eq x y ≡ bytes_eq y x
same_name x y = go (bytes_eq x y) (bytes_eq y x) refl refl
  where
    go : (a b : Bool) → bytes_eq x y ≡ a → bytes_eq y x ≡ b → a ≡ b
    go true true e f = refl
    go false false e f = refl
    go true false e f = sym ((bytes_eq-Decides y x).1 (sym ((bytes_eq-Decides x y).0 e))) ∙ f
    go false true e f = sym e ∙ (bytes_eq-Decides x y).1 (sym ((bytes_eq-Decides y x).0 f))

either_first : (p q r : Bool) → (p || (q || r)) ≡ (q || (p || r))
either_first true true r = refl
either_first true false r = refl
either_first false q r = refl

any_alike : (p : Use → Bool) (us : List Use) (u v : Use) (vs : List Use)
    → list_any p (us ++ u ∷ v ∷ vs) ≡ list_any p (us ++ v ∷ u ∷ vs)
any_alike p [] u v vs = either_first (p u) (p v) (list_any p vs)
any_alike p (x ∷ us) u v vs = ap (λ b. p x || b) (any_alike p us u v vs)

distinct_two : (p a b d : Bool)
    → (not (p || a) && (not b && d)) ≡ (not (p || b) && (not a && d))
distinct_two true a b d = refl
distinct_two false true true d = refl
distinct_two false true false d = refl
distinct_two false false true d = refl
distinct_two false false false d = refl

distinct_alike : (us : List Use) (u v : Use) (vs : List Use)
    → are_distinct (us ++ u ∷ v ∷ vs) ≡ are_distinct (us ++ v ∷ u ∷ vs)
distinct_alike [] u v vs =
    rw (same_name v.choice.name u.choice.name)
    (distinct_two (bytes_eq u.choice.name v.choice.name) (list_any (is_named u.choice.name) vs)
    (list_any (is_named v.choice.name) vs) (are_distinct vs))
distinct_alike (x ∷ us) u v vs =
    ap₂ (λ a b. not a && b) (any_alike (is_named x.choice.name) us u v vs)
    (distinct_alike us u v vs)

-- where no option is used twice, the two uses have two names
two_names : (us : List Use) (u v : Use) (vs : List Use) → are_distinct (us ++ u ∷ v ∷ vs) ≡ true
    → bytes_eq u.choice.name v.choice.name ≡ false
two_names [] u v vs h =
    same_name u.choice.name v.choice.name
    ∙ go (bytes_eq v.choice.name u.choice.name) (and_parts _ _ h).0
  where
    go : (b : Bool) → not (b || list_any (is_named u.choice.name) vs) ≡ true → b ≡ false
    go true e = sym e
    go false e = refl
two_names (x ∷ us) u v vs h = two_names us u v vs (and_parts _ _ h).1

find_alike : (name : Text) (us : List Use) (u v : Use) (vs : List Use)
    → bytes_eq u.choice.name v.choice.name ≡ false
    → find (is_named name) (us ++ u ∷ v ∷ vs) ≡ find (is_named name) (us ++ v ∷ u ∷ vs)
find_alike name [] u v vs apart = go (is_named name u) (is_named name v) refl refl
  where
    go : (a b : Bool) → is_named name u ≡ a → is_named name v ≡ b
        → cond a (Some u) (cond b (Some v) (find (is_named name) vs))
        ≡ cond b (Some v) (cond a (Some u) (find (is_named name) vs))
    go true true e f =
        let first : u.choice.name ≡ name = (bytes_eq-Decides u.choice.name name).0 e in
        let second : v.choice.name ≡ name = (bytes_eq-Decides v.choice.name name).0 f in
        let same = (bytes_eq-Decides u.choice.name v.choice.name).1 (first ∙ sym second) in
        absurd (true≢false (sym same ∙ apart))
    go true false e f = refl
    go false true e f = refl
    go false false e f = refl
find_alike name (x ∷ us) u v vs apart =
    ap (λ o. cond (is_named name x) (Some x) o) (find_alike name us u v vs apart)

-- ---- settings by what each name has

abbrev number_by : (Text → Option Use) → Text → Option ℕ
number_by finds name = option_map (λ u. digits_value 10 u.value) (finds name)

abbrev chosen_by : ℕ → Bool → (Text → Option Use) → (Text → Bool) → Option Settings
chosen_by workers distinct finds used =
    let numbers : (Text → Option ℕ) = number_by finds in
    let res = unwrap_or (numbers (codes "res")) 300 in
    cond (distinct
    && list_all (λ (c : Choice).
    option_map_or (λ r. option_map_or (λ (u : Use). nat_le (length u.value) (most_digits r.1))
    (finds c.name) true) c.range true) choices
    && list_all (λ (c : Choice).
    option_map_or (λ r. is_within r.0 r.1 (numbers c.name)) c.range true) choices
    && nat_le (unwrap_or (numbers (codes "workers")) 1) workers
    && has_sample (used (codes "packed")) (numbers (codes "sample")))
    (Some (record {
      res = res;
      sheet = record {
        width = unwrap_or (numbers (codes "width")) (min MAX_PAGE_SIDE (17 * res / 2));
        height = unwrap_or (numbers (codes "height")) (min MAX_PAGE_SIDE (11 * res));
        left = unwrap_or (numbers (codes "left")) res;
        top = unwrap_or (numbers (codes "top")) res;
        tolerant = used (codes "tolerant");
      };
      workers = unwrap_or (numbers (codes "workers")) 1;
      cache = unwrap_or (numbers (codes "cache")) 16;
      room = unwrap_or (numbers (codes "room")) MAX_ROOM;
      sample = numbers (codes "sample");
      packed = used (codes "packed");
      trace = used (codes "trace");
      summary = used (codes "summary");
    })) None

by_names : (workers : ℕ) (us : List Use) → settings_among workers us
    ≡ chosen_by workers (are_distinct us) (λ name. find (is_named name) us)
    (λ name. is_used name us)
by_names workers us = refl

among_alike : (workers : ℕ) (us : List Use) (u v : Use) (vs : List Use)
    → settings_among workers (us ++ u ∷ v ∷ vs) ≡ settings_among workers (us ++ v ∷ u ∷ vs)
among_alike workers us u v vs = go (are_distinct (us ++ u ∷ v ∷ vs)) refl
  where
    go : (d : Bool) → are_distinct (us ++ u ∷ v ∷ vs) ≡ d
        → settings_among workers (us ++ u ∷ v ∷ vs) ≡ settings_among workers (us ++ v ∷ u ∷ vs)
    go false e =
        let other : are_distinct (us ++ v ∷ u ∷ vs) ≡ false = sym (distinct_alike us u v vs) ∙ e in
        rw (e, other) refl
    go true e =
        let apart = two_names us u v vs e in
        λ i. chosen_by workers (distinct_alike us u v vs i)
        (λ name. find_alike name us u v vs apart i)
        (λ name. any_alike (is_named name) us u v vs i)

-- ---- two options

after_two : (workers : ℕ) (us : List Use) (u v : Use) (rest : Option (List Use))
    → option_and_then (settings_among workers) (option_map (λ vs. us ++ vs)
    (option_map (λ vs. (u ∷ []) ++ vs) (option_map (λ vs. (v ∷ []) ++ vs) rest)))
    ≡ option_and_then (settings_among workers) (option_map (λ vs. us ++ vs)
    (option_map (λ vs. (v ∷ []) ++ vs) (option_map (λ vs. (u ∷ []) ++ vs) rest)))
after_two workers us u v None = refl
after_two workers us u v (Some vs) = among_alike workers us u v vs

uses_of_four : (before first second after : List Text) (us ws vs : List Use)
    → uses_of before ≡ Some us → uses_of first ≡ Some ws → uses_of second ≡ Some vs
    → uses_of (before ++ (first ++ (second ++ after))) ≡ option_map (λ xs. us ++ xs)
    (option_map (λ xs. ws ++ xs) (option_map (λ xs. vs ++ xs) (uses_of after)))
uses_of_four before first second after us ws vs b f s =
    uses_append choices None before (first ++ (second ++ after)) us b
    ∙ ap (option_map (λ xs. us ++ xs)) (uses_append choices None first (second ++ after) ws f
    ∙ ap (option_map (λ xs. ws ++ xs)) (uses_append choices None second after vs s))

pub any_order : (before first second after : List Text) (us : List Use) (u v : Use)
    → uses_of before ≡ Some us → uses_of first ≡ Some (u ∷ []) → uses_of second ≡ Some (v ∷ [])
    → (workers : ℕ) → settings_of workers (before ++ (first ++ (second ++ after)))
    ≡ settings_of workers (before ++ (second ++ (first ++ after)))
unfolding settings_of
any_order before first second after us u v b f s workers =
    let settings = option_and_then (settings_among workers) in
    ap settings (uses_of_four before first second after us (u ∷ []) (v ∷ []) b f s)
    ∙ (after_two workers us u v (uses_of after)
    ∙ sym (ap settings (uses_of_four before second first after us (v ∷ []) (u ∷ []) b s f)))
