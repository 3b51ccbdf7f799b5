-- A value in the next argument is as one after `=`.
use Rattle.std.proofs.Common.{◌≡◌, ◌||◌, ◌&&◌, ◌==◌, ℕ, zero, suc, Bool, cond, true, false}
use Rattle.std.proofs.Common.{not}
use Rattle.std.proofs.Common.{List, [], ◌∷◌, ◌++◌, length, Option, Some, None, refl, ap, arith}
use Rattle.std.specs.Prelude.{bytes_eq, codes, nat_le, option_and_then}
use Rattle.std.specs.List.{list_all, list_any}
use Rattle.std.proofs.lemmas.Bool.{and_parts, and_right, not-true, true≢false}
use Rattle.clap.proofs.CutLemmas.{Lacks, after_first-at, before_first-Lacks, before_first-at}
use Rattle.clap.proofs.CutLemmas.{list_any-at}
use Rattle.command_line.specs.Line.{Choice, Text, choice_of, choices, number_in, opens, part_of_argument}
use Rattle.command_line.specs.Line.{settings_among, settings_of, stray, use_before, uses_from}
use Rattle.command_line.specs.Line.{waiting_after, with_value}

abbrev is_equals : ℕ → Bool
is_equals x = x == 61

-- the name of an option of the table has no `=`
plain_name : (t : List Choice) (name : Text) (c : Choice)
    → list_all (λ (d : Choice). not (list_any is_equals d.name)) t ≡ true
    → choice_of t name ≡ Some c
    → list_any is_equals c.name ≡ false
plain_name [] name c h e = cc
plain_name (d ∷ t) name c h e =
    go (bytes_eq d.name name) e (plain_name t name c (and_parts _ _ h).1)
  where
    go : (b : Bool) → cond b (Some d) (choice_of t name) ≡ Some c
        → (choice_of t name ≡ Some c → list_any is_equals c.name ≡ false)
        → list_any is_equals c.name ≡ false
    go true e rest =
        let is : d ≡ c = cc in
        rw (← is) (not-true _ (and_parts _ _ h).0)
    go false e rest = rest e

lacks : (xs : Text) → list_any is_equals xs ≡ false → Lacks 61 xs
lacks [] h i lt = absurd (omega (arith, lt))
lacks (x ∷ xs) h i lt = go (x == 61) refl h (lacks xs) i lt
  where
    go : (b : Bool) → (x == 61) ≡ b → (b || list_any is_equals xs) ≡ false
        → (list_any is_equals xs ≡ false → Lacks 61 xs) → Lacks 61 (x ∷ xs)
    go true is h rest i lt = absurd (true≢false h)
    go false is h rest zero lt = λ e. true≢false (rw e at is)
    go false is h rest (suc i) lt = rest h i (omega (arith, lt))

-- no value begins with a hyphen
no_value : (c : Choice) (text : Text) → with_value c (45 ∷ text) ≡ stray
no_value c text =
    let short = nat_le 1 (length (45 ∷ text)) && nat_le (length (45 ∷ text)) 10 in
    rw (and_right short false refl) refl

module _ (t : List Choice) (name : Text) (least most : ℕ)
    (found : choice_of t name ≡ Some (number_in name least most))
    (plain : list_any is_equals name ≡ false) where
  abbrev it : Choice
  it = number_in name least most

  abbrev joined : Text → Text
  joined value = 45 ∷ 45 ∷ (name ++ 61 ∷ value)

  part_joined : (value : Text) → part_of_argument t None (joined value) ≡ with_value it value
  part_joined value =
      let l = lacks name plain in
      rw (
        before_first-at 61 name value l,
        list_any-at 61 name value,
        after_first-at 61 name value
            l,
        found,
      ) refl

  part_apart : part_of_argument t None (45 ∷ 45 ∷ name) ≡ opens it
  part_apart = rw (before_first-Lacks 61 name (lacks name plain), plain, found) refl

  uses_alike : (waiting : Option Choice) (before after : List Text) (value : Text)
      → uses_from t waiting (before ++ joined value ∷ after)
      ≡ uses_from t waiting (before ++ (45 ∷ 45 ∷ name) ∷ value ∷ after)
  uses_alike None [] after value = rw (part_joined value, part_apart) refl
  uses_alike (Some c) [] after value =
      rw (no_value c (45 ∷ (name ++ 61 ∷ value)), no_value c (45 ∷ name)) refl
  uses_alike waiting (x ∷ before) after value =
      ap (use_before (part_of_argument t waiting x))
      (uses_alike (waiting_after (part_of_argument t waiting x)) before after value)

pub alike : (name : Text) (least most : ℕ)
    → choice_of choices name ≡ Some (number_in name least most)
    → (workers : ℕ) (before after : List Text) (value : Text)
    → settings_of workers (before ++ (codes "--" ++ name ++ 61 ∷ value) ∷ after)
    ≡ settings_of workers (before ++ (codes "--" ++ name) ∷ value ∷ after)
unfolding settings_of
alike name least most found workers before after value =
    let plain = plain_name choices name _ refl found in
    ap (option_and_then (settings_among workers))
    (uses_alike choices name least most found plain None before after value)
