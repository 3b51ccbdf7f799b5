-- What arguments of the shape of a value and of an option look like to `clap`.
use Rattle.std.proofs.Common.{◌≡◌, ◌≤◌, refl, sym, ℕ, Bool, cond, true, false, ◌&&◌, ◌==◌, [], ◌∷◌}
use Rattle.std.proofs.Common.{Some, None, arith, leb-true, ne_eqb}
use Rattle.std.specs.Prelude.{bytes_eq, nat_le, option_and_then}
use Rattle.std.specs.List.{list_all}
use Rattle.std.specs.Char.{is_ascii_digit}
use Rattle.std.proofs.lemmas.Bool.{and_parts, and_right, false≢true}
use Rattle.clap.specs.Lexer.{long_of, short_of}
use Rattle.command_line.specs.Line.{Text, after_byte, after_hyphens, is_value, name_of, value_of}
use Rattle.command_line.specs.Shaped.{is_option_rest}

-- an argument that clap takes for neither `--`, nor an option, nor flags
pub record IsPositionalArgument (argument : Text) : Type 0 where
  pub no_end : bytes_eq argument (45 ∷ 45 ∷ []) ≡ false
  pub no_long : long_of argument ≡ None
  pub no_short : short_of argument ≡ None
  pub no_option : after_hyphens argument ≡ None

not_hyphen : (x : ℕ) → 48 ≤ x → (x == 45) ≡ false
not_hyphen x least = ne_eqb x 45 (λ e. absurd (omega arith))

first_digit : (x : ℕ) (xs : Text) → is_value (x ∷ xs) ≡ true → (x == 45) ≡ false
first_digit x xs h =
    let digits : (is_ascii_digit x && list_all is_ascii_digit xs) ≡ true = (and_parts _ _ h).1 in
    let range : is_ascii_digit x ≡ true = (and_parts _ _ digits).0 in
    let first : nat_le 48 x ≡ true = (and_parts _ _ range).0 in
    not_hyphen x (leb-true 48 x first)

pub positional_argument_of : (argument : Text) → is_value argument ≡ true → IsPositionalArgument argument
positional_argument_of [] h = absurd (false≢true h)
positional_argument_of (x ∷ xs) h =
    let other = first_digit x xs h in
    record {
      no_end = rw other refl;
      no_long = rw other refl;
      no_short = rw other refl;
      no_option = rw other refl;
    }

-- an argument that is `--name` or `--name=value` to clap
pub record IsLongArgument (argument rest : Text) : Type 0 where
  pub no_end : bytes_eq argument (45 ∷ 45 ∷ []) ≡ false
  pub long : long_of argument ≡ Some (name_of rest, value_of rest)

not_empty : (rest : Text) → is_option_rest rest ≡ true → rest ≡ [] → ⊥
not_empty rest h e = false≢true (rw e at h)

long_rest : (argument rest : Text) → after_hyphens argument ≡ Some rest → is_option_rest rest ≡ true
    → long_of argument ≡ Some (name_of rest, value_of rest)
long_rest argument [] e h = absurd (false≢true h)
long_rest argument (r ∷ rest) e h = rw e refl

not_end : (argument rest : Text) → after_hyphens argument ≡ Some rest → (rest ≡ [] → ⊥)
    → bytes_eq argument (45 ∷ 45 ∷ []) ≡ false
not_end [] rest e n = refl
not_end (x ∷ []) rest e n = and_right _ _ refl
not_end (x ∷ y ∷ []) rest e n = go (x == 45) (y == 45) (step (x == 45) e)
  where
    step : (a : Bool) → option_and_then (after_byte 45) (cond a (Some (y ∷ [])) None) ≡ Some rest
        → cond a (cond (y == 45) (Some []) None) None ≡ Some rest
    step true h = h
    step false h = h

    some_injective : {v w : Text} → Some v ≡ Some w → v ≡ w
    some_injective h = cc

    go : (a b : Bool) → cond a (cond b (Some []) None) None ≡ Some rest → (a && (b && true)) ≡ false
    go true true h = absurd (n (sym (some_injective h)))
    go true false h = refl
    go false b h = refl
not_end (x ∷ y ∷ z ∷ w) rest e n = and_right _ _ (and_right _ _ refl)

pub long_argument_of : (argument rest : Text) → after_hyphens argument ≡ Some rest
    → is_option_rest rest ≡ true → IsLongArgument argument rest
long_argument_of argument rest e h =
    record {
      no_end = not_end argument rest e (not_empty rest h);
      long = long_rest argument rest e h;
    }
