-- The first `=` of an argument.
use Rattle.std.proofs.Common.{◌≡◌, ◌∙◌, ◌+◌, ◌==◌, refl, sym, ap, ℕ, Bool, cond, true, false, List}
use Rattle.std.proofs.Common.{[], ◌∷◌, length, suc, drop, Option, Some, None, arith, nat_lt, lt-ltb}
use Rattle.std.specs.List.{list_any, position, position_or_len}
use Rattle.std.specs.Option.{option_map_or}
use Rattle.std.proofs.lemmas.Bool.{true≢false}
use Rattle.std.proofs.lemmas.Bool.Decides.{nat_tests}
use Rattle.command_line.specs.Line.{Text, is_value, value_of}
use Rattle.command_line.specs.Shaped.{is_option_rest}

one_more : (a b : ℕ) → nat_lt a b ≡ nat_lt (1 + a) (suc b)
one_more a b = grind (arith, nat_tests)

any_place : (p : ℕ → Bool) (xs : List ℕ) → list_any p xs ≡ nat_lt (position_or_len p xs) (length xs)
any_place p [] = refl
any_place p (x ∷ xs) = go (p x) refl (any_place p xs)
  where
    go : (b : Bool) → p x ≡ b → list_any p xs ≡ nat_lt (position_or_len p xs) (length xs)
        → list_any p (x ∷ xs) ≡ nat_lt (position_or_len p (x ∷ xs)) (length (x ∷ xs))
    go true e rest = rw e (sym (lt-ltb 0 (suc (length xs)) (omega arith)))
    go false e rest = rw e (rest ∙ one_more (position_or_len p xs) (length xs))

abbrev is_equals : ℕ → Bool
is_equals x = x == 61

rest_at : (rest : Text)
    → option_map_or is_value (value_of rest) true
    ≡ option_map_or (λ i. is_value (drop (i + 1) rest)) (position is_equals rest) true
rest_at rest =
    rw (any_place is_equals rest) (go (nat_lt (position_or_len is_equals rest) (length rest)))
  where
    go : (b : Bool)
        → option_map_or is_value
        (cond b (Some (drop (position_or_len is_equals rest + 1) rest)) None) true
        ≡ option_map_or (λ i. is_value (drop (i + 1) rest))
        (cond b (Some (position_or_len is_equals rest)) None) true
    go true = refl
    go false = refl

pub rest_by_place : (rest : Text) (o : Option ℕ) → (length rest == 0) ≡ false
    → position is_equals rest ≡ o
    → is_option_rest rest ≡ option_map_or (λ i. is_value (drop (i + 1) rest)) o true
rest_by_place [] o n e = absurd (true≢false n)
rest_by_place (x ∷ rest) o n e = rest_at (x ∷ rest)
    ∙ ap (λ p. option_map_or (λ i. is_value (drop (i + 1) (x ∷ rest))) p true) e
