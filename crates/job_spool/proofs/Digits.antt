-- Numbers of seven digits.
use Rattle.std.proofs.Common.{◌≡◌, ◌<◌, ◌≤◌, ◌^◌, ℕ, true, length, Result, Ok, arith, rules, leb-true}
use Rattle.std.specs.List.{list_all}
use Rattle.std.specs.Char.{is_ascii_digit}
use Rattle.std.specs.Str.Parse.{ParsesUnsigned, digits_value}
use Rattle.std.proofs.lemmas.Bool.{and_parts}
use Rattle.std.proofs.lemmas.Str.Parse.{IsDigitsTest, IsNumeralModel, digits_value_short, numerals_by_value, parse_gives}
use Rattle.job_spool.specs.Words.{Text, is_number}

abbrev pub AreDigits : Text → Type 0
AreDigits ds = list_all is_ascii_digit ds ≡ true

tells_digits : IsDigitsTest AreDigits
tells_digits = search rules

pub own : IsNumeralModel AreDigits (digits_value 10)
own = numerals_by_value AreDigits tells_digits

pub value_read : {E : Type 0} (t : Text) (r : Result ℕ E) → is_number t ≡ true → ParsesUnsigned 32 10 t r → r ≡ Ok (digits_value 10 t)
value_read t r v h =
    let parts = and_parts _ _ v in
    let sizes = and_parts _ _ parts.0 in
    let some : 1 ≤ length t = leb-true 1 (length t) sizes.0 in
    let few : length t ≤ 7 = leb-true (length t) 7 sizes.1 in
    let small : digits_value 10 t < 10 ^ 7 = digits_value_short own t 7 parts.1 few in
    let fits : digits_value 10 t < 2 ^ 32 = omega arith in
    parse_gives own 32 t r h parts.1 some fits
