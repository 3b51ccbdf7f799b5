use Rattle.std.proofs.Common.{◌≡◌, ◌∙◌, sym, ap, Bool, true, ℕ, Option, Some, None, rules}
use Rattle.std.specs.Prelude.{if◌then◌else◌}
use Rattle.std.specs.Result.{result_ok}
use Rattle.std.specs.Str.Parse.{digits_value}
use Rattle.job_spool.specs.Words.{is_number}
use Rattle.job_spool.proofs.Digits.{value_read}
use Rattle.job_spool.proofs.numbers.spelled.Goals as goal

pub returns-then-is_number : goal.returns-then-is_number
returns-then-is_number c =
    let t = c.args.text.now in
    let is : is_number t ≡ true = search rules in
    let some : Option ℕ = Some (digits_value 10 t) in
    c.ok.ensures.value ∙ ap result_ok (value_read t c.parse.result is c.parse.ensures.value.0) ∙ sym (ap (λ (b : Bool). if b then some else None) is)
