use Rattle.std.proofs.Common.{◌∙◌, sym, ap}
use Rattle.std.specs.Prelude.{option_map}
use Rattle.std.specs.Result.{result_ok}
use Rattle.std.specs.Str.Parse.{digits_value}
use Rattle.command_line.proofs.Digits.{long_value_read}
use Rattle.command_line.proofs.matches.long_number.Goals as goal

pub returns-in-Some : goal.returns-in-Some
returns-in-Some c =
    let t = c.in-Some.text.now in
    let is = long_value_read t c.parse.result
    (c.requires t (sym c.in-Some.ensures)) c.parse.ensures.value.0 in
    c.ok.ensures.value ∙ ap result_ok is ∙ ap (option_map (digits_value 10)) c.in-Some.ensures
