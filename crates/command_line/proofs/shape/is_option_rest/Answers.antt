use Rattle.std.proofs.Common.{◌≡◌, ◌∙◌, ◌+◌, ◌-◌, sym, ap, ℕ, length, drop, take, arith}
use Rattle.std.proofs.lemmas.Grind.{common_steps}
use Rattle.command_line.specs.Line.{Text, is_value}
use Rattle.command_line.proofs.Places.{rest_by_place}
use Rattle.command_line.proofs.shape.is_option_rest.Goals as goal

to_end : (xs : Text) (n : ℕ) → take (length xs - n) (drop n xs) ≡ drop n xs
to_end xs n = grind (arith, common_steps)

pub returns-then-at-rest : goal.returns-then-at-rest
returns-then-at-rest c =
    c.is_value.ensures ∙ ap is_value (to_end c.args.rest.now (c.in-Some.at + 1))
    ∙ sym (rest_by_place c.args.rest.now _ (sym c.if-is_empty.ensures) (sym c.in-Some.ensures))

pub returns-in-None : goal.returns-in-None
returns-in-None c =
    sym (rest_by_place c.args.rest.now _ (sym c.if-is_empty.ensures) (sym c.in-None.ensures))
