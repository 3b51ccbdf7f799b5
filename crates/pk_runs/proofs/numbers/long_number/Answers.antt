use Rattle.std.proofs.Common.{◌≡◌, ◌∙◌, ◌+◌, ◌*◌, ◌-◌, ◌^◌, min, ap, arith}
use Rattle.pk_runs.proofs.Hex.{cut_in_zeros, cut_in_digits, long_is_whole, long_is_large}
use Rattle.pk_runs.proofs.numbers.long_number.Goals as goal

pub returns-in_err-zeros : goal.returns-in_err-zeros
returns-in_err-zeros c = rw c.from_residual.ensures (cut_in_zeros c.args.dyn_f c.in_err-zeros.ensures.0 c.args.nybbles.now c.in_err-zeros.ensures.1)

pub returns-in_err-value : goal.returns-in_err-value
returns-in_err-value c = rw c.from_residual-in_err-value.ensures
    (cut_in_digits c.args.dyn_f c.in_ok-zeros.zeros.count c.in_ok-zeros.zeros.after c.args.nybbles.now c.pass_zeros.new.nybbles c.in_ok-zeros.ensures.1 c.in_ok-zeros.ensures.0 c.in_err-value.ensures)

pub overflow_sub-value : goal.overflow_sub-value
overflow_sub-value c =
    let p = long_is_large c.in_ok-zeros.zeros.count c.in_ok-zeros.zeros.after c.in_ok-value.value c.in_ok-value.ensures.0 c.in_ok-zeros.ensures.1 c.in_ok-value.ensures.1 c.in_ok-value.ensures.3 in
    omega (arith, p.0)

pub returns : goal.returns
returns c =
    let p = long_is_whole c.args.dyn_f c.in_ok-zeros.zeros.count c.in_ok-zeros.zeros.after c.in_ok-value.value c.args.nybbles.now c.pass_zeros.new.nybbles c.digits.new.nybbles c.in_ok-value.ensures.0
    c.requires c.in_ok-zeros.ensures.1 c.in_ok-zeros.ensures.0 c.in_ok-value.ensures.1 c.in_ok-value.ensures.2 c.in_ok-value.ensures.3 in
    let sum : c.in_ok-value.value - 15 + c.from.result * 16 + c.from-2.result ≡ c.in_ok-value.value - 15 + (13 - c.args.dyn_f) * 16 + c.args.dyn_f = omega (arith, c.from.ensures, c.from-2.ensures) in
    (p.0, p.1, p.2, p.3, c.min.ensures ∙ ap (λ v. min v (2 ^ 32 - 1)) sum ∙ p.4)
