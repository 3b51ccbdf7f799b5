use Rattle.std.proofs.Common.{◌∙◌, ◌+◌, ◌-◌, ◌*◌, ◌++◌, ap, sym, arith}
use Rattle.std.proofs.lemmas.Result.{on_ok_weaker}
use Rattle.pk_packer.specs.Held.{nybbles_written}
use Rattle.pk_packer.specs.Spelling.{long_text}
use Rattle.pk_packer.proofs.HeldBytes.{one_byte}
use Rattle.pk_packer.proofs.Spelled.{many_nybbles, one_nybble, two_nybbles}
use Rattle.pk_packer.proofs.writer.write_number.Goals as goal

pub returns-then-n-from-clause-written : goal.returns-then-n-from-clause-written
returns-then-n-from-clause-written c =
    on_ok_weaker c.push.result (λ e. e ∙ ap (λ l. nybbles_written c.args.out.now ++ l) (sym (one_nybble c.args.dyn_f c.args.n (omega (arith, c.if-n-from.true, c.from.ensures))))) c.push.ensures.written

pub returns-then-n-greatest_short-clause-written : goal.returns-then-n-greatest_short-clause-written
returns-then-n-greatest_short-clause-written c =
    on_ok_weaker c.push_byte.result
    (λ e. e ∙ ap (λ l. nybbles_written c.args.out.now ++ l)
    (one_byte c.args.dyn_f c.args.n (c.args.n - c.from-then-n-greatest_short.result - 1 + 16 * (c.args.dyn_f + 1)) (omega (arith, c.from-then-n-greatest_short.ensures))
    ∙ sym (two_nybbles c.args.dyn_f c.args.n (omega (arith, c.if-n-from.false, c.from.ensures)) (omega (arith, c.if-n-greatest_short.true, c.greatest_short.ensures.value)))))
    c.push_byte.ensures.written

pub returns-else-n-greatest_short-clause-written : goal.returns-else-n-greatest_short-clause-written
returns-else-n-greatest_short-clause-written c =
    on_ok_weaker c.write_long.result
    (λ e. e ∙ ap (λ v. nybbles_written c.args.out.now ++ long_text v) c.long_value.ensures.value
    ∙ ap (λ l. nybbles_written c.args.out.now ++ l) (sym (many_nybbles c.args.dyn_f c.args.n (omega (arith, c.if-n-from.false, c.from.ensures)) (omega (arith, c.if-n-greatest_short.false, c.greatest_short.ensures.value)))))
    c.write_long.ensures.written
