use Rattle.std.proofs.Common.{◌≡◌, ◌∙◌, ◌++◌, List, ℕ, ℤ, ap, subst, arith}
use Rattle.std.specs.Prelude.{OnOk}
use Rattle.std.proofs.lemmas.Int.{ints}
use Rattle.dvi_commands.proofs.Motions.{stored}
use Rattle.sample_maker.specs.VfFile.{long_packet, short_packet}
use Rattle.sample_maker.proofs.VfItems.{long_form, short_form}
use Rattle.sample_maker.proofs.vf.append_packet.Goals as goal

pub returns-then-commands-le241 : goal.returns-then-commands-le241
returns-then-commands-le241 c =
    let width : stored c.args.width ≡ c.args.width = omega (arith, ints) in
    subst (λ (x : List ℕ). OnOk c.append_short.result (c.append_short.new.out.items ≡ c.args.out.now.items ++ x))
    (ap (λ (w : ℤ). short_packet (c.args.code, w, c.args.commands.now)) width ∙ short_form (c.args.code, c.args.width, c.args.commands.now) c.if-commands-le241.true) c.append_short.ensures

pub returns-else-commands-le241 : goal.returns-else-commands-le241
returns-else-commands-le241 c =
    let width : stored c.args.width ≡ c.args.width = omega (arith, ints) in
    subst (λ (x : List ℕ). OnOk c.append_long.result (c.append_long.new.out.items ≡ c.args.out.now.items ++ x))
    (ap (λ (w : ℤ). long_packet (c.args.code, w, c.args.commands.now)) width ∙ long_form (c.args.code, c.args.width, c.args.commands.now) c.if-commands-le241.false) c.append_long.ensures
