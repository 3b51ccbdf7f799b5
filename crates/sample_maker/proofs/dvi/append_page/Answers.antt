use Rattle.std.proofs.Common.{◌≡◌, List, ℕ, pos, to_z, w32, subst, arith}
use Rattle.std.specs.Prelude.{OnOk}
use Rattle.std.proofs.lemmas.Int.{ints}
use Rattle.dvi_commands.proofs.Motions.{stored}
use Rattle.sample_maker.proofs.Appended.{page_joined}
use Rattle.sample_maker.proofs.dvi.append_page.Goals as goal

pub returns : goal.returns
returns c =
    let number : to_z w32 c.args.number ≡ pos c.args.number = omega (arith, ints) in
    let back : stored c.args.back ≡ c.args.back = omega (arith, ints) in
    subst (λ (x : List ℕ). OnOk c.write_command-2.result (c.write_command-2.new.out.items ≡ x))
    (page_joined c.args.out.now.items _ _ c.args.body.now c.args.number c.args.back _ _ number back c.in_ok-write_command.ensures.written c.in_ok-extend_from_slice.ensures.items)
    c.write_command-2.ensures.written
