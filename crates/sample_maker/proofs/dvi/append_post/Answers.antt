use Rattle.std.proofs.Common.{◌≡◌, ◌++◌, List, ℕ, pos, to_z, w32, refl, subst, arith}
use Rattle.std.specs.Prelude.{OnOk}
use Rattle.std.proofs.lemmas.Int.{ints}
use Rattle.dvi_commands.proofs.Motions.{stored}
use Rattle.sample_maker.proofs.Appended.{postamble_same}
use Rattle.sample_maker.proofs.dvi.append_post.Goals as goal

pub returns : goal.returns
returns c =
    let u = c.args.units.now in
    let num : to_z w32 u.num ≡ pos u.num = omega (arith, ints, c.requires.num) in
    let den : to_z w32 u.den ≡ pos u.den = omega (arith, ints, c.requires.den) in
    let mag : to_z w32 u.mag ≡ pos u.mag = omega (arith, ints, c.requires.mag) in
    let back : stored c.args.back ≡ c.args.back = omega (arith, ints) in
    subst (λ (x : List ℕ). OnOk c.write_command.result (c.write_command.new.out.items ≡ c.args.out.now.items ++ x)) (postamble_same u c.args.back _ _ _ _ c.args.count _ back num den mag refl) c.write_command.ensures.written
