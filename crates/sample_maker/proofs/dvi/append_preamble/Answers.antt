use Rattle.std.proofs.Common.{◌≡◌, ◌++◌, List, ℕ, pos, to_z, w32, subst, arith}
use Rattle.std.specs.Prelude.{OnOk}
use Rattle.std.proofs.lemmas.Int.{ints}
use Rattle.sample_maker.proofs.Appended.{preamble_same}
use Rattle.sample_maker.proofs.dvi.append_preamble.Goals as goal

pub returns : goal.returns
returns c =
    let u = c.args.units.now in
    let num : to_z w32 u.num ≡ pos u.num = omega (arith, ints, c.requires.num) in
    let den : to_z w32 u.den ≡ pos u.den = omega (arith, ints, c.requires.den) in
    let mag : to_z w32 u.mag ≡ pos u.mag = omega (arith, ints, c.requires.mag) in
    subst (λ (x : List ℕ). OnOk c.write_command.result (c.write_command.new.out.items ≡ c.args.out.now.items ++ x)) (preamble_same u _ _ _ num den mag) c.write_command.ensures.written
