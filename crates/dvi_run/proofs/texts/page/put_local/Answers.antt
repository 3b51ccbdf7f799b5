use Rattle.std.proofs.Common.{◌≡◌, ◌++◌, ℤ, arith, ap, codes, w32, to_z, of_z}
use Rattle.std.specs.Fmt.{signed_decimal}
use Rattle.std.proofs.lemmas.Int.{ints}
use Rattle.run_report.specs.Keys.{key_text}
use Rattle.dvi_run.proofs.Puts.{puts_as, puts_twice}
use Rattle.dvi_run.proofs.texts.page.put_local.Goals as goal

pub returns-in-Some : goal.returns-in-Some
returns-in-Some g c =
    let kept : to_z w32 (of_z w32 c.in-Some.number) ≡ c.in-Some.number = omega (arith, ints) in
    rw c.in-Some.is (puts_as (ap (λ (z : ℤ). codes "no local font " ++ signed_decimal z ++ codes " in " ++ key_text c.args.key.now) kept) c.put_character.ensures)

pub returns-in-None : goal.returns-in-None
returns-in-None g c = rw c.in-None.is (puts_twice c.put.ensures c.put_key.ensures)
