use Rattle.std.proofs.Common.{◌≡◌, arith, ap, w32, to_z, of_z}
use Rattle.std.specs.Fmt.{signed_decimal}
use Rattle.std.proofs.lemmas.Int.{ints}
use Rattle.dvi_run.proofs.Puts.{puts_as, puts_twice}
use Rattle.dvi_run.proofs.texts.page.put_undefined.Goals as goal

pub returns : goal.returns
returns g c =
    let kept : to_z w32 (of_z w32 c.args.number) ≡ c.args.number = omega (arith, ints) in
    puts_twice c.put.ensures (puts_as (ap signed_decimal kept) c.put_number.ensures)
