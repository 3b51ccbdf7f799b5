use Rattle.std.proofs.Common.{◌≡◌, ◌∙◌, ◌<◌, pos, to_z, w32, ap, arith, refl}
use Rattle.std.proofs.lemmas.Bool.{ne_eqb}
use Rattle.std.proofs.lemmas.Int.{ints}
use Rattle.vf_reader.proofs.Fields.{three_bytes}
use Rattle.vf_reader.proofs.locals.number.Goals as goal

pub overflow_cast-result : goal.overflow_cast-result
overflow_cast-result c =
    let small : c.unsigned_at.result < 16777216 = three_bytes c.args.n c.unsigned_at.result (omega arith) c.unsigned_at.ensures.fits in
    omega (arith, ints)

pub returns-else-n-eq4 : goal.returns-else-n-eq4
returns-else-n-eq4 c =
    let small : c.unsigned_at.result < 16777216 = three_bytes c.args.n c.unsigned_at.result (omega arith) c.unsigned_at.ensures.fits in
    let kept : to_z w32 c.unsigned_at.result ≡ pos c.unsigned_at.result = omega (arith, ints) in
    kept ∙ ap pos c.unsigned_at.ensures.number ∙ rw (ne_eqb c.args.n 4 (omega arith)) refl
