use Rattle.std.proofs.Common.{◌≡◌, pos, ◌+ℤ◌, unsigned_abs, to_z, of_z, w64, ap, ◌∙◌, arith}
use Rattle.std.specs.Int.{int_max, int_min}
use Rattle.std.proofs.lemmas.Int.{ints}
use Rattle.packed_rows.specs.Changes.{is_within}
use Rattle.raster_page.proofs.Clips.{clip_covers}
use Rattle.raster_page.proofs.span.clipped.Goals as goal

pub returns-clause-covered : goal.returns-clause-covered
returns-clause-covered c =
    let side : to_z w64 (of_z w64 c.from-side.result) ≡ pos c.args.side = omega (arith, ints) in
    let at : to_z w64 (of_z w64 c.args.at) ≡ c.args.at = omega (arith, ints) in
    let len : to_z w64 (of_z w64 c.args.len) ≡ c.args.len = omega (arith, ints) in
    let end : to_z w64 (of_z w64 (to_z w64 (of_z w64 c.args.at) +ℤ to_z w64 (of_z w64 c.args.len))) ≡ c.args.at +ℤ c.args.len = omega (arith, ints) in
    let from : to_z w64 (of_z w64 c.clamp-from.result) ≡ c.clamp-from.result = omega (arith, ints) in
    let until : to_z w64 (of_z w64 c.cut_end-until.result) ≡ c.cut_end-until.result = omega (arith, ints) in
    let is_from : c.clamp-from.result ≡ int_max (pos 0) (int_min c.args.at (pos c.args.side)) = rw (← at, ← side) c.clamp-from.ensures.value in
    let is_until : c.cut_end-until.result ≡ int_max c.clamp-from.result (int_min (c.args.at +ℤ c.args.len) (pos c.args.side)) =
    c.cut_end-until.ensures.value
    ∙ ap (λ z. int_max z (int_min (to_z w64 (of_z w64 (to_z w64 (of_z w64 c.args.at) +ℤ to_z w64 (of_z w64 c.args.len)))) (to_z w64 (of_z w64 c.from-side.result)))) from
    ∙ ap (λ z. int_max c.clamp-from.result (int_min z (to_z w64 (of_z w64 c.from-side.result)))) end ∙ ap (λ z. int_max c.clamp-from.result (int_min (c.args.at +ℤ c.args.len) z)) side in
    λ p h. ap (λ z. is_within (unsigned_abs z) (unsigned_abs (to_z w64 (of_z w64 c.cut_end-until.result))) p) from ∙ ap (λ z. is_within (unsigned_abs c.clamp-from.result) (unsigned_abs z) p) until
    ∙ clip_covers c.args.at c.args.len c.clamp-from.result c.cut_end-until.result c.args.side p is_from is_until h
