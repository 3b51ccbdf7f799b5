use Rattle.std.proofs.Common.{◌≡◌, ◌-◌, ◌*◌, ◌/◌, ◌%◌, ◌^◌, ap, ◌∙◌, refl, arith, bit_or}
use Rattle.packed_rows.specs.Stamped.{word_pixel}
use Rattle.packed_rows.proofs.RotatedWords.{word_rotated}
use Rattle.packed_rows.proofs.words.rotated_right.Goals as goal

pub returns : goal.returns
returns c = λ i h.
    let once : c.args.by % 64 ≡ c.args.by = omega (arith, c.requires) in
    ap (λ n. word_pixel n i) (c.rotate_right.ensures ∙ ap (λ r. bit_or (c.args.word / 2 ^ r) (c.args.word * 2 ^ ((64 - r) % 64) % 2 ^ 64)) once)
    ∙ word_rotated c.args.word c.args.by ((64 - c.args.by) % 64) i (omega (arith, c.ranges.word)) c.requires refl h
