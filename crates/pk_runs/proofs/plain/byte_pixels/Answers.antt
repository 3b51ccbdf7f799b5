use Rattle.std.proofs.Common.{◌+◌, ◌*◌, ◌/◌, ◌%◌, ◌^◌, ap, ◌∙◌}
use Rattle.packed_rows.specs.Stamped.{word_pixel}
use Rattle.pk_runs.proofs.PlainWords.{byte_pixel}
use Rattle.pk_runs.proofs.plain.byte_pixels.Goals as goal

pub returns : goal.returns
returns c = λ i h.
    ap (λ b. word_pixel (b * 2 ^ (56 + c.args.place % 8) % 2 ^ 64 / 2 ^ c.args.x) i) c.from.ensures
    ∙ byte_pixel c.args.bytes.now c.args.place c.args.x i c.requires.few h
