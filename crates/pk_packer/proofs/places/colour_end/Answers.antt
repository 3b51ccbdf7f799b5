use Rattle.std.proofs.Common.{◌≡◌, ◌∙◌, inl, inr, sym, ap, arith}
use Rattle.std.proofs.lemmas.Bool.{cases_lt}
use Rattle.packed_rows.specs.Bitmap.{Bitmap}
use Rattle.packed_rows.specs.Packing.{pixel}
use Rattle.pk_packer.proofs.Pixels.{not_itself, pixel_seen}
use Rattle.pk_packer.proofs.places.colour_end.Goals as goal

pub returns-clause-some : goal.returns-clause-some
returns-clause-some c =
    let r : Bitmap = c.args.bits.now in
    elim (cases_lt c.args.column c.run_end.result) [
      | inl some ↦ some
      | inr none ↦
          let at : c.run_end.result ≡ c.args.column = omega (arith, none, c.run_end.ensures.least) in
          absurd (not_itself c.args.black (sym c.requires.begins ∙ pixel_seen r c.args.row c.args.column c.row.result.now c.requires.low c.requires.inside c.row.ensures.dots
          ∙ ap (pixel c.row.result.now) (sym at) ∙ c.run_end.ensures.other (omega (arith, at, c.requires.inside, c.width.ensures.value))))
    ]

pub returns-clause-same : goal.returns-clause-same
returns-clause-same c = λ x from before.
    pixel_seen c.args.bits.now c.args.row x c.row.result.now c.requires.low (omega (arith, before, c.run_end.ensures.most, c.width.ensures.value)) c.row.ensures.dots
    ∙ c.run_end.ensures.same x from before

pub returns-clause-other : goal.returns-clause-other
returns-clause-other c = λ within.
    pixel_seen c.args.bits.now c.args.row c.run_end.result c.row.result.now c.requires.low within c.row.ensures.dots
    ∙ c.run_end.ensures.other (omega (arith, within, c.width.ensures.value))
