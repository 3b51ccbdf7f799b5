use Rattle.std.proofs.Common.{◌≡◌, ◌∙◌, ◌<◌, inl, inr, ℕ, List, Bool, length, sym, arith}
use Rattle.std.proofs.lemmas.Bool.{cases_lt, le-ltb, lt-ltb}
use Rattle.packed_rows.specs.Bitmap.{Bitmap}
use Rattle.pk_packer.specs.Places.{row_of}
use Rattle.pk_packer.proofs.Pixels.{one_colour, pixel_seen, row_long, rows_high, two_colours}
use Rattle.pk_packer.proofs.Placed.{begins_behind, begins_row}
use Rattle.pk_packer.specs.Written.{pixel_rows}
use Rattle.pk_packer.proofs.places.row_begin.Goals as goal

pub returns-then-row-height-clause-more : goal.returns-then-row-height-clause-more
returns-then-row-height-clause-more c = λ items. begins_behind (pixel_rows c.args.bits.now) c.args.row items (omega (arith, rows_high c.args.bits.now, c.if-row-height.true, c.height.ensures.value))

pub returns-clause-more : goal.returns-clause-more
returns-clause-more c = λ items. begins_row (pixel_rows c.args.bits.now) c.args.row c.copies_below-copies.result items c.copies_below-copies.ensures.copies

pub colour_end-end-requires-clause-begins : goal.colour_end-end-requires-clause-begins
colour_end-end-requires-clause-begins c =
    pixel_seen c.args.bits.now c.args.row 0 c.row.result.now (omega (arith, c.requires.low, c.if-row-height.false, c.height.ensures.value)) (omega (arith, c.requires.some)) c.row.ensures.dots
    ∙ sym c.begins_black-black.ensures

pub copies_below-copies-requires-clause-colours : goal.copies_below-copies-requires-clause-colours
copies_below-copies-requires-clause-colours c =
    let r : Bitmap = c.args.bits.now in
    let row : List Bool = row_of (pixel_rows r) c.args.row in
    let low : c.args.row < r.height = omega (arith, c.requires.low, c.if-row-height.false, c.height.ensures.value) in
    let long : length row ≡ r.width = row_long r c.args.row low in
    let black : Bool = c.begins_black-black.result in
    let end : ℕ = c.colour_end-end.result in
    elim (cases_lt c.colour_end-end.result r.width) [
      | inl within ↦
          lt-ltb c.colour_end-end.result r.width within
          ∙ sym (two_colours row black r.width end long within (c.colour_end-end.ensures.same 0 (omega arith) (omega (arith, c.colour_end-end.ensures.some)))
          (c.colour_end-end.ensures.other within))
      | inr all ↦
          le-ltb c.colour_end-end.result r.width all
          ∙ sym (one_colour row black (λ k below. c.colour_end-end.ensures.same k (omega arith) (omega (arith, below, long, all))))
    ]
