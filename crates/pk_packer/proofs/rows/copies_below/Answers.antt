use Rattle.std.proofs.Common.{◌∙◌, sym, arith}
use Rattle.std.proofs.lemmas.Bool.{le-ltb, lt-ltb}
use Rattle.pk_packer.proofs.Groups.{copies_at, no_copies_at}
use Rattle.pk_packer.proofs.Pixels.{rows_high}
use Rattle.pk_packer.specs.Written.{pixel_rows}
use Rattle.pk_packer.proofs.rows.copies_below.Goals as goal

pub returns-then-column-width-clause-copies : goal.returns-then-column-width-clause-copies
returns-then-column-width-clause-copies c =
    no_copies_at (pixel_rows c.args.bits.now) c.args.row (omega (arith, c.requires.inside, rows_high c.args.bits.now)) (sym c.requires.colours ∙ le-ltb c.args.column c.args.bits.now.width (omega (arith, c.if-column-width.true, c.width.ensures.value)))

pub returns-clause-copies : goal.returns-clause-copies
returns-clause-copies c =
    copies_at (pixel_rows c.args.bits.now) c.args.row c.equal_below.result (omega (arith, rows_high c.args.bits.now, c.equal_below.ensures.fit)) (sym c.requires.colours ∙ lt-ltb c.args.column c.args.bits.now.width (omega (arith, c.if-column-width.false, c.width.ensures.value))) c.equal_below.ensures.same
    (λ more e. c.equal_below.ensures.other (omega (arith, more, rows_high c.args.bits.now)) e)
