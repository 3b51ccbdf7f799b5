use Rattle.std.proofs.Common.{◌∙◌, ap, sym, arith}
use Rattle.std.specs.Prelude.{◌&&◌, ◌||◌, nat_le, not, if◌then◌else◌}
use Rattle.packed_rows.specs.Changes.{is_within}
use Rattle.packed_rows.specs.Stamped.{word_pixel}
use Rattle.pk_runs.proofs.RowWords.{turned_pixel}
use Rattle.gf_reader.proofs.ShortCommands.{turned_twice}
use Rattle.gf_reader.proofs.rows.painted.Goals as goal

pub returns-then-black : goal.returns-then-black
returns-then-black c = λ i few.
    let word = c.args.word in
    let from = c.args.from in
    let until = c.args.until in
    turned_pixel _ until i c.requires.few few ∙ ap (λ b. if nat_le until i then not b else b) (turned_pixel word from i (omega (arith, c.requires.ordered, c.requires.few)) few)
    ∙ turned_twice from until i (word_pixel word i) c.requires.ordered (λ after. c.requires.white i after few)
    ∙ ap (λ b. b && is_within from until i || word_pixel word i) (sym c.if-black.true)
