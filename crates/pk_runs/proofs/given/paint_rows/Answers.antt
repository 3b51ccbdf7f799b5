use Rattle.std.proofs.Common.{length, map}
use Rattle.pk_runs.specs.Given.{pixel_at}
use Rattle.pk_runs.proofs.Complete.{plain_none, plain_more}
use Rattle.pk_runs.proofs.RowsGiven.{some_columns, rows_painted}
use Rattle.pk_runs.proofs.given.paint_rows.Goals as goal

pub loop-place-init : goal.loop-place-init
loop-place-init c = plain_none (pixel_at c.args.w (map (λ row. row.items) c.args.rows.now)) c.args.w (length c.args.rows.now) c.args.bits.now c.requires.white

pub loop-place-preserved : goal.loop-place-preserved
loop-place-preserved c = plain_more (pixel_at c.args.w (map (λ row. row.items) c.args.rows.now)) c.args.w (length c.args.rows.now) c.loop-place.place c.loop-place.bits c.paint_given.new.bits
    (some_columns c.args.w (length c.args.rows.now) c.loop-place.place c.loop-place-test.true) c.paint_given.ensures c.loop-place.invariant

pub returns : goal.returns
returns c = rows_painted c.args.rows.now c.args.w c.loop-place.place c.loop-place.bits c.requires.size c.loop-place-test.false c.requires.equal c.loop-place.invariant
