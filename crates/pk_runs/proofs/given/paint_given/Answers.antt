use Rattle.std.proofs.Common.{◌≡◌, ◌/◌, ◌<◌, length, arith}
use Rattle.pk_runs.proofs.RowsGiven.{row_length, on_raster}
use Rattle.pk_runs.proofs.given.paint_given.Goals as goal

pub index-requires : goal.index-requires
index-requires c =
    let inside : c.args.place / c.args.w < length c.args.rows.now = on_raster c.args.w (length c.args.rows.now) c.args.place c.requires.inside in
    let long : length c.index-rows-y.result.items ≡ c.args.w = row_length c.args.rows.now c.index-rows-y.result c.args.w (c.args.place / c.args.w) inside c.index-rows-y.is c.requires.equal in
    omega (arith, long, c.index-rows-y.result.ok, c.requires.some)
