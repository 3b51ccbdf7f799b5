use Rattle.std.proofs.Common.{◌+◌, ◌-◌, ◌<◌, ◌≤◌, Some, arith}
use Rattle.code_sums.specs.Sums.{CODES}
use Rattle.pk_runs.specs.Weights.{MAX_GLYPH_BYTES, raster_bytes}
use Rattle.pk_runs.proofs.Weighed.{replaced_fits, weight_fits, weighed_put}
use Rattle.pk_runs.proofs.table.GlyphTable.put.Goals as goal

pub overflow_sub-self : goal.overflow_sub-self
overflow_sub-self c =
    let code : c.args.c < CODES = omega (arith, c.ranges.c.fits) in
    let few : raster_bytes (Some c.args.glyph) ≤ MAX_GLYPH_BYTES = omega (arith, c.bytes_of-added.ensures.bytes, c.bytes_of-added.ensures.few) in
    let fits = replaced_fits c.self.inside.glyphs c.put.new.self c.args.c c.args.glyph code c.self.inside.weight c.self.invariant few c.in_ok-put.ensures.put in
    let replaced = c.bytes_at-replaced.ensures in
    omega (arith, fits, replaced)

pub overflow_add-self : goal.overflow_add-self
overflow_add-self c =
    let code : c.args.c < CODES = omega (arith, c.ranges.c.fits) in
    let few : raster_bytes (Some c.args.glyph) ≤ MAX_GLYPH_BYTES = omega (arith, c.bytes_of-added.ensures.bytes, c.bytes_of-added.ensures.few) in
    let room = weight_fits c.self.inside.glyphs c.put.new.self c.args.c c.args.glyph code c.self.inside.weight c.self.invariant few c.in_ok-put.ensures.put in
    let added = c.bytes_of-added.ensures.few in
    omega (arith, room, added)

pub invariant_of-self-2 : goal.invariant_of-self-2
invariant_of-self-2 c =
    let code : c.args.c < CODES = omega (arith, c.ranges.c.fits) in
    let few : raster_bytes (Some c.args.glyph) ≤ MAX_GLYPH_BYTES = omega (arith, c.bytes_of-added.ensures.bytes, c.bytes_of-added.ensures.few) in
    weighed_put c.self.inside.glyphs c.put.new.self c.args.c c.args.glyph code c.self.inside.weight c.self.invariant few c.in_ok-put.ensures.put
    (c.self.inside.weight - c.bytes_at-replaced.result + c.bytes_of-added.result)
    (λ i. c.self.inside.weight - c.bytes_at-replaced.ensures i + c.bytes_of-added.ensures.bytes i)
