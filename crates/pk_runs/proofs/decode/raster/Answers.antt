use Rattle.std.proofs.Common.{arith}
use Rattle.pk_runs.proofs.Complete.{white_shaped}
use Rattle.pk_runs.proofs.Empty.{without_columns, without_rows}
use Rattle.pk_runs.proofs.Shapes.{plain_shaped, runs_shaped}
use Rattle.pk_runs.proofs.decode.raster.Goals as goal
use Rattle.pk_runs.proofs.decode.raster.Goals.{then-w-eq0-via-then-w-eq0, then-w-eq0-via-else-w-eq0+then-h-eq0}

pub returns-then-w-eq0-clause-raster : goal.returns-then-w-eq0-clause-raster
returns-then-w-eq0-clause-raster c = elim c.then-w-eq0.branch [
  | then-w-eq0-via-then-w-eq0 w ↦ without_columns c.args.bytes.now c.args.dyn_f c.args.black c.args.w c.args.h c.in_ok-bits.bits w.if-w-eq0.true c.in_ok-bits.ensures.white
  | then-w-eq0-via-else-w-eq0+then-h-eq0 w ↦ without_rows c.args.bytes.now c.args.dyn_f c.args.black c.args.w c.args.h c.in_ok-bits.bits w.if-h-eq0.true c.in_ok-bits.ensures.white
]

pub invariant_of-result : goal.invariant_of-result
invariant_of-result c =
    rw c.in_ok-bits.ensures.white (c.requires.narrow, c.requires.short, white_shaped c.args.w c.args.h)

pub invariant_of-result-then-dyn_f-eq14 : goal.invariant_of-result-then-dyn_f-eq14
invariant_of-result-then-dyn_f-eq14 c =
    let painted = c.in_ok-paint_plain.ensures in
    (omega (arith, painted.0, c.requires.narrow), omega (arith, painted.1, c.requires.short), plain_shaped c.args.w c.args.h c.in_ok-paint_plain.field-0 painted.0 painted.1 c.args.bytes.now painted.2)

pub invariant_of-result-2 : goal.invariant_of-result-2
invariant_of-result-2 c =
    let painted = c.in_ok-paint_runs.ensures in
    (omega (arith, painted.0, c.requires.narrow), omega (arith, painted.1, c.requires.short), runs_shaped c.args.w c.args.h c.in_ok-paint_runs.field-0 painted.0 painted.1 c.args.bytes.now c.args.dyn_f c.args.black (omega arith) painted.2)
