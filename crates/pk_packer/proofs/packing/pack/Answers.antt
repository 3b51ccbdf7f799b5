use Rattle.std.proofs.Common.{◌≡◌, ◌∙◌, ℕ, ◌<◌, ◌≤◌, false, ap, subst, arith}
use Rattle.packed_rows.specs.Bitmap.{Bitmap, IsShaped}
use Rattle.pk_packer.specs.Choice.{IsShortest, length_of, plain_bytes, plain_size, run_bytes}
use Rattle.pk_packer.specs.Spelling.{HoldNybbles, items_text}
use Rattle.pk_packer.specs.Written.{first_colour, pixel_rows, written_runs}
use Rattle.pk_packer.proofs.Chosen.{chosen_runs, fewest_plain, fewest_runs, runs_again, shortest_same}
use Rattle.pk_packer.proofs.PlainBits.{raster_again}
use Rattle.pk_packer.proofs.PlainLaws.{by_pixels}
use Rattle.pk_packer.proofs.packing.pack.Goals as goal

pub returns-then-size-plain_size-clause-raster : goal.returns-then-size-plain_size-clause-raster
returns-then-size-plain_size-clause-raster c =
    let r : Bitmap = c.args.raster.now in
    let same : c.bits-bits.result.now ≡ r = c.bits-bits.ensures.value in
    by_pixels c.in_ok-bytes.bytes.items c.shortest-dyn_f.result c.is_first_black.result r (subst IsShaped same c.bits-bits.ensures.shaped)
    (runs_again r c.shortest-dyn_f.result c.is_first_black.result c.in_ok-bytes.bytes.items c.shortest-dyn_f.ensures.form (c.is_first_black.ensures ∙ ap (λ (b : Bitmap). first_colour (pixel_rows b)) same)
    (subst (λ (b : Bitmap). HoldNybbles c.in_ok-bytes.bytes.items (items_text c.shortest-dyn_f.result (written_runs (pixel_rows b)))) same c.in_ok-bytes.ensures))

pub returns-then-size-plain_size-clause-choice : goal.returns-then-size-plain_size-clause-choice
returns-then-size-plain_size-clause-choice c =
    let r : Bitmap = c.args.raster.now in
    let f : ℕ = c.shortest-dyn_f.result in
    let same : c.bits-bits.result.now ≡ r = c.bits-bits.ensures.value in
    let shortest : IsShortest (length_of r) f = shortest_same _ (length_of r) f (λ g lt. c.lengths_of-lengths.ensures.lengths g lt ∙ ap (λ (b : Bitmap). length_of b g) same) c.shortest-dyn_f.ensures in
    let size : c.at.result ≡ length_of r f = c.at.ensures ∙ c.lengths_of-lengths.ensures.lengths f (omega (arith, c.shortest-dyn_f.ensures.form)) ∙ ap (λ (b : Bitmap). length_of b f) same in
    let few : run_bytes r f ≤ plain_size r = omega (arith, size, c.div_ceil-size.ensures, c.plain_size.ensures.count, c.if-size-plain_size.true, ap plain_size same) in
    chosen_runs r f c.is_first_black.result c.in_ok-bytes.bytes.items shortest few (c.is_first_black.ensures ∙ ap (λ (b : Bitmap). first_colour (pixel_rows b)) same)
    (subst (λ (b : Bitmap). HoldNybbles c.in_ok-bytes.bytes.items (items_text f (written_runs (pixel_rows b)))) same c.in_ok-bytes.ensures)

pub returns-then-size-plain_size-clause-fewest : goal.returns-then-size-plain_size-clause-fewest
returns-then-size-plain_size-clause-fewest c =
    let r : Bitmap = c.args.raster.now in
    let f : ℕ = c.shortest-dyn_f.result in
    let same : c.bits-bits.result.now ≡ r = c.bits-bits.ensures.value in
    let shortest : IsShortest (length_of r) f = shortest_same _ (length_of r) f (λ g lt. c.lengths_of-lengths.ensures.lengths g lt ∙ ap (λ (b : Bitmap). length_of b g) same) c.shortest-dyn_f.ensures in
    let size : c.at.result ≡ length_of r f = c.at.ensures ∙ c.lengths_of-lengths.ensures.lengths f (omega (arith, c.shortest-dyn_f.ensures.form)) ∙ ap (λ (b : Bitmap). length_of b f) same in
    let few : run_bytes r f ≤ plain_size r = omega (arith, size, c.div_ceil-size.ensures, c.plain_size.ensures.count, c.if-size-plain_size.true, ap plain_size same) in
    fewest_runs r f c.in_ok-bytes.bytes.items shortest few
    (subst (λ (b : Bitmap). HoldNybbles c.in_ok-bytes.bytes.items (items_text f (written_runs (pixel_rows b)))) same c.in_ok-bytes.ensures)

pub returns-clause-raster : goal.returns-clause-raster
returns-clause-raster c =
    let r : Bitmap = c.args.raster.now in
    let same : c.bits-bits.result.now ≡ r = c.bits-bits.ensures.value in
    rw (c.in_ok-plain_bytes.ensures, same) (by_pixels (plain_bytes r) 14 false r (subst IsShaped same c.bits-bits.ensures.shaped) (raster_again r false))

pub returns-clause-fewest : goal.returns-clause-fewest
returns-clause-fewest c =
    let r : Bitmap = c.args.raster.now in
    let f : ℕ = c.shortest-dyn_f.result in
    let same : c.bits-bits.result.now ≡ r = c.bits-bits.ensures.value in
    let shortest : IsShortest (length_of r) f = shortest_same _ (length_of r) f (λ g lt. c.lengths_of-lengths.ensures.lengths g lt ∙ ap (λ (b : Bitmap). length_of b g) same) c.shortest-dyn_f.ensures in
    let size : c.at.result ≡ length_of r f = c.at.ensures ∙ c.lengths_of-lengths.ensures.lengths f (omega (arith, c.shortest-dyn_f.ensures.form)) ∙ ap (λ (b : Bitmap). length_of b f) same in
    let many : plain_size r < run_bytes r f = omega (arith, size, c.div_ceil-size.ensures, c.plain_size.ensures.count, c.if-size-plain_size.false, ap plain_size same) in
    fewest_plain r f c.in_ok-plain_bytes.field-0.items shortest many (c.in_ok-plain_bytes.ensures ∙ ap plain_bytes same)
