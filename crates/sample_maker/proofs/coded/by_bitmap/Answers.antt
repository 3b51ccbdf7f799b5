use Rattle.std.proofs.Common.{◌≡◌, ◌∙◌, ◌++◌, List, ℕ, ap, subst}
use Rattle.packed_rows.specs.Bitmap.{Bitmap, IsShaped}
use Rattle.pk_packer.specs.Choice.{plain_bytes}
use Rattle.sample_maker.proofs.PackedRasters.{bitmap_stands}
use Rattle.sample_maker.proofs.coded.by_bitmap.Goals as goal

pub returns-clause-stands : goal.returns-clause-stands
returns-clause-stands c =
    let r : Bitmap = c.args.raster.now in
    let same : c.bits-bits.result.now ≡ r = c.bits-bits.ensures.value in
    bitmap_stands r (subst IsShaped same c.bits-bits.ensures.shaped) c.append_plain.new.out.items
    (c.in_ok-append_plain.ensures ∙ ap (λ (t : List ℕ). t ++ plain_bytes c.bits-bits.result.now) c.in_ok-bytes.ensures.items ∙ ap plain_bytes same)
