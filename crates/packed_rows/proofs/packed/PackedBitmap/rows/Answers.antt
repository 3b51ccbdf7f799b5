use Rattle.std.proofs.Common.{◌≡◌, ◌*◌, take, ap, ◌∙◌, arith}
use Rattle.std.specs.Int.{div_ceil}
use Rattle.std.specs.List.{flat_map}
use Rattle.packed_rows.specs.Bitmap.{Bitmap}
use Rattle.packed_rows.specs.Packing.{row_text}
use Rattle.packed_rows.proofs.StoredBitmaps.{rows_are_text}
use Rattle.packed_rows.proofs.packed.PackedBitmap.rows.Goals as goal

pub returns : goal.returns
returns c =
    let size : c.row_bytes.result * c.self.inside.height ≡ c.self.inside.height * div_ceil c.self.inside.width 8 = omega (arith, ap (λ n. n * c.self.inside.height) c.row_bytes.ensures) in
    ap (take (c.row_bytes.result * c.self.inside.height)) c.deref.ensures.value
    ∙ rows_are_text c.self.inside.width c.self.inside.height (c.row_bytes.result * c.self.inside.height) c.self.inside.bytes.items c.self.invariant size
    ∙ ap (λ (p : Bitmap). flat_map row_text p.rows) c.self.view_is
