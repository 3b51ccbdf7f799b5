use Rattle.std.proofs.Common.{◌≡◌, ◌*◌, take, ap, sym, ◌∙◌, arith}
use Rattle.std.specs.Int.{div_ceil}
use Rattle.std.specs.List.{flat_map}
use Rattle.packed_rows.specs.Bitmap.{Bitmap}
use Rattle.packed_rows.specs.Packing.{row_text}
use Rattle.packed_rows.proofs.PaddedRows.{rows_are_text}
use Rattle.packed_rows.proofs.padded.PaddedBitmap.rows.Goals as goal

pub returns-then-row_bytes-stride-clause-text : goal.returns-then-row_bytes-stride-clause-text
returns-then-row_bytes-stride-clause-text c =
    let same : div_ceil c.self.inside.width 8 ≡ 8 * div_ceil c.self.inside.width 64 = sym c.row_bytes.ensures ∙ c.if-row_bytes-stride.true ∙ c.padded_bytes-stride.ensures in
    let size : c.padded_bytes-stride.result * c.self.inside.height ≡ c.self.inside.height * (8 * div_ceil c.self.inside.width 64) = omega (arith, ap (λ n. n * c.self.inside.height) c.padded_bytes-stride.ensures) in
    ap (take (c.padded_bytes-stride.result * c.self.inside.height)) c.deref.ensures.value
    ∙ rows_are_text c.self.inside.width c.self.inside.height (c.padded_bytes-stride.result * c.self.inside.height) c.self.inside.bytes.items c.self.invariant same size
    ∙ ap (λ (p : Bitmap). flat_map row_text p.rows) c.self.view_is
