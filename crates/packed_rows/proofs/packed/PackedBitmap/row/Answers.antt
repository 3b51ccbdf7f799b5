use Rattle.std.proofs.Common.{◌≡◌, ◌*◌, ◌+◌, ◌-◌, take, drop, ℕ, List, [], slice_index_or, ap, sym, subst, ◌∙◌, arith}
use Rattle.std.specs.Int.{div_ceil}
use Rattle.packed_rows.specs.Stored.{row_at}
use Rattle.packed_rows.specs.Bitmap.{Bitmap}
use Rattle.packed_rows.specs.Packing.{row_text, pixels_of, IsPadded}
use Rattle.packed_rows.proofs.StoredBitmaps.{row_read, row_dots, row_is_text}
use Rattle.packed_rows.proofs.packed.PackedBitmap.row.Goals as goal

pub returns-clause-text : goal.returns-clause-text
returns-clause-text c =
    let high : c.self.inside.height ≡ c.args.self.now.height = ap (λ (p : Bitmap). p.height) c.self.view_is in
    row_read c.self.inside.width c.args.y c.row_bytes-stride.result c.self.inside.bytes.items c.deref.result.now c.row_bytes-stride.ensures c.deref.ensures.value
    ∙ row_is_text c.self.inside.width c.self.inside.height c.args.y c.self.inside.bytes.items c.self.invariant (omega (arith, high, c.requires))
    ∙ ap (λ (p : Bitmap). row_text (slice_index_or p.rows c.args.y [])) c.self.view_is

pub returns-clause-dots : goal.returns-clause-dots
returns-clause-dots c =
    let high : c.self.inside.height ≡ c.args.self.now.height = ap (λ (p : Bitmap). p.height) c.self.view_is in
    let wide : c.self.inside.width ≡ c.args.self.now.width = ap (λ (p : Bitmap). p.width) c.self.view_is in
    let read : take (c.args.y * c.row_bytes-stride.result + c.row_bytes-stride.result - c.args.y * c.row_bytes-stride.result) (drop (c.args.y * c.row_bytes-stride.result) c.deref.result.now) ≡ row_at (div_ceil c.self.inside.width 8) c.self.inside.bytes.items c.args.y =
    row_read c.self.inside.width c.args.y c.row_bytes-stride.result c.self.inside.bytes.items c.deref.result.now c.row_bytes-stride.ensures c.deref.ensures.value in
    ap (pixels_of c.args.self.now.width) read ∙ ap (λ w. pixels_of w (row_at (div_ceil c.self.inside.width 8) c.self.inside.bytes.items c.args.y)) (sym wide)
    ∙ row_dots c.self.inside.width c.self.inside.height c.args.y c.self.inside.bytes.items (omega (arith, high, c.requires))
    ∙ ap (λ (p : Bitmap). slice_index_or p.rows c.args.y []) c.self.view_is

pub returns-clause-padded : goal.returns-clause-padded
returns-clause-padded c =
    let high : c.self.inside.height ≡ c.args.self.now.height = ap (λ (p : Bitmap). p.height) c.self.view_is in
    let wide : c.self.inside.width ≡ c.args.self.now.width = ap (λ (p : Bitmap). p.width) c.self.view_is in
    subst (λ (w : ℕ). IsPadded w (take (c.args.y * c.row_bytes-stride.result + c.row_bytes-stride.result - c.args.y * c.row_bytes-stride.result) (drop (c.args.y * c.row_bytes-stride.result) c.deref.result.now))) wide (subst (λ (l : List ℕ). IsPadded c.self.inside.width l)
    (sym (row_read c.self.inside.width c.args.y c.row_bytes-stride.result c.self.inside.bytes.items c.deref.result.now c.row_bytes-stride.ensures c.deref.ensures.value))
    (c.self.invariant.padded c.args.y (omega (arith, high, c.requires))))
