use Rattle.std.proofs.Common.{◌≡◌, ◌*◌, ◌+◌, ◌-◌, take, drop, ℕ, [], slice_index_or, ap, sym, subst, ◌∙◌, arith}
use Rattle.packed_rows.specs.Bitmap.{Bitmap}
use Rattle.packed_rows.specs.Packing.{row_text, pixels_of, IsPadded}
use Rattle.packed_rows.proofs.Texts.{packing_gives_back}
use Rattle.packed_rows.proofs.PaddedRows.{row_padded, row_pixels}
use Rattle.packed_rows.proofs.padded.PaddedBitmap.row.Goals as goal

pub returns-clause-padded : goal.returns-clause-padded
returns-clause-padded c =
    let high : c.self.inside.height ≡ c.args.self.now.height = ap (λ (p : Bitmap). p.height) c.self.view_is in
    let wide : c.self.inside.width ≡ c.args.self.now.width = ap (λ (p : Bitmap). p.width) c.self.view_is in
    subst (λ (w : ℕ). IsPadded w (take (c.args.y * c.padded_bytes.result + c.row_bytes.result - c.args.y * c.padded_bytes.result) (drop (c.args.y * c.padded_bytes.result) c.deref.result.now))) wide
    (row_padded c.self.inside.width c.self.inside.height c.args.y c.padded_bytes.result c.row_bytes.result c.self.inside.bytes.items c.deref.result.now c.self.invariant (omega (arith, high, c.requires)) c.padded_bytes.ensures c.row_bytes.ensures c.deref.ensures.value)

pub returns-clause-dots : goal.returns-clause-dots
returns-clause-dots c =
    let high : c.self.inside.height ≡ c.args.self.now.height = ap (λ (p : Bitmap). p.height) c.self.view_is in
    let wide : c.self.inside.width ≡ c.args.self.now.width = ap (λ (p : Bitmap). p.width) c.self.view_is in
    ap (λ w. pixels_of w (take (c.args.y * c.padded_bytes.result + c.row_bytes.result - c.args.y * c.padded_bytes.result) (drop (c.args.y * c.padded_bytes.result) c.deref.result.now))) (sym wide)
    ∙ row_pixels c.self.inside.width c.self.inside.height c.args.y c.padded_bytes.result c.row_bytes.result c.self.inside.bytes.items c.deref.result.now (omega (arith, high, c.requires)) c.padded_bytes.ensures c.row_bytes.ensures c.deref.ensures.value
    ∙ ap (λ (p : Bitmap). slice_index_or p.rows c.args.y []) c.self.view_is

pub returns-clause-text : goal.returns-clause-text
returns-clause-text c = sym (packing_gives_back c.args.self.now.width _ (returns-clause-padded c)) ∙ ap row_text (returns-clause-dots c)
