use Rattle.std.proofs.Common.{◌≡◌, ◌*◌, ◌≤◌, take, length, get_or, ℕ, [], slice_index_or, ap, sym, subst, ◌∙◌, arith}
use Rattle.std.specs.Int.{div_ceil}
use Rattle.packed_rows.specs.Bitmap.{Bitmap}
use Rattle.packed_rows.specs.Packing.{row_text}
use Rattle.packed_rows.specs.Stored.{row_at}
use Rattle.packed_rows.proofs.PaddedRows.{words_read, words_text, words_zero}
use Rattle.packed_rows.proofs.padded.PaddedBitmap.padded.Goals as goal

pub returns-clause-len : goal.returns-clause-len
returns-clause-len c =
    let high : c.self.inside.height ≡ c.args.self.now.height = ap (λ (p : Bitmap). p.height) c.self.view_is in
    let wide : c.self.inside.width ≡ c.args.self.now.width = ap (λ (p : Bitmap). p.width) c.self.view_is in
    ap length (words_read c.self.inside.width c.args.y c.padded_bytes-stride.result c.self.inside.bytes.items c.deref.result.now c.padded_bytes-stride.ensures c.deref.ensures.value)
    ∙ (c.self.invariant.padded c.args.y (omega (arith, high, c.requires))).len ∙ ap (λ w. 8 * div_ceil w 64) wide

pub returns-clause-row : goal.returns-clause-row
returns-clause-row c =
    let high : c.self.inside.height ≡ c.args.self.now.height = ap (λ (p : Bitmap). p.height) c.self.view_is in
    let wide : c.self.inside.width ≡ c.args.self.now.width = ap (λ (p : Bitmap). p.width) c.self.view_is in
    ap (take (div_ceil c.args.self.now.width 8)) (words_read c.self.inside.width c.args.y c.padded_bytes-stride.result c.self.inside.bytes.items c.deref.result.now c.padded_bytes-stride.ensures c.deref.ensures.value)
    ∙ ap (λ w. take (div_ceil w 8) (row_at (8 * div_ceil c.self.inside.width 64) c.self.inside.bytes.items c.args.y)) (sym wide)
    ∙ words_text c.self.inside.width c.self.inside.height c.args.y c.self.inside.bytes.items c.self.invariant (omega (arith, high, c.requires))
    ∙ ap (λ (p : Bitmap). row_text (slice_index_or p.rows c.args.y [])) c.self.view_is

pub returns-clause-zero : goal.returns-clause-zero
returns-clause-zero c = λ i after.
    let high : c.self.inside.height ≡ c.args.self.now.height = ap (λ (p : Bitmap). p.height) c.self.view_is in
    let wide : c.self.inside.width ≡ c.args.self.now.width = ap (λ (p : Bitmap). p.width) c.self.view_is in
    ap (λ l. get_or l i 0) (words_read c.self.inside.width c.args.y c.padded_bytes-stride.result c.self.inside.bytes.items c.deref.result.now c.padded_bytes-stride.ensures c.deref.ensures.value)
    ∙ words_zero c.self.inside.width i _ (c.self.invariant.padded c.args.y (omega (arith, high, c.requires))) (subst (λ (w : ℕ). div_ceil w 8 ≤ i) (sym wide) after)
