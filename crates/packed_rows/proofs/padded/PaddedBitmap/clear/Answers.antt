use Rattle.std.proofs.Common.{List, ℕ, ap, sym, subst, ◌∙◌}
use Rattle.packed_rows.specs.Bitmap.{Bitmap}
use Rattle.packed_rows.specs.Changes.{white_bitmap}
use Rattle.packed_rows.specs.Stored.{IsStoredPadded, padded_bitmap_of}
use Rattle.packed_rows.proofs.StoredBitmaps.{zeros}
use Rattle.packed_rows.proofs.PaddedRows.{white_stored, white_is_white}
use Rattle.packed_rows.proofs.padded.PaddedBitmap.clear.Goals as goal

pub invariant_of-self : goal.invariant_of-self
invariant_of-self c =
    let b = c.self.inside in
    subst (λ (l : List ℕ). IsStoredPadded b.width b.height l) (sym (c.whiten.ensures ∙ ap (λ n. zeros n) (sym b.bytes.ok.0)))
    (white_stored b.width b.height b.bytes.len c.self.invariant.narrow c.self.invariant.low (b.bytes.ok.0 ∙ c.self.invariant.len))

pub returns : goal.returns
returns c =
    let b = c.self.inside in
    ap (λ l. padded_bitmap_of b.width b.height l) (c.whiten.ensures ∙ ap (λ n. zeros n) (sym b.bytes.ok.0)) ∙ white_is_white b.width b.height b.bytes.len (b.bytes.ok.0 ∙ c.self.invariant.len)
    ∙ ap (λ (p : Bitmap). white_bitmap p.width p.height) c.self.view_is
