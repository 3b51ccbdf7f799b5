use Rattle.std.proofs.Common.{◌≡◌, ℕ, List, length, ap, sym, subst, ◌∙◌, arith}
use Rattle.std.proofs.lemmas.List.{with_items_is}
use Rattle.packed_rows.specs.Bitmap.{Bitmap}
use Rattle.packed_rows.specs.Changes.{with_black}
use Rattle.packed_rows.specs.Stored.{padded_bitmap_of, IsStoredPadded}
use Rattle.packed_rows.proofs.PaddedRows.{blackened, blackened_stored}
use Rattle.packed_rows.proofs.padded.PaddedBitmap.blacken.Goals as goal

pub invariant_of-self : goal.invariant_of-self
invariant_of-self c =
    let long : length c.blacken_rows.new.bytes ≡ c.self.inside.bytes.len = omega (arith, c.blacken_rows.ensures.len, c.deref_mut.ensures.len) in
    let wide : c.self.inside.width ≡ c.args.self.now.width = ap (λ (p : Bitmap). p.width) c.self.view_is in
    subst (λ (l : List ℕ). IsStoredPadded c.self.inside.width c.self.inside.height l) (sym (with_items_is c.self.inside.bytes c.blacken_rows.new.bytes long))
    (blackened_stored c.self.inside.width c.self.inside.height c.args.columns.from c.args.columns.until c.args.rows.from c.args.rows.until c.padded_bytes.result c.self.inside.bytes.items c.deref_mut.result.now c.blacken_rows.new.bytes
    c.padded_bytes.ensures c.deref_mut.ensures.value (omega (arith, wide, c.requires.columns_inside)) c.self.invariant c.blacken_rows.ensures.len c.blacken_rows.ensures.bytes c.blacken_rows.ensures.dots)

pub returns : goal.returns
returns c =
    let long : length c.blacken_rows.new.bytes ≡ c.self.inside.bytes.len = omega (arith, c.blacken_rows.ensures.len, c.deref_mut.ensures.len) in
    ap (λ l. padded_bitmap_of c.self.inside.width c.self.inside.height l) (with_items_is c.self.inside.bytes c.blacken_rows.new.bytes long)
    ∙ blackened c.self.inside.width c.self.inside.height c.args.columns.from c.args.columns.until c.args.rows.from c.args.rows.until c.padded_bytes.result
    c.self.inside.bytes.items c.deref_mut.result.now c.blacken_rows.new.bytes c.padded_bytes.ensures c.deref_mut.ensures.value c.self.invariant c.blacken_rows.ensures.dots
    ∙ ap (λ (p : Bitmap). with_black p c.args.columns.from c.args.columns.until c.args.rows.from c.args.rows.until) c.self.view_is
