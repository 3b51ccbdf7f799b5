use Rattle.std.proofs.Common.{◌≡◌, ◌≤◌, ◌+◌, ℕ, List, length, ap, sym, subst, ◌∙◌, arith}
use Rattle.std.proofs.lemmas.List.{with_items_is}
use Rattle.packed_rows.specs.Bitmap.{Bitmap}
use Rattle.packed_rows.specs.Changes.{with_copies}
use Rattle.packed_rows.specs.Stored.{bitmap_of, IsStored}
use Rattle.packed_rows.proofs.Copied.{copied_stored, copied_bitmap}
use Rattle.packed_rows.proofs.packed.PackedBitmap.copy_down.Goals as goal

pub invariant_of-self : goal.invariant_of-self
invariant_of-self c =
    let long : length c.copy_rows.new.bytes ≡ c.self.inside.bytes.len = omega (arith, c.copy_rows.ensures.len, c.deref_mut.ensures.len) in
    let high : c.self.inside.height ≡ c.args.self.now.height = ap (λ (p : Bitmap). p.height) c.self.view_is in
    let low : c.args.y + 1 + c.args.copies ≤ c.self.inside.height = omega (arith, high, c.requires) in
    subst (λ (l : List ℕ). IsStored c.self.inside.width c.self.inside.height l) (sym (with_items_is c.self.inside.bytes c.copy_rows.new.bytes long))
    (copied_stored c.self.inside.width c.self.inside.height c.args.y (c.args.y + 1 + c.args.copies) c.row_bytes-stride.result c.self.inside.bytes.items c.deref_mut.result.now c.copy_rows.new.bytes
    c.row_bytes-stride.ensures c.deref_mut.ensures.value low c.self.invariant (record { len = c.copy_rows.ensures.len; rows = c.copy_rows.ensures.rows }))

pub returns : goal.returns
returns c =
    let long : length c.copy_rows.new.bytes ≡ c.self.inside.bytes.len = omega (arith, c.copy_rows.ensures.len, c.deref_mut.ensures.len) in
    let high : c.self.inside.height ≡ c.args.self.now.height = ap (λ (p : Bitmap). p.height) c.self.view_is in
    let low : c.args.y + 1 + c.args.copies ≤ c.self.inside.height = omega (arith, high, c.requires) in
    ap (λ l. bitmap_of c.self.inside.width c.self.inside.height l) (with_items_is c.self.inside.bytes c.copy_rows.new.bytes long)
    ∙ copied_bitmap c.self.inside.width c.self.inside.height c.args.y c.args.copies c.row_bytes-stride.result c.self.inside.bytes.items c.deref_mut.result.now c.copy_rows.new.bytes
    c.row_bytes-stride.ensures c.deref_mut.ensures.value low c.self.invariant (record { len = c.copy_rows.ensures.len; rows = c.copy_rows.ensures.rows })
    ∙ ap (λ (p : Bitmap). with_copies p c.args.y c.args.copies) c.self.view_is
