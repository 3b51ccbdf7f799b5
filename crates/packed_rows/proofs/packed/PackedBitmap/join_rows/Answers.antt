use Rattle.std.proofs.Common.{◌≡◌, ℕ, List, length, ap, sym, subst, ◌∙◌, arith}
use Rattle.std.proofs.lemmas.List.{with_items_is}
use Rattle.packed_rows.specs.Bitmap.{Bitmap}
use Rattle.packed_rows.specs.Joined.{IsWhiteFrom, with_word}
use Rattle.packed_rows.specs.Stored.{bitmap_of, IsStored}
use Rattle.packed_rows.proofs.JoinedRows.{joined_stored, joined_bitmap}
use Rattle.packed_rows.proofs.packed.PackedBitmap.join_rows.Goals as goal

pub invariant_of-self : goal.invariant_of-self
invariant_of-self c =
    let long : length c.join_rows.new.bytes ≡ c.self.inside.bytes.len = omega (arith, c.join_rows.ensures.len, c.deref_mut.ensures.len) in
    let wide : c.self.inside.width ≡ c.args.self.now.width = ap (λ (p : Bitmap). p.width) c.self.view_is in
    subst (λ (l : List ℕ). IsStored c.self.inside.width c.self.inside.height l) (sym (with_items_is c.self.inside.bytes c.join_rows.new.bytes long))
    (joined_stored c.self.inside.width c.self.inside.height c.args.word c.args.rows.from c.args.rows.until c.row_bytes.result c.self.inside.bytes.items c.deref_mut.result.now c.join_rows.new.bytes
    c.row_bytes.ensures c.deref_mut.ensures.value (omega (arith, wide, c.requires.narrow)) (subst (λ (n : ℕ). IsWhiteFrom n c.args.word) (sym wide) c.requires.white) c.join_rows.ensures.bytes
    c.self.invariant (record { len = c.join_rows.ensures.len; dots = c.join_rows.ensures.dots }))

pub returns : goal.returns
returns c =
    let long : length c.join_rows.new.bytes ≡ c.self.inside.bytes.len = omega (arith, c.join_rows.ensures.len, c.deref_mut.ensures.len) in
    ap (λ l. bitmap_of c.self.inside.width c.self.inside.height l) (with_items_is c.self.inside.bytes c.join_rows.new.bytes long)
    ∙ joined_bitmap c.self.inside.width c.self.inside.height c.args.word c.args.rows.from c.args.rows.until c.row_bytes.result c.self.inside.bytes.items c.deref_mut.result.now c.join_rows.new.bytes
    c.row_bytes.ensures c.deref_mut.ensures.value c.self.invariant (record { len = c.join_rows.ensures.len; dots = c.join_rows.ensures.dots })
    ∙ ap (λ (p : Bitmap). with_word p c.args.word c.args.rows.from c.args.rows.until) c.self.view_is
