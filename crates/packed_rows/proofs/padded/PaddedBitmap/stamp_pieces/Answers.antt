use Rattle.std.proofs.Common.{◌≡◌, ℕ, ◌+◌, ◌-◌, min, max, List, length, w64, ap, ap₂, sym, subst, ◌∙◌, arith}
use Rattle.std.proofs.lemmas.Int.{to_z-of_z}
use Rattle.std.proofs.lemmas.List.{with_items_is}
use Rattle.packed_rows.specs.Bitmap.{Bitmap}
use Rattle.packed_rows.specs.Stored.{bitmap_of, padded_bitmap_of, IsStoredPadded}
use Rattle.packed_rows.specs.Stamped.{with_raster}
use Rattle.packed_rows.proofs.SetRasters.{raster_set, set_stored}
use Rattle.packed_rows.proofs.padded.PaddedBitmap.stamp_pieces.Goals as goal

pub invariant_of-self : goal.invariant_of-self
invariant_of-self c =
    let long : length c.stamp_over.new.bytes ≡ c.self.inside.bytes.len = omega (arith, c.stamp_over.ensures.len, c.deref_mut.ensures.len) in
    subst (λ (l : List ℕ). IsStoredPadded c.self.inside.width c.self.inside.height l) (sym (with_items_is c.self.inside.bytes c.stamp_over.new.bytes long))
    (set_stored c.self.inside.width c.self.inside.height c.offset_of-across.result.start c.offset_of-across.result.skipped c.offset_of-down.result.start c.offset_of-down.result.skipped
    c.reached-rows.result.from c.reached-rows.result.until c.upper_of-upper.result.stride c.self.inside.bytes.items c.deref_mut.result.now c.stamp_over.new.bytes c.upper_of-upper.result.bytes.now
    c.deref_mut.ensures.value c.self.invariant c.stamp_over.ensures.len c.stamp_over.ensures.bytes c.stamp_over.ensures.dots)

pub returns : goal.returns
returns c =
    let until : c.reached-rows.result.until ≡ max c.reached-rows.result.from (min (c.offset_of-down.result.start + c.args.raster.now.height - c.offset_of-down.result.skipped) c.self.inside.height) =
    c.reached-rows.ensures.until ∙ ap (λ n. max c.reached-rows.result.from (min (c.offset_of-down.result.start + n - c.offset_of-down.result.skipped) c.self.inside.height)) c.upper_of-upper.ensures.count in
    let long : length c.stamp_over.new.bytes ≡ c.self.inside.bytes.len = omega (arith, c.stamp_over.ensures.len, c.deref_mut.ensures.len) in
    ap (λ l. padded_bitmap_of c.self.inside.width c.self.inside.height l) (with_items_is c.self.inside.bytes c.stamp_over.new.bytes long)
    ∙ raster_set c.self.inside.width c.self.inside.height c.args.raster.now.width c.args.raster.now.height c.offset_of-across.result.start c.offset_of-across.result.skipped
    c.offset_of-down.result.start c.offset_of-down.result.skipped c.reached-rows.result.from c.reached-rows.result.until c.upper_of-upper.result.stride _ _
    c.self.inside.bytes.items c.deref_mut.result.now c.stamp_over.new.bytes c.upper_of-upper.result.bytes.now
    c.upper_of-upper.ensures.stride c.deref_mut.ensures.value c.self.invariant c.upper_of-upper.ensures.stored
    c.offset_of-across.ensures c.offset_of-down.ensures c.reached-rows.ensures.from until c.stamp_over.ensures.dots
    ∙ ap₂ (with_raster (padded_bitmap_of c.self.inside.width c.self.inside.height c.self.inside.bytes.items) (bitmap_of c.args.raster.now.width c.args.raster.now.height c.upper_of-upper.result.bytes.now))
    (to_z-of_z w64 c.args.x c.ranges.x) (to_z-of_z w64 c.args.y c.ranges.y)
    ∙ ap₂ (λ (p q : Bitmap). with_raster p q c.args.x c.args.y) c.self.view_is c.upper_of-upper.ensures.value
