use Rattle.std.proofs.Common.{◌≡◌, ℕ, ◌+◌, ◌-◌, ◌≤◌, min, max, pos, ◌-ℤ◌, List, length, w64, ap, ap₂, sym, subst, ◌∙◌, arith}
use Rattle.std.proofs.lemmas.Int.{to_z-of_z}
use Rattle.std.proofs.lemmas.List.{with_items_is}
use Rattle.packed_rows.specs.Bitmap.{Bitmap}
use Rattle.packed_rows.specs.Stored.{bitmap_of, padded_bitmap_of, IsStoredPadded}
use Rattle.packed_rows.specs.Stamped.{with_raster}
use Rattle.packed_rows.proofs.SetRasters.{raster_set, set_inside, set_stored}
use Rattle.packed_rows.proofs.padded.PaddedBitmap.stamp.Goals as goal

pub invariant_of-self : goal.invariant_of-self
invariant_of-self c =
    let width = c.self.inside.width in
    let left = c.offset_of-column.result.start in
    let top = c.offset_of-row.result.start in
    let upper = c.upper_of-upper.result in
    let long : length c.stamp_inside.new.bytes ≡ c.self.inside.bytes.len = omega (arith, c.stamp_inside.ensures.len, c.deref_mut.ensures.len) in
    subst (λ (l : List ℕ). IsStoredPadded width c.self.inside.height l) (sym (with_items_is c.self.inside.bytes c.stamp_inside.new.bytes long))
    (set_stored width c.self.inside.height left 0 top 0 top (top + upper.count) upper.stride
    c.self.inside.bytes.items c.deref_mut.result.now c.stamp_inside.new.bytes upper.bytes.now
    c.deref_mut.ensures.value c.self.invariant c.stamp_inside.ensures.len c.stamp_inside.ensures.bytes
    (set_inside width top (top + upper.count) left top upper.stride c.stamp_inside.new.bytes upper.bytes.now c.deref_mut.result.now c.stamp_inside.ensures.dots))

pub returns-then-has_rows : goal.returns-then-has_rows
returns-then-has_rows c =
    let width = c.self.inside.width in
    let height = c.self.inside.height in
    let left = c.offset_of-column.result.start in
    let top = c.offset_of-row.result.start in
    let upper = c.upper_of-upper.result in
    let bottom = top + upper.count in
    let high : upper.count ≡ c.args.raster.now.height = c.upper_of-upper.ensures.count in
    let tall : height ≡ c.args.self.now.height = ap (λ (p : Bitmap). p.height) c.self.view_is in
    let low : bottom ≤ height = omega (arith, high, tall, c.has_rows.ensures.low c.if-has_rows.true) in
    let from : top ≡ min (top - 0) height = omega (arith, low) in
    let until : bottom ≡ max top (min (top + c.args.raster.now.height - 0) height) = omega (arith, low, high) in
    let long : length c.stamp_inside.new.bytes ≡ c.self.inside.bytes.len = omega (arith, c.stamp_inside.ensures.len, c.deref_mut.ensures.len) in
    ap (λ l. padded_bitmap_of width height l) (with_items_is c.self.inside.bytes c.stamp_inside.new.bytes long)
    ∙ raster_set width height c.args.raster.now.width c.args.raster.now.height left 0 top 0 top bottom upper.stride _ _
    c.self.inside.bytes.items c.deref_mut.result.now c.stamp_inside.new.bytes upper.bytes.now
    c.upper_of-upper.ensures.stride c.deref_mut.ensures.value c.self.invariant c.upper_of-upper.ensures.stored
    (ap (λ n. pos left -ℤ pos n) (sym (c.has_columns.ensures.right c.if-has_columns.true)) ∙ c.offset_of-column.ensures)
    (ap (λ n. pos top -ℤ pos n) (sym (c.has_rows.ensures.below c.if-has_rows.true)) ∙ c.offset_of-row.ensures) from until
    (set_inside width top bottom left top upper.stride c.stamp_inside.new.bytes upper.bytes.now c.deref_mut.result.now c.stamp_inside.ensures.dots)
    ∙ ap₂ (with_raster (padded_bitmap_of width height c.self.inside.bytes.items) (bitmap_of c.args.raster.now.width c.args.raster.now.height upper.bytes.now))
    (to_z-of_z w64 c.args.x c.ranges.x) (to_z-of_z w64 c.args.y c.ranges.y)
    ∙ ap₂ (λ (p q : Bitmap). with_raster p q c.args.x c.args.y) c.self.view_is c.upper_of-upper.ensures.value
