use Rattle.std.proofs.Common.{◌≡◌, ℕ, ◌+◌, ◌-◌, ◌*◌, ◌<◌, ◌≤◌, ◌&&◌, ltb, min, length, take, drop, ap, sym, subst, ◌∙◌, arith}
use Rattle.std.proofs.lemmas.List.{drop-drop, length-drop, take_all}
use Rattle.std.proofs.Math.Nat.{mul-le-mul_right}
use borrow.Rule.Slice.PartMut.{put_mid}
use Rattle.packed_rows.specs.Stored.{row_at}
use Rattle.packed_rows.specs.Stamped.{part_over, pixel_over}
use Rattle.packed_rows.proofs.Stamping.{IsStamped, stamped_part, ended}
use Rattle.packed_rows.proofs.PartsOver.{part_is_row}
use Rattle.packed_rows.proofs.pieces.stamp_over.Goals as goal

pub slice_bounds-below-end : goal.slice_bounds-below-end
slice_bounds-below-end c =
    let rows = c.args.placing.rows in
    let k = c.padded_bytes-row_len.result in
    let together : rows.from + (rows.until - rows.from) ≡ rows.until = omega (arith, c.args.placing.ordered) in
    let all : (rows.from + (rows.until - rows.from)) * k ≡ rows.until * k = ap (λ n. n * k) together in
    let whole : rows.until * k ≤ length c.args.bytes.now = subst (λ (n : ℕ). rows.until * n ≤ length c.args.bytes.now) (sym c.padded_bytes-row_len.ensures) c.requires.whole in
    omega (arith, all, whole)

pub invariant_of-above-clause-whole : goal.invariant_of-above-clause-whole
invariant_of-above-clause-whole c =
    let p = c.args.placing in
    let upper = c.args.upper in
    let first = p.rows.from + p.down.skipped - p.down.start in
    let count = p.rows.until - p.rows.from in
    let some : p.rows.from < p.rows.until = omega (arith, p.ordered, c.if-rows.false) in
    let inside : first + count ≤ upper.count = omega (arith, some, p.reached some, c.requires.above some) in
    let most : (first + count) * upper.stride ≤ upper.count * upper.stride = mul-le-mul_right upper.stride inside in
    let skipped = drop (first * upper.stride) upper.bytes.now in
    let rest : length (take (length upper.bytes.now - first * upper.stride) skipped) ≡ length skipped =
    ap length (take_all (length upper.bytes.now - first * upper.stride) skipped (omega (arith, length-drop (first * upper.stride) upper.bytes.now))) in
    omega (arith, most, upper.whole, rest, length-drop (first * upper.stride) upper.bytes.now)

pub returns-clause-dots : goal.returns-clause-dots
returns-clause-dots c =
    let p = c.args.placing in
    let upper = c.args.upper in
    let k = c.padded_bytes-row_len.result in
    let first = p.rows.from in
    let count = p.rows.until - p.rows.from in
    let above = first + p.down.skipped - p.down.start in
    let skipped = drop (above * upper.stride) upper.bytes.now in
    let left = length upper.bytes.now - above * upper.stride in
    let source = take left skipped in
    let all_left : source ≡ skipped = take_all left skipped (omega (arith, length-drop (above * upper.stride) upper.bytes.now)) in
    let kept = c.min-kept.result in
    let is_kept : kept ≡ min (c.args.width + p.across.skipped - p.across.start) (8 * upper.stride) = omega (arith, c.min-kept.ensures, c.saturating_sub-room.ensures) in
    let together : first + count ≡ p.rows.until = omega (arith, p.ordered) in
    let all : (first + count) * k ≡ p.rows.until * k = ap (λ n. n * k) together in
    let whole : p.rows.until * k ≤ length c.args.bytes.now = subst (λ (n : ℕ). p.rows.until * n ≤ length c.args.bytes.now) (sym c.padded_bytes-row_len.ensures) c.requires.whole in
    let some : first < p.rows.until = omega (arith, p.ordered, c.if-rows.false) in
    let reached : p.down.start ≤ first + p.down.skipped = p.reached some in
    let f = λ (x z : ℕ). part_over source (z * upper.stride) p.across.start p.across.skipped 0 kept x in
    let g = λ (x y : ℕ). ltb x c.args.width && pixel_over (row_at upper.stride upper.bytes.now (y + p.down.skipped - p.down.start)) p.across.start p.across.skipped x in
    let new = put_mid (first * k) (first * k + count * k - first * k) c.args.bytes.now c.stamp_pieces.new.bytes in
    let stamped = ended k first (first + count) p.rows.until g c.args.bytes.now new together
    (stamped_part k first count (count * k) (first * k + count * k - first * k) f g c.args.bytes.now c.stamp_pieces.new.bytes (omega arith) (omega arith)
    (omega (arith, all, whole)) (omega (arith, all, whole, c.stamp_pieces.ensures.len))
    (λ x z.
    let place : above + z ≡ first + z + p.down.skipped - p.down.start = omega (arith, reached) in
    let bytes : above * upper.stride + z * upper.stride ≡ (above + z) * upper.stride = omega arith in
    let row : row_at upper.stride source z ≡ row_at upper.stride upper.bytes.now (first + z + p.down.skipped - p.down.start) =
    ap (λ l. row_at upper.stride l z) all_left
    ∙ ap (take upper.stride) (drop-drop (z * upper.stride) (above * upper.stride) upper.bytes.now ∙ ap (λ n. drop n upper.bytes.now) bytes)
    ∙ ap (row_at upper.stride upper.bytes.now) place in
    part_is_row source z upper.stride p.across.start p.across.skipped kept c.args.width x is_kept
    ∙ ap (λ r. ltb x c.args.width && pixel_over r p.across.start p.across.skipped x) row)
    (record { len = c.stamp_pieces.ensures.len; dots = c.stamp_pieces.ensures.dots })) in
    (subst (λ (n : ℕ). IsStamped n first p.rows.until g c.args.bytes.now new) c.padded_bytes-row_len.ensures stamped).dots
