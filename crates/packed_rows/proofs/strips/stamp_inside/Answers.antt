use Rattle.std.proofs.Common.{◌≡◌, ℕ, ◌+◌, ◌-◌, ◌*◌, ◌≤◌, ◌&&◌, ltb, min, length, ap, sym, subst, ◌∙◌, arith}
use borrow.Rule.Slice.PartMut.{put_mid}
use Rattle.packed_rows.specs.Stored.{row_at}
use Rattle.packed_rows.specs.Stamped.{part_over, pixel_over}
use Rattle.packed_rows.proofs.Stamping.{IsStamped, stamped_part, ended}
use Rattle.packed_rows.proofs.PartsOver.{part_is_row}
use Rattle.packed_rows.proofs.strips.stamp_inside.Goals as goal

pub slice_bounds-below-end : goal.slice_bounds-below-end
slice_bounds-below-end c =
    let rows = c.args.rows in
    let k = c.padded_bytes-row_len.result in
    let all : (rows.from + c.args.upper.count) * k ≡ rows.until * k = ap (λ n. n * k) (sym c.requires.all) in
    let whole : rows.until * k ≤ length c.args.bytes.now = subst (λ (n : ℕ). rows.until * n ≤ length c.args.bytes.now) (sym c.padded_bytes-row_len.ensures) c.requires.whole in
    omega (arith, all, whole)

pub returns-clause-dots : goal.returns-clause-dots
returns-clause-dots c =
    let rows = c.args.rows in
    let upper = c.args.upper in
    let k = c.padded_bytes-row_len.result in
    let first = rows.from in
    let count = upper.count in
    let kept = 8 * upper.stride in
    let together : first + count ≡ rows.until = sym c.requires.all in
    let all : (first + count) * k ≡ rows.until * k = ap (λ n. n * k) together in
    let whole : rows.until * k ≤ length c.args.bytes.now = subst (λ (n : ℕ). rows.until * n ≤ length c.args.bytes.now) (sym c.padded_bytes-row_len.ensures) c.requires.whole in
    let is_kept : kept ≡ min (c.args.width + 0 - c.args.column) (8 * upper.stride) = omega (arith, c.requires.in_word, c.requires.room) in
    let f = λ (x z : ℕ). part_over upper.bytes.now (z * upper.stride) c.args.column 0 0 kept x in
    let g = λ (x y : ℕ). ltb x c.args.width && pixel_over (row_at upper.stride upper.bytes.now (y - first)) c.args.column 0 x in
    let new = put_mid (first * k) (first * k + count * k - first * k) c.args.bytes.now c.stamp_narrow.new.bytes in
    let stamped = ended k first (first + count) rows.until g c.args.bytes.now new together
    (stamped_part k first count (count * k) (first * k + count * k - first * k) f g c.args.bytes.now c.stamp_narrow.new.bytes (omega arith) (omega arith)
    (omega (arith, all, whole)) (omega (arith, all, whole, c.stamp_narrow.ensures.len))
    (λ x z.
    let place : z ≡ first + z - first = omega arith in
    ap (λ a. part_over upper.bytes.now (a * upper.stride) c.args.column 0 0 kept x) place
    ∙ part_is_row upper.bytes.now (first + z - first) upper.stride c.args.column 0 kept c.args.width x is_kept)
    (record { len = c.stamp_narrow.ensures.len; dots = c.stamp_narrow.ensures.dots })) in
    (subst (λ (n : ℕ). IsStamped n first rows.until g c.args.bytes.now new) c.padded_bytes-row_len.ensures stamped).dots
