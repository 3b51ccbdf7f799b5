use Rattle.std.proofs.Common.{◌≡◌, ◌+◌, ◌-◌, ◌*◌, ◌≤◌, ◌||◌, length, take, drop, ap, ◌∙◌, arith}
use Rattle.std.proofs.Math.Nat.{mul-le-mul_right}
use Rattle.std.proofs.lemmas.List.{length-take-le, length-drop}
use Rattle.packed_rows.specs.Packing.{pixel}
use Rattle.packed_rows.proofs.Stamping.{stamped_more, ended}
use Rattle.packed_rows.proofs.RotatedWords.{strip_set}
use Rattle.packed_rows.proofs.strips.stamp_rows.Goals as goal

pub word_at-requires : goal.word_at-requires
word_at-requires c =
    let y = c.args.rows.from + c.loop-step.step in
    let inside : y + 1 ≤ c.args.upper.count = omega (arith, c.loop-step-test.true, c.requires.few) in
    let most : (y + 1) * c.args.upper.stride ≤ c.args.upper.count * c.args.upper.stride = mul-le-mul_right c.args.upper.stride inside in
    omega (arith, most, c.args.upper.whole, c.requires.begin)

pub loop-step-preserved : goal.loop-step-preserved
loop-step-preserved c =
    let strip = c.args.strip in
    let first = c.args.rows.from in
    let y = first + c.loop-step.step in
    let k = strip.lower.row_len in
    let above = y * c.args.upper.stride + strip.from in
    let inside : y + 1 ≤ c.args.upper.count = omega (arith, c.loop-step-test.true, c.requires.few) in
    let most : (y + 1) * k ≤ c.args.upper.count * k = mul-le-mul_right k inside in
    let fit : y * k + k ≤ length c.loop-step.bytes = omega (arith, most, c.requires.whole, c.loop-step.invariant.len) in
    let same : y * k + k - y * k ≡ k = omega arith in
    let long : length (take (y * k + k - y * k) (drop (y * k) c.loop-step.bytes)) ≡ k =
    ap (λ n. length (take n (drop (y * k) c.loop-step.bytes))) same
    ∙ length-take-le k (drop (y * k) c.loop-step.bytes) (omega (arith, fit, length-drop (y * k) c.loop-step.bytes)) in
    let next : y + 1 ≡ first + (c.loop-step.step + 1) = omega arith in
    ended k first (y + 1) (first + (c.loop-step.step + 1)) _ c.args.bytes.now _ next
    (stamped_more k first y _ _ c.args.bytes.now c.loop-step.bytes c.join_word.new.row same (omega arith) fit (c.join_word.ensures.len ∙ long)
    (λ x in_row. c.join_word.ensures.pixels x (omega (arith, long, in_row))
    ∙ ap (λ b. b || pixel (take (y * k + k - y * k) (drop (y * k) c.loop-step.bytes)) x)
    (strip_set c.args.upper.bytes.now c.word_at.result c.rotated_right.result above strip.turn strip.mask strip.to x c.word_at.ensures c.rotated_right.ensures))
    c.loop-step.invariant)

pub returns-clause-dots : goal.returns-clause-dots
returns-clause-dots c =
    let last : c.args.rows.from + c.loop-step.step ≡ c.args.rows.until = omega (arith, c.loop-step-test.false, c.loop-step.auto.step-end, c.requires.ordered) in
    (ended c.args.strip.lower.row_len c.args.rows.from (c.args.rows.from + c.loop-step.step) c.args.rows.until _ c.args.bytes.now c.loop-step.bytes last c.loop-step.invariant).dots
