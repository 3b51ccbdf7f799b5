use Rattle.std.proofs.Common.{◌≡◌, ◌<◌, ◌+◌, ◌-◌, ◌/◌, length, take, drop, replicate, ap, ◌∙◌, arith, refl, rules}
use Rattle.std.proofs.lemmas.List.{length-take, length-drop, length-set}
use Rattle.packed_rows.proofs.RowPixels.{one_byte, several_bytes, still_padded}
use Rattle.packed_rows.specs.Packing.{pixel}
use Rattle.packed_rows.proofs.row.blacken.Goals as goal

pub returns-then-first-last-clause-pixels : goal.returns-then-first-last-clause-pixels
returns-then-first-last-clause-pixels c = λ x _.
    let some : c.args.from < c.args.until = omega (arith, c.requires.ordered, c.if-from-until.false) in
    ap (λ l. pixel l x) c.set_bits.ensures ∙ one_byte c.args.row.now c.args.from c.args.until x some c.if-first-last.true c.requires.inside

pub returns-else-first-last-clause-pixels : goal.returns-else-first-last-clause-pixels
returns-else-first-last-clause-pixels c = λ x _.
    let some : c.args.from < c.args.until = omega (arith, c.requires.ordered, c.if-from-until.false) in
    let apart : c.args.from / 8 < (c.args.until - 1) / 8 = omega (arith, c.if-first-last.false, some) in
    let long : length c.set_bits-else-first-last.new.row ≡ length c.args.row.now = ap length c.set_bits-else-first-last.ensures ∙ length-set _ _ _ in
    let whole : length (take ((c.args.until - 1) / 8 - (c.args.from / 8 + 1)) (drop (c.args.from / 8 + 1) c.set_bits-else-first-last.new.row)) ≡ (c.args.until - 1) / 8 - (c.args.from / 8 + 1) = simp (length-take, length-drop) (omega (arith, long, apart, c.requires.inside)) in
    several_bytes c.args.row.now c.set_bits-else-first-last.new.row _ c.set_bits-else-first-last-2.new.row c.fill.new.self c.args.from c.args.until x some apart c.requires.inside
    c.set_bits-else-first-last.ensures (c.fill.ensures.after (λ y e. e) ∙ ap (λ n. replicate n 255) whole) refl c.set_bits-else-first-last-2.ensures

pub returns-then-first-last-clause-padded : goal.returns-then-first-last-clause-padded
returns-then-first-last-clause-padded c = λ width fit padded.
    let long : length c.set_bits.new.row ≡ length c.args.row.now = ap length c.set_bits.ensures ∙ length-set _ _ _ in
    still_padded width c.args.from c.args.until c.args.row.now c.set_bits.new.row fit long (λ i. omega (arith, c.type_inv.row i)) (returns-then-first-last-clause-pixels c) padded

pub returns-else-first-last-clause-padded : goal.returns-else-first-last-clause-padded
returns-else-first-last-clause-padded c = λ width fit padded.
    let long : length c.set_bits-else-first-last-2.new.row ≡ length c.args.row.now = search rules in
    still_padded width c.args.from c.args.until c.args.row.now c.set_bits-else-first-last-2.new.row fit long (λ i. omega (arith, c.type_inv.row i)) (returns-else-first-last-clause-pixels c) padded
