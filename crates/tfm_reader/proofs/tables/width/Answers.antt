use Rattle.std.proofs.Common.{◌≡◌, ◌≤◌, ◌<◌, ◌+◌, ◌*◌, ◌-◌, ℕ, arith, sym, subst, to_z-of_z, w32, rules}
use Rattle.fix_word.specs.FixWords.{IsFixWord}
use Rattle.tfm_reader.specs.Tfm.{codes_of, lh, nw, width_at}
use Rattle.tfm_reader.proofs.Rows.{byte_right, index_right}
use Rattle.tfm_reader.proofs.Words.{right_word}
use Rattle.tfm_reader.proofs.tables.width.Goals as goal

pub width_word-requires-clause-inside : goal.width_word-requires-clause-inside
width_word-requires-clause-inside c =
    let bytes = c.args.bytes.now in
    let i = c.args.code - c.args.layout.now.first in
    let lt : i < codes_of bytes = subst (λ n. i < n) c.requires.places.codes c.if-code-layout-2.false in
    subst (λ n. c.width_index-index.result < n) (sym c.requires.places.count)
    (subst (λ k. k < nw bytes) (sym c.width_index-index.ensures.index) (index_right bytes i c.requires.right lt))

-- a width lies in the file
room : (head index count widths len : ℕ) → widths ≡ 4 * head → index < count → widths + 4 * count ≤ len → 4 * (head + index) + 4 ≤ len
room head index count widths len e lt inside = omega arith

pub returns-clause-fits : goal.returns-clause-fits
returns-clause-fits c =
    let bytes = c.args.bytes.now in
    let index = c.width_index-index.result in
    let places = c.requires.places in
    let i = c.args.code - c.args.layout.now.first in
    let lt_codes : i < codes_of bytes = subst (λ n. i < n) places.codes c.if-code-layout-2.false in
    let lt_nw : index < nw bytes = subst (λ k. k < nw bytes) (sym c.width_index-index.ensures.index) (index_right bytes i c.requires.right lt_codes) in
    let lt : index < c.args.layout.now.count = subst (λ n. index < n) (sym places.count) lt_nw in
    let some : 1 ≤ index = omega arith in
    let fits : IsFixWord c.width_word.result = subst IsFixWord (sym c.width_word.ensures)
    (right_word bytes (width_at bytes index) (λ i. omega (arith, c.type_inv.bytes i)) (room (6 + lh bytes + codes_of bytes) index _ _ _ places.widths lt places.inside) (byte_right bytes index c.requires.right some lt_nw)) in
    subst IsFixWord (sym (to_z-of_z {w = w32} {z = c.width_word.result} (let known = c.width_word.type_inv in search rules))) fits
