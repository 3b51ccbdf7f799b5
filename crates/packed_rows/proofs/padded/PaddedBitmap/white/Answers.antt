use Rattle.std.proofs.Common.{◌≡◌, ◌+◌, ◌*◌, ℕ, List, ap, sym, subst, ◌∙◌, arith}
use Rattle.std.specs.Int.{div_ceil}
use Rattle.packed_rows.specs.Stored.{IsStoredPadded, padded_bitmap_of}
use Rattle.packed_rows.proofs.PaddedRows.{white_stored, white_is_white}
use Rattle.packed_rows.proofs.padded.PaddedBitmap.white.Goals as goal

pub invariant_of-result : goal.invariant_of-result
invariant_of-result c =
    let size : c.padded_bytes.result * c.args.height + 8 ≡ c.args.height * (8 * div_ceil c.args.width 64) + 8 = omega (arith, ap (λ n. n * c.args.height) c.padded_bytes.ensures) in
    subst (λ (l : List ℕ). IsStoredPadded c.args.width c.args.height l) (sym (c.in_ok-bytes.ensures.items_if_clones_equal (λ y e. e)))
    (white_stored c.args.width c.args.height (c.padded_bytes.result * c.args.height + 8) c.requires.narrow c.requires.low size)

pub returns : goal.returns
returns c =
    let size : c.padded_bytes.result * c.args.height + 8 ≡ c.args.height * (8 * div_ceil c.args.width 64) + 8 = omega (arith, ap (λ n. n * c.args.height) c.padded_bytes.ensures) in
    record {
      white = ap (λ l. padded_bitmap_of c.args.width c.args.height l) (c.in_ok-bytes.ensures.items_if_clones_equal (λ y e. e)) ∙ white_is_white c.args.width c.args.height (c.padded_bytes.result * c.args.height + 8) size;
    }
