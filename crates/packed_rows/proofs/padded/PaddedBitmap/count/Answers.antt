use Rattle.std.proofs.Common.{◌≡◌, ◌*◌, ◌%◌, ◌≤◌, take, length, count_ones, ap, ◌∙◌, arith}
use Rattle.std.specs.Int.{div_ceil}
use Rattle.std.specs.List.{sum_by}
use Rattle.std.proofs.lemmas.List.{length-take-le}
use Rattle.packed_rows.specs.Bitmap.{Bitmap}
use Rattle.packed_rows.specs.Changes.{black_count}
use Rattle.packed_rows.proofs.Counts.{counted, few_bytes, whole_words}
use Rattle.packed_rows.proofs.padded.PaddedBitmap.count.Goals as goal

pub count_ones-requires : goal.count_ones-requires
count_ones-requires c =
    let size : c.padded_bytes.result * c.self.inside.height ≡ c.self.inside.height * (8 * div_ceil c.self.inside.width 64) = omega (arith, ap (λ n. n * c.self.inside.height) c.padded_bytes.ensures) in
    let fit : c.padded_bytes.result * c.self.inside.height ≤ length c.deref.result.now = omega (arith, size, c.self.invariant.len, c.deref.ensures.len, ap length c.deref.ensures.value) in
    let long : length (take (c.padded_bytes.result * c.self.inside.height) c.deref.result.now) ≡ c.padded_bytes.result * c.self.inside.height = length-take-le (c.padded_bytes.result * c.self.inside.height) c.deref.result.now fit in
    record {
      few = omega (arith, long, size, c.self.invariant.len, few_bytes c.self.inside.width c.self.inside.height c.self.inside.bytes.items c.self.invariant);
      whole = ap (λ n. n % 8) long ∙ whole_words c.self.inside.width c.self.inside.height (c.padded_bytes.result * c.self.inside.height) size;
    }

pub returns : goal.returns
returns c =
    let size : c.padded_bytes.result * c.self.inside.height ≡ c.self.inside.height * (8 * div_ceil c.self.inside.width 64) = omega (arith, ap (λ n. n * c.self.inside.height) c.padded_bytes.ensures) in
    c.count_ones.ensures ∙ ap (λ l. sum_by count_ones (take (c.padded_bytes.result * c.self.inside.height) l)) c.deref.ensures.value
    ∙ counted c.self.inside.width c.self.inside.height (c.padded_bytes.result * c.self.inside.height) c.self.inside.bytes.items c.self.invariant size ∙ ap (λ (p : Bitmap). black_count p) c.self.view_is
