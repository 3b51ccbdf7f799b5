use Rattle.std.proofs.Common.{◌≡◌, ◌∙◌, ℕ, ◌+◌, ◌-◌, ◌<◌, ◌≤◌, Bool, false, not, List, ◌∷◌, drop, get_or, refl, sym, ap, arith}
use Rattle.packed_rows.specs.Bitmap.{Bitmap}
use Rattle.pk_runs.specs.Numbers.{Run}
use Rattle.pk_runs.specs.Raster.{colour_after}
use Rattle.pk_packer.specs.Places.{row_of}
use Rattle.pk_packer.specs.Written.{first_colour, pixel_rows, with_count, with_rows, written_rows}
use Rattle.pk_packer.proofs.Pixels.{row_long, rows_high}
use Rattle.pk_packer.proofs.Placed.{at, colour_counted, end_from, items_same, passed_rows, row_passed, rows_skipped, run_lengthened, run_opened}
use Rattle.pk_packer.proofs.runs.next_run.Goals as goal

pub returns-then-place-height-clause-step : goal.returns-then-place-height-clause-step
returns-then-place-height-clause-step c = λ items reached.
    let p = c.args.place in
    sym (end_from (pixel_rows c.args.bits.now) p.row p.column p.copies p.due items (omega (arith, rows_high c.args.bits.now, c.if-place-height.true, c.height.ensures.value))) ∙ reached.more

pub loop-len-init : goal.loop-len-init
loop-len-init c =
    let r : Bitmap = c.args.bits.now in
    let p = c.args.place in
    let low : p.row < r.height = omega (arith, c.requires.place.low, c.if-place-height.false, c.height.ensures.value) in
    let in_row : p.column < r.width = c.requires.place.inside low in
    record {
      place = record {
        low = c.requires.place.low;
        inside = c.requires.place.inside;
        fit = c.requires.place.fit;
        small = omega arith;
        some = c.requires.place.some;
        most = c.requires.place.most;
        same = c.requires.place.same;
        other = c.requires.place.other;
      };
      passed = omega arith;
      more = λ items reached. run_opened (pixel_rows r) p.row p.column p.copies p.due items (omega (arith, row_long r p.row low, in_row)) (reached.begins low) ∙ reached.more;
      begun = λ e. (low, refl);
    }

pub returns-then-after-width-clause-step : goal.returns-then-after-width-clause-step
returns-then-after-width-clause-step c = λ items reached.
    let r : Bitmap = c.args.bits.now in
    let q = c.args.place in
    let p = c.loop-len.after in
    let next = c.next_colour.result in
    let place = c.loop-len.invariant.place in
    let top : q.row < r.height = omega (arith, c.requires.place.low, c.if-place-height.false, c.height.ensures.value) in
    let low : p.row < r.height = c.goes_on.ensures.row c.loop-len-test.true in
    let within : p.end < r.width = omega (arith, c.if-after-width.true, c.width.ensures.value) in
    let colour : colour_after (first_colour (pixel_rows r)) (with_count q.due items) ≡ p.black =
    colour_counted (first_colour (pixel_rows r)) q.due items ∙ sym (reached.begins top) ∙ c.requires.place.same top q.column (omega arith) (c.requires.place.some top) ∙ sym (c.goes_on.ensures.colour c.loop-len-test.true) in
    record {
      more =
          items_same (pixel_rows r) next (at p.row p.end p.copies p.due) (Run (c.loop-len.len + (p.end - p.column)) ∷ with_count q.due items) c.next_colour.ensures.row c.next_colour.ensures.column c.next_colour.ensures.copies c.next_colour.ensures.due
          ∙ sym (run_lengthened (pixel_rows r) p.row p.column p.end p.copies p.due c.loop-len.len p.black (with_count q.due items) (omega (arith, place.some low))
          (omega (arith, within, row_long r p.row low)) (place.same low) colour)
          ∙ c.loop-len.invariant.more items reached;
      begins = λ _.
          ap (λ (y : ℕ). get_or (row_of (pixel_rows r) y) next.column false) c.next_colour.ensures.row
          ∙ ap (λ (x : ℕ). get_or (row_of (pixel_rows r) p.row) x false) c.next_colour.ensures.column
          ∙ place.other low within ∙ ap not (sym colour);
    }

pub loop-len-preserved : goal.loop-len-preserved
loop-len-preserved c =
    let r : Bitmap = c.args.bits.now in
    let q = c.args.place in
    let p = c.loop-len.after in
    let end = p.end in
    let place = c.loop-len.invariant.place in
    let len = c.loop-len.len + (p.end - p.column) in
    let top : q.row < r.height = omega (arith, c.requires.place.low, c.if-place-height.false, c.height.ensures.value) in
    let low : p.row < r.height = c.goes_on.ensures.row c.loop-len-test.true in
    let in_row : p.column < r.width = place.inside low in
    let all : end ≡ r.width = omega (arith, c.if-after-width.false, c.width.ensures.value, place.most low) in
    let some : 1 ≤ len = omega (arith, place.some low) in
    let below = c.same_below-below.result in
    record {
      place = c.row_begin-after.ensures.place;
      passed = passed_rows (r.height - p.row) (r.height - c.row_begin-after.result.row) below.rows r.width p.column end c.row_begin-after.result.column c.loop-len.len below.pixels _
          (omega (arith, low, c.row_begin-after.ensures.row, c.same_below-below.ensures.fit)) (omega (arith, in_row)) all c.row_begin-after.ensures.column c.same_below-below.ensures.pixels c.loop-len.invariant.passed;
      more = λ items reached.
          let colour : colour_after (first_colour (pixel_rows r)) (with_count q.due items) ≡ p.black =
          colour_counted (first_colour (pixel_rows r)) q.due items ∙ sym (reached.begins top) ∙ c.requires.place.same top q.column (omega arith) (c.requires.place.some top) ∙ sym (c.goes_on.ensures.colour c.loop-len-test.true) in
          c.row_begin-after.ensures.more (Run (len + below.pixels) ∷ with_count q.due items)
          ∙ ap (λ (n : ℕ). with_rows (first_colour (pixel_rows r)) (Run (len + n) ∷ with_count q.due items) (written_rows (drop (p.row + 1 + p.copies + below.rows) (pixel_rows r)))) c.same_below-below.ensures.pixels
          ∙ sym (rows_skipped (pixel_rows r) (p.row + 1 + p.copies) below.rows r.width len p.black (with_count q.due items)
          (omega (arith, c.same_below-below.ensures.fit, rows_high r))
          (λ k before. row_long r (p.row + 1 + p.copies + k) (omega (arith, before, c.same_below-below.ensures.fit)))
          (λ k x before within.
          ap (λ (row : List Bool). get_or row x false) (c.same_below-below.ensures.same k before)
          ∙ place.same low x (omega (arith, c.same_below-below.ensures.begins (omega (arith, before)))) (omega (arith, within, all))) colour)
          ∙ sym (row_passed (pixel_rows r) p.row end p.copies p.due (Run len ∷ with_count q.due items) (omega (arith, all, row_long r p.row low)))
          ∙ sym (run_lengthened (pixel_rows r) p.row p.column end p.copies p.due c.loop-len.len p.black (with_count q.due items) (omega (arith, place.some low))
          (omega (arith, all, row_long r p.row low)) (place.same low) colour)
          ∙ c.loop-len.invariant.more items reached;
      begun = λ e. absurd (omega (arith, e, some));
    }
