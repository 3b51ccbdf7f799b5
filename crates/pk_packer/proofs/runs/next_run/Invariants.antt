use Rattle.std.proofs.Common.{◌≡◌, ◌+◌, ◌-◌, ◌<◌, ◌≤◌, List, ◌∷◌}
use Rattle.pk_runs.specs.Numbers.{Item, Run}
use Rattle.pk_packer.specs.Places.{IsPlace, IsReached, items_from, pixels_after}
use Rattle.pk_packer.specs.Written.{pixel_rows, with_count, written_runs}
use Rattle.pk_packer.proofs.runs.next_run.Given as goal

abbrev pub invariant-loop-len : goal.invariant-loop-len
invariant-loop-len l = record {
  place : IsPlace l.bits l.after;
  passed : pixels_after l.bits l.after + l.len ≤ pixels_after l.bits l.place;
  more : (items : List Item) → IsReached l.bits l.place items → items_from (pixel_rows l.bits) l.after (Run l.len ∷ with_count l.place.due items) ≡ written_runs (pixel_rows l.bits);
  begun : l.len ≡ 0 → (l.after.row < l.bits.height) × (l.after.black ≡ l.place.black);
}

abbrev pub decreases-loop-len : goal.decreases-loop-len
decreases-loop-len l = l.bits.height - l.after.row
