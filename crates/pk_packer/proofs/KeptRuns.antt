-- Runs that were kept.
use Rattle.std.proofs.Common.{◌≡◌, List, [], ◌∷◌, ◌++◌, refl}
use Rattle.pk_runs.specs.Numbers.{Item, Run}
use Rattle.pk_packer.specs.Kept.{with_runs}
use Rattle.pk_packer.specs.Written.{with_count}
use Rattle.pk_packer.specs.declared.counted.CountedRun.{CountedRun}

pub with_more : (items : List Item) (runs : List CountedRun) (r : CountedRun) → with_runs items (runs ++ r ∷ []) ≡ Run r.len ∷ with_count r.count (with_runs items runs)
with_more items [] r = refl
with_more items (q ∷ runs) r = with_more (Run q.len ∷ with_count q.count items) runs r
