-- Runs that were kept.
use Rattle.std.specs.Prelude.{◌≡◌, true, List, [], ◌∷◌}
use Rattle.pk_runs.specs.Numbers.{Item, Run}
use Rattle.pk_packer.specs.Written.{with_count}
use Rattle.pk_packer.specs.declared.counted.CountedRun.{CountedRun}
use Rattle.pk_packer.specs.declared.kept.Kept.{Kept}

-- the items, the last one first, with those of more runs
abbrev pub with_runs : List Item → List CountedRun → List Item
with_runs items [] = items
with_runs items (r ∷ runs) = with_runs (Run r.len ∷ with_count r.count items) runs

-- where no run was left out, those kept are the items
abbrev pub AreKept : Kept → List Item → Type 0
AreKept k items = k.whole ≡ true → with_runs [] k.runs.items ≡ items
