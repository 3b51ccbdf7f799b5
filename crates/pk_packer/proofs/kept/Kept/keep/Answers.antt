use Rattle.std.proofs.Common.{◌∙◌, List, [], ◌∷◌, ap}
use Rattle.pk_runs.specs.Numbers.{Item, Run}
use Rattle.pk_packer.specs.Kept.{with_runs}
use Rattle.pk_packer.specs.Written.{with_count}
use Rattle.pk_packer.proofs.KeptRuns.{with_more}
use Rattle.pk_packer.proofs.kept.Kept.keep.Goals as goal

pub returns-then-len-capacity : goal.returns-then-len-capacity
returns-then-len-capacity c = λ items are whole.
    ap (with_runs []) c.push_reserved.ensures.items ∙ with_more [] c.args.self.now.runs.items c.args.run
    ∙ ap (λ (l : List Item). Run c.args.run.len ∷ with_count c.args.run.count l) (are whole)
