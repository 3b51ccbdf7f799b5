use Rattle.std.proofs.Common.{◌∙◌, ℤ, Some, cond, ap, is_eq, w32}
use Rattle.std.specs.Arc.{arc_value}
use Rattle.std.specs.FinMap.{insert}
use Rattle.std.specs.Map.{lookup}
use Rattle.std.specs.Ordering.{int_cmp}
use Rattle.std.proofs.lemmas.Int.{to_z-of_z}
use Rattle.page_index.proofs.FontTables.{table-insert}
use Rattle.page_index.proofs.fonts.FontTable.add.Goals as goal

pub returns-clause-ok : goal.returns-clause-ok
returns-clause-ok c =
    table-insert arc_value c.args.number c.args.key c.self.inside.keys.entries c.insert.new.self.entries
    (λ q. c.in_ok-insert.ensures.updates.0 q
    ∙ ap (λ (k : ℤ). cond (is_eq (int_cmp k q)) (Some c.args.key) (lookup (λ x. is_eq (int_cmp q x)) c.self.inside.keys.entries)) (to_z-of_z w32 c.args.number c.ranges.number))
    ∙ ap (λ m. insert m c.args.number (arc_value c.args.key)) c.self.view_is
