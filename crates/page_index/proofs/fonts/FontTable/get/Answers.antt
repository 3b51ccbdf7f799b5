use Rattle.std.proofs.Common.{◌∙◌, ℤ, sym, ap, is_eq, w32}
use Rattle.std.specs.Arc.{arc_value}
use Rattle.std.specs.FinMap.{get}
use Rattle.std.specs.Map.{lookup}
use Rattle.std.specs.Option.{option_map}
use Rattle.std.specs.Ordering.{int_cmp}
use Rattle.std.proofs.lemmas.Int.{to_z-of_z}
use Rattle.page_index.proofs.FontTables.{found-copied, table-get}
use Rattle.page_index.proofs.fonts.FontTable.get.Goals as goal

pub returns : goal.returns
returns c =
    found-copied arc_value c.get.result _ c.get.ensures.value
    ∙ (ap (λ (k : ℤ). option_map arc_value (lookup (λ x. is_eq (int_cmp k x)) c.self.inside.keys.entries)) (to_z-of_z w32 c.args.number c.ranges.number)
    ∙ (sym (table-get arc_value c.args.number c.self.inside.keys.entries)
    ∙ ap (λ m. get m c.args.number) c.self.view_is))
