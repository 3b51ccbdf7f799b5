use Rattle.std.proofs.Common.{◌∙◌, w32, to_z, of_z}
use Rattle.std.specs.Arc.{arc_value}
use Rattle.page_index.proofs.FontKeys.{found_fits}
use Rattle.page_index.proofs.index.Index.font.Goals as goal

pub returns-clause-fits : goal.returns-clause-fits
returns-clause-fits c =
    let number = to_z w32 (of_z w32 c.args.k) in
    found_fits (λ key. arc_value key.now) c.get.result _ (c.get.ensures ∙ c.self.invariant.keys number) (c.self.invariant.fonts_fit number)
