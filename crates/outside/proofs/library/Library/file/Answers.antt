use Rattle.std.proofs.Common.{◌∙◌, sym, ap}
use Rattle.std.specs.FinMap.{get}
use Rattle.outside.proofs.Shelf.{found-copied, shelf-get}
use Rattle.outside.proofs.library.Library.file.Goals as goal

pub returns : goal.returns
returns c =
    found-copied (λ b. b.items) c.get.result _ c.get.ensures.value
    ∙ (sym (shelf-get (λ b. b.items) c.args.name.now c.self.inside.files.entries)
    ∙ ap (λ m. get m c.args.name.now) c.self.view_is)
