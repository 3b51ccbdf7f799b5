use Rattle.std.proofs.Common.{◌∙◌, ap}
use Rattle.std.specs.FinMap.{insert}
use Rattle.outside.proofs.Shelf.{shelf-insert}
use Rattle.outside.proofs.library.Library.add.Goals as goal

pub returns-clause-ok : goal.returns-clause-ok
returns-clause-ok c =
    shelf-insert (λ b. b.items) c.args.name c.args.bytes c.self.inside.files.entries c.insert.new.self.entries c.in_ok-insert.ensures.updates.0
    ∙ ap (λ m. insert m c.args.name c.args.bytes.items) c.self.view_is
