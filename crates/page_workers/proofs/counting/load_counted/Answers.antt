use Rattle.std.proofs.Common.{length}
use Rattle.std.specs.Arc.{arc_value}
use Rattle.font_decode.specs.Files.{looked_for}
use Rattle.page_workers.proofs.AddedLoads.{added_just, added_most}
use Rattle.page_workers.proofs.counting.load_counted.Goals as goal

pub returns-clause-files : goal.returns-clause-files
returns-clause-files g c =
    added_just c.load_lent.new.loaded.font (g.F.FontSource.library c.args.source.now) (λ l. length (looked_for l c.args.units.now (arc_value c.args.key.now))) c.args.loads.now c.load_lent.new.loaded.loads c.load_lent.ensures.few c.requires.room
    c.load_lent.ensures.files

pub returns-clause-no_more : goal.returns-clause-no_more
returns-clause-no_more g c =
    added_most (g.F.FontSource.library c.args.source.now) (λ l. length (looked_for l c.args.units.now (arc_value c.args.key.now))) c.args.loads.now c.load_lent.new.loaded.loads c.load_lent.ensures.no_more
