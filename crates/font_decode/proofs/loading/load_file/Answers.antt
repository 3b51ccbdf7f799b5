use Rattle.std.proofs.Common.{◌≡◌, rules}
use Rattle.font_decode.specs.Names.{name_at}
use Rattle.font_decode.proofs.Asking.{until_of}
use Rattle.font_decode.proofs.loading.load_file.Goals as goal

pub returns-clause-stopped : goal.returns-clause-stopped
returns-clause-stopped g c =
    let there = c.in_ok-name.ensures in
    let same : c.in_ok-name.name ≡ name_at c.args.units.now c.args.key.now c.args.which = search rules in
    until_of c.load.result _ _ _ _ same c.load.ensures.asked
