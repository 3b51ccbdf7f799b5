use Rattle.std.proofs.Common.{Some, sym, ap, ◌∙◌}
use Rattle.std.specs.Arc.{arc_value}
use Rattle.cache_core.specs.Views.{fonts_of}
use Rattle.cache_core.proofs.ArcLists.{present, promotes}
use Rattle.cache_core.proofs.fonts.find.Goals as goal

pub returns-in_ok-try_clone-in-Some-clause-found : goal.returns-in_ok-try_clone-in-Some-clause-found
returns-in_ok-try_clone-in-Some-clause-found g c =
    ap Some c.in_ok-try_clone-in-Some.ensures ∙ sym (present (arc_value c.args.key.now) c.args.fonts.now.entries c.in-Some.font.now c.in-Some.ensures.found)

pub returns-in_ok-try_clone-in-Some-clause-moved : goal.returns-in_ok-try_clone-in-Some-clause-moved
returns-in_ok-try_clone-in-Some-clause-moved g c = ap fonts_of (sym c.in-Some.ensures.first) ∙ promotes (arc_value c.args.key.now) c.args.fonts.now.entries
