use Rattle.std.proofs.Common.{Some, sym, ap, ◌∙◌}
use Rattle.std.specs.Option.{option_copied}
use Rattle.std.specs.Arc.{arc_value}
use Rattle.cache_core.specs.Views.{fonts_of}
use Rattle.cache_core.proofs.FontLists.{not_there}
use Rattle.cache_core.proofs.ArcLists.{missing, present, promotes}
use Rattle.cache_core.proofs.fonts.find_by_hash.Goals as goal

pub returns-in-None-clause-found : goal.returns-in-None-clause-found
returns-in-None-clause-found g c = sym (missing (arc_value c.args.key.now) c.args.fonts.now.entries (sym c.peek.ensures ∙ ap option_copied c.in-None.is))

pub returns-in-None-clause-moved : goal.returns-in-None-clause-moved
returns-in-None-clause-moved g c = sym (not_there (arc_value c.args.key.now) _ (missing (arc_value c.args.key.now) c.args.fonts.now.entries (sym c.peek.ensures ∙ ap option_copied c.in-None.is)))

pub returns-clause-found : goal.returns-clause-found
returns-clause-found g c = ap Some c.in_ok-found-in-Some.ensures ∙ sym (present (arc_value c.args.key.now) c.args.fonts.now.entries c.in-Some.font.now (sym c.peek.ensures ∙ ap option_copied c.in-Some.is))

pub returns-clause-moved : goal.returns-clause-moved
returns-clause-moved g c = ap fonts_of c.to_front.ensures.moved ∙ promotes (arc_value c.args.key.now) c.args.fonts.now.entries
