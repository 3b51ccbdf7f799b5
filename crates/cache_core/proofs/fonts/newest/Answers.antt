use Rattle.std.proofs.Common.{◌≡◌, true, rules, sym, ap, ◌∙◌}
use Rattle.std.specs.Option.{option_map}
use Rattle.std.specs.Arc.{arc_value}
use Rattle.cache_core.specs.Machine.{key_eq}
use Rattle.cache_core.proofs.ArcLists.{newest_found, newest_stays}
use Rattle.cache_core.proofs.fonts.newest.Goals as goal

pub returns-in-Some-clause-found : goal.returns-in-Some-clause-found
returns-in-Some-clause-found g c =
    let passed : key_eq (arc_value c.args.key.now) (arc_value c.in-Some.first.now) ≡ true = search rules in
    newest_found (arc_value c.args.key.now) c.args.fonts.now.entries (c.in-Some.first.now, c.in-Some.font.now)
    (sym c.peek_mru.ensures ∙ ap (option_map (λ p. (p.0.now, p.1.now))) c.in-Some.is) passed

pub returns-in-Some-clause-first : goal.returns-in-Some-clause-first
returns-in-Some-clause-first g c =
    let passed : key_eq (arc_value c.args.key.now) (arc_value c.in-Some.first.now) ≡ true = search rules in
    newest_stays (arc_value c.args.key.now) c.args.fonts.now.entries (c.in-Some.first.now, c.in-Some.font.now)
    (sym c.peek_mru.ensures ∙ ap (option_map (λ p. (p.0.now, p.1.now))) c.in-Some.is) passed
