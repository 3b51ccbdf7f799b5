use Rattle.std.proofs.Common.{◌≡◌, ℕ, List, None, map, subst}
use Rattle.std.specs.Arc.{arc_value}
use Rattle.outside.specs.declared.keys.FontKey.{FontKey}
use Rattle.cache_core.specs.declared.limits.Limits.{Limits}
use Rattle.cache_core.specs.Hits.{NotedHits}
use Rattle.cache_core.specs.Machine.{claim_of}
use Rattle.cache_core.specs.States.{machine_of}
use Rattle.cache_core.specs.Views.{calls_of, fonts_of}
use Rattle.cache_core.proofs.hits.note_all.Goals as goal

pub returns-clause-noted : goal.returns-clause-noted
returns-clause-noted g c =
    subst (λ entries. (limits : Limits) (claims : List (ℕ × FontKey)) → claim_of c.args.seat claims ≡ None
    → NotedHits limits c.args.seat (machine_of g.T.Stands.weighs (fonts_of c.args.fonts.now.entries) claims) (machine_of g.T.Stands.weighs (fonts_of c.note_found.new.fonts.entries) claims)
    (calls_of entries) (calls_of c.note_found.new.entries.items) (map arc_value c.args.keys.now.items) (map arc_value c.note_found.new.keys.items))
    c.reserve.ensures.items c.note_found.ensures.noted
