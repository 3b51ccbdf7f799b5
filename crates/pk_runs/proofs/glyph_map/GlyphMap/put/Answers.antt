use Rattle.std.proofs.Common.{arith}
use Rattle.pk_runs.proofs.GlyphsKept.{other_kept}
use Rattle.pk_runs.proofs.glyph_map.GlyphMap.put.Goals as goal
use Rattle.pk_runs.proofs.glyph_map.GlyphMap.put.Goals.{in-Some-2, in-None-2}

pub returns-in_ok-insert-clause-put : goal.returns-in_ok-insert-clause-put
returns-in_ok-insert-clause-put c = λ k.
    let found = other_kept c.args.c k c.args.glyph c.self.inside.by_place.items c.self.inside.others.entries c.insert.new.self.entries (omega arith) (c.in_ok-insert.ensures.updates.0 k) in
    elim c.match-branch-2.branch [ in-Some-2 w ↦ rw (w.self-is, ← c.self.view_is) found | in-None-2 w ↦ rw (w.self-is, ← c.self.view_is) found ]
