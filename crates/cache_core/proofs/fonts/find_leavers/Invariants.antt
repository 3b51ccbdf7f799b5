use Rattle.std.proofs.Common.{◌≡◌, ◌-◌, length}
use Rattle.cache_core.proofs.Leaving.{Searched}
use Rattle.cache_core.proofs.fonts.find_leavers.Given as goal

abbrev pub invariant-loop-gone : goal.invariant-loop-gone
invariant-loop-gone g l =
    (l.count ≡ length l.resident.fonts.entries)
    × Searched g.T.Stands.weighs l.limits l.weight l.resident.fonts.entries
    (l.count - l.gone) l.oldest l.noted.items l.answered.items l.rest
