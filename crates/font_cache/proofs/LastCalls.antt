-- What the last call of a list leaves.
use Rattle.std.proofs.Common.{◌≡◌, List, [], ◌∷◌, ◌++◌, Option, Some, None, refl, sym, ap, ◌∙◌}
use Rattle.outside.specs.declared.keys.FontKey.{FontKey}
use Rattle.cache_core.specs.declared.calls.Call.{Call}
use Rattle.cache_core.specs.declared.calls.Done.{Done}
use Rattle.cache_core.specs.declared.calls.Done.TheVariants.{Hit, Claimed, Busy, Filled, Released}
use Rattle.cache_core.specs.Histories.{own, left_by, open_from, open_claim}
use Rattle.cache_core.specs.Laws.{ClaimsAreOwn}
use Rattle.font_cache.specs.Laws.{LastClaims, ClaimsAreLast, HeldByLast}

pub open_last : (claim : Option FontKey) (xs : List Call) (c : Call) → open_from claim (xs ++ c ∷ []) ≡ left_by c.key c.done
open_last claim [] c = refl
open_last claim (x ∷ xs) c = open_last (left_by x.key x.done) xs c

-- a call that leaves a claim is the look that claimed it
leaves_claim : (k j : FontKey) (d : Done) → left_by j d ≡ Some k → (j ≡ k) × (d ≡ Claimed)
leaves_claim k j Claimed e = (cc, refl)
leaves_claim k j Hit e = absurd cc
leaves_claim k j Busy e = absurd cc
leaves_claim k j (Filled _ _ _) e = absurd cc
leaves_claim k j Released e = absurd cc

one_more : (k : FontKey) (x : Call) (calls : List Call) → LastClaims k calls → LastClaims k (x ∷ calls)
one_more k x calls l = (x ∷ l.0, l.1, ap (λ xs. x ∷ xs) l.2, l.3, l.4)

ends : (k : FontKey) (x : Call) (calls : List Call) → open_from (left_by x.key x.done) calls ≡ Some k → LastClaims k (x ∷ calls)
ends k x [] e = let both = leaves_claim k x.key x.done e in ([], x, refl, both.0, both.1)
ends k x (y ∷ calls) e = one_more k x (y ∷ calls) (ends k y calls e)

opens : (k : FontKey) (calls : List Call) → LastClaims k calls → open_claim calls ≡ Some k
opens k calls l = ap (open_from None) l.2 ∙ (open_last None l.0 l.1 ∙ (ap (left_by l.1.key) l.4 ∙ ap Some l.3))

starts : (k : FontKey) (calls : List Call) → open_claim calls ≡ Some k → LastClaims k calls
starts k [] e = absurd cc
starts k (x ∷ calls) e = ends k x calls e

pub claims_are_last : ClaimsAreLast
claims_are_last k calls = (starts k calls, opens k calls)

pub held_by_last : ClaimsAreOwn → HeldByLast
held_by_last law limits history m is seat k =
    let same = law limits history m is seat in
    (λ e. starts k (own seat history) (sym same ∙ e), λ l. same ∙ opens k (own seat history) l)
