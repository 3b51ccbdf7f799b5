-- Histories of the machine, and what holds in each state that a legal history leads to.
use Rattle.std.proofs.Common.{◌≡◌, Bool, true, false, cond, List, [], ◌∷◌, ◌++◌, Option, Some, None, refl}
use Rattle.std.specs.Prelude.{IsSome}
use Rattle.cache_core.specs.declared.calls.Call.{Call}
use Rattle.cache_core.specs.declared.limits.Limits.{Limits}
use Rattle.cache_core.specs.Machine.{Machine, machine_after, allows, next, empty}
use Rattle.cache_core.specs.Laws.{PrefixesAreLegal}

-- one call more
pub after_one : (limits : Limits) (m n : Machine) (calls : List Call) (c : Call) → machine_after limits m calls ≡ Some n → allows limits n c ≡ true
    → machine_after limits m (calls ++ c ∷ []) ≡ Some (next limits n c)
after_one limits m n [] c h allowed = let same : m ≡ n = cc in rw (same, allowed) refl
after_one limits m n (d ∷ calls) c h allowed = (elim (allows limits m d) as (λ b. allows limits m d ≡ b → machine_after limits m (d ∷ calls ++ c ∷ []) ≡ Some (next limits n c)) [
  | true ↦ λ t. rw t (after_one limits (next limits m d) n calls c (rw t at h) allowed)
  | false ↦ λ t. let h' = rw t at h in absurd cc
]) refl

-- a choice that gives a state gave it at true
pub chosen : (b : Bool) (o : Option Machine) → IsSome (cond b o None) → (b ≡ true) × IsSome o
chosen true o h = (refl, h)
chosen false o h = absurd cc

legal_from : (limits : Limits) (m : Machine) (xs ys : List Call) → IsSome (machine_after limits m (xs ++ ys)) → IsSome (machine_after limits m xs)
legal_from limits m [] ys h = refl
legal_from limits m (c ∷ xs) ys h =
    let both = chosen (allows limits m c) (machine_after limits (next limits m c) (xs ++ ys)) h in
    rw both.0 (legal_from limits (next limits m c) xs ys both.1)

pub prefixes_are_legal : PrefixesAreLegal
prefixes_are_legal limits xs ys h = legal_from limits empty xs ys h
