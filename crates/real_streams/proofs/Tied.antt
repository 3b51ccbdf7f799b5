-- What a writer holds and what its log says, call by call.
use Rattle.std.proofs.Common.{ℕ, List, take, Option, Some, None, Result, Ok, Err, sym, subst}
use Rattle.std.proofs.Math.Logic.{∥∥₁_map}
use Rattle.std.specs.Io.KnownBytes.{Appends, WriteAppends}
use mathlib.Core.HLevel.{Unit-prop}
use mathlib.Core.List.{is_set}
use native.Mathlib.Nat.{ℕ_set}
use Rattle.outside.proofs.Growth.{grown_kept, grown_twice}
use Rattle.real_streams.specs.Logged.{Logs}

-- a write leaves a writer tied to its log
pub tied_on : {E : Type 0} (held old new : Option (List ℕ)) (before now bytes : List ℕ) (r : Result ℕ E) → ∥ Appends held old before ∥₁ → WriteAppends old new r bytes → Logs before now r bytes
    → ∥ Appends held new now ∥₁
tied_on held old new before now bytes (Ok n) tied took logged =
    ∥∥₁_map tied (λ t. subst (λ (xs : List ℕ). Appends held new xs) (sym logged) (grown_twice held old new before (take n bytes) t took))
tied_on held old new before now bytes (Err e) tied kept logged =
    ∥∥₁_map tied (λ t. subst (λ (xs : List ℕ). Appends held new xs) (sym logged) (grown_kept held old new before t kept))

pub Appends-prop : (held now : Option (List ℕ)) (bytes : List ℕ) → IsProp (Appends held now bytes)
Appends-prop None now bytes = Unit-prop
Appends-prop (Some xs) None bytes = λ p q. absurd p
Appends-prop (Some xs) (Some ys) bytes = is_set ℕ_set _ _
