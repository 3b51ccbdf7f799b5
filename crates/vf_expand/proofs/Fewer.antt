-- How many steps may still come.
use Rattle.std.proofs.Common.{◌-◌, ◌+◌, ◌<◌, ◌≤◌, ℕ, arith, Some, None, Option}
use Rattle.vf_expand.specs.Course.{Current, NoFont, Chosen, Known}
use Rattle.vf_expand.specs.Expansion.{asks_from, lacks_from}
use Rattle.vf_expand.specs.declared.pending.Pending.{Pending}

-- a flat command lowers both counts, whatever font is then current
pub falls : (b : ℕ) (old new : Current) → asks_from (b - 1) new ≤ asks_from b old
falls b old new = omega (arith, most b new, least b old) where
  most : (b : ℕ) (new : Current) → asks_from (b - 1) new ≤ b - 1
  most b NoFont = omega arith
  most b (Chosen k) = omega arith
  most b (Known k d) = omega arith

  least : (b : ℕ) (old : Current) → b - 1 ≤ asks_from b old
  least b NoFont = omega arith
  least b (Chosen k) = omega arith
  least b (Known k d) = omega arith

pub lacks_fall : (b : ℕ) (old new : Option Pending) → lacks_from (b - 1) new ≤ lacks_from b old
lacks_fall b old new = omega (arith, most (b - 1) new, least b old) where
  most : (b : ℕ) (new : Option Pending) → lacks_from b new ≤ b
  most b None = omega arith
  most b (Some p) = omega arith

  least : (b : ℕ) (old : Option Pending) → b - 1 ≤ lacks_from b old
  least b None = omega arith
  least b (Some p) = omega arith

pub fewer : (b : ℕ) (old new : Current) (before after : Option Pending) → 0 < b
    → (b - 1) + asks_from (b - 1) new + lacks_from (b - 1) after < b + asks_from b old + lacks_from b before
fewer b old new before after h = omega (arith, falls b old new, lacks_fall b before after, h)
