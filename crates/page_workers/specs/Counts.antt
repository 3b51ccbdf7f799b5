-- A count of loads beside the count that the source of the files keeps.
use Rattle.std.specs.Prelude.{◌≡◌, ℕ, ◌+◌, ◌-◌, ◌^◌, ◌<◌, ◌≤◌, min}

-- the source's count rose from `begun` by `count`, or by less where it stands still at the last
-- value of a `u64`
pub record CountedLoads (begun count now : ℕ) : Type 0 where
  pub most : now ≤ begun + count
  pub least : min begun (2 ^ 64 - 1) ≤ now
  pub exact : now < 2 ^ 64 - 1 → now ≡ begun + count
