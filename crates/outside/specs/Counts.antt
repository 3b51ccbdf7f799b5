-- Counts that are kept in a `u64`.
use Rattle.std.specs.Prelude.{◌≡◌, ◌⊎◌, ◌<◌, ◌≤◌, ◌+◌, ◌-◌, ◌^◌, ℕ, min}

-- one more, but for the last number of a `u64`, where a count stays
abbrev pub next_count : ℕ → ℕ
next_count n = min (n + 1) (2 ^ 64 - 1)

-- a count rose, or stands at the last number of a `u64`
abbrev pub Rose : ℕ → ℕ → Type 0
Rose before now = (before < now) ⊎ (now ≡ 2 ^ 64 - 1)

-- a count never falls, and it rose where there was a failure
pub record HasCause (before now : ℕ) (failure : Type 0) : Type 0 where
  pub never_falls : before ≤ now
  pub rose : failure → Rose before now
