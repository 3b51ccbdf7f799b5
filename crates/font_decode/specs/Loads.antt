-- How many loads a font takes, and how a count of them grows. It is kept in a `u64`, and stays at
-- its last number.
use Rattle.std.specs.Prelude.{◌≡◌, ℕ, ◌+◌, ◌-◌, ◌^◌, ◌<◌, ◌≤◌, min}

-- the most loads of one font: a file of widths, a VF file, three PK files and three GF files
abbrev pub MAX_LOADS : ℕ
MAX_LOADS = 8

-- it rose by k
abbrev pub RoseBy : ℕ → ℕ → ℕ → Type 0
RoseBy k before now = before < 2 ^ 64 → now ≡ min (before + k) (2 ^ 64 - 1)

-- it rose by k at most
pub record RoseUpTo (k before now : ℕ) : Type 0 where
  pub most : now ≤ before + k
  pub never_falls : min before (2 ^ 64 - 1) ≤ now

-- it rose by some number from `low` to `high`
pub record RoseWithin (low high before now : ℕ) : Type 0 where
  pub most : now ≤ before + high
  pub least : before < 2 ^ 64 → min (before + low) (2 ^ 64 - 1) ≤ now
