-- How many nybbles a number takes by each dyn_f, in two parts, and how many several take.
use Rattle.std.specs.Prelude.{ℕ, zero, suc, ◌+◌, nat_lt, if◌then◌else◌, slice_index}
use Rattle.pk_packer.specs.declared.numbers.NybbleCounts.{NybbleCounts}
use Rattle.pk_packer.specs.declared.tally.Tally.{Tally}

abbrev pub nybbles_by : NybbleCounts → ℕ → ℕ
nybbles_by c dyn_f = if nat_lt dyn_f c.turn then c.before else c.from

-- the sum of what a function gives below a number
abbrev pub sum_below : (ℕ → ℕ) → ℕ → ℕ
sum_below g zero = 0
sum_below g (suc n) = sum_below g n + g n

-- what the numbers of each turn take, where the turns below one have passed
abbrev pub taken : Tally → ℕ → ℕ → ℕ
taken t passed turn =
    if nat_lt turn passed then slice_index t.from turn else slice_index t.before turn

unfoldable pub nybbles_past : Tally → ℕ → ℕ
nybbles_past t passed = sum_below (taken t passed) 15
