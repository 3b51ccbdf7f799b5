-- Lists of numbers in which each number below a bound stands once.
use Rattle.std.specs.Prelude.{◌≡◌, ℕ, ◌<◌, ◌≤◌, ◌==◌, List, count_by}

-- how often the number stands in the list
abbrev pub times : ℕ → List ℕ → ℕ
times x xs = count_by (λ y. y == x) xs

-- each number below n stands once, and no other number stands there
abbrev pub EachOnce : ℕ → List ℕ → Type 0
EachOnce n xs = (x : ℕ) → (x < n → times x xs ≡ 1) × (n ≤ x → times x xs ≡ 0)
