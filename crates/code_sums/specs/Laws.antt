-- Laws of sums over codes.
use Rattle.std.specs.Prelude.{◌≡◌, ◌≢◌, ℕ, ◌+◌, ◌*◌, ◌<◌, ◌≤◌}
use Rattle.code_sums.specs.Sums.{CODES, sum_of_codes}

-- equal terms have one sum
abbrev pub EqualTermsHaveOneSum : Type 0
EqualTermsHaveOneSum =
    (f g : ℕ → ℕ) → ((c : ℕ) → c < CODES → f c ≡ g c) → sum_of_codes f ≡ sum_of_codes g

-- where all terms but that of one code stay, the sum changes by as much as that term
abbrev pub OneTermChanges : Type 0
OneTermChanges =
    (f g : ℕ → ℕ) (k : ℕ) → k < CODES → ((c : ℕ) → c ≢ k → g c ≡ f c)
    → sum_of_codes g + f k ≡ sum_of_codes f + g k

-- no term is greater than the sum
abbrev pub TermsAreInTheSum : Type 0
TermsAreInTheSum = (f : ℕ → ℕ) (c : ℕ) → c < CODES → f c ≤ sum_of_codes f

-- where no term is greater than n, the sum is at most n for each code
abbrev pub SumsAreBounded : Type 0
SumsAreBounded = (f : ℕ → ℕ) (n : ℕ) → ((c : ℕ) → f c ≤ n) → sum_of_codes f ≤ CODES * n
