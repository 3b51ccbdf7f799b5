-- Sums over codes: what holds of sums up to any code.
use Rattle.std.proofs.Common.{◌≡◌, inl, inr, ℕ, zero, suc, ◌+◌, ◌*◌, ◌≤◌, refl, arith}
use Rattle.std.specs.Prelude.{◌≢◌}
use Rattle.std.specs.Int.{sum_through}
use Rattle.std.proofs.lemmas.Bool.{cases_lt}
use Rattle.code_sums.specs.Sums.{last_code, sum_of_codes}
use Rattle.code_sums.specs.Laws.{EqualTermsHaveOneSum, OneTermChanges, TermsAreInTheSum, SumsAreBounded}

same_through : (f g : ℕ → ℕ) (n : ℕ) → ((c : ℕ) → c ≤ n → f c ≡ g c) → sum_through f n ≡ sum_through g n
same_through f g zero same = same 0 (omega arith)
same_through f g (suc n) same =
    let before = same_through f g n (λ c small. same c (omega (arith, small))) in
    let last = same (suc n) (omega arith) in
    omega arith

changed_through : (f g : ℕ → ℕ) (k n : ℕ) → k ≤ n → ((c : ℕ) → c ≢ k → g c ≡ f c) → sum_through g n + f k ≡ sum_through f n + g k
changed_through f g zero zero small others = omega arith
changed_through f g (suc k) zero small others = absurd (omega (arith, small))
changed_through f g k (suc n) small others = elim (cases_lt k (suc n)) [
  | inl below ↦
      let before = changed_through f g k n (omega arith) others in
      let last = others (suc n) (λ same. omega (arith, same, below)) in
      omega arith
  | inr least ↦
      let is : k ≡ suc n = omega arith in
      let before = same_through g f n (λ c few. others c (λ same. omega (arith, same, few, is))) in
      rw is (omega arith)
]

each_through : (f : ℕ → ℕ) (c n : ℕ) → c ≤ n → f c ≤ sum_through f n
each_through f zero zero small = omega arith
each_through f (suc c) zero small = absurd (omega (arith, small))
each_through f c (suc n) small = elim (cases_lt c (suc n)) [
  | inl below ↦ let before = each_through f c n (omega arith) in omega arith
  | inr least ↦ let is : c ≡ suc n = omega arith in rw is (omega arith)
]

bound_through : (f : ℕ → ℕ) (m n : ℕ) → ((c : ℕ) → f c ≤ m) → sum_through f n ≤ suc n * m
bound_through f m zero few = let first = few 0 in omega arith
bound_through f m (suc n) few =
    let before = bound_through f m n few in
    let last = few (suc n) in
    omega arith

last_is : last_code + 1 ≡ 4294967296
unfolding last_code
last_is = refl

pub equal_terms_have_one_sum : EqualTermsHaveOneSum
unfolding sum_of_codes
equal_terms_have_one_sum f g same = same_through f g last_code (λ c small. same c (let last = last_is in omega (arith, small, last)))

pub one_term_changes : OneTermChanges
unfolding sum_of_codes
one_term_changes f g k code others = let last = last_is in changed_through f g k last_code (omega arith) others

pub terms_are_in_the_sum : TermsAreInTheSum
unfolding sum_of_codes
terms_are_in_the_sum f c code = let last = last_is in each_through f c last_code (omega arith)

pub sums_are_bounded : SumsAreBounded
unfolding sum_of_codes
sums_are_bounded f n few =
    let all = bound_through f n last_code few in
    let last : suc last_code ≡ 4294967296 = let is = last_is in omega arith in
    rw last at all
