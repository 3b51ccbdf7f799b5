-- A number with a comma behind it.
use Rattle.std.proofs.Common.{◌≡◌, ◌∙◌, ℕ, ◌^◌, ◌<◌, ◌≤◌, eqb, false, cond, List, [], ◌∷◌, ◌++◌, codes, decimal, refl, ap, arith}
use Rattle.std.proofs.lemmas.Bool.Decides.{nat_tests}
use Rattle.std.proofs.lemmas.Fmt.{decimal_by_steps}

-- bytes that come after the comma
abbrev AreAbove : List ℕ → Type 0
AreAbove [] = Unit {0}
AreAbove (b ∷ bs) = (45 ≤ b) × AreAbove bs

above_append : (xs ys : List ℕ) → AreAbove xs → AreAbove ys → AreAbove (xs ++ ys)
above_append [] ys none above = above
above_append (x ∷ xs) ys some above = (some.0, above_append xs ys some.1 above)

decimal_is_above : (n : ℕ) → n < 2 ^ 64 → AreAbove (decimal n)
decimal_is_above n small =
    decimal_by_steps (λ (m : ℕ) (ds : List ℕ). AreAbove ds) (λ (m : ℕ) (one : m < 10). (omega arith, tt))
    (λ (m : ℕ) (ds : List ℕ) (more : 10 ≤ m) (above : AreAbove ds). above_append ds _ above (omega arith, tt)) n small

-- the bytes up to the comma
abbrev pub before_comma : List ℕ → List ℕ
before_comma [] = []
before_comma (b ∷ bs) = cond (eqb b 44) [] (b ∷ before_comma bs)

is_no_comma : (b : ℕ) → 45 ≤ b → eqb b 44 ≡ false
is_no_comma b above = grind (arith, nat_tests)

alone : (bs : List ℕ) → AreAbove bs → before_comma bs ≡ bs
alone [] above = refl
alone (b ∷ bs) above = ap (λ t. cond t [] (b ∷ before_comma bs)) (is_no_comma b above.0) ∙ ap (λ (l : List ℕ). b ∷ l) (alone bs above.1)

before : (bs : List ℕ) → AreAbove bs → before_comma (bs ++ codes ",") ≡ bs
before [] above = refl
before (b ∷ bs) above = ap (λ t. cond t [] (b ∷ before_comma (bs ++ codes ","))) (is_no_comma b above.0) ∙ ap (λ (l : List ℕ). b ∷ l) (before bs above.1)

pub decimal_alone : (n : ℕ) → n < 2 ^ 32 → before_comma (decimal n) ≡ decimal n
decimal_alone n small = alone (decimal n) (decimal_is_above n (omega arith))

pub decimal_before : (n : ℕ) → n < 2 ^ 32 → before_comma (decimal n ++ codes ",") ≡ decimal n
decimal_before n small = before (decimal n) (decimal_is_above n (omega arith))
