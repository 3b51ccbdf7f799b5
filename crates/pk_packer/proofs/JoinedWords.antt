-- Words of a row, joined, in which no pixel has the other colour.
use Rattle.std.proofs.Common.{◌≡◌, ℕ, ◌+◌, ◌*◌, ◌<◌, ◌≤◌, Bool, List, inl, inr, bit_or, arith}
use Rattle.std.proofs.lemmas.Bool.{cases_lt}
use Rattle.std.proofs.lemmas.Nat.{le_or_l, le_or_r}
use Rattle.packed_rows.specs.Packing.{pixel}

-- if a number is 0, so many bytes from one on have a colour
abbrev pub Tells : List ℕ → ℕ → ℕ → Bool → ℕ → Type 0
Tells row at size black word = word ≡ 0 → (x : ℕ) → 8 * at ≤ x → x < 8 * at + 8 * size → pixel row x ≡ black

pub two : (row : List ℕ) (at size more both : ℕ) (black : Bool) (m n : ℕ) → both ≡ size + more → Tells row at size black m → Tells row (at + size) more black n → Tells row at both black (bit_or m n)
two row at size more both black m n sum left right none x low high = elim (cases_lt x (8 * at + 8 * size)) [
  | inl before ↦ left (omega (arith, none, le_or_l m n)) x low before
  | inr behind ↦ right (omega (arith, none, le_or_r m n)) x (omega (arith, behind)) (omega (arith, high, sum))
]

pub eight : (row : List ℕ) (at size : ℕ) (black : Bool) (a b c d e f g h : ℕ)
    → Tells row at size black a → Tells row (at + size) size black b → Tells row (at + 2 * size) size black c → Tells row (at + 3 * size) size black d
    → Tells row (at + 4 * size) size black e → Tells row (at + 5 * size) size black f → Tells row (at + 6 * size) size black g → Tells row (at + 7 * size) size black h
    → Tells row at (8 * size) black (bit_or (bit_or (bit_or (bit_or (bit_or (bit_or (bit_or a b) c) d) e) f) g) h)
eight row at size black a b c d e f g h p q r s t u v w =
    two row at (7 * size) size (8 * size) black _ h (omega arith)
    (two row at (6 * size) size (7 * size) black _ g (omega arith)
    (two row at (5 * size) size (6 * size) black _ f (omega arith)
    (two row at (4 * size) size (5 * size) black _ e (omega arith)
    (two row at (3 * size) size (4 * size) black _ d (omega arith)
    (two row at (2 * size) size (3 * size) black _ c (omega arith)
    (two row at size size (2 * size) black a b (omega arith) p q) r) s) t) u) v) w
