-- Pixels of a part of some bytes.
use Rattle.std.proofs.Common.{◌≡◌, ℕ, ◌+◌, ◌-◌, ◌*◌, ◌/◌, ◌%◌, ◌<◌, ◌≤◌, false, eqb, List, length, get_or, take, drop, ap, ap₂, sym, subst, ◌∙◌, arith}
use Rattle.std.specs.Int.{bit_at}
use Rattle.std.proofs.lemmas.List.{places, get_or_past}
use Rattle.std.proofs.lemmas.Nat.Bits.{bit_at-zero}
use Rattle.packed_rows.specs.Packing.{pixel}

-- what lies after a row's bytes is white
pub pixel_past : (row : List ℕ) (x : ℕ) → 8 * length row ≤ x → pixel row x ≡ false
pixel_past row x h = ap (λ n. eqb (bit_at n (7 - x % 8)) 1) (get_or_past row (x / 8) 0 (omega (arith, h))) ∙ ap (λ n. eqb n 1) (bit_at-zero (7 - x % 8))

-- a pixel of k bytes among others
pub of_part : (upper : List ℕ) (above k j : ℕ) → j < 8 * k → pixel (take k (drop above upper)) j ≡ pixel upper (8 * above + j)
of_part upper above k j h =
    ap (λ b. eqb (bit_at b (7 - j % 8)) 1) byte ∙ ap₂ (λ i p. eqb (bit_at (get_or upper i 0) (7 - p)) 1) place rest
  where
    byte : get_or (take k (drop above upper)) (j / 8) 0 ≡ get_or upper (above + j / 8) 0
    byte = grind (arith, places)

    place : above + j / 8 ≡ (8 * above + j) / 8
    place = omega arith

    rest : j % 8 ≡ (8 * above + j) % 8
    rest = omega arith

pub part_small : (bytes : List ℕ) (at k i : ℕ) → ((j : ℕ) → get_or bytes j 0 < 256) → i < k → get_or (take k (drop at bytes)) i 0 < 256
part_small bytes at k i small h = subst (λ (n : ℕ). n < 256) (sym byte) (small (at + i))
  where
    byte : get_or (take k (drop at bytes)) i 0 ≡ get_or bytes (at + i) 0
    byte = grind (arith, places)

pub past_part : (upper : List ℕ) (above k j : ℕ) → 8 * k ≤ j → pixel (take k (drop above upper)) j ≡ false
past_part upper above k j h = pixel_past (take k (drop above upper)) j (omega (arith, short, h))
  where
    short : length (take k (drop above upper)) ≤ k
    short = grind (arith, places)
