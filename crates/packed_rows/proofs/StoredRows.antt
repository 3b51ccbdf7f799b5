-- Rows that lie side by side, after one of them was written.
use Rattle.std.proofs.Common.{◌≡◌, ℕ, ◌+◌, ◌*◌, ◌<◌, ◌≤◌, ◌⊎◌, inl, inr, List, length, take, drop, ap, ◌∙◌, arith}
use Rattle.std.proofs.lemmas.List.{places, same_lists}
use Rattle.std.proofs.Math.Nat.{mul-le-mul_right}
use borrow.Rule.Slice.PartMut.{put_mid}
use Rattle.packed_rows.specs.Stored.{row_at}

put_same : (bytes new : List ℕ) (a k : ℕ) → a + k ≤ length bytes → length new ≡ k → take k (drop a (put_mid a k bytes new)) ≡ new
put_same bytes new a k fit long = same_lists _ _ (grind (arith, places)) (λ i d h. grind (arith, places))

put_below : (bytes new : List ℕ) (a b k : ℕ) → a + k ≤ length bytes → length new ≡ k → b + k ≤ a → take k (drop b (put_mid a k bytes new)) ≡ take k (drop b bytes)
put_below bytes new a b k fit long apart = same_lists _ _ (grind (arith, places)) (λ i d h. grind (arith, places))

put_above : (bytes new : List ℕ) (a b k : ℕ) → a + k ≤ length bytes → length new ≡ k → a + k ≤ b → take k (drop b (put_mid a k bytes new)) ≡ take k (drop b bytes)
put_above bytes new a b k fit long apart = same_lists _ _ (grind (arith, places)) (λ i d h. grind (arith, places))

-- the row that was written
pub row_at-put_same : (stride y : ℕ) (bytes new : List ℕ) → y * stride + stride ≤ length bytes → length new ≡ stride → row_at stride (put_mid (y * stride) stride bytes new) y ≡ new
row_at-put_same stride y bytes new fit long = put_same bytes new (y * stride) stride fit long

pub next_start : (a b stride : ℕ) → a < b → a * stride + stride ≤ b * stride
next_start a b stride h = omega (arith, mul-le-mul_right stride h)

-- and the others
pub row_at-put_other : (stride y z : ℕ) (bytes new : List ℕ) → y * stride + stride ≤ length bytes → length new ≡ stride → (z < y) ⊎ (y < z) → row_at stride (put_mid (y * stride) stride bytes new) z ≡ row_at stride bytes z
row_at-put_other stride y z bytes new fit long (inl before) = put_below bytes new (y * stride) (z * stride) stride fit long (next_start z y stride before)
row_at-put_other stride y z bytes new fit long (inr after) = put_above bytes new (y * stride) (z * stride) stride fit long (next_start y z stride after)

pub row_at-length : (a k : ℕ) (bytes new : List ℕ) → a + k ≤ length bytes → length new ≡ k → length (put_mid a k bytes new) ≡ length bytes
row_at-length a k bytes new fit long = grind (arith, places)

-- ---- some rows among others

put_before : (bytes new : List ℕ) (a n b k : ℕ) → a + n ≤ length bytes → length new ≡ n → b + k ≤ a → take k (drop b (put_mid a n bytes new)) ≡ take k (drop b bytes)
put_before bytes new a n b k fit long apart = same_lists _ _ (grind (arith, places)) (λ i d h. grind (arith, places))

put_after : (bytes new : List ℕ) (a n b k : ℕ) → a + n ≤ length bytes → length new ≡ n → a + n ≤ b → take k (drop b (put_mid a n bytes new)) ≡ take k (drop b bytes)
put_after bytes new a n b k fit long apart = same_lists _ _ (grind (arith, places)) (λ i d h. grind (arith, places))

put_inside : (bytes new : List ℕ) (a n b k : ℕ) → a + n ≤ length bytes → length new ≡ n → b + k ≤ n → take k (drop (a + b) (put_mid a n bytes new)) ≡ take k (drop b new)
put_inside bytes new a n b k fit long inside = same_lists _ _ (grind (arith, places)) (λ i d h. grind (arith, places))

part_inside : (bytes : List ℕ) (a n b k : ℕ) → a + n ≤ length bytes → b + k ≤ n → take k (drop b (take n (drop a bytes))) ≡ take k (drop (a + b) bytes)
part_inside bytes a n b k fit inside = same_lists _ _ (grind (arith, places)) (λ i d h. grind (arith, places))

-- n bytes from row `first` on, which hold `count` rows, were written
pub row_at-put_before : (stride first n y : ℕ) (bytes new : List ℕ) → first * stride + n ≤ length bytes → length new ≡ n → y < first → row_at stride (put_mid (first * stride) n bytes new) y ≡ row_at stride bytes y
row_at-put_before stride first n y bytes new fit long before = put_before bytes new (first * stride) n (y * stride) stride fit long (next_start y first stride before)

pub row_at-put_after : (stride first count n y : ℕ) (bytes new : List ℕ) → n ≡ count * stride → first * stride + n ≤ length bytes → length new ≡ n → first + count ≤ y
    → row_at stride (put_mid (first * stride) n bytes new) y ≡ row_at stride bytes y
row_at-put_after stride first count n y bytes new is_n fit long after =
    put_after bytes new (first * stride) n (y * stride) stride fit long (omega (arith, is_n, mul-le-mul_right stride after))

pub row_at-put_inside : (stride first count n z : ℕ) (bytes new : List ℕ) → n ≡ count * stride → first * stride + n ≤ length bytes → length new ≡ n → z < count
    → row_at stride (put_mid (first * stride) n bytes new) (first + z) ≡ row_at stride new z
row_at-put_inside stride first count n z bytes new is_n fit long inside =
    ap (λ b. take stride (drop b (put_mid (first * stride) n bytes new))) place
    ∙ put_inside bytes new (first * stride) n (z * stride) stride fit long (omega (arith, is_n, next_start z count stride inside))
  where
    place : (first + z) * stride ≡ first * stride + z * stride
    place = omega arith

pub row_at-part_inside : (stride first count n z : ℕ) (bytes : List ℕ) → n ≡ count * stride → first * stride + n ≤ length bytes → z < count
    → row_at stride (take n (drop (first * stride) bytes)) z ≡ row_at stride bytes (first + z)
row_at-part_inside stride first count n z bytes is_n fit inside =
    part_inside bytes (first * stride) n (z * stride) stride fit (omega (arith, is_n, next_start z count stride inside))
    ∙ ap (λ b. take stride (drop b bytes)) place
  where
    place : first * stride + z * stride ≡ (first + z) * stride
    place = omega arith
