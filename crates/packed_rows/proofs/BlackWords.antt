-- Rows that were blackened by one word each.
use Rattle.std.proofs.Common.{◌≡◌, ℕ, ◌+◌, ◌-◌, ◌*◌, ◌/◌, ◌%◌, ◌<◌, ◌≤◌, ◌⊎◌, inl, inr, Bool, true, false, ◌&&◌, ◌||◌, List, length, get_or, drop, refl, ap, ap₂, sym, subst, ◌∙◌, arith}
use Rattle.std.proofs.lemmas.Bool.{cases_lt, and_right}
use Rattle.std.proofs.lemmas.Bool.Decides.{nat_tests}
use Rattle.std.proofs.lemmas.List.{length-take-le, length-drop}
use Rattle.std.proofs.lemmas.List.Elements.{All-from_get_or}
use Rattle.packed_rows.specs.Packing.{pixel, IsPadded}
use Rattle.packed_rows.specs.Stored.{row_at}
use Rattle.packed_rows.specs.Changes.{is_within}
use Rattle.packed_rows.specs.Stamped.{word_pixel}
use Rattle.packed_rows.proofs.Blackened.{IsBlackened, ordered}
use Rattle.packed_rows.proofs.StoredRows.{next_start}
use Rattle.packed_rows.proofs.Parts.{of_part, part_small}

before_span : (from until x : ℕ) → x < from → is_within from until x ≡ false
before_span from until x h = grind (arith, nat_tests)

after_span : (from until x : ℕ) → until ≤ x → is_within from until x ≡ false
after_span from until x h = grind (arith, nat_tests)

in_span : (from until x : ℕ) → from ≤ x → x < until → is_within from until x ≡ true
in_span from until x h g = grind (arith, nat_tests)

-- the word has the pixels of the columns, counted from its first byte
abbrev pub IsSpan : ℕ → ℕ → ℕ → Type 0
IsSpan from until word = (j : ℕ) → j < 64 → word_pixel word j ≡ is_within (from % 8) (until - 8 * (from / 8)) j

moved_span : (from until x : ℕ) → 8 * (from / 8) ≤ x → is_within (from % 8) (until - 8 * (from / 8)) (x - 8 * (from / 8)) ≡ is_within from until x
moved_span from until x h = grind (arith, nat_tests)

-- what the word sets in a row that begins at byte o
in_row : (from until o x word : ℕ) → from < until → until ≤ 8 * (from / 8) + 64 → IsSpan from until word
    → (is_within (8 * (o + from / 8)) (8 * (o + from / 8) + 64) (8 * o + x) && word_pixel word (8 * o + x - 8 * (o + from / 8))) ≡ is_within from until x
in_row from until o x word some few span = by (cases_lt x (8 * (from / 8))) (cases_lt x (8 * (from / 8) + 64))
  where
    by : (x < 8 * (from / 8)) ⊎ (8 * (from / 8) ≤ x) → (x < 8 * (from / 8) + 64) ⊎ (8 * (from / 8) + 64 ≤ x)
        → (is_within (8 * (o + from / 8)) (8 * (o + from / 8) + 64) (8 * o + x) && word_pixel word (8 * o + x - 8 * (o + from / 8))) ≡ is_within from until x
    by (inl before) other =
        ap (λ b. b && word_pixel word (8 * o + x - 8 * (o + from / 8))) (before_span (8 * (o + from / 8)) (8 * (o + from / 8) + 64) (8 * o + x) (omega (arith, before)))
        ∙ sym (before_span from until x (omega (arith, before)))
    by (inr low) (inl high) =
        let place : 8 * o + x - 8 * (o + from / 8) ≡ x - 8 * (from / 8) = omega (arith, low) in
        ap₂ (λ a b. a && b) (in_span (8 * (o + from / 8)) (8 * (o + from / 8) + 64) (8 * o + x) (omega (arith, low)) (omega (arith, high)))
        (ap (word_pixel word) place ∙ span (x - 8 * (from / 8)) (omega (arith, low, high)) ∙ moved_span from until x low)
    by (inr low) (inr past) =
        ap (λ b. b && word_pixel word (8 * o + x - 8 * (o + from / 8))) (after_span (8 * (o + from / 8)) (8 * (o + from / 8) + 64) (8 * o + x) (omega (arith, past)))
        ∙ sym (after_span from until x (omega (arith, past, few)))

-- it sets nothing in a row that ends before byte o, or begins after the row's own bytes
in_other : (from until o q k x word : ℕ) → x < 8 * k → until ≤ 8 * k → (q + k ≤ o) ⊎ (o + k ≤ q) → IsSpan from until word
    → (is_within (8 * (o + from / 8)) (8 * (o + from / 8) + 64) (8 * q + x) && word_pixel word (8 * q + x - 8 * (o + from / 8))) ≡ false
in_other from until o q k x word inside whole (inl before) span =
    ap (λ b. b && word_pixel word (8 * q + x - 8 * (o + from / 8))) (before_span (8 * (o + from / 8)) (8 * (o + from / 8) + 64) (8 * q + x) (omega (arith, before, inside)))
in_other from until o q k x word inside whole (inr after) span = by (cases_lt (8 * q + x) (8 * (o + from / 8))) (cases_lt (8 * q + x) (8 * (o + from / 8) + 64))
  where
    by : (8 * q + x < 8 * (o + from / 8)) ⊎ (8 * (o + from / 8) ≤ 8 * q + x) → (8 * q + x < 8 * (o + from / 8) + 64) ⊎ (8 * (o + from / 8) + 64 ≤ 8 * q + x)
        → (is_within (8 * (o + from / 8)) (8 * (o + from / 8) + 64) (8 * q + x) && word_pixel word (8 * q + x - 8 * (o + from / 8))) ≡ false
    by (inl low) other = ap (λ b. b && word_pixel word (8 * q + x - 8 * (o + from / 8))) (before_span (8 * (o + from / 8)) (8 * (o + from / 8) + 64) (8 * q + x) low)
    by (inr low) (inl high) =
        and_right (is_within (8 * (o + from / 8)) (8 * (o + from / 8) + 64) (8 * q + x)) (word_pixel word (8 * q + x - 8 * (o + from / 8)))
        (span (8 * q + x - 8 * (o + from / 8)) (omega (arith, low, high)) ∙ after_span (from % 8) (until - 8 * (from / 8)) (8 * q + x - 8 * (o + from / 8)) (omega (arith, low, after, whole)))
    by (inr low) (inr past) = ap (λ b. b && word_pixel word (8 * q + x - 8 * (o + from / 8))) (after_span (8 * (o + from / 8)) (8 * (o + from / 8) + 64) (8 * q + x) past)

-- the word was joined into the bytes at byte `at`
abbrev pub IsJoinedAt : ℕ → ℕ → List ℕ → List ℕ → Type 0
IsJoinedAt at word old new = (x : ℕ) → x < 8 * length old → pixel new x ≡ (is_within (8 * at) (8 * at + 64) x && word_pixel word (x - 8 * at) || pixel old x)

-- one row is blackened by a word
pub row_blackened : (stride from until y word : ℕ) (old new : List ℕ) → from < until → until ≤ 8 * (from / 8) + 64 → until ≤ 8 * stride → length new ≡ length old
    → ((j : ℕ) → get_or new j 0 < 256) → IsSpan from until word → IsJoinedAt (y * stride + from / 8) word old new → IsBlackened stride from until y (y + 1) old new
row_blackened stride from until y word old new some few whole long small span joined = record { len = long; dots = dots; padded = padded }
  where
    there : (r x : ℕ) → x < 8 * stride → (((r < y) ⊎ (y < r)) ⊎ (r ≡ y))
        → (is_within (8 * (y * stride + from / 8)) (8 * (y * stride + from / 8) + 64) (8 * (r * stride) + x) && word_pixel word (8 * (r * stride) + x - 8 * (y * stride + from / 8)))
        ≡ (is_within from until x && is_within y (y + 1) r)
    there r x inside (inl (inl before)) =
        in_other from until (y * stride) (r * stride) stride x word inside whole (inl (next_start r y stride before)) span
        ∙ sym (and_right (is_within from until x) (is_within y (y + 1) r) (before_span y (y + 1) r before))
    there r x inside (inl (inr after)) =
        in_other from until (y * stride) (r * stride) stride x word inside whole (inr (next_start y r stride after)) span
        ∙ sym (and_right (is_within from until x) (is_within y (y + 1) r) (after_span y (y + 1) r (omega (arith, after))))
    there r x inside (inr here) =
        subst (λ (k : ℕ). (is_within (8 * (y * stride + from / 8)) (8 * (y * stride + from / 8) + 64) (8 * (k * stride) + x) && word_pixel word (8 * (k * stride) + x - 8 * (y * stride + from / 8)))
        ≡ (is_within from until x && is_within y (y + 1) k)) (sym here)
        (in_row from until (y * stride) x word some few span ∙ sym (both (is_within from until x) (is_within y (y + 1) y) (in_span y (y + 1) y (omega arith) (omega arith))))
      where
        both : (a b : Bool) → b ≡ true → (a && b) ≡ a
        both true b e = e
        both false b e = refl

    dots : (x r : ℕ) → x < 8 * stride → r * stride + stride ≤ length old → pixel (row_at stride new r) x ≡ (is_within from until x && is_within y (y + 1) r || pixel (row_at stride old r) x)
    dots x r inside fit =
        of_part new (r * stride) stride x inside ∙ joined (8 * (r * stride) + x) (omega (arith, inside, fit))
        ∙ ap₂ (λ a b. a || b) (there r x inside (ordered y r (cases_lt y r) (cases_lt r y))) (sym (of_part old (r * stride) stride x inside))

    padded : (width r : ℕ) → until ≤ width → r * stride + stride ≤ length old → IsPadded width (row_at stride old r) → IsPadded width (row_at stride new r)
    padded width r wide fit p = record {
      len = now ∙ sym before ∙ p.len;
      small = All-from_get_or (λ b. b < 256) (row_at stride new r) 0 (λ i h. part_small new (r * stride) stride i small (omega (arith, h, now)));
      zero_after = λ x beyond inside.
          dots x r (omega (arith, inside, now)) fit
          ∙ ap (λ b. b && is_within y (y + 1) r || pixel (row_at stride old r) x) (after_span from until x (omega (arith, beyond, wide)))
          ∙ p.zero_after x beyond (omega (arith, inside, now, before));
    }
      where
        now : length (row_at stride new r) ≡ stride
        now = length-take-le stride (drop (r * stride) new) (omega (arith, fit, long, length-drop (r * stride) new))

        before : length (row_at stride old r) ≡ stride
        before = length-take-le stride (drop (r * stride) old) (omega (arith, fit, length-drop (r * stride) old))

-- rows blackened after those before them
pub blackened_on : (stride from until first y last : ℕ) (old mid new : List ℕ) → first ≤ y → y ≤ last
    → IsBlackened stride from until y last mid new → IsBlackened stride from until first y old mid → IsBlackened stride from until first last old new
blackened_on stride from until first y last old mid new low high after before = record {
  len = after.len ∙ before.len;
  dots = λ x z inside fit.
      after.dots x z inside (omega (arith, fit, before.len)) ∙ ap (λ b. is_within from until x && is_within y last z || b) (before.dots x z inside fit)
      ∙ joined (is_within from until x) (is_within y last z) (is_within first y z) (pixel (row_at stride old z) x)
      ∙ ap (λ b. is_within from until x && b || pixel (row_at stride old z) x) (both z);
  padded = λ width z wide fit p. after.padded width z wide (omega (arith, fit, before.len)) (before.padded width z wide fit p);
}
  where
    joined : (a b c d : Bool) → (a && b || (a && c || d)) ≡ (a && (b || c) || d)
    joined true true c d = refl
    joined true false c d = refl
    joined false b c d = refl

    both : (z : ℕ) → (is_within y last z || is_within first y z) ≡ is_within first last z
    both z = grind (arith, nat_tests)
