-- Rows that were blackened one after another.
use Rattle.std.proofs.Common.{◌≡◌, ℕ, ◌+◌, ◌*◌, ◌<◌, ◌≤◌, ◌⊎◌, inl, inr, Bool, true, false, ◌&&◌, ◌||◌, ltb, leb, List, length, take, drop, refl, ap, sym, subst, ◌∙◌, arith}
use Rattle.std.proofs.lemmas.Bool.{cases_lt, le-ltb, and_right}
use Rattle.std.proofs.lemmas.Bool.Decides.{nat_tests}
use Rattle.std.proofs.lemmas.List.{length-take-le, length-drop}
use borrow.Rule.Slice.PartMut.{put_mid}
use Rattle.packed_rows.specs.Packing.{pixel, IsPadded}
use Rattle.packed_rows.specs.Stored.{row_at}
use Rattle.packed_rows.specs.Changes.{is_within}
use Rattle.packed_rows.proofs.StoredRows.{row_at-put_same, row_at-put_other, row_at-length}

-- the columns from `from` to `until` of the rows from `first` to `last` are blackened
pub record IsBlackened (stride from until first last : ℕ) (old new : List ℕ) : Type 0 where
  pub len : length new ≡ length old
  pub dots : (x y : ℕ) → x < 8 * stride → y * stride + stride ≤ length old → pixel (row_at stride new y) x ≡ (is_within from until x && is_within first last y || pixel (row_at stride old y) x)
  pub padded : (width y : ℕ) → until ≤ width → y * stride + stride ≤ length old → IsPadded width (row_at stride old y) → IsPadded width (row_at stride new y)

in_step : (first y : ℕ) → first ≤ y → is_within first (y + 1) y ≡ true
in_step first y h = grind (arith, nat_tests)

not_yet : (first y : ℕ) → is_within first y y ≡ false
not_yet first y = and_right (leb first y) (ltb y y) (le-ltb y y (omega arith))

pub elsewhere : (first y z : ℕ) → (z < y) ⊎ (y < z) → is_within first y z ≡ is_within first (y + 1) z
elsewhere first y z (inl h) = grind (arith, nat_tests)
elsewhere first y z (inr h) = grind (arith, nat_tests)

pub ordered : (y z : ℕ) → (y < z) ⊎ (z ≤ y) → (z < y) ⊎ (y ≤ z) → ((z < y) ⊎ (y < z)) ⊎ (z ≡ y)
ordered y z (inl h) b = inl (inr h)
ordered y z (inr h) (inl g) = inl (inl g)
ordered y z (inr h) (inr g) = inr (omega (arith, h, g))

now_in : (a b p : Bool) → b ≡ false → (a || (a && b || p)) ≡ (a && true || p)
now_in true b p h = refl
now_in false b p h = refl

-- before the first row
pub blackened_none : (stride from until first : ℕ) (old : List ℕ) → IsBlackened stride from until first first old old
blackened_none stride from until first old = record {
  len = refl;
  dots = λ x y _ _. sym (ap (λ b. b || pixel (row_at stride old y) x) (and_right (is_within from until x) (is_within first first y) (nowhere y)));
  padded = λ width y _ _ p. p;
}
  where
    nowhere : (y : ℕ) → is_within first first y ≡ false
    nowhere y = grind (arith, nat_tests)

step : (stride from until first y : ℕ) (old mid new : List ℕ) → first ≤ y → y * stride + stride ≤ length mid → length new ≡ stride
    → ((x : ℕ) → x < 8 * stride → pixel new x ≡ (is_within from until x || pixel (row_at stride mid y) x))
    → ((width : ℕ) → until ≤ width → IsPadded width (row_at stride mid y) → IsPadded width new)
    → IsBlackened stride from until first y old mid → IsBlackened stride from until first (y + 1) old (put_mid (y * stride) stride mid new)
step stride from until first y old mid new low fit long pixels keeps before = record {
  len = put_long ∙ before.len;
  dots = λ x z in_row on_page. dots_at x z in_row on_page (ordered y z (cases_lt y z) (cases_lt z y));
  padded = λ width z wide on_page p. padded_at width z wide on_page p (ordered y z (cases_lt y z) (cases_lt z y));
}
  where
    put_long : length (put_mid (y * stride) stride mid new) ≡ length mid
    put_long = row_at-length (y * stride) stride mid new fit long

    same : row_at stride (put_mid (y * stride) stride mid new) y ≡ new
    same = row_at-put_same stride y mid new fit long

    dots_at : (x z : ℕ) → x < 8 * stride → z * stride + stride ≤ length old → (((z < y) ⊎ (y < z)) ⊎ (z ≡ y))
        → pixel (row_at stride (put_mid (y * stride) stride mid new) z) x ≡ (is_within from until x && is_within first (y + 1) z || pixel (row_at stride old z) x)
    dots_at x z in_row on_page (inl apart) =
        ap (λ l. pixel l x) (row_at-put_other stride y z mid new fit long apart) ∙ before.dots x z in_row on_page
        ∙ ap (λ b. is_within from until x && b || pixel (row_at stride old z) x) (elsewhere first y z apart)
    dots_at x z in_row on_page (inr here) =
        ap (λ r. pixel (row_at stride (put_mid (y * stride) stride mid new) r) x) here ∙ ap (λ l. pixel l x) same ∙ pixels x in_row
        ∙ ap (λ b. is_within from until x || b) (ap (λ r. pixel (row_at stride mid r) x) (sym here) ∙ before.dots x z in_row on_page)
        ∙ now_in (is_within from until x) (is_within first y z) (pixel (row_at stride old z) x) (ap (λ r. is_within first y r) here ∙ not_yet first y)
        ∙ ap (λ b. is_within from until x && b || pixel (row_at stride old z) x) (sym (ap (λ r. is_within first (y + 1) r) here ∙ in_step first y low))

    padded_at : (width z : ℕ) → until ≤ width → z * stride + stride ≤ length old → IsPadded width (row_at stride old z) → (((z < y) ⊎ (y < z)) ⊎ (z ≡ y)) → IsPadded width (row_at stride (put_mid (y * stride) stride mid new) z)
    padded_at width z wide on_page p (inl apart) = subst (λ (l : List ℕ). IsPadded width l) (sym (row_at-put_other stride y z mid new fit long apart)) (before.padded width z wide on_page p)
    padded_at width z wide on_page p (inr here) =
        subst (λ (l : List ℕ). IsPadded width l) (sym (ap (λ r. row_at stride (put_mid (y * stride) stride mid new) r) here ∙ same))
        (keeps width wide (subst (λ (r : ℕ). IsPadded width (row_at stride mid r)) here (before.padded width z wide on_page p)))

-- one row more; the row is a slice whose length the code computes
pub blackened_more : (stride from until first y k : ℕ) (old mid new : List ℕ) → k ≡ stride → first ≤ y → y * stride + stride ≤ length mid
    → length new ≡ length (take k (drop (y * stride) mid))
    → ((x : ℕ) → x < 8 * length (take k (drop (y * stride) mid)) → pixel new x ≡ (is_within from until x || pixel (take k (drop (y * stride) mid)) x))
    → ((width : ℕ) → until ≤ width → IsPadded width (take k (drop (y * stride) mid)) → IsPadded width new)
    → IsBlackened stride from until first y old mid → IsBlackened stride from until first (y + 1) old (put_mid (y * stride) k mid new)
blackened_more stride from until first y k old mid new e low fit long pixels keeps before =
    subst (λ (n : ℕ). IsBlackened stride from until first (y + 1) old (put_mid (y * stride) n mid new)) (sym e)
    (step stride from until first y old mid new low fit (long ∙ whole)
    (λ x in_row. pixels x (omega (arith, in_row, whole)) ∙ ap (λ l. is_within from until x || pixel l x) row)
    (λ width wide p. keeps width wide (subst (λ (l : List ℕ). IsPadded width l) (sym row) p)) before)
  where
    row : take k (drop (y * stride) mid) ≡ row_at stride mid y
    row = ap (λ n. take n (drop (y * stride) mid)) e

    whole : length (take k (drop (y * stride) mid)) ≡ stride
    whole = length-take-le k (drop (y * stride) mid) (omega (arith, e, fit, length-drop (y * stride) mid)) ∙ e
