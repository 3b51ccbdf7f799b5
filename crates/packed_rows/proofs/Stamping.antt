-- Rows on which pixels were set, one after another and one part after another.
use Rattle.std.proofs.Common.{◌≡◌, ℕ, ◌+◌, ◌-◌, ◌*◌, ◌<◌, ◌≤◌, ◌⊎◌, inl, inr, Bool, true, false, ◌&&◌, ◌||◌, ltb, leb, List, length, take, drop, refl, ap, sym, subst, ◌∙◌, arith}
use Rattle.std.proofs.lemmas.Bool.{cases_lt, le-ltb, and_right}
use Rattle.std.proofs.lemmas.Bool.Decides.{nat_tests}
use Rattle.std.proofs.lemmas.List.{length-take-le, length-drop}
use borrow.Rule.Slice.PartMut.{put_mid}
use Rattle.packed_rows.specs.Packing.{pixel}
use Rattle.packed_rows.specs.Stored.{row_at}
use Rattle.packed_rows.specs.Changes.{is_within}
use Rattle.packed_rows.specs.Stamped.{AreStamped}
use Rattle.packed_rows.proofs.Blackened.{elsewhere, ordered}
use Rattle.packed_rows.proofs.StoredRows.{row_at-put_same, row_at-put_other, row_at-length, next_start, row_at-put_before, row_at-put_after, row_at-put_inside, row_at-part_inside}

-- what the pixels of a row of n bytes become under one that has the pixels f
abbrev pub AreUnder : ℕ → (ℕ → Bool) → List ℕ → List ℕ → Type 0
AreUnder stride f old new = (x : ℕ) → x < 8 * stride → pixel new x ≡ (f x || pixel old x)

-- the rows from `first` to `last` were set, where f x y is what lies over pixel x of row y
pub record IsStamped (stride first last : ℕ) (f : ℕ → ℕ → Bool) (old new : List ℕ) : Type 0 where
  pub len : length new ≡ length old
  pub dots : AreStamped stride first last f old new

in_step : (first y : ℕ) → first ≤ y → is_within first (y + 1) y ≡ true
in_step first y h = grind (arith, nat_tests)

not_yet : (first y : ℕ) → is_within first y y ≡ false
not_yet first y = and_right (leb first y) (ltb y y) (le-ltb y y (omega arith))

now_in : (a b p : Bool) → b ≡ false → (a || (b && a || p)) ≡ (true && a || p)
now_in true b p h = refl
now_in false b p h = ap (λ d. d && false || p) h

-- before the first row
pub stamped_none : (stride first : ℕ) (f : ℕ → ℕ → Bool) (old : List ℕ) → IsStamped stride first first f old old
stamped_none stride first f old = record { len = refl; dots = λ x y _ _. sym (ap (λ b. b && f x y || pixel (row_at stride old y) x) (nowhere y)) }
  where
    nowhere : (y : ℕ) → is_within first first y ≡ false
    nowhere y = grind (arith, nat_tests)

-- nothing was set yet
pub stamped_nothing : (stride first last : ℕ) (f : ℕ → ℕ → Bool) (old : List ℕ) → ((x y : ℕ) → f x y ≡ false) → IsStamped stride first last f old old
stamped_nothing stride first last f old none = record {
  len = refl;
  dots = λ x y _ _. sym (ap (λ b. b || pixel (row_at stride old y) x) (and_right (is_within first last y) (f x y) (none x y)));
}

step : (stride first y : ℕ) (f : ℕ → ℕ → Bool) (old mid new : List ℕ) → first ≤ y → y * stride + stride ≤ length mid → length new ≡ stride
    → AreUnder stride (λ x. f x y) (row_at stride mid y) new → IsStamped stride first y f old mid → IsStamped stride first (y + 1) f old (put_mid (y * stride) stride mid new)
step stride first y f old mid new low fit long under before = record {
  len = put_long ∙ before.len;
  dots = λ x z in_row on_page. dots_at x z in_row on_page (ordered y z (cases_lt y z) (cases_lt z y));
}
  where
    put_long : length (put_mid (y * stride) stride mid new) ≡ length mid
    put_long = row_at-length (y * stride) stride mid new fit long

    same : row_at stride (put_mid (y * stride) stride mid new) y ≡ new
    same = row_at-put_same stride y mid new fit long

    here_at : (x : ℕ) → x < 8 * stride → y * stride + stride ≤ length old
        → pixel (row_at stride (put_mid (y * stride) stride mid new) y) x ≡ (is_within first (y + 1) y && f x y || pixel (row_at stride old y) x)
    here_at x in_row on_page =
        ap (λ l. pixel l x) same ∙ under x in_row ∙ ap (λ b. f x y || b) (before.dots x y in_row on_page)
        ∙ now_in (f x y) (is_within first y y) (pixel (row_at stride old y) x) (not_yet first y)
        ∙ ap (λ b. b && f x y || pixel (row_at stride old y) x) (sym (in_step first y low))

    dots_at : (x z : ℕ) → x < 8 * stride → z * stride + stride ≤ length old → (((z < y) ⊎ (y < z)) ⊎ (z ≡ y))
        → pixel (row_at stride (put_mid (y * stride) stride mid new) z) x ≡ (is_within first (y + 1) z && f x z || pixel (row_at stride old z) x)
    dots_at x z in_row on_page (inl apart) =
        ap (λ l. pixel l x) (row_at-put_other stride y z mid new fit long apart) ∙ before.dots x z in_row on_page
        ∙ ap (λ b. b && f x z || pixel (row_at stride old z) x) (elsewhere first y z apart)
    dots_at x z in_row on_page (inr here) =
        subst (λ (r : ℕ). pixel (row_at stride (put_mid (y * stride) stride mid new) r) x ≡ (is_within first (y + 1) r && f x r || pixel (row_at stride old r) x)) (sym here)
        (here_at x in_row (subst (λ (r : ℕ). r * stride + stride ≤ length old) here on_page))

-- one row more; the row is a slice whose length the code computes
pub stamped_more : (stride first y k : ℕ) (f : ℕ → ℕ → Bool) (old mid new : List ℕ) → k ≡ stride → first ≤ y → y * stride + stride ≤ length mid
    → length new ≡ stride → AreUnder stride (λ x. f x y) (take k (drop (y * stride) mid)) new
    → IsStamped stride first y f old mid → IsStamped stride first (y + 1) f old (put_mid (y * stride) k mid new)
stamped_more stride first y k f old mid new e low fit long under before =
    subst (λ (n : ℕ). IsStamped stride first (y + 1) f old (put_mid (y * stride) n mid new)) (sym e)
    (step stride first y f old mid new low fit long (λ x in_row. under x in_row ∙ ap (λ l. f x y || pixel l x) row) before)
  where
    row : take k (drop (y * stride) mid) ≡ row_at stride mid y
    row = ap (λ n. take n (drop (y * stride) mid)) e

-- rows set after those that were set before
pub stamped_on : (stride first y last : ℕ) (f : ℕ → ℕ → Bool) (old mid new : List ℕ) → first ≤ y → y ≤ last
    → IsStamped stride y last f mid new → IsStamped stride first y f old mid → IsStamped stride first last f old new
stamped_on stride first y last f old mid new low high after before = record {
  len = after.len ∙ before.len;
  dots = λ x z in_row on_page.
      after.dots x z in_row (omega (arith, on_page, before.len)) ∙ ap (λ b. is_within y last z && f x z || b) (before.dots x z in_row on_page)
      ∙ joined (is_within y last z) (is_within first y z) (f x z) (pixel (row_at stride old z) x)
      ∙ ap (λ b. b && f x z || pixel (row_at stride old z) x) (both z);
}
  where
    joined : (a b c d : Bool) → (a && c || (b && c || d)) ≡ ((a || b) && c || d)
    joined true true true d = refl
    joined true true false d = refl
    joined true false true d = refl
    joined true false false d = refl
    joined false b c d = refl

    both : (z : ℕ) → (is_within y last z || is_within first y z) ≡ is_within first last z
    both z = grind (arith, nat_tests)

-- rows set before those that were set first
pub stamped_under : (stride first y last : ℕ) (f : ℕ → ℕ → Bool) (old mid new : List ℕ) → first ≤ y → y ≤ last
    → IsStamped stride first y f mid new → IsStamped stride y last f old mid → IsStamped stride first last f old new
stamped_under stride first y last f old mid new low high after before = record {
  len = after.len ∙ before.len;
  dots = λ x z in_row on_page.
      after.dots x z in_row (omega (arith, on_page, before.len)) ∙ ap (λ b. is_within first y z && f x z || b) (before.dots x z in_row on_page)
      ∙ joined (is_within first y z) (is_within y last z) (f x z) (pixel (row_at stride old z) x)
      ∙ ap (λ b. b && f x z || pixel (row_at stride old z) x) (both z);
}
  where
    joined : (a b c d : Bool) → (a && c || (b && c || d)) ≡ ((a || b) && c || d)
    joined true true true d = refl
    joined true true false d = refl
    joined true false true d = refl
    joined true false false d = refl
    joined false b c d = refl

    both : (z : ℕ) → (is_within first y z || is_within y last z) ≡ is_within first last z
    both z = grind (arith, nat_tests)

-- more pixels set in the same rows: h has those of f and of g
pub stamped_both : (stride first last : ℕ) (f g h : ℕ → ℕ → Bool) (old mid new : List ℕ) → ((x y : ℕ) → x < 8 * stride → (g x y || f x y) ≡ h x y)
    → IsStamped stride first last g mid new → IsStamped stride first last f old mid → IsStamped stride first last h old new
stamped_both stride first last f g h old mid new all after before = record {
  len = after.len ∙ before.len;
  dots = λ x z in_row on_page.
      after.dots x z in_row (omega (arith, on_page, before.len)) ∙ ap (λ b. is_within first last z && g x z || b) (before.dots x z in_row on_page)
      ∙ joined (is_within first last z) (g x z) (f x z) (pixel (row_at stride old z) x)
      ∙ ap (λ b. is_within first last z && b || pixel (row_at stride old z) x) (all x z in_row);
}
  where
    joined : (a b c d : Bool) → (a && b || (a && c || d)) ≡ (a && (b || c) || d)
    joined true true c d = refl
    joined true false c d = refl
    joined false b c d = refl

-- the same pixels said otherwise
pub stamped_same : (stride first last : ℕ) (f g : ℕ → ℕ → Bool) (old new : List ℕ) → ((x y : ℕ) → x < 8 * stride → f x y ≡ g x y)
    → IsStamped stride first last f old new → IsStamped stride first last g old new
stamped_same stride first last f g old new same stamped = record {
  len = stamped.len;
  dots = λ x y in_row on_page. stamped.dots x y in_row on_page ∙ ap (λ b. is_within first last y && b || pixel (row_at stride old y) x) (same x y in_row);
}

-- the place where rows end, as the code computes it
pub ended : (stride first m n : ℕ) (f : ℕ → ℕ → Bool) (old new : List ℕ) → m ≡ n → IsStamped stride first m f old new → IsStamped stride first n f old new
ended stride first m n f old new e stamped = subst (λ (k : ℕ). IsStamped stride first k f old new) e stamped

-- some rows were set, counted from the first of them; n is their size, as the code computes it
pub stamped_part : (stride first count n k : ℕ) (f g : ℕ → ℕ → Bool) (old new : List ℕ) → n ≡ count * stride → k ≡ n → first * stride + n ≤ length old → length new ≡ n
    → ((x z : ℕ) → f x z ≡ g x (first + z)) → IsStamped stride 0 count f (take k (drop (first * stride) old)) new
    → IsStamped stride first (first + count) g old (put_mid (first * stride) k old new)
stamped_part stride first count n k f g old new is_n is_k fit long same stamped =
    subst (λ (m : ℕ). IsStamped stride first (first + count) g old (put_mid (first * stride) m old new)) (sym is_k)
    (record { len = row_at-length (first * stride) n old new fit long; dots = λ x y in_row on_page. dots_at x y in_row on_page (cases_lt y first) (cases_lt y (first + count)) })
  where
    those : IsStamped stride 0 count f (take n (drop (first * stride) old)) new
    those = subst (λ (m : ℕ). IsStamped stride 0 count f (take m (drop (first * stride) old)) new) is_k stamped

    after_first : (z : ℕ) → z < count → is_within 0 count z ≡ is_within first (first + count) (first + z)
    after_first z h = grind (arith, nat_tests)

    not_before : (y : ℕ) → y < first → is_within first (first + count) y ≡ false
    not_before y h = grind (arith, nat_tests)

    not_after : (y : ℕ) → first + count ≤ y → is_within first (first + count) y ≡ false
    not_after y h = grind (arith, nat_tests)

    here : (x z : ℕ) → x < 8 * stride → z < count
        → pixel (row_at stride (put_mid (first * stride) n old new) (first + z)) x ≡ (is_within first (first + count) (first + z) && g x (first + z) || pixel (row_at stride old (first + z)) x)
    here x z in_row inside =
        ap (λ l. pixel l x) (row_at-put_inside stride first count n z old new is_n fit long inside)
        ∙ those.dots x z in_row (omega (arith, is_n, fit, next_start z count stride inside, length-take-le n (drop (first * stride) old) (omega (arith, fit, length-drop (first * stride) old))))
        ∙ ap (λ b. b && f x z || pixel (row_at stride (take n (drop (first * stride) old)) z) x) (after_first z inside)
        ∙ ap (λ b. is_within first (first + count) (first + z) && b || pixel (row_at stride (take n (drop (first * stride) old)) z) x) (same x z)
        ∙ ap (λ l. is_within first (first + count) (first + z) && g x (first + z) || pixel l x) (row_at-part_inside stride first count n z old is_n fit inside)

    dots_at : (x y : ℕ) → x < 8 * stride → y * stride + stride ≤ length old → (y < first) ⊎ (first ≤ y) → (y < first + count) ⊎ (first + count ≤ y)
        → pixel (row_at stride (put_mid (first * stride) n old new) y) x ≡ (is_within first (first + count) y && g x y || pixel (row_at stride old y) x)
    dots_at x y in_row on_page (inl before) q =
        ap (λ l. pixel l x) (row_at-put_before stride first n y old new fit long before)
        ∙ sym (ap (λ b. b && g x y || pixel (row_at stride old y) x) (not_before y before))
    dots_at x y in_row on_page (inr from) (inr after) =
        ap (λ l. pixel l x) (row_at-put_after stride first count n y old new is_n fit long after)
        ∙ sym (ap (λ b. b && g x y || pixel (row_at stride old y) x) (not_after y after))
    dots_at x y in_row on_page (inr from) (inl until) =
        let back : first + (y - first) ≡ y = omega (arith, from) in
        subst (λ (r : ℕ). pixel (row_at stride (put_mid (first * stride) n old new) r) x ≡ (is_within first (first + count) r && g x r || pixel (row_at stride old r) x)) back
        (here x (y - first) in_row (omega (arith, from, until)))
