-- A row that was copied over the rows below it.
use Rattle.std.proofs.Common.{◌≡◌, ℕ, ◌+◌, ◌*◌, ◌<◌, ◌≤◌, ◌⊎◌, inl, inr, true, false, cond, List, [], get_or, length, take, drop, ◌++◌, refl, ap, sym, subst, ◌∙◌, arith}
use Rattle.std.specs.Int.{div_ceil}
use Rattle.std.proofs.lemmas.Bool.{cases_lt, cond-false, cond-true}
use Rattle.std.proofs.lemmas.Bool.Decides.{nat_tests}
use Rattle.std.proofs.lemmas.List.{length-take-le, length-drop}
use borrow.Rule.Slice.PartMut.{put_mid}
use Rattle.packed_rows.specs.Packing.{pixels_of, IsPadded}
use Rattle.packed_rows.specs.Changes.{is_within, with_copies}
use Rattle.packed_rows.specs.Stored.{row_at, bitmap_of, IsStored}
use Rattle.packed_rows.proofs.Lists.{get_or-from_fn, from_fn_same}
use Rattle.packed_rows.proofs.Blackened.{elsewhere, ordered}
use Rattle.packed_rows.proofs.StoredRows.{row_at-put_same, row_at-put_other, row_at-length, next_start}
use Rattle.packed_rows.proofs.StoredBitmaps.{made, row_fits}

-- the row that stands at row r where row y was copied over the rows from y + 1 to `last`
abbrev pub source : ℕ → ℕ → ℕ → ℕ
source y last r = cond (is_within (y + 1) last r) y r

pub record IsCopied (stride y last : ℕ) (old new : List ℕ) : Type 0 where
  pub len : length new ≡ length old
  pub rows : (r : ℕ) → r * stride + stride ≤ length old → row_at stride new r ≡ row_at stride old (source y last r)

-- row y itself stays, and so does each row before the first copy
source_above : (y last r : ℕ) → r ≤ y → source y last r ≡ r
source_above y last r h = cond-false (is_within (y + 1) last r) y r (outside y last r h)
  where
    outside : (y last r : ℕ) → r ≤ y → is_within (y + 1) last r ≡ false
    outside y last r h = grind (arith, nat_tests)

source_none : (y r : ℕ) → source y (y + 1) r ≡ r
source_none y r = cond-false (is_within (y + 1) (y + 1) r) y r (outside y r)
  where
    outside : (y r : ℕ) → is_within (y + 1) (y + 1) r ≡ false
    outside y r = grind (arith, nat_tests)

source_new : (y to : ℕ) → y < to → source y (to + 1) to ≡ y
source_new y to h = cond-true (is_within (y + 1) (to + 1) to) y to (inside y to h)
  where
    inside : (y to : ℕ) → y < to → is_within (y + 1) (to + 1) to ≡ true
    inside y to h = grind (arith, nat_tests)

pub copied_none : (stride y : ℕ) (old : List ℕ) → IsCopied stride y (y + 1) old old
copied_none stride y old = record { len = refl; rows = λ r _. ap (row_at stride old) (sym (source_none y r)) }

pub copied_more : (stride y to : ℕ) (old mid new : List ℕ) → y < to → to * stride + stride ≤ length old
    → new ≡ take (to * stride) mid ++ (row_at stride mid y ++ drop stride (drop (to * stride) mid)) → IsCopied stride y to old mid → IsCopied stride y (to + 1) old new
copied_more stride y to old mid new below fit is before = record {
  len = ap length is ∙ row_at-length (to * stride) stride mid (row_at stride mid y) (omega (arith, fit, before.len)) whole ∙ before.len;
  rows = λ r inside. ap (λ l. row_at stride l r) is ∙ at r inside (ordered to r (cases_lt to r) (cases_lt r to));
}
  where
    upper : y * stride + stride ≤ length mid
    upper = omega (arith, next_start y to stride below, fit, before.len)

    whole : length (row_at stride mid y) ≡ stride
    whole = length-take-le stride (drop (y * stride) mid) (omega (arith, upper, length-drop (y * stride) mid))

    at : (r : ℕ) → r * stride + stride ≤ length old → (((r < to) ⊎ (to < r)) ⊎ (r ≡ to)) → row_at stride (put_mid (to * stride) stride mid (row_at stride mid y)) r ≡ row_at stride old (source y (to + 1) r)
    at r inside (inl apart) =
        row_at-put_other stride to r mid (row_at stride mid y) (omega (arith, fit, before.len)) whole apart ∙ before.rows r inside
        ∙ ap (λ b. row_at stride old (cond b y r)) (elsewhere (y + 1) to r apart)
    at r inside (inr here) =
        ap (λ k. row_at stride (put_mid (to * stride) stride mid (row_at stride mid y)) k) here
        ∙ row_at-put_same stride to mid (row_at stride mid y) (omega (arith, fit, before.len)) whole
        ∙ before.rows y (omega (arith, upper, before.len)) ∙ ap (row_at stride old) (source_above y to y (omega arith))
        ∙ ap (row_at stride old) (sym (ap (source y (to + 1)) here ∙ source_new y to below))

-- ---- the bitmap

source_below : (y last r h : ℕ) → last ≤ h → r < h → source y last r < h
source_below y last r h low inside = grind (arith, nat_tests)

-- the code reads the bytes as `read`, and s is the size of a row
pub copied_stored : (w h y last s : ℕ) (old read new : List ℕ) → s ≡ div_ceil w 8 → read ≡ old → last ≤ h → IsStored w h old → IsCopied s y last read new → IsStored w h new
copied_stored w h y last s old read new e f low stored copied = record {
  narrow = stored.narrow;
  low = stored.low;
  len = copied.len ∙ ap length f ∙ stored.len;
  padded = λ r inside. subst (λ (l : List ℕ). IsPadded w l) (sym (same.rows r (omega (arith, stored.len, row_fits (div_ceil w 8) h r inside)))) (stored.padded (source y last r) (source_below y last r h low inside));
}
  where
    same : IsCopied (div_ceil w 8) y last old new
    same = subst (λ (l : List ℕ). IsCopied (div_ceil w 8) y last l new) f (subst (λ (k : ℕ). IsCopied k y last read new) e copied)

pub copied_bitmap : (w h y copies s : ℕ) (old read new : List ℕ) → s ≡ div_ceil w 8 → read ≡ old → y + 1 + copies ≤ h → IsStored w h old → IsCopied s y (y + 1 + copies) read new
    → bitmap_of w h new ≡ with_copies (bitmap_of w h old) y copies
copied_bitmap w h y copies s old read new e f low stored copied = ap (made w h) (from_fn_same h _ _ each)
  where
    same : IsCopied (div_ceil w 8) y (y + 1 + copies) old new
    same = subst (λ (l : List ℕ). IsCopied (div_ceil w 8) y (y + 1 + copies) l new) f (subst (λ (k : ℕ). IsCopied k y (y + 1 + copies) read new) e copied)

    each : (r : ℕ) → r < h → pixels_of w (row_at (div_ceil w 8) new r) ≡ get_or (bitmap_of w h old).rows (source y (y + 1 + copies) r) []
    each r inside =
        ap (pixels_of w) (same.rows r (omega (arith, stored.len, row_fits (div_ceil w 8) h r inside)))
        ∙ sym (get_or-from_fn h (λ k. pixels_of w (row_at (div_ceil w 8) old k)) (source y (y + 1 + copies) r) [] (source_below y (y + 1 + copies) r h low inside))
