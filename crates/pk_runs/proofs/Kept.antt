-- A raster whose next row is kept in a word.
use Rattle.std.proofs.Common.{◌≡◌, ℕ, ◌+◌, ◌-◌, ◌<◌, ◌≤◌, ◌⊎◌, inl, inr, Bool, true, false, ◌&&◌, ◌||◌, eqb, cond, [], get_or, min, refl, ap, ap₂, sym, subst, ◌∙◌, arith}
use Rattle.std.proofs.lemmas.Bool.{cases_lt}
use Rattle.std.proofs.lemmas.Bool.Decides.{nat_tests}
use Rattle.std.proofs.lemmas.Nat.Bits.{bit_at-zero}
use Rattle.packed_rows.specs.Bitmap.{Bitmap, is_black, from_fn}
use Rattle.packed_rows.specs.Changes.{is_within, white_bitmap, with_black, with_copies}
use Rattle.packed_rows.specs.Stamped.{word_pixel}
use Rattle.packed_rows.specs.Joined.{with_word}
use Rattle.packed_rows.proofs.Lists.{from_fn_same, get_or-from_fn}
use Rattle.packed_rows.proofs.StoredBitmaps.{made, same_dots, dot_of}
use Rattle.pk_runs.specs.Narrow.{IsKept}
use Rattle.pk_runs.specs.Painting.{painted, row_ended}
use Rattle.pk_runs.specs.declared.painter.Painter.{Painter}

pub no_pixel : (i : ℕ) → word_pixel 0 i ≡ false
no_pixel i = ap (λ n. eqb n 1) (bit_at-zero (63 - i))

-- a dot of a bitmap into which a word was joined
pub word_dot : (b : Bitmap) (word first last x y : ℕ) → x < b.width → y < b.height → is_black (with_word b word first last) x y ≡ (is_within first last y && word_pixel word x || is_black b x y)
word_dot b word first last x y in_row inside = dot_of b.width b.height x y (λ k r. is_within first last r && word_pixel word k || is_black b k r) in_row inside

nothing : (a : Bool) (i : ℕ) → (a && word_pixel 0 i) ≡ false
nothing true i = no_pixel i
nothing false i = refl

white_dot : (w h x y : ℕ) → x < w → y < h → is_black (white_bitmap w h) x y ≡ false
white_dot w h x y in_row inside = dot_of w h x y (λ k r. false) in_row inside

-- words that have the same pixels where the raster has columns
pub same_seen : (b : Bitmap) (word other first last : ℕ) → ((x : ℕ) → x < b.width → word_pixel word x ≡ word_pixel other x) → with_word b word first last ≡ with_word b other first last
same_seen b word other first last same =
    ap (made b.width b.height) (same_dots b.width b.height (λ x y. is_within first last y && word_pixel word x || is_black b x y) (λ x y. is_within first last y && word_pixel other x || is_black b x y)
    (λ x y in_row inside. ap (λ p. is_within first last y && p || is_black b x y) (same x in_row)))

-- ---- a white raster

pub kept_white : (b : Bitmap) → b.width < 64 → b ≡ white_bitmap b.width b.height → IsKept b 0 0 0
kept_white b narrow white = record {
  narrow = narrow;
  inside = omega arith;
  white = λ x y _ in_row inside. ap (λ p. is_black p x y) white ∙ white_dot b.width b.height x y in_row inside;
  after = λ i _ _. no_pixel i;
}

pub white_seen : (b : Bitmap) (first last : ℕ) → b ≡ white_bitmap b.width b.height → with_word b 0 first last ≡ b
white_seen b first last white =
    ap (made b.width b.height) (same_dots b.width b.height (λ x y. is_within first last y && word_pixel 0 x || is_black b x y) (λ x y. false)
    (λ x y in_row inside. ap (λ p. p || is_black b x y) (nothing (is_within first last y) x) ∙ ap (λ p. is_black p x y) white ∙ white_dot b.width b.height x y in_row inside))
    ∙ sym white

-- ---- a run in the row

-- the pixels of a run, where it is black, were made black in the word
abbrev pub HasRun : ℕ → Bool → ℕ → ℕ → ℕ → Type 0
HasRun word black from until new = (i : ℕ) → i < 64 → word_pixel new i ≡ (black && is_within from until i || word_pixel word i)

past_end : (from until i : ℕ) → until ≤ i → is_within from until i ≡ false
past_end from until i h = grind (arith, nat_tests)

pub kept_painted : (b : Bitmap) (word new row column n : ℕ) (black : Bool) → column + n ≤ b.width → HasRun word black column (column + n) new → IsKept b word row column → IsKept b new row (column + n)
kept_painted b word new row column n black fit run kept = record {
  narrow = kept.narrow;
  inside = fit;
  white = kept.white;
  after = λ i h few. run i few ∙ neither black (is_within column (column + n) i) (word_pixel word i) (past_end column (column + n) i h) (kept.after i (omega (arith, h)) few);
}
  where
    neither : (p q r : Bool) → q ≡ false → r ≡ false → (p && q || r) ≡ false
    neither true q r e f = ap₂ (λ a b. a || b) e f
    neither false q r e f = f

pub word_painted : (b : Bitmap) (word new row column n : ℕ) (black : Bool) → b.width < 64 → HasRun word black column (column + n) new
    → with_word b new row (row + 1) ≡ cond black (with_black (with_word b word row (row + 1)) column (column + n) row (row + 1)) (with_word b word row (row + 1))
word_painted b word new row column n true narrow run =
    ap (made b.width b.height) (same_dots b.width b.height (λ x y. is_within row (row + 1) y && word_pixel new x || is_black b x y)
    (λ x y. is_within column (column + n) x && is_within row (row + 1) y || is_black (with_word b word row (row + 1)) x y)
    (λ x y in_row inside.
    ap (λ p. is_within row (row + 1) y && p || is_black b x y) (run x (omega (arith, in_row, narrow)))
    ∙ both (is_within row (row + 1) y) (is_within column (column + n) x) (word_pixel word x) (is_black b x y)
    ∙ ap (λ p. is_within column (column + n) x && is_within row (row + 1) y || p) (sym (word_dot b word row (row + 1) x y in_row inside))))
  where
    both : (r c w d : Bool) → (r && (c || w) || d) ≡ (c && r || (r && w || d))
    both true true w d = refl
    both true false w d = refl
    both false true w d = refl
    both false false w d = refl
word_painted b word new row column n false narrow run =
    ap (made b.width b.height) (same_dots b.width b.height (λ x y. is_within row (row + 1) y && word_pixel new x || is_black b x y)
    (λ x y. is_within row (row + 1) y && word_pixel word x || is_black b x y)
    (λ x y in_row inside. ap (λ p. is_within row (row + 1) y && p || is_black b x y) (run x (omega (arith, in_row, narrow)))))

-- ---- the end of a row

below : (first last y : ℕ) → last ≤ y → is_within first last y ≡ false
below first last y h = grind (arith, nat_tests)

pub kept_ended : (b : Bitmap) (word row column next : ℕ) → row ≤ next → IsKept b word row column → IsKept (with_word b word row next) 0 next 0
kept_ended b word row column next low kept = record {
  narrow = kept.narrow;
  inside = omega arith;
  white = λ x y h in_row inside.
      word_dot b word row next x y in_row inside ∙ ap (λ p. p && word_pixel word x || is_black b x y) (below row next y h) ∙ kept.white x y (omega (arith, low, h)) in_row inside;
  after = λ i _ _. no_pixel i;
}

copied_row : (row k y : ℕ) → row < y → y < row + 1 + k → cond (is_within (row + 1) (row + 1 + k) y) row y ≡ row
copied_row row k y h g = grind (arith, nat_tests)

own_row : (row k y : ℕ) → (y ≤ row) ⊎ (row + 1 + k ≤ y) → cond (is_within (row + 1) (row + 1 + k) y) row y ≡ y
own_row row k y (inl h) = grind (arith, nat_tests)
own_row row k y (inr h) = grind (arith, nat_tests)

set_here : (row k y : ℕ) → row ≤ y → y < row + 1 + k → is_within row (row + 1 + k) y ≡ true
set_here row k y h g = grind (arith, nat_tests)

set_first : (row : ℕ) → is_within row (row + 1) row ≡ true
set_first row = grind (arith, nat_tests)

set_other : (row k y : ℕ) → (y < row) ⊎ (row + 1 + k ≤ y) → is_within row (row + 1 + k) y ≡ is_within row (row + 1) y
set_other row k y (inl h) = grind (arith, nat_tests)
set_other row k y (inr h) = grind (arith, nat_tests)

-- the word in the row and in its copies is what the row has, copied
pub word_copied : (b : Bitmap) (word row k column : ℕ) → row < b.height → IsKept b word row column
    → with_word (with_word b word row (row + 1 + k)) 0 (row + 1 + k) (row + 1 + k + 1) ≡ with_copies (with_word b word row (row + 1)) row k
word_copied b word row k column low kept =
    ap (made b.width b.height) (from_fn_same b.height _ _ (λ y inside. line y inside (cases_lt row y) (cases_lt y (row + 1 + k))))
  where
    upper : Bitmap
    upper = with_word b word row (row + 1)

    made_line : (y : ℕ) → y < b.height → get_or upper.rows y [] ≡ from_fn b.width (λ x. is_within row (row + 1) y && word_pixel word x || is_black b x y)
    made_line y inside = get_or-from_fn b.height (λ r. from_fn b.width (λ x. is_within row (row + 1) r && word_pixel word x || is_black b x r)) y [] inside

    now : (y x : ℕ) → x < b.width → y < b.height
        → (is_within (row + 1 + k) (row + 1 + k + 1) y && word_pixel 0 x || is_black (with_word b word row (row + 1 + k)) x y) ≡ (is_within row (row + 1 + k) y && word_pixel word x || is_black b x y)
    now y x in_row inside =
        ap (λ p. p || is_black (with_word b word row (row + 1 + k)) x y) (nothing (is_within (row + 1 + k) (row + 1 + k + 1) y) x) ∙ word_dot b word row (row + 1 + k) x y in_row inside

    kept_line : (y : ℕ) → y < b.height → (is_within row (row + 1 + k) y ≡ is_within row (row + 1) y) → cond (is_within (row + 1) (row + 1 + k) y) row y ≡ y
        → from_fn b.width (λ x. is_within (row + 1 + k) (row + 1 + k + 1) y && word_pixel 0 x || is_black (with_word b word row (row + 1 + k)) x y)
        ≡ get_or upper.rows (cond (is_within (row + 1) (row + 1 + k) y) row y) []
    kept_line y inside same own =
        from_fn_same b.width _ _ (λ x in_row. now y x in_row inside ∙ ap (λ p. p && word_pixel word x || is_black b x y) same)
        ∙ sym (made_line y inside) ∙ sym (ap (λ r. get_or upper.rows r []) own)

    line : (y : ℕ) → y < b.height → (row < y) ⊎ (y ≤ row) → (y < row + 1 + k) ⊎ (row + 1 + k ≤ y)
        → from_fn b.width (λ x. is_within (row + 1 + k) (row + 1 + k + 1) y && word_pixel 0 x || is_black (with_word b word row (row + 1 + k)) x y)
        ≡ get_or upper.rows (cond (is_within (row + 1) (row + 1 + k) y) row y) []
    line y inside (inl lower) (inl copy) =
        from_fn_same b.width _ _ (λ x in_row.
        now y x in_row inside ∙ ap (λ p. p && word_pixel word x || is_black b x y) (set_here row k y (omega (arith, lower)) copy)
        ∙ ap (λ p. word_pixel word x || p) (kept.white x y (omega (arith, lower)) in_row inside ∙ sym (kept.white x row (omega arith) in_row low))
        ∙ ap (λ p. p && word_pixel word x || is_black b x row) (sym (set_first row)))
        ∙ sym (made_line row low) ∙ sym (ap (λ r. get_or upper.rows r []) (copied_row row k y lower copy))
    line y inside (inl lower) (inr past) = kept_line y inside (set_other row k y (inr past)) (own_row row k y (inr past))
    line y inside (inr high) near = by (cases_lt y row)
      where
        by : (y < row) ⊎ (row ≤ y)
            → from_fn b.width (λ x. is_within (row + 1 + k) (row + 1 + k + 1) y && word_pixel 0 x || is_black (with_word b word row (row + 1 + k)) x y)
            ≡ get_or upper.rows (cond (is_within (row + 1) (row + 1 + k) y) row y) []
        by (inl above) = kept_line y inside (set_other row k y (inl above)) (own_row row k y (inl high))
        by (inr at) =
            kept_line y inside (set_here row k y at (omega (arith, high)) ∙ sym (subst (λ (r : ℕ). is_within row (row + 1) r ≡ true) (omega (arith, high, at)) (set_first row))) (own_row row k y (inl high))

-- ---- the raster

within_height : (row h y : ℕ) → y < h → is_within row (min h (row + 1)) y ≡ is_within row (row + 1) y
within_height row h y inside = grind (arith, nat_tests)

pub word_cut : (b : Bitmap) (word row last : ℕ) → last ≡ min b.height (row + 1) → with_word b word row last ≡ with_word b word row (row + 1)
word_cut b word row last e =
    ap (made b.width b.height) (same_dots b.width b.height (λ x y. is_within row last y && word_pixel word x || is_black b x y) (λ x y. is_within row (row + 1) y && word_pixel word x || is_black b x y)
    (λ x y in_row inside. ap (λ p. p && word_pixel word x || is_black b x y) (ap (λ n. is_within row n y) e ∙ within_height row b.height y inside)))

-- ---- what is seen

abbrev pub value_of_painter : Bitmap → ℕ → ℕ → ℕ → ℕ → Bool → Bool → Painter
value_of_painter b word row column copies repeated black = record { bits = with_word b word row (row + 1); row = row; column = column; copies = copies; repeated = repeated; black = black }

pub seen_painted : (b : Bitmap) (word new row column copies n : ℕ) (repeated black : Bool) (old : Painter) → b.width < 64 → HasRun word black column (column + n) new
    → value_of_painter b word row column copies repeated black ≡ old → value_of_painter b new row (column + n) copies repeated black ≡ painted old n
seen_painted b word new row column copies n repeated black old narrow run e =
    ap (λ (q : Bitmap). make q) (word_painted b word new row column n black narrow run) ∙ ap (λ (p : Painter). painted p n) e
  where
    make : Bitmap → Painter
    make q = record { bits = q; row = row; column = column + n; copies = copies; repeated = repeated; black = black }

pub seen_ended : (b new : Bitmap) (word row column copies : ℕ) (repeated black : Bool) (old : Painter) → new ≡ with_word b word row (row + 1 + copies) → old.row + old.copies < old.bits.height
    → IsKept b word row column → value_of_painter b word row column copies repeated black ≡ old → value_of_painter new 0 (row + 1 + copies) 0 0 false black ≡ row_ended old
seen_ended b new word row column copies repeated black old set low kept e =
    ap (λ (q : Bitmap). value_of_painter q 0 (row + 1 + copies) 0 0 false black) set
    ∙ ap (λ (q : Bitmap). make q (row + 1 + copies)) (word_copied b word row copies column inside kept)
    ∙ ap (λ (r : ℕ). make (with_copies (with_word b word row (row + 1)) row copies) r) next
    ∙ ap (λ (p : Painter). row_ended p) e
  where
    make : Bitmap → ℕ → Painter
    make q r = record { bits = q; row = r; column = 0; copies = 0; repeated = false; black = black }

    next : row + 1 + copies ≡ row + (1 + copies)
    next = omega arith

    inside : row < b.height
    inside = omega (arith, low, ap (λ (p : Painter). p.row) e, ap (λ (p : Painter). p.bits.height) e)
