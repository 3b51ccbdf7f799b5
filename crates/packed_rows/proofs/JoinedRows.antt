-- Rows into which a word was joined.
use Rattle.std.proofs.Common.{◌≡◌, ℕ, ◌+◌, ◌-◌, ◌*◌, ◌<◌, ◌≤◌, ◌⊎◌, inl, inr, Bool, true, false, ◌&&◌, ◌||◌, List, length, get_or, drop, refl, ap, ap₂, sym, subst, ◌∙◌, arith}
use Rattle.std.specs.Int.{div_ceil}
use Rattle.std.proofs.lemmas.Bool.{cases_lt, and_right}
use Rattle.std.proofs.lemmas.Bool.Decides.{nat_tests}
use Rattle.std.proofs.lemmas.List.{length-take-le, length-drop}
use Rattle.std.proofs.lemmas.List.Elements.{All-from_get_or}
use Rattle.packed_rows.specs.Bitmap.{is_black}
use Rattle.packed_rows.specs.Packing.{pixel, IsPadded}
use Rattle.packed_rows.specs.Stored.{row_at, bitmap_of, IsStored}
use Rattle.packed_rows.specs.Changes.{is_within}
use Rattle.packed_rows.specs.Stamped.{word_pixel}
use Rattle.packed_rows.specs.Joined.{IsWhiteFrom, with_word}
use Rattle.packed_rows.proofs.Blackened.{ordered}
use Rattle.packed_rows.proofs.BlackWords.{IsJoinedAt}
use Rattle.packed_rows.proofs.StoredRows.{next_start}
use Rattle.packed_rows.proofs.StoredBitmaps.{made, same_dots, row_fits, dot_in_row, row_dots}
use Rattle.packed_rows.proofs.Parts.{of_part, part_small}

-- the word is joined into the rows from `first` to `last`
pub record IsJoined (stride word first last : ℕ) (old new : List ℕ) : Type 0 where
  pub len : length new ≡ length old
  pub dots : (x y : ℕ) → x < 8 * stride → y * stride + stride ≤ length old → pixel (row_at stride new y) x ≡ (is_within first last y && word_pixel word x || pixel (row_at stride old y) x)

nowhere : (first y : ℕ) → is_within first first y ≡ false
nowhere first y = grind (arith, nat_tests)

before : (from until x : ℕ) → x < from → is_within from until x ≡ false
before from until x h = grind (arith, nat_tests)

after : (from until x : ℕ) → until ≤ x → is_within from until x ≡ false
after from until x h = grind (arith, nat_tests)

inside : (from until x : ℕ) → from ≤ x → x < until → is_within from until x ≡ true
inside from until x h g = grind (arith, nat_tests)

pub joined_none : (stride word first : ℕ) (old : List ℕ) → IsJoined stride word first first old old
joined_none stride word first old = record {
  len = refl;
  dots = λ x y _ _. sym (ap (λ b. b && word_pixel word x || pixel (row_at stride old y) x) (nowhere first y));
}

-- what the word sets in the row that begins at byte o
in_row : (o x word : ℕ) → x < 64 → (is_within (8 * o) (8 * o + 64) (8 * o + x) && word_pixel word (8 * o + x - 8 * o)) ≡ word_pixel word x
in_row o x word h =
    let place : 8 * o + x - 8 * o ≡ x = omega arith in
    ap₂ (λ a b. a && b) (inside (8 * o) (8 * o + 64) (8 * o + x) (omega arith) (omega (arith, h))) (ap (word_pixel word) place)

-- it sets nothing in the others, as it is white after the row's bytes
in_other : (o q k x word : ℕ) → x < 8 * k → (q + k ≤ o) ⊎ (o + k ≤ q) → IsWhiteFrom (8 * k) word
    → (is_within (8 * o) (8 * o + 64) (8 * q + x) && word_pixel word (8 * q + x - 8 * o)) ≡ false
in_other o q k x word h (inl apart) white =
    ap (λ b. b && word_pixel word (8 * q + x - 8 * o)) (before (8 * o) (8 * o + 64) (8 * q + x) (omega (arith, apart, h)))
in_other o q k x word h (inr apart) white = by (cases_lt (8 * q + x) (8 * o + 64))
  where
    by : (8 * q + x < 8 * o + 64) ⊎ (8 * o + 64 ≤ 8 * q + x) → (is_within (8 * o) (8 * o + 64) (8 * q + x) && word_pixel word (8 * q + x - 8 * o)) ≡ false
    by (inl near) = and_right (is_within (8 * o) (8 * o + 64) (8 * q + x)) (word_pixel word (8 * q + x - 8 * o)) (white (8 * q + x - 8 * o) (omega (arith, apart)) (omega (arith, near, apart)))
    by (inr far) = ap (λ b. b && word_pixel word (8 * q + x - 8 * o)) (after (8 * o) (8 * o + 64) (8 * q + x) far)

-- one row
one_joined : (stride y word : ℕ) (old new : List ℕ) → stride ≤ 8 → length new ≡ length old → IsWhiteFrom (8 * stride) word
    → IsJoinedAt (y * stride) word old new → IsJoined stride word y (y + 1) old new
one_joined stride y word old new few long white joined = record { len = long; dots = dots }
  where
    there : (r x : ℕ) → x < 8 * stride → (((r < y) ⊎ (y < r)) ⊎ (r ≡ y))
        → (is_within (8 * (y * stride)) (8 * (y * stride) + 64) (8 * (r * stride) + x) && word_pixel word (8 * (r * stride) + x - 8 * (y * stride))) ≡ (is_within y (y + 1) r && word_pixel word x)
    there r x h (inl (inl above)) =
        in_other (y * stride) (r * stride) stride x word h (inl (next_start r y stride above)) white ∙ sym (ap (λ b. b && word_pixel word x) (before y (y + 1) r above))
    there r x h (inl (inr below)) =
        in_other (y * stride) (r * stride) stride x word h (inr (next_start y r stride below)) white ∙ sym (ap (λ b. b && word_pixel word x) (after y (y + 1) r (omega (arith, below))))
    there r x h (inr here) =
        subst (λ (k : ℕ). (is_within (8 * (y * stride)) (8 * (y * stride) + 64) (8 * (k * stride) + x) && word_pixel word (8 * (k * stride) + x - 8 * (y * stride))) ≡ (is_within y (y + 1) k && word_pixel word x)) (sym here)
        (in_row (y * stride) x word (omega (arith, h, few)) ∙ sym (ap (λ b. b && word_pixel word x) (inside y (y + 1) y (omega arith) (omega arith))))

    dots : (x r : ℕ) → x < 8 * stride → r * stride + stride ≤ length old → pixel (row_at stride new r) x ≡ (is_within y (y + 1) r && word_pixel word x || pixel (row_at stride old r) x)
    dots x r h fit =
        of_part new (r * stride) stride x h ∙ joined (8 * (r * stride) + x) (omega (arith, h, fit))
        ∙ ap₂ (λ a b. a || b) (there r x h (ordered y r (cases_lt y r) (cases_lt r y))) (sym (of_part old (r * stride) stride x h))

-- one row more
pub joined_more : (stride word first y : ℕ) (old mid new : List ℕ) → stride ≤ 8 → first ≤ y → length new ≡ length mid → IsWhiteFrom (8 * stride) word
    → IsJoinedAt (y * stride) word mid new → IsJoined stride word first y old mid → IsJoined stride word first (y + 1) old new
joined_more stride word first y old mid new few low long white joined earlier = record {
  len = long ∙ earlier.len;
  dots = λ x z h fit.
      now.dots x z h (omega (arith, fit, earlier.len)) ∙ ap (λ b. is_within y (y + 1) z && word_pixel word x || b) (earlier.dots x z h fit)
      ∙ both (is_within y (y + 1) z) (is_within first y z) (word_pixel word x) (pixel (row_at stride old z) x)
      ∙ ap (λ b. b && word_pixel word x || pixel (row_at stride old z) x) (either z);
}
  where
    now : IsJoined stride word y (y + 1) mid new
    now = one_joined stride y word mid new few long white joined

    both : (a b c d : Bool) → (a && c || (b && c || d)) ≡ ((a || b) && c || d)
    both true b true d = refl
    both true true false d = refl
    both true false false d = refl
    both false b c d = refl

    either : (z : ℕ) → (is_within y (y + 1) z || is_within first y z) ≡ is_within first (y + 1) z
    either z = grind (arith, nat_tests)

-- ---- the bitmap; the code reads the bytes as `read`, and s is the size of a row

here : (w word first last s : ℕ) (old read new : List ℕ) → s ≡ div_ceil w 8 → read ≡ old → IsJoined s word first last read new → IsJoined (div_ceil w 8) word first last old new
here w word first last s old read new e f joined =
    subst (λ (l : List ℕ). IsJoined (div_ceil w 8) word first last l new) f (subst (λ (k : ℕ). IsJoined k word first last read new) e joined)

pub joined_stored : (w h word first last s : ℕ) (old read new : List ℕ) → s ≡ div_ceil w 8 → read ≡ old → w ≤ 64 → IsWhiteFrom w word → ((j : ℕ) → get_or new j 0 < 256)
    → IsStored w h old → IsJoined s word first last read new → IsStored w h new
joined_stored w h word first last s old read new e f narrow white small stored joined = record {
  narrow = stored.narrow;
  low = stored.low;
  len = same.len ∙ stored.len;
  padded = λ y on_page. padded y on_page (omega (arith, stored.len, row_fits (div_ceil w 8) h y on_page));
}
  where
    same : IsJoined (div_ceil w 8) word first last old new
    same = here w word first last s old read new e f joined

    padded : (y : ℕ) → y < h → y * div_ceil w 8 + div_ceil w 8 ≤ length old → IsPadded w (row_at (div_ceil w 8) new y)
    padded y on_page fit = record {
      len = long;
      small = All-from_get_or (λ b. b < 256) (row_at (div_ceil w 8) new y) 0 (λ i g. part_small new (y * div_ceil w 8) (div_ceil w 8) i small (omega (arith, g, long)));
      zero_after = λ x beyond g.
          same.dots x y (omega (arith, g, long)) fit
          ∙ ap (λ b. b || pixel (row_at (div_ceil w 8) old y) x) (and_right (is_within first last y) (word_pixel word x) (white x beyond (omega (arith, g, long, narrow))))
          ∙ (stored.padded y on_page).zero_after x beyond (omega (arith, g, long, (stored.padded y on_page).len));
    }
      where
        long : length (row_at (div_ceil w 8) new y) ≡ div_ceil w 8
        long = length-take-le (div_ceil w 8) (drop (y * div_ceil w 8) new) (omega (arith, fit, same.len, length-drop (y * div_ceil w 8) new))

pub joined_bitmap : (w h word first last s : ℕ) (old read new : List ℕ) → s ≡ div_ceil w 8 → read ≡ old → IsStored w h old → IsJoined s word first last read new
    → bitmap_of w h new ≡ with_word (bitmap_of w h old) word first last
joined_bitmap w h word first last s old read new e f stored joined =
    ap (made w h) (same_dots w h (λ x y. pixel (row_at (div_ceil w 8) new y) x) (λ x y. is_within first last y && word_pixel word x || is_black (bitmap_of w h old) x y) each)
  where
    each : (x y : ℕ) → x < w → y < h → pixel (row_at (div_ceil w 8) new y) x ≡ (is_within first last y && word_pixel word x || is_black (bitmap_of w h old) x y)
    each x y in_line on_page =
        (here w word first last s old read new e f joined).dots x y (omega (arith, in_line)) (omega (arith, stored.len, row_fits (div_ceil w 8) h y on_page))
        ∙ ap (λ b. is_within first last y && word_pixel word x || b) (dot_in_row (bitmap_of w h old) w x y (row_at (div_ceil w 8) old y) (row_dots w h y old on_page) in_line)
