-- A word of sixty-four pixels that is joined into rows: what is black in the word becomes black
-- there.
use Rattle.std.specs.Prelude.{◌≡◌, ℕ, ◌<◌, ◌≤◌, false, ◌&&◌, ◌||◌}
use Rattle.packed_rows.specs.Bitmap.{Bitmap, is_black, from_fn}
use Rattle.packed_rows.specs.Changes.{is_within}
use Rattle.packed_rows.specs.Stamped.{word_pixel}

-- no pixel of the word is black from place n on
abbrev pub IsWhiteFrom : ℕ → ℕ → Type 0
IsWhiteFrom n word = (i : ℕ) → n ≤ i → i < 64 → word_pixel word i ≡ false

-- a bitmap with a word joined into the rows from `first` to `last`
abbrev pub with_word : Bitmap → ℕ → ℕ → ℕ → Bitmap
with_word b word first last =
    record {
      width = b.width;
      height = b.height;
      rows = from_fn b.height (λ y. from_fn b.width
          (λ x. is_within first last y && word_pixel word x || is_black b x y));
    }
