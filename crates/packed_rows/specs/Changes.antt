-- Bitmaps of white pixels, with a black rectangle, with copies of a row.
use Rattle.std.specs.Prelude.{ℕ, ◌+◌, Bool, false, ◌&&◌, ◌||◌, [], count_by, nat_le, nat_lt, slice_index_or, if◌then◌else◌}
use Rattle.std.specs.List.{sum_by}
use Rattle.packed_rows.specs.Bitmap.{Bitmap, is_black, from_fn}

-- a place lies in a span, which ends before `until`
abbrev pub is_within : ℕ → ℕ → ℕ → Bool
is_within from until place = nat_le from place && nat_lt place until

abbrev pub white_bitmap : ℕ → ℕ → Bitmap
white_bitmap width height =
    record {
      width = width;
      height = height;
      rows = from_fn height (λ y. from_fn width (λ x. false));
    }

-- the pixels of some columns in some rows are black, the others as they were
abbrev pub with_black : Bitmap → ℕ → ℕ → ℕ → ℕ → Bitmap
with_black b from until first last =
    record {
      width = b.width;
      height = b.height;
      rows = from_fn b.height (λ y. from_fn b.width
          (λ x. is_within from until x && is_within first last y || is_black b x y));
    }

-- n rows below row y are copies of it, the others as they were
abbrev pub with_copies : Bitmap → ℕ → ℕ → Bitmap
with_copies b y copies =
    record {
      width = b.width;
      height = b.height;
      rows = from_fn b.height (λ r. slice_index_or b.rows
          (if is_within (y + 1) (y + 1 + copies) r then y else r) []);
    }

-- how many pixels are black
abbrev pub black_count : Bitmap → ℕ
black_count b = sum_by (λ row. count_by (λ p. p) row) b.rows
