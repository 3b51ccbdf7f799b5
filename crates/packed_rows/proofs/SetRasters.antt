-- A bitmap on which a raster was set row by row.
use Rattle.std.proofs.Common.{◌≡◌, ℕ, ◌+◌, ◌-◌, ◌*◌, ◌<◌, ◌≤◌, ◌⊎◌, inl, inr, ℤ, pos, negsuc, ◌-ℤ◌, ◌<ℤ◌, true, false, ◌&&◌, ◌||◌, ltb, leb, min, max, List, [], length, get_or, refl, ap, ap₂, sym, subst, ◌∙◌, arith}
use Rattle.std.specs.Int.{div_ceil}
use Rattle.std.proofs.lemmas.Int.{ints}
use Rattle.std.proofs.lemmas.Bool.{cases_lt, le-leb, lt-leb, le-ltb, lt-ltb, and_right}
use Rattle.packed_rows.specs.Bitmap.{Bitmap, is_black}
use Rattle.packed_rows.specs.Packing.{pixel, pixels_of}
use Rattle.packed_rows.specs.Changes.{is_within}
use Rattle.packed_rows.specs.Stored.{row_at, bitmap_of, IsStored, padded_bitmap_of, IsStoredPadded}
use Rattle.packed_rows.specs.Stamped.{is_black_at, with_raster, pixel_over, AreStamped}
use Rattle.packed_rows.proofs.Lists.{get_or-from_fn, from_fn_past}
use Rattle.packed_rows.proofs.Parts.{pixel_past}
use Rattle.packed_rows.proofs.StoredBitmaps as bitmaps
use Rattle.packed_rows.proofs.StoredBitmaps.{made, same_dots, row_fits, dot_in_row}
use Rattle.packed_rows.proofs.PaddedRows.{row_dots, set_words}

-- ---- places

-- what set rows say of each dot, for rows of a bitmap w wide, under rows of k bytes
abbrev pub AreSet : ℕ → ℕ → ℕ → ℕ → ℕ → ℕ → ℕ → List ℕ → ℕ → List ℕ → List ℕ → Type 0
AreSet w from until a s b t new k source old = AreStamped (8 * div_ceil w 64) from until (λ x y. ltb x w && pixel_over (row_at k source (y + t - b)) a s x) old new

-- the same of a raster that lies inside, whose rows are counted from the first that it is set on
pub set_inside : (w from until a b k : ℕ) (new source old : List ℕ) → AreStamped (8 * div_ceil w 64) from until (λ x y. ltb x w && pixel_over (row_at k source (y - b)) a 0 x) old new
    → AreSet w from until a 0 b 0 new k source old
set_inside w from until a b k new source old dots = λ x y in_row on_page.
    dots x y in_row on_page ∙ ap (λ r. is_within from until y && (ltb x w && pixel_over (row_at k source r) a 0 x) || pixel (row_at (8 * div_ceil w 64) old y) x) (place y)
  where
    place : (y : ℕ) → y - b ≡ y + 0 - b
    place y = omega arith

inside_place : (x a s : ℕ) → a ≤ x + s → (pos x -ℤ (pos a -ℤ pos s)) ≡ pos (x + s - a)
inside_place x a s h = omega (arith, ints, h)

before_place : (x a s : ℕ) → x + s < a → (pos x -ℤ (pos a -ℤ pos s)) <ℤ pos 0
before_place x a s h = omega (arith, ints, h)

white_left : (raster : Bitmap) (x y : ℤ) → x <ℤ pos 0 → is_black_at raster x y ≡ false
white_left raster (pos x) (pos y) h = absurd (omega (arith, ints, h))
white_left raster (pos x) (negsuc y) h = refl
white_left raster (negsuc x) (pos y) h = refl
white_left raster (negsuc x) (negsuc y) h = refl

white_above : (raster : Bitmap) (x y : ℤ) → y <ℤ pos 0 → is_black_at raster x y ≡ false
white_above raster (pos x) (pos y) h = absurd (omega (arith, ints, h))
white_above raster (pos x) (negsuc y) h = refl
white_above raster (negsuc x) (pos y) h = refl
white_above raster (negsuc x) (negsuc y) h = refl

-- a pixel of a stored row, also after its last
pub source_dot : (w h x y : ℕ) (bytes : List ℕ) → IsStored w h bytes → y < h → pixel (row_at (div_ceil w 8) bytes y) x ≡ is_black (bitmap_of w h bytes) x y
source_dot w h x y bytes stored on_page = by (cases_lt x w) (cases_lt x (8 * length (row_at (div_ceil w 8) bytes y)))
  where
    past : w ≤ x → false ≡ is_black (bitmap_of w h bytes) x y
    past after = sym (ap (λ row. get_or row x false) (get_or-from_fn h (λ r. pixels_of w (row_at (div_ceil w 8) bytes r)) y [] on_page) ∙ from_fn_past w (pixel (row_at (div_ceil w 8) bytes y)) x false after)

    by : (x < w) ⊎ (w ≤ x) → (x < 8 * length (row_at (div_ceil w 8) bytes y)) ⊎ (8 * length (row_at (div_ceil w 8) bytes y) ≤ x) → pixel (row_at (div_ceil w 8) bytes y) x ≡ is_black (bitmap_of w h bytes) x y
    by (inl in_row) other = dot_in_row (bitmap_of w h bytes) w x y (row_at (div_ceil w 8) bytes y) (bitmaps.row_dots w h y bytes on_page) in_row
    by (inr after) (inl inside) = (stored.padded y on_page).zero_after x after inside ∙ past after
    by (inr after) (inr outside) = pixel_past (row_at (div_ceil w 8) bytes y) x outside ∙ past after

white_below : (w h x y : ℕ) (bytes : List ℕ) → h ≤ y → is_black (bitmap_of w h bytes) x y ≡ false
white_below w h x y bytes below = ap (λ row. get_or row x false) (from_fn_past h (λ r. pixels_of w (row_at (div_ceil w 8) bytes r)) y [] below)

-- ---- what lies over a pixel

within_from : (from until y : ℕ) → y < from → is_within from until y ≡ false
within_from from until y h = ap (λ b. b && ltb y until) (lt-leb from y h)

within_until : (from until y : ℕ) → until ≤ y → is_within from until y ≡ false
within_until from until y h = and_right (leb from y) (ltb y until) (le-ltb y until h)

within : (from until y : ℕ) → from ≤ y → y < until → is_within from until y ≡ true
within from until y h g = ap (λ b. b && ltb y until) (le-leb from y h) ∙ lt-ltb y until g

covered : (h sw sh a s b t from until x y : ℕ) (source : List ℕ) → IsStored sw sh source → y < h → from ≡ min (b - t) h → until ≡ max from (min (b + sh - t) h)
    → (is_within from until y && pixel_over (row_at (div_ceil sw 8) source (y + t - b)) a s x) ≡ is_black_at (bitmap_of sw sh source) (pos x -ℤ (pos a -ℤ pos s)) (pos y -ℤ (pos b -ℤ pos t))
covered h sw sh a s b t from until x y source stored on_page is_from is_until = by (cases_lt (y + t) b) (cases_lt (y + t - b) sh) (cases_lt (x + s) a)
  where
    by : (y + t < b) ⊎ (b ≤ y + t) → (y + t - b < sh) ⊎ (sh ≤ y + t - b) → (x + s < a) ⊎ (a ≤ x + s)
        → (is_within from until y && pixel_over (row_at (div_ceil sw 8) source (y + t - b)) a s x) ≡ is_black_at (bitmap_of sw sh source) (pos x -ℤ (pos a -ℤ pos s)) (pos y -ℤ (pos b -ℤ pos t))
    by (inl above) q r =
        ap (λ c. c && pixel_over (row_at (div_ceil sw 8) source (y + t - b)) a s x) (within_from from until y (omega (arith, above, is_from, on_page)))
        ∙ sym (white_above (bitmap_of sw sh source) (pos x -ℤ (pos a -ℤ pos s)) (pos y -ℤ (pos b -ℤ pos t)) (before_place y b t above))
    by (inr reached) q (inl left) =
        and_right (is_within from until y) (pixel_over (row_at (div_ceil sw 8) source (y + t - b)) a s x) (ap (λ c. c && pixel (row_at (div_ceil sw 8) source (y + t - b)) (x + s - a)) (lt-leb a (x + s) left))
        ∙ sym (white_left (bitmap_of sw sh source) (pos x -ℤ (pos a -ℤ pos s)) (pos y -ℤ (pos b -ℤ pos t)) (before_place x a s left))
    by (inr reached) (inr below) (inr right) =
        ap (λ c. c && pixel_over (row_at (div_ceil sw 8) source (y + t - b)) a s x) (within_until from until y (omega (arith, below, reached, is_from, is_until, on_page)))
        ∙ sym (ap₂ (is_black_at (bitmap_of sw sh source)) (inside_place x a s right) (inside_place y b t reached) ∙ white_below sw sh (x + s - a) (y + t - b) source below)
    by (inr reached) (inl inside) (inr right) =
        ap (λ c. c && pixel_over (row_at (div_ceil sw 8) source (y + t - b)) a s x) (within from until y (omega (arith, reached, is_from, on_page)) (omega (arith, inside, reached, is_from, is_until, on_page)))
        ∙ ap (λ c. c && pixel (row_at (div_ceil sw 8) source (y + t - b)) (x + s - a)) (le-leb a (x + s) right)
        ∙ source_dot sw sh (x + s - a) (y + t - b) source stored inside
        ∙ sym (ap₂ (is_black_at (bitmap_of sw sh source)) (inside_place x a s right) (inside_place y b t reached))

set_dots : (w h sw sh a s b t from until : ℕ) (old new source : List ℕ) → IsStoredPadded w h old → IsStored sw sh source → from ≡ min (b - t) h → until ≡ max from (min (b + sh - t) h)
    → AreSet w from until a s b t new (div_ceil sw 8) source old → padded_bitmap_of w h new ≡ with_raster (padded_bitmap_of w h old) (bitmap_of sw sh source) (pos a -ℤ pos s) (pos b -ℤ pos t)
set_dots w h sw sh a s b t from until old new source stored upper is_from is_until dots =
    ap (made w h) (same_dots w h (λ x y. pixel (row_at (8 * div_ceil w 64) new y) x)
    (λ x y. is_black_at (bitmap_of sw sh source) (pos x -ℤ (pos a -ℤ pos s)) (pos y -ℤ (pos b -ℤ pos t)) || is_black (padded_bitmap_of w h old) x y) each)
  where
    each : (x y : ℕ) → x < w → y < h
        → pixel (row_at (8 * div_ceil w 64) new y) x ≡ (is_black_at (bitmap_of sw sh source) (pos x -ℤ (pos a -ℤ pos s)) (pos y -ℤ (pos b -ℤ pos t)) || is_black (padded_bitmap_of w h old) x y)
    each x y in_row on_page =
        dots x y (omega (arith, in_row)) (omega (arith, stored.len, row_fits (8 * div_ceil w 64) h y on_page))
        ∙ ap (λ c. is_within from until y && (c && pixel_over (row_at (div_ceil sw 8) source (y + t - b)) a s x) || pixel (row_at (8 * div_ceil w 64) old y) x) (lt-ltb x w in_row)
        ∙ ap₂ (λ c d. c || d) (covered h sw sh a s b t from until x y source upper on_page is_from is_until) (dot_in_row (padded_bitmap_of w h old) w x y (row_at (8 * div_ceil w 64) old y) (row_dots w h y old on_page) in_row)

-- the bitmap after a raster was set; the code reads the bytes as `read`, and k is the size of the
-- raster's rows
pub raster_set : (w h sw sh a s b t from until k : ℕ) (left top : ℤ) (old read new source : List ℕ) → k ≡ div_ceil sw 8 → read ≡ old
    → IsStoredPadded w h old → IsStored sw sh source → (pos a -ℤ pos s) ≡ left → (pos b -ℤ pos t) ≡ top → from ≡ min (b - t) h → until ≡ max from (min (b + sh - t) h)
    → AreSet w from until a s b t new k source read → padded_bitmap_of w h new ≡ with_raster (padded_bitmap_of w h old) (bitmap_of sw sh source) left top
raster_set w h sw sh a s b t from until k left top old read new source e f stored above is_left is_top is_from is_until dots =
    set_dots w h sw sh a s b t from until old new source stored above is_from is_until
    (subst (λ (l : List ℕ). AreSet w from until a s b t new (div_ceil sw 8) source l) f (subst (λ (n : ℕ). AreSet w from until a s b t new n source read) e dots))
    ∙ ap₂ (with_raster (padded_bitmap_of w h old) (bitmap_of sw sh source)) is_left is_top

-- nothing is set after the width
pub set_stored : (w h a s b t from until k : ℕ) (old read new source : List ℕ) → read ≡ old → IsStoredPadded w h old → length new ≡ length read → ((j : ℕ) → get_or new j 0 < 256)
    → AreSet w from until a s b t new k source read → IsStoredPadded w h new
set_stored w h a s b t from until k old read new source f stored long small dots =
    set_words w h (λ x y. is_within from until y && (ltb x w && pixel_over (row_at k source (y + t - b)) a s x)) old new stored (long ∙ ap length f) small
    (λ x y after. and_right (is_within from until y) (ltb x w && pixel_over (row_at k source (y + t - b)) a s x) (ap (λ c. c && pixel_over (row_at k source (y + t - b)) a s x) (le-ltb x w after)))
    (λ x y inside fit. now x y (omega (arith, inside)) fit)
  where
    now : AreSet w from until a s b t new k source old
    now = subst (λ (l : List ℕ). AreSet w from until a s b t new k source l) f dots
