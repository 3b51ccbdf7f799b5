-- The bitmap that stored bytes hold.
use Rattle.std.proofs.Common.{◌^◌, ◌≡◌, ℕ, zero, suc, ◌+◌, ◌-◌, ◌*◌, ◌/◌, ◌%◌, ◌<◌, ◌≤◌, Bool, false, ◌&&◌, ◌||◌, eqb, List, [], ◌∷◌, ◌++◌, length, get_or, take, drop, replicate, slice_index_or, refl, ap, sym, subst, ◌∙◌, arith}
use Rattle.std.specs.Int.{bit_at, div_ceil}
use Rattle.std.specs.List.{flat_map}
use Rattle.std.proofs.lemmas.List.{length-replicate, take-replicate, drop-replicate, append-nil}
use Rattle.std.proofs.lemmas.List.Concat.{flat_map-append}
use Rattle.std.proofs.lemmas.List.Elements.{All-replicate}
use Rattle.std.proofs.lemmas.Nat.Bits.{bit_at-zero}
use Rattle.std.proofs.Math.Nat.{mul-le-mul_right}
use Rattle.std.proofs.Math.Seq.{take-add}
use Rattle.packed_rows.specs.Bitmap.{Bitmap, is_black, from_fn}
use Rattle.packed_rows.specs.Packing.{pixel, pixels_of, row_text, IsPadded}
use Rattle.packed_rows.proofs.Lists.{get_or-from_fn, from_fn_same}
use Rattle.packed_rows.proofs.Texts.{packing_gives_back}
use Rattle.packed_rows.specs.Changes.{is_within, white_bitmap, with_black}
use Rattle.packed_rows.specs.Stored.{row_at, bitmap_of, IsStored}

abbrev pub made : ℕ → ℕ → List (List Bool) → Bitmap
made width height rows = record { width = width; height = height; rows = rows }

-- a pixel of a bitmap that is made pixel by pixel
pub dot_of : (width height x y : ℕ) (f : ℕ → ℕ → Bool) → x < width → y < height → get_or (get_or (from_fn height (λ r. from_fn width (λ k. f k r))) y []) x false ≡ f x y
dot_of width height x y f h g = ap (λ row. get_or row x false) (get_or-from_fn height (λ r. from_fn width (λ k. f k r)) y [] g) ∙ get_or-from_fn width (λ k. f k y) x false h

-- two bitmaps that are made pixel by pixel, of the same pixels
pub same_dots : (width height : ℕ) (f g : ℕ → ℕ → Bool) → ((x y : ℕ) → x < width → y < height → f x y ≡ g x y)
    → from_fn height (λ y. from_fn width (λ x. f x y)) ≡ from_fn height (λ y. from_fn width (λ x. g x y))
same_dots width height f g h = from_fn_same height _ _ (λ y low. from_fn_same width _ _ (λ x in_row. h x y in_row low))

-- ---- white bitmaps

abbrev pub zeros : ℕ → List ℕ
zeros n = replicate n 0

zero_at : (n i : ℕ) → get_or (zeros n) i 0 ≡ 0
zero_at zero i = refl
zero_at (suc n) zero = refl
zero_at (suc n) (suc i) = zero_at n i

pub white_dot : (n x : ℕ) → pixel (zeros n) x ≡ false
white_dot n x = ap (λ b. eqb (bit_at b (7 - x % 8)) 1) (zero_at n (x / 8)) ∙ ap (λ b. eqb b 1) (bit_at-zero (7 - x % 8))

pub row_fits : (stride height y : ℕ) → y < height → y * stride + stride ≤ height * stride
row_fits stride height y h = omega (arith, mul-le-mul_right stride h)

pub row_of_zeros : (stride height n y : ℕ) → height * stride ≤ n → y < height → row_at stride (zeros n) y ≡ zeros stride
row_of_zeros stride height n y e h =
    ap (take stride) (drop-replicate (y * stride) n 0) ∙ take-replicate stride (n - y * stride) 0 (omega (arith, e, row_fits stride height y h))

pub white_stored : (w h n : ℕ) → w < 2 ^ 16 → h < 2 ^ 16 → n ≡ h * div_ceil w 8 + 8 → IsStored w h (zeros n)
white_stored w h n narrow low e = record {
  narrow = narrow;
  low = low;
  len = length-replicate n 0 ∙ e;
  padded = λ y on_page. subst (λ (l : List ℕ). IsPadded w l) (sym (row_of_zeros (div_ceil w 8) h n y (omega (arith, e)) on_page)) white;
}
  where
    white : IsPadded w (zeros (div_ceil w 8))
    white = record {
      len = length-replicate (div_ceil w 8) 0;
      small = All-replicate (λ b. b < 256) (div_ceil w 8) 0 (omega arith);
      zero_after = λ x _ _. white_dot (div_ceil w 8) x;
    }

pub white_is_white : (w h n : ℕ) → n ≡ h * div_ceil w 8 + 8 → bitmap_of w h (zeros n) ≡ white_bitmap w h
white_is_white w h n e = ap (made w h) (same_dots w h (λ x y. pixel (row_at (div_ceil w 8) (zeros n) y) x) (λ x y. false)
    (λ x y _ on_page. ap (λ l. pixel l x) (row_of_zeros (div_ceil w 8) h n y (omega (arith, e)) on_page) ∙ white_dot (div_ceil w 8) x))

-- ---- its rows

-- the slice of a row that the code reads
pub row_read : (w y s : ℕ) (bytes read : List ℕ) → s ≡ div_ceil w 8 → read ≡ bytes → take (y * s + s - y * s) (drop (y * s) read) ≡ row_at (div_ceil w 8) bytes y
row_read w y s bytes read is_s is_read = ap (λ k. take k (drop (y * s) read)) whole ∙ ap (λ l. take s (drop (y * s) l)) is_read ∙ ap (λ k. row_at k bytes y) is_s
  where
    whole : y * s + s - y * s ≡ s
    whole = omega arith

pub row_dots : (w h y : ℕ) (bytes : List ℕ) → y < h → pixels_of w (row_at (div_ceil w 8) bytes y) ≡ slice_index_or (bitmap_of w h bytes).rows y []
row_dots w h y bytes on_page = sym (get_or-from_fn h (λ r. pixels_of w (row_at (div_ceil w 8) bytes r)) y [] on_page)

pub row_is_text : (w h y : ℕ) (bytes : List ℕ) → IsStored w h bytes → y < h → row_at (div_ceil w 8) bytes y ≡ row_text (slice_index_or (bitmap_of w h bytes).rows y [])
row_is_text w h y bytes stored on_page = sym (packing_gives_back w (row_at (div_ceil w 8) bytes y) (stored.padded y on_page)) ∙ ap row_text (row_dots w h y bytes on_page)

first_rows : (w h : ℕ) (bytes : List ℕ) → IsStored w h bytes → (n : ℕ) → n ≤ h → flat_map row_text (from_fn n (λ y. pixels_of w (row_at (div_ceil w 8) bytes y))) ≡ take (n * div_ceil w 8) bytes
first_rows w h bytes stored zero low = sym (ap (λ k. take k bytes) zero_rows)
  where
    zero_rows : 0 * div_ceil w 8 ≡ 0
    zero_rows = omega arith
first_rows w h bytes stored (suc n) low =
    flat_map-append row_text (from_fn n (λ y. pixels_of w (row_at (div_ceil w 8) bytes y))) (pixels_of w (row_at (div_ceil w 8) bytes n) ∷ [])
    ∙ ap (λ l. l ++ (row_text (pixels_of w (row_at (div_ceil w 8) bytes n)) ++ [])) (first_rows w h bytes stored n (omega (arith, low)))
    ∙ ap (λ l. take (n * div_ceil w 8) bytes ++ l) (append-nil (row_text (pixels_of w (row_at (div_ceil w 8) bytes n))) ∙ packing_gives_back w (row_at (div_ceil w 8) bytes n) (stored.padded n (omega (arith, low))))
    ∙ sym (take-add (n * div_ceil w 8) (div_ceil w 8) bytes) ∙ ap (λ k. take k bytes) one_more
  where
    one_more : n * div_ceil w 8 + div_ceil w 8 ≡ suc n * div_ceil w 8
    one_more = omega arith

pub rows_are_text : (w h n : ℕ) (bytes : List ℕ) → IsStored w h bytes → n ≡ h * div_ceil w 8 → take n bytes ≡ flat_map row_text (bitmap_of w h bytes).rows
rows_are_text w h n bytes stored e = ap (λ k. take k bytes) e ∙ sym (first_rows w h bytes stored h (omega arith))

-- a dot of a row that has the pixels of the page's row
pub dot_in_row : (page : Bitmap) (w x y : ℕ) (row : List ℕ) → pixels_of w row ≡ slice_index_or page.rows y [] → x < w → pixel row x ≡ is_black page x y
dot_in_row page w x y row e h = sym (get_or-from_fn w (pixel row) x false h) ∙ ap (λ l. get_or l x false) e

-- ---- blackened pixels

-- what blackened columns of blackened rows say of each dot, for rows of k bytes
abbrev pub AreDots : ℕ → ℕ → ℕ → ℕ → List ℕ → ℕ → List ℕ → Type 0
AreDots cf cu rf ru new k old = (x y : ℕ) → x < 8 * k → y * k + k ≤ length old → pixel (row_at k new y) x ≡ (is_within cf cu x && is_within rf ru y || pixel (row_at k old y) x)

abbrev pub StayPadded : ℕ → List ℕ → ℕ → List ℕ → Type 0
StayPadded cu new k old = (width y : ℕ) → cu ≤ width → y * k + k ≤ length old → IsPadded width (row_at k old y) → IsPadded width (row_at k new y)

blackened_dots : (w h cf cu rf ru : ℕ) (old new : List ℕ) → IsStored w h old → AreDots cf cu rf ru new (div_ceil w 8) old
    → bitmap_of w h new ≡ with_black (bitmap_of w h old) cf cu rf ru
blackened_dots w h cf cu rf ru old new stored dots = ap (made w h) (same_dots w h (λ x y. pixel (row_at (div_ceil w 8) new y) x) (λ x y. is_within cf cu x && is_within rf ru y || is_black (bitmap_of w h old) x y) each)
  where
    each : (x y : ℕ) → x < w → y < h → pixel (row_at (div_ceil w 8) new y) x ≡ (is_within cf cu x && is_within rf ru y || is_black (bitmap_of w h old) x y)
    each x y in_row on_page =
        dots x y (omega (arith, in_row)) (omega (arith, stored.len, row_fits (div_ceil w 8) h y on_page))
        ∙ ap (λ b. is_within cf cu x && is_within rf ru y || b) (dot_in_row (bitmap_of w h old) w x y (row_at (div_ceil w 8) old y) (row_dots w h y old on_page) in_row)

-- the bitmap after some pixels were blackened; the code reads the bytes as `read`, and s is the
-- size of a row
pub blackened : (w h cf cu rf ru s : ℕ) (old read new : List ℕ) → s ≡ div_ceil w 8 → read ≡ old → IsStored w h old → AreDots cf cu rf ru new s read
    → bitmap_of w h new ≡ with_black (bitmap_of w h old) cf cu rf ru
blackened w h cf cu rf ru s old read new e f stored dots =
    blackened_dots w h cf cu rf ru old new stored (subst (λ (l : List ℕ). AreDots cf cu rf ru new (div_ceil w 8) l) f (subst (λ (k : ℕ). AreDots cf cu rf ru new k read) e dots))

pub blackened_stored : (w h cu s : ℕ) (old read new : List ℕ) → s ≡ div_ceil w 8 → read ≡ old → cu ≤ w → IsStored w h old → length new ≡ length read → StayPadded cu new s read → IsStored w h new
blackened_stored w h cu s old read new e f inside stored long padded = record {
  narrow = stored.narrow;
  low = stored.low;
  len = long ∙ ap length f ∙ stored.len;
  padded = λ y on_page. stay w y inside (omega (arith, stored.len, row_fits (div_ceil w 8) h y on_page)) (stored.padded y on_page);
}
  where
    stay : StayPadded cu new (div_ceil w 8) old
    stay = subst (λ (l : List ℕ). StayPadded cu new (div_ceil w 8) l) f (subst (λ (k : ℕ). StayPadded cu new k read) e padded)
