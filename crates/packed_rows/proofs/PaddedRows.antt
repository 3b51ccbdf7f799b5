-- The bitmap that rows of whole words hold.
use Rattle.std.proofs.Common.{◌^◌, ◌≡◌, ℕ, zero, suc, ◌+◌, ◌-◌, ◌*◌, ◌/◌, ◌%◌, ◌<◌, ◌≤◌, ◌⊎◌, inl, inr, Bool, false, ◌&&◌, ◌||◌, eqb, List, [], ◌∷◌, ◌++◌, length, get_or, take, drop, slice_index_or, ap, sym, subst, ◌∙◌, arith}
use Rattle.std.specs.Int.{bit_at, div_ceil}
use Rattle.std.specs.List.{flat_map}
use Rattle.std.proofs.lemmas.Bool.{cases_lt}
use Rattle.std.proofs.lemmas.List.{places, take-take, length-replicate, append-nil, length-take-le, length-drop, get_or_past}
use Rattle.std.proofs.lemmas.List.Concat.{flat_map-append}
use Rattle.std.proofs.lemmas.List.Elements.{All-replicate, All-from_get_or}
use Rattle.std.proofs.Math.Seq.{take-add}
use Rattle.packed_rows.specs.Bitmap.{is_black, from_fn}
use Rattle.packed_rows.specs.Packing.{pixel, pixels_of, row_text, IsPadded}
use Rattle.packed_rows.specs.Changes.{is_within, white_bitmap, with_black}
use Rattle.packed_rows.specs.Stored.{row_at, IsWords, padded_bitmap_of, IsStoredPadded}
use Rattle.packed_rows.proofs.Lists.{get_or-from_fn, from_fn_same}
use Rattle.packed_rows.proofs.Texts.{packing_gives_back, no_bits}
use Rattle.packed_rows.proofs.Parts.{of_part, part_small}
use Rattle.packed_rows.proofs.PartsOver.{after_span}
use Rattle.packed_rows.proofs.StoredBitmaps.{made, same_dots, row_fits, dot_in_row, zeros, white_dot, row_of_zeros, AreDots}

-- ---- white bitmaps

pub white_stored : (w h n : ℕ) → w < 2 ^ 16 → h < 2 ^ 16 → n ≡ h * (8 * div_ceil w 64) + 8 → IsStoredPadded w h (zeros n)
white_stored w h n narrow low e = record {
  narrow = narrow;
  low = low;
  len = length-replicate n 0 ∙ e;
  padded = λ y on_page. subst (λ (l : List ℕ). IsWords w l) (sym (row_of_zeros (8 * div_ceil w 64) h n y (omega (arith, e)) on_page)) white;
}
  where
    white : IsWords w (zeros (8 * div_ceil w 64))
    white = record {
      len = length-replicate (8 * div_ceil w 64) 0;
      small = All-replicate (λ b. b < 256) (8 * div_ceil w 64) 0 (omega arith);
      zero_after = λ x _ _. white_dot (8 * div_ceil w 64) x;
    }

pub white_is_white : (w h n : ℕ) → n ≡ h * (8 * div_ceil w 64) + 8 → padded_bitmap_of w h (zeros n) ≡ white_bitmap w h
white_is_white w h n e = ap (made w h) (same_dots w h (λ x y. pixel (row_at (8 * div_ceil w 64) (zeros n) y) x) (λ x y. false)
    (λ x y _ on_page. ap (λ l. pixel l x) (row_of_zeros (8 * div_ceil w 64) h n y (omega (arith, e)) on_page) ∙ white_dot (8 * div_ceil w 64) x))

-- ---- its rows

pub row_dots : (w h y : ℕ) (bytes : List ℕ) → y < h → pixels_of w (row_at (8 * div_ceil w 64) bytes y) ≡ slice_index_or (padded_bitmap_of w h bytes).rows y []
row_dots w h y bytes on_page = sym (get_or-from_fn h (λ r. pixels_of w (row_at (8 * div_ceil w 64) bytes r)) y [] on_page)

-- the first bytes of a row's words hold its pixels
prefix_dots : (w k at : ℕ) (bytes : List ℕ) → div_ceil w 8 ≤ k → pixels_of w (take (div_ceil w 8) (drop at bytes)) ≡ pixels_of w (take k (drop at bytes))
prefix_dots w k at bytes fit = from_fn_same w (pixel (take (div_ceil w 8) (drop at bytes))) (pixel (take k (drop at bytes)))
    (λ x h. of_part bytes at (div_ceil w 8) x (omega (arith, h)) ∙ sym (of_part bytes at k x (omega (arith, h, fit))))

prefix_padded : (w at : ℕ) (bytes : List ℕ) → at + 8 * div_ceil w 64 ≤ length bytes → IsWords w (take (8 * div_ceil w 64) (drop at bytes)) → IsPadded w (take (div_ceil w 8) (drop at bytes))
prefix_padded w at bytes fit words = record {
  len = whole;
  small = All-from_get_or (λ b. b < 256) (take (div_ceil w 8) (drop at bytes)) 0 small;
  zero_after = λ x after inside.
      of_part bytes at (div_ceil w 8) x (omega (arith, inside, whole)) ∙ sym (of_part bytes at (8 * div_ceil w 64) x (omega (arith, inside, whole)))
      ∙ words.zero_after x after (omega (arith, inside, whole, words.len));
}
  where
    whole : length (take (div_ceil w 8) (drop at bytes)) ≡ div_ceil w 8
    whole = length-take-le (div_ceil w 8) (drop at bytes) (omega (arith, fit, length-drop at bytes))

    small : (i : ℕ) → i < length (take (div_ceil w 8) (drop at bytes)) → get_or (take (div_ceil w 8) (drop at bytes)) i 0 < 256
    small i h = subst (λ (n : ℕ). n < 256) (sym same) (words.small i 0 (omega (arith, h, whole, words.len)))
      where
        inside : i < div_ceil w 8
        inside = omega (arith, h, whole)

        within : i < 8 * div_ceil w 64
        within = omega (arith, inside)

        same : get_or (take (div_ceil w 8) (drop at bytes)) i 0 ≡ get_or (take (8 * div_ceil w 64) (drop at bytes)) i 0
        same = grind (arith, places)

-- the row without its padding, as the code reads it: n bytes from the place where row y begins
pub row_padded : (w h y s n : ℕ) (bytes read : List ℕ) → IsStoredPadded w h bytes → y < h → s ≡ 8 * div_ceil w 64 → n ≡ div_ceil w 8 → read ≡ bytes
    → IsPadded w (take (y * s + n - y * s) (drop (y * s) read))
row_padded w h y s n bytes read stored on_page is_s is_n is_read =
    subst (λ (l : List ℕ). IsPadded w l) (sym (prefix_read w y s n bytes read is_s is_n is_read))
    (prefix_padded w (y * (8 * div_ceil w 64)) bytes (omega (arith, stored.len, row_fits (8 * div_ceil w 64) h y on_page)) (stored.padded y on_page))
  where
    prefix_read : (w y s n : ℕ) (bytes read : List ℕ) → s ≡ 8 * div_ceil w 64 → n ≡ div_ceil w 8 → read ≡ bytes
        → take (y * s + n - y * s) (drop (y * s) read) ≡ take (div_ceil w 8) (drop (y * (8 * div_ceil w 64)) bytes)
    prefix_read w y s n bytes read e f g = ap (λ k. take k (drop (y * s) read)) (whole ∙ f) ∙ ap (λ l. take (div_ceil w 8) (drop (y * s) l)) g ∙ ap (λ k. take (div_ceil w 8) (drop (y * k) bytes)) e
      where
        whole : y * s + n - y * s ≡ n
        whole = omega arith

pub row_pixels : (w h y s n : ℕ) (bytes read : List ℕ) → y < h → s ≡ 8 * div_ceil w 64 → n ≡ div_ceil w 8 → read ≡ bytes
    → pixels_of w (take (y * s + n - y * s) (drop (y * s) read)) ≡ slice_index_or (padded_bitmap_of w h bytes).rows y []
row_pixels w h y s n bytes read on_page is_s is_n is_read =
    ap (λ k. pixels_of w (take k (drop (y * s) read))) (whole ∙ is_n) ∙ ap (λ l. pixels_of w (take (div_ceil w 8) (drop (y * s) l))) is_read
    ∙ ap (λ k. pixels_of w (take (div_ceil w 8) (drop (y * k) bytes))) is_s
    ∙ prefix_dots w (8 * div_ceil w 64) (y * (8 * div_ceil w 64)) bytes (omega arith) ∙ row_dots w h y bytes on_page
  where
    whole : y * s + n - y * s ≡ n
    whole = omega arith

-- ---- with their padding

-- the words of row y, as the code reads them
pub words_read : (w y s : ℕ) (bytes read : List ℕ) → s ≡ 8 * div_ceil w 64 → read ≡ bytes → take (y * s + s - y * s) (drop (y * s) read) ≡ row_at (8 * div_ceil w 64) bytes y
words_read w y s bytes read is_s is_read = ap (λ k. take k (drop (y * s) read)) whole ∙ ap (λ l. take s (drop (y * s) l)) is_read ∙ ap (λ k. row_at k bytes y) is_s
  where
    whole : y * s + s - y * s ≡ s
    whole = omega arith

pub words_text : (w h y : ℕ) (bytes : List ℕ) → IsStoredPadded w h bytes → y < h → take (div_ceil w 8) (row_at (8 * div_ceil w 64) bytes y) ≡ row_text (slice_index_or (padded_bitmap_of w h bytes).rows y [])
words_text w h y bytes stored on_page =
    shorter ∙ sym (packing_gives_back w (take (div_ceil w 8) (drop (y * (8 * div_ceil w 64)) bytes)) padded)
    ∙ ap row_text (prefix_dots w (8 * div_ceil w 64) (y * (8 * div_ceil w 64)) bytes (omega arith) ∙ row_dots w h y bytes on_page)
  where
    padded : IsPadded w (take (div_ceil w 8) (drop (y * (8 * div_ceil w 64)) bytes))
    padded = prefix_padded w (y * (8 * div_ceil w 64)) bytes (omega (arith, stored.len, row_fits (8 * div_ceil w 64) h y on_page)) (stored.padded y on_page)

    fit : div_ceil w 8 ≤ 8 * div_ceil w 64
    fit = omega arith

    shorter : take (div_ceil w 8) (take (8 * div_ceil w 64) (drop (y * (8 * div_ceil w 64)) bytes)) ≡ take (div_ceil w 8) (drop (y * (8 * div_ceil w 64)) bytes)
    shorter = take-take (div_ceil w 8) (8 * div_ceil w 64) (drop (y * (8 * div_ceil w 64)) bytes) fit

pub words_zero : (w i : ℕ) (row : List ℕ) → IsWords w row → div_ceil w 8 ≤ i → get_or row i 0 ≡ 0
words_zero w i row words after = by (cases_lt i (length row))
  where
    by : (i < length row) ⊎ (length row ≤ i) → get_or row i 0 ≡ 0
    by (inl inside) = no_bits (get_or row i 0) (words.small i 0 inside) each
      where
        each : (k : ℕ) → k < 8 → eqb (bit_at (get_or row i 0) (7 - k)) 1 ≡ false
        each k below =
            let byte : (8 * i + k) / 8 ≡ i = omega (arith, below) in
            let place : (8 * i + k) % 8 ≡ k = omega (arith, below) in
            sym (ap (λ j. eqb (bit_at (get_or row j 0) (7 - (8 * i + k) % 8)) 1) byte ∙ ap (λ r. eqb (bit_at (get_or row i 0) (7 - r)) 1) place)
            ∙ words.zero_after (8 * i + k) (omega (arith, after)) (omega (arith, inside, below))
    by (inr past) = get_or_past row i 0 past

-- ---- all rows

first_rows : (w h : ℕ) (bytes : List ℕ) → IsStoredPadded w h bytes → div_ceil w 8 ≡ 8 * div_ceil w 64 → (n : ℕ) → n ≤ h
    → flat_map row_text (from_fn n (λ y. pixels_of w (row_at (8 * div_ceil w 64) bytes y))) ≡ take (n * (8 * div_ceil w 64)) bytes
first_rows w h bytes stored same zero low = sym (ap (λ k. take k bytes) zero_rows)
  where
    zero_rows : 0 * (8 * div_ceil w 64) ≡ 0
    zero_rows = omega arith
first_rows w h bytes stored same (suc n) low =
    flat_map-append row_text (from_fn n (λ y. pixels_of w (row_at (8 * div_ceil w 64) bytes y))) (pixels_of w (row_at (8 * div_ceil w 64) bytes n) ∷ [])
    ∙ ap (λ l. l ++ (row_text (pixels_of w (row_at (8 * div_ceil w 64) bytes n)) ++ [])) (first_rows w h bytes stored same n (omega (arith, low)))
    ∙ ap (λ l. take (n * (8 * div_ceil w 64)) bytes ++ l) (append-nil (row_text (pixels_of w (row_at (8 * div_ceil w 64) bytes n))) ∙ packing_gives_back w (row_at (8 * div_ceil w 64) bytes n) padded)
    ∙ sym (take-add (n * (8 * div_ceil w 64)) (8 * div_ceil w 64) bytes) ∙ ap (λ k. take k bytes) one_more
  where
    padded : IsPadded w (row_at (8 * div_ceil w 64) bytes n)
    padded = record {
      len = (stored.padded n (omega (arith, low))).len ∙ sym same;
      small = (stored.padded n (omega (arith, low))).small;
      zero_after = (stored.padded n (omega (arith, low))).zero_after;
    }

    one_more : n * (8 * div_ceil w 64) + 8 * div_ceil w 64 ≡ suc n * (8 * div_ceil w 64)
    one_more = omega arith

pub rows_are_text : (w h n : ℕ) (bytes : List ℕ) → IsStoredPadded w h bytes → div_ceil w 8 ≡ 8 * div_ceil w 64 → n ≡ h * (8 * div_ceil w 64) → take n bytes ≡ flat_map row_text (padded_bitmap_of w h bytes).rows
rows_are_text w h n bytes stored same e = ap (λ k. take k bytes) e ∙ sym (first_rows w h bytes stored same h (omega arith))

-- ---- blackened pixels

blackened_dots : (w h cf cu rf ru : ℕ) (old new : List ℕ) → IsStoredPadded w h old → AreDots cf cu rf ru new (8 * div_ceil w 64) old
    → padded_bitmap_of w h new ≡ with_black (padded_bitmap_of w h old) cf cu rf ru
blackened_dots w h cf cu rf ru old new stored dots = ap (made w h) (same_dots w h (λ x y. pixel (row_at (8 * div_ceil w 64) new y) x) (λ x y. is_within cf cu x && is_within rf ru y || is_black (padded_bitmap_of w h old) x y) each)
  where
    each : (x y : ℕ) → x < w → y < h → pixel (row_at (8 * div_ceil w 64) new y) x ≡ (is_within cf cu x && is_within rf ru y || is_black (padded_bitmap_of w h old) x y)
    each x y in_row on_page =
        dots x y (omega (arith, in_row)) (omega (arith, stored.len, row_fits (8 * div_ceil w 64) h y on_page))
        ∙ ap (λ b. is_within cf cu x && is_within rf ru y || b) (dot_in_row (padded_bitmap_of w h old) w x y (row_at (8 * div_ceil w 64) old y) (row_dots w h y old on_page) in_row)

-- the bitmap after some pixels were blackened; the code reads the bytes as `read`, and s is the
-- size of a row
pub blackened : (w h cf cu rf ru s : ℕ) (old read new : List ℕ) → s ≡ 8 * div_ceil w 64 → read ≡ old → IsStoredPadded w h old → AreDots cf cu rf ru new s read
    → padded_bitmap_of w h new ≡ with_black (padded_bitmap_of w h old) cf cu rf ru
blackened w h cf cu rf ru s old read new e f stored dots =
    blackened_dots w h cf cu rf ru old new stored (subst (λ (l : List ℕ). AreDots cf cu rf ru new (8 * div_ceil w 64) l) f (subst (λ (k : ℕ). AreDots cf cu rf ru new k read) e dots))

-- pixels that are not set after the width stay white there
pub set_words : (w h : ℕ) (f : ℕ → ℕ → Bool) (old new : List ℕ) → IsStoredPadded w h old → length new ≡ length old → ((j : ℕ) → get_or new j 0 < 256) → ((x y : ℕ) → w ≤ x → f x y ≡ false)
    → ((x y : ℕ) → x < 8 * (8 * div_ceil w 64) → y * (8 * div_ceil w 64) + 8 * div_ceil w 64 ≤ length old
    → pixel (row_at (8 * div_ceil w 64) new y) x ≡ (f x y || pixel (row_at (8 * div_ceil w 64) old y) x))
    → IsStoredPadded w h new
set_words w h f old new stored long small none dots = record {
  narrow = stored.narrow;
  low = stored.low;
  len = long ∙ stored.len;
  padded = words;
}
  where
    words : (y : ℕ) → y < h → IsWords w (row_at (8 * div_ceil w 64) new y)
    words y on_page = record {
      len = now;
      small = All-from_get_or (λ b. b < 256) (row_at (8 * div_ceil w 64) new y) 0 (λ i h. part_small new (y * (8 * div_ceil w 64)) (8 * div_ceil w 64) i small (omega (arith, h, now)));
      zero_after = λ x after inside.
          dots x y (omega (arith, inside, now)) fit ∙ ap (λ b. b || pixel (row_at (8 * div_ceil w 64) old y) x) (none x y after)
          ∙ (stored.padded y on_page).zero_after x after (omega (arith, inside, now, (stored.padded y on_page).len));
    }
      where
        fit : y * (8 * div_ceil w 64) + 8 * div_ceil w 64 ≤ length old
        fit = omega (arith, stored.len, row_fits (8 * div_ceil w 64) h y on_page)

        now : length (row_at (8 * div_ceil w 64) new y) ≡ 8 * div_ceil w 64
        now = length-take-le (8 * div_ceil w 64) (drop (y * (8 * div_ceil w 64)) new) (omega (arith, fit, long, length-drop (y * (8 * div_ceil w 64)) new))

pub blackened_stored : (w h cf cu rf ru s : ℕ) (old read new : List ℕ) → s ≡ 8 * div_ceil w 64 → read ≡ old → cu ≤ w → IsStoredPadded w h old → length new ≡ length read → ((j : ℕ) → get_or new j 0 < 256)
    → AreDots cf cu rf ru new s read → IsStoredPadded w h new
blackened_stored w h cf cu rf ru s old read new e f inside stored long small dots =
    set_words w h (λ x y. is_within cf cu x && is_within rf ru y) old new stored (long ∙ ap length f) small
    (λ x y after. ap (λ b. b && is_within rf ru y) (after_span cf cu x (omega (arith, after, inside))))
    (subst (λ (l : List ℕ). AreDots cf cu rf ru new (8 * div_ceil w 64) l) f (subst (λ (k : ℕ). AreDots cf cu rf ru new k read) e dots))
