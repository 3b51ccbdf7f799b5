-- Rasters by their pixels, and their plain bitmaps.
use Rattle.std.proofs.Common.{◌≡◌, ◌∙◌, ℕ, ◌<◌, false, List, [], length, get_or, sym, subst, arith, Bool}
use Rattle.std.proofs.lemmas.List.{ext_get_or}
use Rattle.packed_rows.specs.Bitmap.{Bitmap, IsShaped, from_fn, is_black}
use Rattle.pk_runs.specs.Raster.{IsRaster}
use Rattle.packed_rows.proofs.Lists.{get_or-from_fn, length-from_fn}
use Rattle.pk_packer.specs.Laws.{PlainBitmapsArePacked, ShapedRastersAreTheirPixels}
use Rattle.pk_packer.specs.Written.{pixel_rows}
use Rattle.pk_packer.proofs.PlainBits.{padded_bytes, pixel_again, raster_by_pixels}

pub shaped_rasters_are_their_pixels : ShapedRastersAreTheirPixels
unfolding pixel_rows
shaped_rasters_are_their_pixels r shaped = ext_get_or [] (pixel_rows r) r.rows (tall ∙ sym shaped.rows) row
  where
    row_of_pixels : ℕ → List Bool
    row_of_pixels y = from_fn r.width (λ x. is_black r x y)

    tall : length (pixel_rows r) ≡ r.height
    tall = length-from_fn r.height row_of_pixels

    same : (y : ℕ) → y < r.height → row_of_pixels y ≡ get_or r.rows y []
    same y inside = ext_get_or false (row_of_pixels y) (get_or r.rows y []) (wide ∙ sym (shaped.columns y inside)) (λ x h. get_or-from_fn r.width (λ k. is_black r k y) x false (omega (arith, h, wide)))
      where
        wide : length (row_of_pixels y) ≡ r.width
        wide = length-from_fn r.width (λ x. is_black r x y)

    row : (y : ℕ) → y < length (pixel_rows r) → get_or (pixel_rows r) y [] ≡ get_or r.rows y []
    row y h = let inside : y < r.height = omega (arith, h, tall) in get_or-from_fn r.height row_of_pixels y [] inside ∙ same y inside

pub plain_bitmaps_are_packed : PlainBitmapsArePacked
plain_bitmaps_are_packed r = (padded_bytes r, λ x y in_row inside. sym (pixel_again r x y in_row inside))

-- a raster by its pixels is the raster
pub by_pixels : (bytes : List ℕ) (dyn_f : ℕ) (first : Bool) (r : Bitmap) → IsShaped r → IsRaster bytes dyn_f first r.width r.height (raster_by_pixels r) → IsRaster bytes dyn_f first r.width r.height r
by_pixels bytes dyn_f first r shaped = subst (λ (rows : List (List Bool)). IsRaster bytes dyn_f first r.width r.height (record { width = r.width; height = r.height; rows = rows })) (shaped_rasters_are_their_pixels r shaped)
