-- The sides of a character.
use Rattle.std.proofs.Common.{◌≡◌, ◌∙◌, ◌≤◌, ◌<◌, ℕ, ℤ, pos, negsuc, true, false, List, refl, ap, arith, w32, of_z, SFits}
use Rattle.std.specs.Prelude.{◌||◌, nat_abs, nat_lt, int_lt}
use Rattle.std.proofs.lemmas.Bool.{eq-eqb, le-ltb, lt-ltb, ne_eqb, or_from, or_left, or_right, true≢false}
use Rattle.std.proofs.lemmas.Int.{ints}
use Rattle.pk_runs.specs.Limits.{MAX_GLYPH_SIDE}
use Rattle.big_endian.specs.Numbers.{int_eq}
use Rattle.gf_reader.specs.Characters.{columns_of, height_of, min_m, positive_part, rows_of, raster_side, width_of}
use Rattle.gf_reader.specs.Faults.{is_too_big}

-- a number that isn't negative
pub or_zero_is : (z w : ℤ) → z ≡ w → int_lt z (pos 0) ≡ false → nat_abs z ≡ positive_part w
or_zero_is z w e here = kept z here ∙ ap positive_part e
  where
    kept : (z : ℤ) → int_lt z (pos 0) ≡ false → nat_abs z ≡ positive_part z
    kept (pos n) here = refl
    kept (negsuc n) here = absurd (true≢false here)

not_least : (z : ℤ) → (of_z w32 z ≡ 2147483648 → ⊥) → int_eq z (negsuc 2147483647) ≡ false
not_least (pos n) other = refl
not_least (negsuc n) other = ne_eqb n 2147483647 (λ e. other (omega (arith, e)))

least : (z : ℤ) → SFits w32 z → of_z w32 z ≡ 2147483648 → int_eq z (negsuc 2147483647) ≡ true
least (pos n) fits e = absurd (omega (arith, ints, fits.sfits, e))
least (negsuc n) fits e = eq-eqb n 2147483647 (omega (arith, fits.sfits, e))

pub sides_are : (item : List ℕ) (columns rows width height : ℕ) → columns ≡ columns_of item → rows ≡ rows_of item → width ≡ raster_side rows columns → height ≡ raster_side columns rows
    → columns ≤ MAX_GLYPH_SIDE → rows ≤ MAX_GLYPH_SIDE → (of_z w32 (min_m item) ≡ 2147483648 → ⊥)
    → (width ≡ width_of item) × (height ≡ height_of item) × (is_too_big item ≡ false)
sides_are item columns rows width height of_columns of_rows wide high narrow low other = (
  wide ∙ ap (λ r. raster_side r columns) of_rows ∙ ap (raster_side (rows_of item)) of_columns,
  high ∙ ap (λ r. raster_side r rows) of_columns ∙ ap (raster_side (columns_of item)) of_rows,
  or_from (nat_lt MAX_GLYPH_SIDE (columns_of item) || nat_lt MAX_GLYPH_SIDE (rows_of item)) (int_eq (min_m item) (negsuc 2147483647))
      (or_from (nat_lt MAX_GLYPH_SIDE (columns_of item)) (nat_lt MAX_GLYPH_SIDE (rows_of item)) (le-ltb MAX_GLYPH_SIDE (columns_of item) (omega (arith, narrow, of_columns))) (le-ltb MAX_GLYPH_SIDE (rows_of item) (omega (arith, low, of_rows))))
      (not_least (min_m item) other),
)

pub too_wide : (item : List ℕ) → MAX_GLYPH_SIDE < columns_of item → is_too_big item ≡ true
too_wide item big = or_left (nat_lt MAX_GLYPH_SIDE (columns_of item) || nat_lt MAX_GLYPH_SIDE (rows_of item)) (int_eq (min_m item) (negsuc 2147483647)) (or_left (nat_lt MAX_GLYPH_SIDE (columns_of item)) (nat_lt MAX_GLYPH_SIDE (rows_of item)) (lt-ltb MAX_GLYPH_SIDE (columns_of item) big))

pub too_high : (item : List ℕ) → MAX_GLYPH_SIDE < rows_of item → is_too_big item ≡ true
too_high item big = or_left (nat_lt MAX_GLYPH_SIDE (columns_of item) || nat_lt MAX_GLYPH_SIDE (rows_of item)) (int_eq (min_m item) (negsuc 2147483647)) (or_right (nat_lt MAX_GLYPH_SIDE (columns_of item)) (nat_lt MAX_GLYPH_SIDE (rows_of item)) (lt-ltb MAX_GLYPH_SIDE (rows_of item) big))

pub too_far : (item : List ℕ) → SFits w32 (min_m item) → of_z w32 (min_m item) ≡ 2147483648 → is_too_big item ≡ true
too_far item fits e = or_right (nat_lt MAX_GLYPH_SIDE (columns_of item) || nat_lt MAX_GLYPH_SIDE (rows_of item)) (int_eq (min_m item) (negsuc 2147483647)) (least (min_m item) fits e)
