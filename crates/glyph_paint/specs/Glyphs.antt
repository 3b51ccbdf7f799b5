-- What holds of rasters set on a page.
use Rattle.std.specs.Prelude.{◌≡◌, ℕ, ◌⊎◌, ℤ, pos, ◌+ℤ◌, ◌≤ℤ◌, true, List, ◌∷◌}
use Rattle.packed_rows.specs.Bitmap.{Bitmap, IsShaped, from_fn}
use Rattle.raster_page.specs.Ink.{Inked, Dots, Bar, page_of, with_mark}

-- a raster with its upper left pixel in column `left` of row `top` lies wholly on one side of a
-- page of that size
abbrev pub IsBeside : ℕ → ℕ → Bitmap → ℤ → ℤ → Type 0
IsBeside width height raster left top =
    ((left +ℤ pos raster.width) ≤ℤ pos 0) ⊎ (pos width ≤ℤ left)
    ⊎ ((top +ℤ pos raster.height) ≤ℤ pos 0) ⊎ (pos height ≤ℤ top)

-- a raster of black pixels
abbrev pub black_raster : ℕ → ℕ → Bitmap
black_raster width height =
    record {
      width = width;
      height = height;
      rows = from_fn height (λ y. from_fn width (λ x. true));
    }

-- ---- laws

-- two glyphs may be painted in either order
abbrev pub GlyphsCommute : Type 0
GlyphsCommute = (page first second : Bitmap) (left top left' top' : ℤ)
    → with_mark (with_mark page (Dots first left top)) (Dots second left' top')
    ≡ with_mark (with_mark page (Dots second left' top')) (Dots first left top)

-- a glyph that lies beside the page leaves it as it is
abbrev pub GlyphsBesideLeaveThePage : Type 0
GlyphsBesideLeaveThePage =
    (width height : ℕ) (marks : List Inked) (raster : Bitmap) (left top : ℤ) → IsShaped raster
    → IsBeside width height raster left top
    → page_of width height (Dots raster left top ∷ marks) ≡ page_of width height marks

-- a glyph of black pixels is a rule of its size
abbrev pub BlackGlyphsAreRules : Type 0
BlackGlyphsAreRules = (page : Bitmap) (width height : ℕ) (left top : ℤ)
    → with_mark page (Dots (black_raster width height) left top)
    ≡ with_mark page (Bar left top (pos width) (pos height))
