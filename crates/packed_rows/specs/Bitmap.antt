-- Black and white rasters, as lists of pixels.
use Rattle.std.specs.Prelude.{◌≡◌, ℕ, zero, suc, ◌<◌, Bool, false, List, [], ◌∷◌, ◌++◌, length, slice_index_or}

-- a raster: its rows from the top, each from the left, with true for black
pub record Bitmap : Type 0 where
  pub width : ℕ
  pub height : ℕ
  pub rows : List (List Bool)

-- a raster has as many rows as it is high, each as long as it is wide
pub record IsShaped (raster : Bitmap) : Type 0 where
  pub rows : length raster.rows ≡ raster.height
  pub columns : (y : ℕ) → y < raster.height → length (slice_index_or raster.rows y [])
      ≡ raster.width

-- a pixel of a raster, white outside it
abbrev pub is_black : Bitmap → ℕ → ℕ → Bool
is_black raster x y = slice_index_or (slice_index_or raster.rows y []) x false

-- f 0, f 1, .. of n places
abbrev pub from_fn : {A : Type 0} → ℕ → (ℕ → A) → List A
from_fn zero f = []
from_fn (suc n) f = from_fn n f ++ f n ∷ []
