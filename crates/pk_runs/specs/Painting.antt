-- The steps of painting runs, and what is painted after some of them.
use Rattle.std.specs.Prelude.{◌≡◌, ℕ, ◌+◌, ◌*◌, ◌<◌, ◌≤◌, Bool, false, List, [], ◌∷◌, ◌++◌, length, drop, slice_index_or, if◌then◌else◌}
use Rattle.packed_rows.specs.Bitmap.{IsShaped, is_black}
use Rattle.packed_rows.specs.Changes.{with_black, with_copies}
use Rattle.pk_runs.specs.Raster.{rows_with_copies, count_with_copies}
use Rattle.pk_runs.specs.declared.painter.Painter.{Painter}

-- n pixels more of the next row
abbrev pub painted : Painter → ℕ → Painter
painted p n = record p {
  bits = if p.black then with_black p.bits p.column (p.column + n) p.row (p.row + 1) else p.bits;
  column = p.column + n;
}

-- a row whose pixels are all painted, with its copies
abbrev pub row_ended : Painter → Painter
row_ended p = record p {
  bits = with_copies p.bits p.row p.copies;
  row = p.row + (1 + p.copies);
  column = 0;
  copies = 0;
  repeated = false;
}

-- where the raster is not complete, the next row and its copies have a place in it
pub record IsReady (p : Painter) : Type 0 where
  pub low : p.row ≤ p.bits.height
  pub fit : p.row < p.bits.height → p.row + 1 + p.copies ≤ p.bits.height

-- a pixel of the first n rows of the pixels with their copies, and of what is there of the row
-- below them; white elsewhere
abbrev pub shown : ℕ → List Bool → (ℕ → ℕ) → ℕ → ℕ → ℕ → Bool
shown w ps copies_of n x y =
    slice_index_or (slice_index_or (rows_with_copies w ps copies_of n ++ drop (n * w) ps ∷ []) y [])
    x false

-- the pixels of some runs are painted on a raster of that size, with the copies of the rows that
-- have a repeat count
pub record IsDrawn (ps : List Bool) (copies_of : ℕ → ℕ) (is_repeated : ℕ → Bool) (w h : ℕ)
    (p : Painter) : Type 0 where
  pub whole : ℕ
  pub wide : p.bits.width ≡ w
  pub high : p.bits.height ≡ h
  pub len : length ps ≡ whole * w + p.column
  pub shaped : IsShaped p.bits
  pub inside : p.column < w
  pub row : p.row ≡ count_with_copies copies_of whole
  pub copies : p.copies ≡ copies_of whole
  pub repeated : p.repeated ≡ is_repeated whole
  pub none_after : (r : ℕ) → whole < r → (copies_of r ≡ 0) × (is_repeated r ≡ false)
  pub dots : (x y : ℕ) → x < w → y < h → is_black p.bits x y ≡ shown w ps copies_of whole x y
