-- What the worked page names.
use Rattle.std.specs.Prelude.{true, false, [], ◌∷◌}
use Rattle.packed_rows.specs.Bitmap.{Bitmap}

-- ten dots to a row and two rows, with the last two dots of the first row black
abbrev pub small_page : Bitmap
small_page = record {
  width = 10;
  height = 2;
  rows =
      (false ∷ false ∷ false ∷ false ∷ false ∷ false ∷ false ∷ false ∷ true ∷ true ∷ [])
      ∷ (false ∷ false ∷ false ∷ false ∷ false ∷ false ∷ false ∷ false ∷ false ∷ false ∷ []) ∷ [];
}
