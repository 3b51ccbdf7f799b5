-- The text of a page, from its pieces.
use Rattle.std.proofs.Common.{◌≡◌, ℕ, suc, ◌+◌, ◌*◌, List, [], ◌∷◌, ◌++◌, Bool, length, get_or, ◌<◌, decimal, codes, ap, sym, ◌∙◌, arith, length-append, append_assoc}
use Rattle.std.specs.Int.{div_ceil}
use Rattle.std.specs.List.{flat_map}
use Rattle.packed_rows.specs.Packing.{row_text}
use Rattle.packed_rows.proofs.Lists.{length-from_fn}
use Rattle.pbm_output.specs.Pbm.{TextsHaveTheirLength}

joined : (w h rows : List ℕ) → codes "P4" ++ 10 ∷ w ++ 32 ∷ h ++ 10 ∷ rows ≡ codes "P4\n" ++ w ++ codes " " ++ h ++ codes "\n" ++ rows
joined w h rows = simp append_assoc

-- the text from the pieces that were put
pub text_joined : (w h rows width height bytes : List ℕ) → width ≡ w → height ≡ h → bytes ≡ rows
    → codes "P4" ++ 10 ∷ w ++ 32 ∷ h ++ 10 ∷ rows ≡ codes "P4\n" ++ width ++ codes " " ++ height ++ codes "\n" ++ bytes
text_joined w h rows width height bytes e f k =
    joined w h rows ∙ ap (λ l. codes "P4\n" ++ l ++ codes " " ++ h ++ codes "\n" ++ rows) (sym e)
    ∙ ap (λ l. codes "P4\n" ++ width ++ codes " " ++ l ++ codes "\n" ++ rows) (sym f) ∙ ap (λ l. codes "P4\n" ++ width ++ codes " " ++ height ++ codes "\n" ++ l) (sym k)

-- a row takes as many bytes as its dots
pub row_length : (row : List Bool) (w : ℕ) → length row ≡ w → length (row_text row) ≡ div_ceil w 8
row_length row w e = length-from_fn (div_ceil (length row) 8) _ ∙ ap (λ n. div_ceil n 8) e

rows_length : (w : ℕ) (rows : List (List Bool)) → ((k : ℕ) (d : List Bool) → k < length rows → length (get_or rows k d) ≡ w) → length (flat_map row_text rows) ≡ length rows * div_ceil w 8
rows_length w [] h = omega arith
rows_length w (row ∷ rows) h =
    length-append (row_text row) (flat_map row_text rows)
    ∙ omega (arith, row_length row w (h 0 row (omega arith)), rows_length w rows (λ k d below. h (suc k) d (omega (arith, below))))

pub texts_have_their_length : TextsHaveTheirLength
texts_have_their_length page high wide =
    let rows : length (flat_map row_text page.rows) ≡ length page.rows * div_ceil page.width 8 = rows_length page.width page.rows wide in
    let size : length page.rows * div_ceil page.width 8 ≡ page.height * div_ceil page.width 8 = ap (λ n. n * div_ceil page.width 8) high in
    pieces (decimal page.width) (decimal page.height) (flat_map row_text page.rows) ∙ omega (arith, rows, size)
  where
    pieces : (w h rows : List ℕ) → length (codes "P4" ++ 10 ∷ w ++ 32 ∷ h ++ 10 ∷ rows) ≡ 5 + length w + length h + length rows
    pieces w h rows = omega (arith, length-append (w ++ 32 ∷ h) (10 ∷ rows), length-append w (32 ∷ h))
