-- The text of a page: Netpbm's description of the raw form of PBM, "P4", a newline, the width, a
-- space, the height, a newline, and then the rows from the top, each in whole bytes.
use Rattle.std.specs.Prelude.{◌≡◌, ◌<◌, ◌^◌, ℕ, ◌+◌, ◌*◌, List, ◌∷◌, ◌++◌, length, decimal, codes}
use Rattle.std.specs.Int.{div_ceil}
use Rattle.std.specs.List.{All, flat_map}
use Rattle.packed_rows.specs.Bitmap.{Bitmap}
use Rattle.packed_rows.specs.Packing.{row_text}

abbrev pub page_text : Bitmap → List ℕ
page_text page =
    codes "P4" ++ 10 ∷ decimal page.width ++ 32 ∷ decimal page.height
    ++ 10 ∷ flat_map row_text page.rows

-- ---- laws

-- a page's text is five bytes, the two numbers, and for each row as many bytes as its dots take
abbrev pub TextsHaveTheirLength : Type 0
TextsHaveTheirLength =
    (page : Bitmap) → length page.rows ≡ page.height
    → All (λ row. length row ≡ page.width) page.rows
    → length (page_text page) ≡ 5 + length (decimal page.width) + length (decimal page.height)
    + page.height * div_ceil page.width 8

-- the rows of a page are as many and as long as its numbers say, which have 64 bits
pub record IsSized (page : Bitmap) : Type 0 where
  pub narrow : page.width < 2 ^ 64
  pub low : page.height < 2 ^ 64
  pub high : length page.rows ≡ page.height
  pub wide : All (λ row. length row ≡ page.width) page.rows

-- the text determines the page
abbrev pub TextsDetermineThePage : Type 0
TextsDetermineThePage = (a b : Bitmap) → IsSized a → IsSized b → page_text a ≡ page_text b → a ≡ b
