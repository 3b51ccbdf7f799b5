-- Rows that are joined before they are put.
use Rattle.std.specs.Prelude.{◌≡◌, ◌++◌, ℕ, List, Option}
use Rattle.outside.specs.Gather.{Gathers}
use Rattle.outside.specs.declared.gather.Gather.{Gather}

-- since the start the text was put, except for its end, which is still held in a piece
pub record IsPut (start : Option (List ℕ)) (before : ℕ) (g : Gather)
    (written : Option (List ℕ)) (now : ℕ) (piece text : List ℕ) : Type 0 where
  pub done : List ℕ
  pub gathers : Gathers start before g written now done
  pub text_is : text ≡ done ++ piece
