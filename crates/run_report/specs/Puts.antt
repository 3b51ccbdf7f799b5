-- A text that is put after others, into pieces that are gathered for writing.
use Rattle.std.specs.Prelude.{ℕ, List, ◌++◌, Option}
use Rattle.outside.specs.Gather.{Gathers}
use Rattle.outside.specs.declared.gather.Gather.{Gather}

-- whatever was put before, this text was put after it
pub record Puts (old new : Gather) (written now : Option (List ℕ)) (before later : ℕ)
    (added : List ℕ) : Type 0 where
  pub puts : (start : Option (List ℕ)) (count : ℕ) (text : List ℕ)
      → Gathers start count old written before text
      → Gathers start count new now later (text ++ added)
