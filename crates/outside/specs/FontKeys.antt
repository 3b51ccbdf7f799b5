-- What holds of every key that a document's definition gives: its sizes are positive fix_words
-- below 2^27, and its area is part of its name.
use Rattle.std.specs.Prelude.{◌<◌, ◌≤◌, length}
use Rattle.outside.specs.declared.keys.FontKey.{FontKey}
use Rattle.outside.specs.Limits.{SIZES}

-- the sizes of a key are more than 0, and its area lies in its name
pub record IsFontKey (k : FontKey) : Type 0 where
  pub size : (1 ≤ k.size) × (k.size < SIZES)
  pub design : (1 ≤ k.design) × (k.design < SIZES)
  pub area : k.area ≤ length k.name
