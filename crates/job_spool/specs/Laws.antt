-- Laws over the arguments of a spool.
use Rattle.std.specs.Prelude.{◌≡◌, ◌≤◌, ◌&&◌, true, List, [], ◌∷◌, length, Some, decimal}
use Rattle.std.specs.List.{flat_map, list_all}
use Rattle.pixel_round.specs.Limits.{MAX_RESOLUTION}
use Rattle.cache_core.specs.Limits.{MAX_CACHED_FONTS}
use Rattle.job_spool.specs.Limits.{MAX_JOBS, MAX_WORKERS}
use Rattle.job_spool.specs.Words.{Names, Text, is_name, pairs_of_words, spool_numbers}
use Rattle.job_spool.specs.declared.numbers.SpoolNumbers.{SpoolNumbers}

-- the numbers lie in their ranges
pub record AreNumbers (n : SpoolNumbers) : Type 0 where
  pub resolution : (1 ≤ n.res) × (n.res ≤ MAX_RESOLUTION)
  pub workers : (1 ≤ n.workers) × (n.workers ≤ MAX_WORKERS)
  pub cache : (1 ≤ n.cache) × (n.cache ≤ MAX_CACHED_FONTS)

-- the files of 1 to 16 documents, none of whose names is empty
pub record ArePairs (pairs : List Names) : Type 0 where
  pub some : 1 ≤ length pairs
  pub few : length pairs ≤ MAX_JOBS
  pub named : list_all (λ p. is_name p.source && is_name p.target) pairs ≡ true

-- the names of pairs, one after another
abbrev pub words_of : List Names → List Text
words_of pairs = flat_map (λ p. p.source ∷ p.target ∷ []) pairs

-- the arguments of a spool are three, and the names of its pairs in their order
pub record IsSpool (arguments : List Text) (pairs : List Names) : Type 0 where
  pub res : Text
  pub workers : Text
  pub cache : Text
  pub are : arguments ≡ res ∷ workers ∷ cache ∷ words_of pairs

abbrev pub PairsAreGiven : Type 0
PairsAreGiven = (arguments : List Text) (n : SpoolNumbers) → spool_numbers arguments ≡ Some n
    → AreNumbers n × ArePairs (pairs_of_words arguments)
    × IsSpool arguments (pairs_of_words arguments)

-- all numbers in their ranges, and all such pairs, can be given
abbrev pub AllPairsCanBeGiven : Type 0
AllPairsCanBeGiven = (n : SpoolNumbers) (pairs : List Names) → AreNumbers n → ArePairs pairs
    → (spool_numbers (decimal n.res ∷ decimal n.workers ∷ decimal n.cache ∷ words_of pairs)
    ≡ Some n)
    × (pairs_of_words (decimal n.res ∷ decimal n.workers ∷ decimal n.cache ∷ words_of pairs)
    ≡ pairs)
