-- The arguments of a spool: three numbers, and then the names of files, two for each document.
use Rattle.std.specs.Prelude.{ℕ, ◌*◌, ◌%◌, ◌==◌, ◌&&◌, Bool, not, nat_le, if◌then◌else◌}
use Rattle.std.specs.Prelude.{List, [], ◌∷◌, length, Option, Some, None, string_bytes}
use Rattle.std.specs.List.{list_all}
use Rattle.std.specs.Char.{is_ascii_digit}
use Rattle.std.specs.Str.Parse.{digits_value}
use Rattle.pixel_round.specs.Limits.{MAX_RESOLUTION}
use Rattle.cache_core.specs.Limits.{MAX_CACHED_FONTS}
use Rattle.job_spool.specs.Limits.{MAX_JOBS, MAX_WORKERS}
use Rattle.job_spool.specs.declared.numbers.SpoolNumbers.{SpoolNumbers}
use Rattle.job_spool.specs.declared.words.Pair.{Pair}

abbrev pub Text : Type 0
Text = List ℕ

-- ---- numbers

-- one to seven decimal digits
abbrev pub is_number : Text → Bool
is_number text = nat_le 1 (length text) && nat_le (length text) 7 && list_all is_ascii_digit text

-- the number that a text spells so
abbrev pub number_text : Text → Option ℕ
number_text text = if is_number text then Some (digits_value 10 text) else None

-- where it is from 1 to the greatest
abbrev pub up_to : (greatest : ℕ) → Option ℕ → Option ℕ
up_to greatest None = None
up_to greatest (Some n) = if nat_le 1 n && nat_le n greatest then Some n else None

abbrev pub number_in : (greatest : ℕ) → Text → Option ℕ
number_in greatest text = up_to greatest (number_text text)

abbrev pub numbers_with : (res workers cache : Option ℕ) → Option SpoolNumbers
numbers_with (Some res) (Some workers) (Some cache) =
    Some (record { res = res; workers = workers; cache = cache })
numbers_with _ _ _ = None

abbrev pub numbers_of : (res workers cache : Text) → Option SpoolNumbers
numbers_of res workers cache =
    numbers_with (number_in MAX_RESOLUTION res) (number_in MAX_WORKERS workers)
    (number_in MAX_CACHED_FONTS cache)

-- ---- names

-- a name isn't empty
abbrev pub is_name : Text → Bool
is_name text = not (length text == 0)

-- there are so many names in 1 to 16 pairs
abbrev pub is_count_of_names : ℕ → Bool
is_count_of_names count = nat_le 2 count && nat_le count (2 * MAX_JOBS) && count % 2 == 0

-- the names of 1 to 16 pairs of files
abbrev pub are_names : List Text → Bool
are_names names = is_count_of_names (length names) && list_all is_name names

-- the names of a document's two files
pub record Names : Type 0 where
  pub source : Text
  pub target : Text

abbrev pub names_of : Pair → Names
names_of pair = record { source = string_bytes pair.source; target = string_bytes pair.target }

-- names two by two
abbrev pub pairs_of : List Text → List Names
pairs_of [] = []
pairs_of (source ∷ []) = []
pairs_of (source ∷ target ∷ names) = record { source = source; target = target } ∷ pairs_of names

-- ---- all arguments

-- the numbers, where the arguments are those of a spool
abbrev pub spool_numbers : List Text → Option SpoolNumbers
spool_numbers (res ∷ workers ∷ cache ∷ names) =
    if are_names names then numbers_of res workers cache else None
spool_numbers _ = None

-- the pairs of names, where they are
abbrev pub pairs_of_words : List Text → List Names
pairs_of_words (res ∷ workers ∷ cache ∷ names) = pairs_of names
pairs_of_words _ = []
