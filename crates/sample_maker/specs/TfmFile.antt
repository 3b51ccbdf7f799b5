-- The TFM file of given widths, pairs of a code and a fix_word: Knuth, TFtoPL, "Font metric data".
use Rattle.std.specs.Prelude.{ℕ, ◌+◌, ◌-◌, ℤ, pos, negsuc, Bool, true, ◌&&◌, List, [], ◌∷◌, ◌++◌, length, nat_lt, ◌==◌, if◌then◌else◌, get_or, Option, Some, None}
use Rattle.std.specs.List.{flat_map, range_with_len}
use Rattle.big_endian.specs.Numbers.{number_bytes}

-- a count of two bytes, and a word of four
abbrev pub two : ℕ → List ℕ
two n = number_bytes 2 (pos n)

abbrev pub word : ℤ → List ℕ
word z = number_bytes 4 z

-- ---- the pairs

abbrev pub code_at : List (ℕ × ℤ) → ℕ → ℕ
code_at pairs i = (get_or pairs i (0, pos 0)).0

-- each code is above the one before it
abbrev pub are_rising : List (ℕ × ℤ) → Bool
are_rising [] = true
are_rising (p ∷ []) = true
are_rising (p ∷ q ∷ pairs) = nat_lt p.0 q.0 && are_rising (q ∷ pairs)

-- the least and the greatest code of rising pairs, and how many codes lie from the one to the other
abbrev pub first_code : List (ℕ × ℤ) → ℕ
first_code pairs = code_at pairs 0

abbrev pub last_code : List (ℕ × ℤ) → ℕ
last_code pairs = code_at pairs (length pairs - 1)

abbrev pub codes_of : List (ℕ × ℤ) → ℕ
codes_of pairs = last_code pairs + 1 - first_code pairs

-- the place of the pair with a code, where the first of these pairs has the place i; 0 where no
-- pair has it
abbrev pub place_from : ℕ → List (ℕ × ℤ) → ℕ → ℕ
place_from i [] c = 0
place_from i (p ∷ pairs) c = if p.0 == c then i else place_from (i + 1) pairs c

-- the width of a code, where a pair has it
abbrev pub width_in : List (ℕ × ℤ) → ℕ → Option ℤ
width_in [] c = None
width_in (p ∷ pairs) c = if p.0 == c then Some p.1 else width_in pairs c

abbrev pub width_given : List (ℕ × ℤ) → ℤ → Option ℤ
width_given pairs (pos c) = width_in pairs c
width_given pairs (negsuc c) = None

-- ---- the file

-- lf, lh, bc, ec, nw, nh, nd, ni, nl, nk, ne, np: two words of header, a width more than pairs, one
-- height, depth and italic correction
abbrev pub tfm_counts : List (ℕ × ℤ) → List ℕ
tfm_counts pairs =
    (6 + 2 + codes_of pairs + (length pairs + 1) + 3) ∷ 2 ∷ first_code pairs ∷ last_code pairs
    ∷ (length pairs + 1) ∷ 1 ∷ 1 ∷ 1 ∷ 0 ∷ 0 ∷ 0 ∷ 0 ∷ []

-- the checksum 0, and a design size of ten points
abbrev pub header : List ℕ
header = 0 ∷ 0 ∷ 0 ∷ 0 ∷ 0 ∷ 160 ∷ 0 ∷ 0 ∷ []

-- the word of char_info of a code: the place of its pair, counted from 1, is its width index
abbrev pub index_word : List (ℕ × ℤ) → ℕ → List ℕ
index_word pairs c = place_from 1 pairs c ∷ 0 ∷ 0 ∷ 0 ∷ []

-- the counts, the header, char_info, the width 0 and the widths given, and the height, the depth
-- and the italic correction 0
unfoldable pub tfm_file : List (ℕ × ℤ) → List ℕ
tfm_file pairs =
    flat_map two (tfm_counts pairs)
    ++ header
    ++ flat_map (index_word pairs) (range_with_len (first_code pairs) (codes_of pairs))
    ++ word (pos 0)
    ++ flat_map (λ pair. word pair.1) pairs
    ++ (word (pos 0) ++ word (pos 0) ++ word (pos 0))
