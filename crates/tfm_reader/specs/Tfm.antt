-- The widths of a TFM file: Knuth, TFtoPL, "Font metric data", and DVItype, "Reading the font
-- information".
use Rattle.std.specs.Prelude.{◌≡◌, ◌<◌, ℕ, zero, suc, ◌+◌, ◌-◌, ◌*◌, ℤ, pos, negsuc, Bool, false, not, ◌&&◌, List, [], ◌∷◌, length, nat_lt, nat_le, ◌==◌, if◌then◌else◌, slice_get, slice_index, take, Option, Some, None, unwrap_or}
use Rattle.std.specs.Option.{option_map}
use Rattle.big_endian.specs.Fields.{unsigned_at, signed_at}
use Rattle.tfm_reader.specs.declared.faults.TfmFault.{TfmFault}
use Rattle.tfm_reader.specs.declared.faults.TfmFault.TheVariants.{Short, Counts, WidthIndex, WidthByte, WidthZero}

-- the twelve counts, two bytes each, by their places
abbrev pub count : List ℕ → ℕ → ℕ
count bytes k = unsigned_at bytes (2 * k) 2

-- the length of the file in words of four bytes, and that of the header
abbrev pub lf : List ℕ → ℕ
lf bytes = count bytes 0

abbrev pub lh : List ℕ → ℕ
lh bytes = count bytes 1

-- the least and the greatest code
abbrev pub bc : List ℕ → ℕ
bc bytes = count bytes 2

abbrev pub ec : List ℕ → ℕ
ec bytes = count bytes 3

-- the number of widths
abbrev pub nw : List ℕ → ℕ
nw bytes = count bytes 4

-- the words of the seven tables after the widths, which are passed over
abbrev pub others : List ℕ → ℕ
others bytes =
    count bytes 5 + count bytes 6 + count bytes 7 + count bytes 8 + count bytes 9 + count bytes 10
    + count bytes 11

-- the codes rise to 255 at most, there is a width, and the words add up: the counts themselves, the
-- header, char_info, the tables
abbrev pub are_right : ℕ → ℕ → ℕ → ℕ → ℕ → ℕ → Bool
are_right words header first last widths others =
    nat_le first (last + 1) && nat_le last 255 && not (widths == 0)
    && words == 6 + header + (last + 1 - first) + widths + others

-- how many words of char_info there are, one a code
abbrev pub codes_of : List ℕ → ℕ
codes_of bytes = ec bytes + 1 - bc bytes

-- the width index of the code bc + i, and the place of the i-th width
abbrev pub width_index : List ℕ → ℕ → ℕ
width_index bytes i = slice_index bytes (4 * (6 + lh bytes + i))

abbrev pub width_at : List ℕ → ℕ → ℕ
width_at bytes i = 4 * (6 + lh bytes + codes_of bytes + i)

abbrev pub width_word : List ℕ → ℕ → ℤ
width_word bytes i = signed_at bytes (width_at bytes i) 4

-- ---- faults

-- the first byte of a fix_word is 0 or 255, so that it lies between -16 and 16
abbrev pub is_width_byte_wrong : List ℕ → ℕ → Bool
is_width_byte_wrong bytes i =
    not (slice_index bytes (width_at bytes i) == 0)
    && not (slice_index bytes (width_at bytes i) == 255)

abbrev pub is_index_wrong : List ℕ → ℕ → Bool
is_index_wrong bytes i = nat_le (nw bytes) (width_index bytes i)

abbrev pub is_zero : ℤ → Bool
is_zero (pos n) = n == 0
is_zero (negsuc n) = false

-- the least of n numbers from k on that passes a test
abbrev pub least_from : (ℕ → Bool) → ℕ → ℕ → Option ℕ
least_from test k zero = None
least_from test k (suc n) = if test k then Some k else least_from test (k + 1) n

abbrev pub fault_if : Bool → TfmFault → Option TfmFault
fault_if b f = if b then Some f else None

-- the first row of a table that has a fault
abbrev pub first_some : List (Option TfmFault) → Option TfmFault
first_some [] = None
first_some (None ∷ rows) = first_some rows
first_some (Some f ∷ rows) = Some f

-- what the counts give
abbrev pub counts_fault : List ℕ → Option TfmFault
counts_fault bytes = first_some (
    fault_if (nat_lt (length bytes) 24) Short
    ∷ fault_if (not (are_right (lf bytes) (lh bytes) (bc bytes) (ec bytes) (nw bytes)
    (others bytes))) Counts
    ∷ fault_if (nat_lt (length bytes) (4 * lf bytes)) Short ∷ [])

abbrev pub index_fault : List ℕ → Option TfmFault
index_fault bytes =
    option_map (λ i. WidthIndex (bc bytes + i)) (least_from (is_index_wrong bytes) 0
    (codes_of bytes))

abbrev pub byte_fault : List ℕ → Option TfmFault
byte_fault bytes = option_map WidthByte (least_from (is_width_byte_wrong bytes) 1 (nw bytes - 1))

-- what the tables give, where the counts are right
abbrev pub tables_fault : List ℕ → Option TfmFault
tables_fault bytes = first_some (
    index_fault bytes
    ∷ fault_if (is_width_byte_wrong bytes 0) (WidthByte 0)
    ∷ fault_if (not (is_zero (width_word bytes 0))) WidthZero
    ∷ byte_fault bytes ∷ [])

-- the first fault of a file
abbrev pub tfm_fault : List ℕ → Option TfmFault
tfm_fault bytes = first_some (counts_fault bytes ∷ tables_fault bytes ∷ [])

-- ---- widths

-- the width with an index, a fix_word; the index 0 says that there is no such character
abbrev pub indexed_width : List ℕ → ℕ → Option ℤ
indexed_width bytes zero = None
indexed_width bytes (suc i) = Some (width_word bytes (suc i))

-- the width of a code
abbrev pub tfm_width : List ℕ → ℤ → Option ℤ
tfm_width bytes (negsuc c) = None
tfm_width bytes (pos c) =
    if nat_le (bc bytes) c && nat_lt (c - bc bytes) (codes_of bytes)
    then indexed_width bytes (width_index bytes (c - bc bytes)) else None

-- the width of a code by a table of the codes from 0 on
abbrev pub width_of : List (Option ℤ) → ℤ → Option ℤ
width_of widths (negsuc c) = None
width_of widths (pos c) = unwrap_or (slice_get widths c) None

-- ---- laws

-- a file that is read is too short at each cut before the words that its counts give
abbrev pub CutFilesAreShort : Type 0
CutFilesAreShort =
    (bytes : List ℕ) (n : ℕ) → tfm_fault bytes ≡ None → n < 4 * lf bytes
    → tfm_fault (take n bytes) ≡ Some Short
