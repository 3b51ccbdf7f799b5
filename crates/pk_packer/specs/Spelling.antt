-- Run lengths and repeat counts in nybbles: Rokicki, PKtype, "Packed file format".
use Rattle.std.specs.Prelude.{◌≡◌, ℕ, zero, suc, ◌+◌, ◌-◌, ◌*◌, ◌/◌, ◌%◌, Bool, List, [], ◌∷◌, ◌++◌, length, replicate, nat_le, if◌then◌else◌}
use Rattle.std.specs.Int.Digits.{digits_of}
use Rattle.pk_runs.specs.Numbers.{Item, Run, Repeat, nybbles_of}
use Rattle.pk_packer.specs.Written.{with_count, written_runs}

-- the greatest number of one or two nybbles
abbrev pub greatest_short : ℕ → ℕ
greatest_short dyn_f = (13 - dyn_f) * 16 + dyn_f

-- one zero less than there are digits, and then the digits
abbrev pub long_text : ℕ → List ℕ
long_text value = replicate (length (digits_of 16 value) - 1) 0 ++ digits_of 16 value

unfoldable pub number_text : ℕ → ℕ → List ℕ
number_text dyn_f n =
    if nat_le n dyn_f then n ∷ []
    else if nat_le n (greatest_short dyn_f)
    then ((n - dyn_f - 1) / 16 + dyn_f + 1) ∷ ((n - dyn_f - 1) % 16) ∷ []
    else long_text (n + 15 - greatest_short dyn_f)

abbrev pub repeat_text : ℕ → ℕ → List ℕ
repeat_text dyn_f zero = 14 ∷ number_text dyn_f zero
repeat_text dyn_f (suc zero) = 15 ∷ []
repeat_text dyn_f (suc (suc n)) = 14 ∷ number_text dyn_f (suc (suc n))

abbrev pub item_text : ℕ → Item → List ℕ
item_text dyn_f (Run n) = number_text dyn_f n
item_text dyn_f (Repeat n) = repeat_text dyn_f n

-- the nybbles of items, the last one first
abbrev pub items_text : ℕ → List Item → List ℕ
items_text dyn_f [] = []
items_text dyn_f (item ∷ before) = items_text dyn_f before ++ item_text dyn_f item

-- how many nybbles the runs of a raster with these rows take
unfoldable pub text_length : ℕ → List (List Bool) → ℕ
text_length dyn_f rows = length (items_text dyn_f (written_runs rows))

-- the bytes hold these nybbles, and a zero where one is left over
abbrev pub HoldNybbles : List ℕ → List ℕ → Type 0
HoldNybbles bytes nybbles = nybbles_of bytes ≡ nybbles ++ replicate (length nybbles % 2) 0

-- how many nybbles a run takes with the repeat count before it, or 0
unfoldable pub added_length : ℕ → ℕ → ℕ → ℕ
added_length dyn_f count n = length (items_text dyn_f (Run n ∷ with_count count []))
