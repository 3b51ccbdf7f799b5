-- The shortest spelling of a command. Knuth's format leaves the width of a number to the writer; a
-- program that writes takes the least.
use Rattle.std.specs.Prelude.{ℕ, ◌*◌, ◌^◌, ℤ, pos, negsuc, List, length, nat_lt, nat_le, if◌then◌else◌}
use Rattle.dvi_commands.specs.Spelling.{DviCommand, Set, Put, Right, W, X, Down, Y, Z, Font, Special, Define, spelling}

-- the least number of bytes, from 1 to 4, that holds the number of a character, a font or a
-- special; and that of a motion
abbrev pub number_width : ℤ → ℕ
number_width (pos m) =
    if nat_lt m (256 ^ 1) then 1 else if nat_lt m (256 ^ 2) then 2 else if nat_lt m (256 ^ 3) then 3
    else 4
number_width (negsuc m) = 4

-- by the number of which two do not fit: `m` of `pos m` and of `negsuc m`
abbrev pub motion_width_of : ℕ → ℕ
motion_width_of m =
    if nat_lt (2 * m) (256 ^ 1) then 1 else if nat_lt (2 * m) (256 ^ 2) then 2
    else if nat_lt (2 * m) (256 ^ 3) then 3 else 4

abbrev pub motion_width : ℤ → ℕ
motion_width (pos m) = motion_width_of m
motion_width (negsuc m) = motion_width_of m

-- no number at all up to top
abbrev pub small_or_number_width : ℕ → ℤ → ℕ
small_or_number_width top (pos m) = if nat_le m top then 0 else number_width (pos m)
small_or_number_width top (negsuc m) = 4

abbrev pub least_width : DviCommand → ℕ
least_width (Set c) = small_or_number_width 127 c
least_width (Put c) = number_width c
least_width (Right b) = motion_width b
least_width (W b) = motion_width b
least_width (X b) = motion_width b
least_width (Down a) = motion_width a
least_width (Y a) = motion_width a
least_width (Z a) = motion_width a
least_width (Font k) = small_or_number_width 63 k
least_width (Special text) = number_width (pos (length text))
least_width (Define d) = number_width d.number
least_width _ = 0

abbrev pub shortest_spelling : DviCommand → List ℕ
shortest_spelling c = spelling c (least_width c)
