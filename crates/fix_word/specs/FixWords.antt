-- The fix_words of a font: Knuth, TFtoPL, "Font metric data".
use Rattle.std.specs.Prelude.{ℕ, ℤ, pos, negsuc, ◌≤ℤ◌, ◌<ℤ◌}

-- 16, in units of 2^-20
abbrev pub FIX_WORDS : ℕ
FIX_WORDS = 16777216

-- -16
abbrev pub LEAST_FIX_WORD : ℤ
LEAST_FIX_WORD = negsuc 16777215

-- a fix_word from -16 to less than 16, as widths, motions and sides of rules are
abbrev pub IsFixWord : ℤ → Type 0
IsFixWord w = (LEAST_FIX_WORD ≤ℤ w) × (w <ℤ pos FIX_WORDS)
