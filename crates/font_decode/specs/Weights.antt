-- What a decoding weighs in the font cache, and in a library a key.
use Rattle.std.specs.Prelude.{◌≡◌, ℕ, Option, Some}
use Rattle.outside.specs.Library as library
use Rattle.outside.specs.declared.keys.FontKey.{FontKey}
use Rattle.pixel_round.specs.declared.units.Units.{Units}
use Rattle.font_decode.specs.FontWeights.{font_weight}
use Rattle.font_decode.specs.Decoding.{AreAlike, IsFontOf}
use Rattle.font_decode.specs.Laws.{AreByteFiles}
use Rattle.font_decode.specs.declared.font_or_fault.Decoded.{Decoded}
use Rattle.font_decode.specs.declared.font_or_fault.Decoded.TheVariants.{Font, Bare, Fault}

-- a bare font and a fault weigh nothing
abbrev pub weight_of : Decoded → ℕ
weight_of (Font f) = font_weight f
weight_of (Bare f) = 0
weight_of (Fault f) = 0

-- the weight of the key's font where the library is known, and else of some font that may be the
-- key's
abbrev pub IsWeightOf : Option library.FileTable → Option Units → FontKey → ℕ → Type 0
IsWeightOf known units k w = (d : Decoded) × IsFontOf known units k d × (w ≡ weight_of d)

-- ---- laws

-- decodings that can't be told apart weigh the same
abbrev pub AlikeWeighTheSame : Type 0
AlikeWeighTheSame = (d e : Decoded) → AreAlike d e → weight_of d ≡ weight_of e

-- so a key has one weight in a library
abbrev pub OneWeightInALibrary : Type 0
OneWeightInALibrary =
    (l : library.FileTable) (u : Units) (k : FontKey) (v w : ℕ) → IsWeightOf (Some l) (Some u) k v
    → IsWeightOf (Some l) (Some u) k w → v ≡ w

-- and in each library there is a weight for each key
abbrev pub EachKeyHasAWeight : Type 0
EachKeyHasAWeight =
    (l : library.FileTable) (u : Units) → AreByteFiles l
    → (weight : FontKey → ℕ) × ((k : FontKey) → IsWeightOf (Some l) (Some u) k (weight k))
