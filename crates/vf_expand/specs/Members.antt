-- A page's list: flat commands, look-ups of fonts and lacks, in their order, as far as it was
-- followed.
use Rattle.std.specs.Prelude.{◌≡◌, ℕ, List, [], ◌∷◌, Option}
use Rattle.outside.specs.declared.keys.FontKey.{FontKey}
use Rattle.drift_rules.specs.Position.{FlatCommand}
use Rattle.pk_runs.specs.declared.glyph.Glyph.{Glyph}
use Rattle.font_decode.specs.declared.font_or_fault.Decoded.{Decoded}
use Rattle.vf_expand.specs.Faults.{PageFaultValue}
use Rattle.vf_expand.specs.Course.{Course, Gives, Asks, Lacks}

-- a flat command, that of a character with its glyph; a look-up; or a lack; with the position of
-- the page's command that it comes from
pub data Member : Type 0 where
  Flat : FlatCommand → Option Glyph → ℕ → Member
  LookUp : FontKey → ℕ → Member
  Lack : PageFaultValue → ℕ → Member

-- what is found for a key
abbrev pub Finding : Type 1
Finding = FontKey → Decoded → Type 0

-- the members lead from a course to what is left of it, where each look-up finds a font
abbrev pub Unfolds : Finding → Course → List Member → Course → Type 0
Unfolds Finds from [] to = from ≡ to
Unfolds Finds from (Flat f g at ∷ members) to =
    (rest : Course) × (from ≡ Gives f g at rest) × Unfolds Finds rest members to
Unfolds Finds from (LookUp k at ∷ members) to =
    (rest : Decoded → Course) × (d : Decoded) × (from ≡ Asks k at rest) × Finds k d
    × Unfolds Finds (rest d) members to
Unfolds Finds from (Lack f at ∷ members) to =
    (rest : Course) × (from ≡ Lacks f at rest) × Unfolds Finds rest members to

-- the keys that were looked up
abbrev pub looks_of : List Member → List FontKey
looks_of [] = []
looks_of (Flat f g at ∷ members) = looks_of members
looks_of (LookUp k at ∷ members) = k ∷ looks_of members
looks_of (Lack f at ∷ members) = looks_of members
