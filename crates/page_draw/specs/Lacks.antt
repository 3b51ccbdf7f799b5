-- What a page lacks, equal lacks once.
use Rattle.std.specs.Prelude.{◌≡◌, ◌==◌, ◌&&◌, ℕ, ℤ, pos, Bool, false, List, [], ◌∷◌, ◌++◌, Option, Some, None, if◌then◌else◌, map, not}
use Rattle.std.specs.Arc.{arc_value}
use Rattle.std.specs.List.{filter, list_any}
use Rattle.std.specs.Ordering.{int_eq}
use Rattle.outside.specs.declared.keys.FontKey.{FontKey}
use Rattle.font_decode.specs.declared.faults.FileKind.TheVariants.{Tfm, Pk}
use Rattle.font_decode.specs.declared.faults.FontFault.TheVariants as file
use Rattle.cache_core.specs.Machine.{key_eq}
use Rattle.vf_expand.specs.Faults.{PageFaultValue, NoCharacter, NoGlyph, NoPacket, Font, value_of_fault}
use Rattle.vf_expand.specs.declared.lack.Lack as code
use Rattle.page_draw.specs.Members.{Member, Flat, LookUp, Lack}
use Rattle.page_draw.specs.declared.lacks.Missing as found

-- a missing font, character, glyph or packet, with the position of the page's command
pub record LackValue : Type 0 where
  pub fault : PageFaultValue
  pub at : ℕ

abbrev pub value_of_lack : code.Lack → LackValue
value_of_lack lack = record { fault = value_of_fault lack.fault; at = lack.at }

abbrev pub lacks_of : List Member → List LackValue
lacks_of [] = []
lacks_of (Flat f g at ∷ members) = lacks_of members
lacks_of (LookUp k at ∷ members) = lacks_of members
lacks_of (Lack f at ∷ members) = record { fault = f; at = at } ∷ lacks_of members

-- ---- equal faults

-- what is missing: a kind, a code, or 0, and the font's key
pub record MissingValue : Type 0 where
  pub kind : ℕ
  pub code : ℤ
  pub font : FontKey

abbrev pub missing_of : PageFaultValue → Option MissingValue
missing_of (NoCharacter key c) = Some (record { kind = 0; code = c; font = key })
missing_of (NoGlyph key c) = Some (record { kind = 1; code = c; font = key })
missing_of (NoPacket key c) = Some (record { kind = 2; code = c; font = key })
missing_of (Font key (file.Missing Tfm)) = Some (record { kind = 3; code = pos 0; font = key })
missing_of (Font key (file.Missing Pk)) = Some (record { kind = 4; code = pos 0; font = key })
missing_of _ = None

abbrev pub is_same_missing : Option MissingValue → Option MissingValue → Bool
is_same_missing (Some m) (Some n) =
    m.kind == n.kind && (int_eq m.code n.code && key_eq m.font n.font)
is_same_missing _ _ = false

-- whether two lacks have one fault
abbrev pub is_same : PageFaultValue → PageFaultValue → Bool
is_same f g = is_same_missing (missing_of f) (missing_of g)

-- the lacks, later ones of an equal fault left out
abbrev pub each_once : List LackValue → List LackValue
each_once [] = []
each_once (lack ∷ lacks) =
    lack ∷ filter (λ l. not (is_same lack.fault l.fault)) (each_once lacks)

-- ---- the lacks so far

abbrev pub is_known : List LackValue → PageFaultValue → Bool
is_known lacks f = list_any (λ l. is_same l.fault f) lacks

-- with one more
abbrev pub with_lack : List LackValue → LackValue → List LackValue
with_lack lacks lack = if is_known lacks lack.fault then lacks else lacks ++ lack ∷ []

abbrev pub values_of : List code.Lack → List LackValue
values_of lacks = map value_of_lack lacks

abbrev pub value_of_missing : found.Missing → MissingValue
value_of_missing m = record { kind = m.kind; code = m.code; font = arc_value m.font }

-- a fault is that of what is missing
abbrev pub Names : found.Missing → PageFaultValue → Type 0
Names m f = missing_of f ≡ Some (value_of_missing m)
