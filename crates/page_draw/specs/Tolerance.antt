-- Pages on tolerant sheets and on others.
use Rattle.std.specs.Prelude.{◌≡◌, ◌↔◌, ℕ, Bool, true, false, List, [], ◌∷◌, Option, Ok, Err, IsTrue, IsFalse}
use Rattle.outside.specs.Library as library
use Rattle.outside.specs.declared.keys.FontKey.{FontKey}
use Rattle.pixel_round.specs.declared.units.Units.{Units}
use Rattle.page_index.specs.Pages.{Indexed}
use Rattle.font_decode.specs.Decoding.{IsFontOf}
use Rattle.vf_expand.specs.Faults.{PageFaultValue, is_lack}
use Rattle.page_draw.specs.Lacks.{LackValue, is_same}
use Rattle.page_draw.specs.Values.{DrawnValue, PageValue, PlacedFault}
use Rattle.page_draw.specs.Drawn.{IsPageValue}
use Rattle.page_draw.specs.declared.sheet.Sheet.{Sheet}

-- ---- what a lack is

-- each is a missing font, character, glyph or packet
abbrev pub AreMissing : List LackValue → Type 0
AreMissing [] = Unit {0}
AreMissing (l ∷ lacks) = IsTrue (is_lack l.fault) × AreMissing lacks

-- lacks are taken for one exactly where their faults are equal
abbrev pub EqualLacksAreOne : Type 0
EqualLacksAreOne =
    (f g : PageFaultValue) → IsTrue (is_lack f) → IsTrue (is_same f g) ↔ (f ≡ g)

-- ---- pages

-- a page on this sheet, where lacks are tolerated or aren't
abbrev pub IsValueWhere : Bool → Option library.FileTable → Option Units → Indexed → Sheet → ℕ
    → PageValue → List FontKey → Type 0
IsValueWhere tolerant known units indexed sheet i value looks =
    IsPageValue (IsFontOf known units) indexed (record sheet { tolerant = tolerant }) i value looks

-- what a page lacks are missing fonts, characters, glyphs and packets; on a sheet that isn't
-- tolerant it lacks nothing
abbrev pub PagesLackWhatIsMissing : Type 0
PagesLackWhatIsMissing =
    (known : Option library.FileTable) (units : Option Units) (indexed : Indexed) (sheet : Sheet)
    (i : ℕ) (drawn : DrawnValue) (looks : List FontKey)
    → (IsValueWhere true known units indexed sheet i (Ok drawn) looks → AreMissing drawn.lacks)
    × (IsValueWhere false known units indexed sheet i (Ok drawn) looks → drawn.lacks ≡ [])

-- and no such fault ends a page on a tolerant sheet
abbrev pub LacksEndNoTolerantPage : Type 0
LacksEndNoTolerantPage =
    (known : Option library.FileTable) (units : Option Units) (indexed : Indexed) (sheet : Sheet)
    (i : ℕ) (f : PlacedFault) (looks : List FontKey)
    → IsValueWhere true known units indexed sheet i (Err f) looks → IsFalse (is_lack f.fault)

-- a page that is whole and lacks nothing is one page on both, with the same look-ups
abbrev pub WholePagesAgree : Type 0
WholePagesAgree =
    (known : Option library.FileTable) (units : Option Units) (indexed : Indexed) (sheet : Sheet)
    (i : ℕ) (drawn : DrawnValue) (looks : List FontKey) → drawn.lacks ≡ []
    → IsValueWhere false known units indexed sheet i (Ok drawn) looks
    ↔ IsValueWhere true known units indexed sheet i (Ok drawn) looks
