-- The pages of a document.
use Rattle.std.specs.Prelude.{◌≡◌, ℕ, suc, Bool, true, false, not, ◌&&◌, ◌==◌, List, [], ◌∷◌, ◌++◌, take, reverse, if◌then◌else◌, Option, Some, None}
use Rattle.std.specs.Option.{option_map}
use Rattle.pixel_round.specs.Pixels.{AreEqual, Fraction, conversion}
use Rattle.pixel_round.specs.declared.units.Units.{Units}
use Rattle.dvi_commands.specs.Spelling.{DviCommand}
use Rattle.dvi_commands.specs.Reading.{Placed, placed_from}
use Rattle.dvi_commands.specs.declared.command.Context.{Context}
use Rattle.dvi_commands.specs.declared.command.Context.TheVariants as context
use Rattle.page_index.specs.Document.{Reading, context_after, is_eop, pages_begun, preamble_of, units_of}

abbrev pub is_page : Context → Bool
is_page context.Page = true
is_page _ = false

-- a command stands on the page with a number, from 0, between its Bop and its Eop
abbrev pub is_on_page : ℕ → Reading → DviCommand → Bool
is_on_page i before c =
    is_page (context_after before) && not (is_eop c) && pages_begun before == suc i

-- the commands of the page, in file order
abbrev pub page_commands : ℕ → Reading → List Placed
page_commands i [] = []
page_commands i (p ∷ before) =
    if is_on_page i before p.command then page_commands i before ++ p ∷ []
    else page_commands i before

-- where the page's Eop stands
abbrev pub eop_at : ℕ → Reading → Option ℕ
eop_at i [] = None
eop_at i (p ∷ before) =
    if is_eop p.command && pages_begun before == suc i then Some p.at else eop_at i before

-- the units of a document at a resolution
abbrev pub document_units : ℕ → Reading → Option Units
document_units res reading = option_map (units_of res) (preamble_of reading)

-- a fraction has the value of the conversion to dots that these units make
abbrev pub IsConversionOf : Option Units → Fraction → Type 0
IsConversionOf units c = (u : Units) × (units ≡ Some u) × AreEqual c (conversion u)

-- the reading of bytes whose commands end at a position
abbrev pub reading_to : List ℕ → ℕ → Reading
reading_to bytes end = reverse (placed_from 0 (take end bytes))

-- what an index is seen as: the resolution that it was made for, and the one reading of the
-- document
pub record Indexed : Type 0 where
  pub res : ℕ
  pub reading : Reading
