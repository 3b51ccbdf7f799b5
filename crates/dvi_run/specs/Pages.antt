-- The pages of a document drawn: the text that a run writes, and the page that ends it.
use Rattle.std.specs.Prelude.{◌≡◌, ◌≤◌, ℕ, suc, List, [], ◌∷◌, length, Option, Some, None, Ok, Err, IsFalse, IsTrue}
use Rattle.std.specs.Option.{option_map}
use Rattle.std.specs.List.{flat_map}
use Rattle.outside.specs.Library.{FileTable}
use Rattle.outside.specs.declared.keys.FontKey.{FontKey}
use Rattle.packed_rows.specs.Changes.{black_count}
use Rattle.page_index.specs.Document.{IsDocument, Reading, pages_begun}
use Rattle.page_index.specs.Pages.{document_units}
use Rattle.font_decode.specs.Decoding.{IsFontOf}
use Rattle.vf_expand.specs.Faults.{PageFaultValue, is_lack}
use Rattle.page_draw.specs.Members.{Finding}
use Rattle.page_draw.specs.Values.{DrawnValue, PageValue, PlacedFault}
use Rattle.page_draw.specs.Drawn.{IsPageValue}
use Rattle.page_draw.specs.declared.sheet.Sheet.{Sheet}
use Rattle.pbm_output.specs.Pbm.{page_text}
use Rattle.command_line.specs.declared.settings.Settings.{Settings}

-- what a run is given besides its document: all the font files, where they are known, the dots for
-- an inch, and the sheet
pub record Setup : Type 0 where
  pub library : Option FileTable
  pub res : ℕ
  pub sheet : Sheet

abbrev pub setup_with : Option FileTable → Settings → Setup
setup_with library settings =
    record { library = library; res = settings.res; sheet = settings.sheet }

-- ---- the values of the pages

-- what is found for a key, with the units of the document
abbrev pub finding : Setup → Reading → Finding
finding g reading = IsFontOf g.library (document_units g.res reading)

-- the page with a number, from 0, has this value, by some look-ups. Where the font files are known
-- it has no other
abbrev pub IsValueOf : Setup → Reading → ℕ → PageValue → Type 0
IsValueOf g reading i value =
    (looks : List FontKey) × IsPageValue (finding g reading)
    (record { res = g.res; reading = reading }) g.sheet i value looks

-- the pages from a number on have these values, as far as the list goes
abbrev pub HaveValues : Setup → Reading → ℕ → List PageValue → Type 0
HaveValues g reading i [] = Unit {0}
HaveValues g reading i (value ∷ values) =
    IsValueOf g reading i value × HaveValues g reading (suc i) values

-- these are the values of the document's first pages, in the order of the file
pub record AreValues (g : Setup) (reading : Reading) (values : List PageValue) : Type 0 where
  pub few : length values ≤ pages_begun reading
  pub are : HaveValues g reading 0 values

-- the bytes are a document, and its first pages have these values
pub record IsRun (g : Setup) (bytes : List ℕ) (reading : Reading)
    (values : List PageValue) : Type 0 where
  pub document : IsDocument g.res bytes reading
  pub pages : AreValues g reading values

-- and there are no further pages
pub record IsWholeRun (g : Setup) (bytes : List ℕ) (reading : Reading)
    (values : List PageValue) : Type 0 where
  pub run : IsRun g bytes reading values
  pub all : length values ≡ pages_begun reading

-- ---- the run's value

-- the pages before the first that has no bitmap
abbrev pub whole_pages : List PageValue → List DrawnValue
whole_pages [] = []
whole_pages (Ok page ∷ values) = page ∷ whole_pages values
whole_pages (Err f ∷ values) = []

abbrev pub first_fault : List PageValue → Option PlacedFault
first_fault [] = None
first_fault (Ok page ∷ values) = first_fault values
first_fault (Err f ∷ values) = Some f

-- a page without a bitmap, counted from 1, with its fault and the place
pub record FailingPage : Type 0 where
  pub page : ℕ
  pub fault : PageFaultValue
  pub at : ℕ

abbrev pub failing_page : ℕ → PlacedFault → FailingPage
failing_page n f = record { page = n; fault = f.fault; at = f.at }

-- on a tolerant sheet the fault is no missing font, character, glyph or packet, which it goes past
abbrev pub IsUntolerated : Setup → FailingPage → Type 0
IsUntolerated g page = IsTrue g.sheet.tolerant → IsFalse (is_lack page.fault)

-- a page's bitmap as a text, and how many of its pixels are black
abbrev pub text_of : DrawnValue → List ℕ
text_of drawn = page_text drawn.page

abbrev pub black_in : DrawnValue → ℕ
black_in drawn = black_count drawn.page

-- the texts of the pages before the first that has no bitmap, one after another
abbrev pub run_text : List PageValue → List ℕ
run_text values = flat_map text_of (whole_pages values)

-- and that page, if there is one
abbrev pub run_fault : List PageValue → Option FailingPage
run_fault values =
    option_map (failing_page (suc (length (whole_pages values)))) (first_fault values)
