-- What is true of the values of pages.
use Rattle.std.specs.Prelude.{◌≡◌, ℕ, List, [], ◌∷◌, ◌++◌, Option, Some, Ok}
use Rattle.outside.specs.Library as library
use Rattle.outside.specs.declared.keys.FontKey.{FontKey}
use Rattle.pixel_round.specs.Pixels.{Fraction}
use Rattle.pixel_round.specs.declared.units.Units.{Units}
use Rattle.drift_rules.specs.Position.{Enter, Leave, State, on_entry}
use Rattle.drift_rules.specs.Stack.{IsBalanced}
use Rattle.page_index.specs.Pages.{Indexed, document_units}
use Rattle.pk_runs.specs.declared.glyph.Glyph.{Glyph}
use Rattle.font_decode.specs.Decoding.{IsFontIn}
use Rattle.font_decode.specs.Laws.{AreByteFiles}
use Rattle.font_decode.specs.Desks.{GrewBy}
pub use Rattle.vf_expand.specs.Packets.{flats_of}
use Rattle.vf_expand.specs.Packets.{IsPacketGiven}
use Rattle.vf_expand.specs.PageLists.{Fonts}
use Rattle.page_draw.specs.Members.{Finding, Flat, Member, last_state, marks_from}
use Rattle.page_draw.specs.Values.{PageValue}
use Rattle.page_draw.specs.Drawn.{IsBroken, IsPageValue}
use Rattle.page_draw.specs.declared.sheet.Sheet.{Sheet}

-- over a library a page has no two values, and its keys are looked up in one order
abbrev pub PagesHaveOneValue : Type 0
PagesHaveOneValue =
    (l : library.FileTable) (u : Units) (indexed : Indexed) (sheet : Sheet) (i : ℕ)
    (v w : PageValue)
    (looks others : List FontKey)
    → IsPageValue (IsFontIn l u) indexed sheet i v looks
    → IsPageValue (IsFontIn l u) indexed sheet i w others → (v ≡ w) × (looks ≡ others)

-- a page has a value and no other, and its keys are looked up in one order
pub record HasOneValue (Finds : Finding) (indexed : Indexed) (sheet : Sheet) (i : ℕ) : Type 0 where
  pub value : PageValue
  pub looks : List FontKey
  pub has : IsPageValue Finds indexed sheet i value looks
  pub only : (other : PageValue) (others : List FontKey)
      → IsPageValue Finds indexed sheet i other others → (other ≡ value) × (others ≡ looks)

-- each page of a document has exactly one value over a library of byte files
abbrev pub EachPageHasOneValue : Type 0
EachPageHasOneValue =
    (l : library.FileTable) (u : Units) (indexed : Indexed) (sheet : Sheet) (i : ℕ) → AreByteFiles l
    → document_units indexed.res indexed.reading ≡ Some u
    → HasOneValue (IsFontIn l u) indexed sheet i

-- the keys asked for of a page that was broken off are the first of the page's look-ups
abbrev pub BrokenPagesBegin : Type 0
BrokenPagesBegin =
    (l : library.FileTable) (u : Units) (indexed : Indexed) (sheet : Sheet) (i : ℕ)
    (value : PageValue)
    (looks : List FontKey) (old new : Option (List FontKey))
    → IsPageValue (IsFontIn l u) indexed sheet i value looks
    → IsBroken (IsFontIn l u) indexed sheet i old new
    → (asked : List FontKey) × (later : List FontKey) × (looks ≡ asked ++ later)
    × GrewBy old new asked

-- ---- packets

-- what balanced members set in a packet's place stands as on a page that begins at the packet's
-- character, with w, x, y and z 0; what comes after them is set as if they weren't there
abbrev pub PacketsAreSetInPlace : Type 0
PacketsAreSetInPlace =
    (c : Fraction) (sheet : Sheet) (s t : State) (g h : Option Glyph) (at end : ℕ)
    → (packet rest : List Member) → IsBalanced (flats_of packet)
    → last_state c s (Flat Enter g at ∷ packet ++ Flat Leave h end ∷ []) ≡ Ok t
    → marks_from c sheet s (Flat Enter g at ∷ packet ++ Flat Leave h end ∷ rest)
    ≡ marks_from c sheet (record { now = on_entry s.now; saved = s.now ∷ s.saved }) packet
    ++ marks_from c sheet s rest

-- so is whatever a packet of a font gives
abbrev pub FontsPacketsAreSetInPlace : Type 0
FontsPacketsAreSetInPlace =
    (c : Fraction) (sheet : Sheet) (s t : State) (g h : Option Glyph) (at end : ℕ) (fonts : Fonts)
    (packet rest : List Member)
    → IsPacketGiven fonts packet
    → last_state c s (Flat Enter g at ∷ packet ++ Flat Leave h end ∷ []) ≡ Ok t
    → marks_from c sheet s (Flat Enter g at ∷ packet ++ Flat Leave h end ∷ rest)
    ≡ marks_from c sheet (record { now = on_entry s.now; saved = s.now ∷ s.saved }) packet
    ++ marks_from c sheet s rest
