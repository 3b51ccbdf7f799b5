-- What the notes took of what the pages lack that were written whole.
use Rattle.std.specs.Prelude.{◌≡◌, ◌≤◌, ℕ, Bool, true, false, List, [], ◌∷◌, length, Option, Some, None}
use Rattle.std.specs.Io.KnownBytes.{Appends}
use Rattle.outside.specs.Streams.{AppendsPrefix}
use Rattle.page_draw.specs.Values.{DrawnValue}
use Rattle.dvi_run.specs.Lines.{lacks_text}
use Rattle.dvi_run.specs.Outside.{FaultsRose, StreamChange}
use Rattle.dvi_run.specs.declared.tally.Tally.{Tally}

-- ---- one text after another

-- a text was printed to the notes, which took all of it, or failed at it and took a prefix, never
-- all
abbrev pub Took : (all : Bool) → StreamChange → List ℕ → Type 0
Took true notes text = Appends notes.before.bytes notes.after.bytes text
Took false notes text =
    AppendsPrefix notes.before.bytes notes.after.bytes text × FaultsRose notes

-- the same after others, all of which they took; else they failed before, and nothing more is
-- printed
abbrev pub TookAfter : (before all : Bool) → StreamChange → List ℕ → Type 0
TookAfter true all notes text = Took all notes text
TookAfter false all notes text = (all ≡ false) × notes.Kept

-- ---- what pages lack

-- the line of each lack of these pages, the document's first ones, was printed to the notes
pub record NotedLacks (notes : StreamChange) (all : Bool) (pages : List DrawnValue) : Type 0 where
  pub took : Took all notes (lacks_text pages)
  pub count : notes.before.faults ≤ notes.after.faults

-- pages lack nothing, unless that is tolerated
abbrev pub LackNothing : List DrawnValue → Type 0
LackNothing [] = Unit {0}
LackNothing (drawn ∷ pages) = (drawn.lacks ≡ []) × LackNothing pages

abbrev pub AreLacking : (tolerant : Bool) → List DrawnValue → Type 0
AreLacking tolerant pages = tolerant ≡ false → LackNothing pages

-- how many pages were written whole, and whether the notes took what they lack: all of that, where
-- no cache was made
abbrev pub whole_count : Option Tally → ℕ
whole_count None = 0
whole_count (Some t) = t.pages

abbrev pub is_noted : Option Tally → Bool
is_noted None = true
is_noted (Some t) = t.noted

-- The pages that were written whole, as many as the tally counts: what they lack was printed to the
-- notes, and `Are` holds of them.
pub record WrotePages (notes : StreamChange) (tolerant : Bool) (tally : Option Tally)
    (Are : List DrawnValue → Type 0) : Type 0 where
  pub whole : List DrawnValue
  pub count : length whole ≡ whole_count tally
  pub lacking : AreLacking tolerant whole
  pub noted : NotedLacks notes (is_noted tally) whole
  pub are : Are whole
