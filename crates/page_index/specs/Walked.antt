-- What is kept of a reading while the commands after it are read.
use Rattle.std.specs.Prelude.{◌≡◌, ℕ, suc, ◌+◌, ◌≤◌, ℤ, pos, negsuc, Bool, true, false, List, [], ◌∷◌, ◌++◌, length, drop, nat_lt, if◌then◌else◌, int_lt, slice_get, slice_index, slice_range, Option, Some, None, IfSome, is_some, IsTrue, IsFalse}
use Rattle.std.specs.FinMap.{get, insert}
use Rattle.outside.specs.FontKeys.{IsFontKey}
use Rattle.page_index.specs.Fonts.{Fonts}
use Rattle.big_endian.specs.Fields.{signed_at}
use Rattle.pixel_round.specs.Pixels.{AreEqual, Fraction, conversion}
use Rattle.pixel_round.specs.declared.units.Units.{Units}
use Rattle.dvi_commands.specs.Spelling.{DviCommand, Preamble, Bop, Eop, Define, Post, PostPost, Spells}
use Rattle.dvi_commands.specs.Refusal.{may_stand}
use Rattle.dvi_commands.specs.Reading.{Begins, Placed}
use Rattle.dvi_commands.specs.Skippable.{is_skippable}
use Rattle.dvi_commands.specs.declared.command.Context.{Context}
use Rattle.dvi_commands.specs.declared.command.Context.TheVariants as context
use Rattle.page_index.specs.Judged.{bop_fault, define_fault, post_fault_against, postpost_fault, preamble_fault}
use Rattle.page_index.specs.Faults.{is_postpost_at}
use Rattle.page_index.specs.Limits.{MAX_DOCUMENT_LENGTH, MAX_PAGES}
use Rattle.page_index.specs.Document.{Reading, Sound, context_after, end_of, font_table, is_ended, key_of, last_bop, pages_begun, post_at, preamble_of, text_of}
use Rattle.pixel_round.specs.Preamble.{AreUnits}
use Rattle.page_index.specs.Pages.{document_units, eop_at, is_page, page_commands}
use Rattle.page_index.specs.declared.faults.DocFault.{DocFault}
use Rattle.page_index.specs.declared.faults.DocFault.TheVariants as fault
use Rattle.page_index.specs.declared.preamble.Scaled.{Scaled}
use Rattle.page_index.specs.declared.progress.Progress.{Progress}
use Rattle.page_index.specs.declared.progress.PageSpan.{PageSpan}

-- ---- the preamble

-- what is wrong with the number above 0 at a place of the preamble
abbrev pub positive_fault : List ℕ → ℕ → Option DocFault
positive_fault bytes at =
    if nat_lt (length bytes) (at + 4) then Some (fault.Truncated (length bytes))
    else if int_lt (pos 0) (signed_at bytes at 4) then None
    else Some (fault.Preamble at)

-- the numbers of a preamble, and their conversion
pub record IsScaled (s : Scaled) (num den mag : ℤ) : Type 0 where
  pub num_is : num ≡ pos s.units.num
  pub den_is : den ≡ pos s.units.den
  pub mag_is : mag ≡ pos s.units.mag
  pub units : AreUnits s.units
  pub converts : AreEqual s.conv (conversion s.units)

pub record KeepsPreamble (s : Scaled) (reading : Reading) : Type 0 where
  pub preamble : Preamble
  pub is : preamble_of reading ≡ Some preamble
  pub scaled : IsScaled s preamble.num preamble.den preamble.mag

-- ---- one command more

abbrev pub position_or_none : Option ℕ → ℤ
position_or_none None = negsuc 0
position_or_none (Some at) = pos at

-- what is wrong with a whole command, by what is kept
abbrev pub fault_by : Progress → Scaled → Fonts → DviCommand → Option DocFault
fault_by p s fonts (Define d) = define_fault (get fonts d.number) p.at d
fault_by p s fonts (Bop counts back) = bop_fault p.begun (position_or_none p.bop) p.at back
fault_by p s fonts (Post q) =
    post_fault_against p.begun (position_or_none p.bop) (pos s.units.num) (pos s.units.den)
    (pos s.units.mag) p.at q
fault_by p s fonts _ = None

-- after a preamble that ends there
abbrev pub after_preamble : ℕ → Progress
after_preamble next =
    record {
      at = next;
      context = context.Between;
      begun = 0;
      bop = None;
      start = next;
      post = None;
      is_ended = false;
    }

abbrev pub progress_after : Progress → DviCommand → ℕ → Progress
progress_after p (Bop counts back) next =
    record p {
      at = next;
      context = context.Page;
      begun = suc p.begun;
      bop = Some p.at;
      start = next;
    }
progress_after p Eop next = record p { at = next; context = context.Between }
progress_after p (Post q) next = record p { at = next; context = context.Post; post = Some p.at }
progress_after p (PostPost q id) next = record p { at = next; is_ended = true }
progress_after p _ next = record p { at = next }

abbrev pub pages_after : Progress → List PageSpan → DviCommand → List PageSpan
pages_after p pages Eop = pages ++ record { start = p.start; end = p.at } ∷ []
pages_after p pages _ = pages

abbrev pub fonts_after : Fonts → DviCommand → Fonts
fonts_after fonts (Define d) =
    if is_some (get fonts d.number) then fonts else insert fonts d.number (key_of d)
fonts_after fonts _ = fonts

-- ---- the reading so far

-- the commands are spelled one after another from a position on, and their bytes are these
abbrev pub Runs : ℕ → List Placed → List ℕ → Type 0
Runs at [] bytes = bytes ≡ []
Runs at (c ∷ commands) bytes =
    (rest : List ℕ) × (bytes ≡ c.bytes ++ rest) × (c.at ≡ at) × Spells c.command c.bytes
    × Runs (at + length c.bytes) commands rest

-- each may stand on a page
abbrev pub AreOnPage : List Placed → Type 0
AreOnPage [] = Unit {0}
AreOnPage (c ∷ commands) =
    IsTrue (may_stand context.Page (slice_index c.bytes 0)) × AreOnPage commands

-- the commands of a page fill a span of the bytes
pub record FillSpan (bytes : List ℕ) (commands : List Placed) (start end : ℕ) : Type 0 where
  pub order : start ≤ end
  pub inside : end ≤ length bytes
  pub runs : Runs start commands (slice_range bytes start end)
  pub allowed : AreOnPage commands

-- where the commands of the page with a number stand
pub record IsSpan (bytes : List ℕ) (reading : Reading) (i : ℕ) (s : PageSpan) : Type 0 where
  pub fills : FillSpan bytes (page_commands i reading) s.start s.end
  pub ends : eop_at i reading ≡ Some s.end

abbrev pub AreSpans : List ℕ → Reading → List PageSpan → Type 0
AreSpans bytes reading pages =
    (i : ℕ) (s : PageSpan) → slice_get pages i ≡ Some s → IsSpan bytes reading i s

abbrev pub one_if : Bool → ℕ
one_if true = 1
one_if false = 0

-- what is kept is that of the reading
pub record Follows (bytes : List ℕ) (p : Progress) (pages : List PageSpan) (fonts : Fonts)
    (reading : Reading) : Type 0 where
  pub at : p.at ≡ end_of reading
  pub stands : p.context ≡ context_after reading
  pub begun : p.begun ≡ pages_begun reading
  pub few : p.begun ≤ MAX_PAGES
  pub bop : position_or_none p.bop ≡ last_bop reading
  pub post : p.post ≡ post_at reading
  pub ended : p.is_ended ≡ is_ended reading
  pub count : length pages + one_if (is_page p.context) ≡ p.begun
  pub spans : AreSpans bytes reading pages
  pub current : is_page p.context ≡ true → FillSpan bytes (page_commands (length pages) reading)
      p.start p.at
  pub keys : (k : ℤ) → get fonts k ≡ font_table reading k

-- the bytes up to a position are a sound reading, and what is kept is that of it
pub record IsReadTo (bytes : List ℕ) (s : Scaled) (p : Progress) (pages : List PageSpan)
    (fonts : Fonts) : Type 0 where
  pub reading : Reading
  pub fits : length bytes ≤ MAX_DOCUMENT_LENGTH
  pub sound : Sound s.units.res reading
  pub text : text_of reading ++ drop p.at bytes ≡ bytes
  pub within : p.at ≤ length bytes
  pub preamble : KeepsPreamble s reading
  pub follows : Follows bytes p pages fonts reading

-- of what is kept on a page only the place changes between two places
pub record ArePassed (bytes : List ℕ) (at next : ℕ) : Type 0 where
  pub back : at ≤ next
  pub within : next ≤ length bytes
  pub read : (s : Scaled) (p : Progress) (pages : List PageSpan) (fonts : Fonts) → p.at ≡ at
      → p.context ≡ context.Page → p.is_ended ≡ false
      → IsReadTo bytes s p pages fonts → IsReadTo bytes s (record p { at = next }) pages fonts

-- on a page the bytes begin with no command of which only the place is kept
abbrev pub BeginsNoSkippable : List ℕ → Type 0
BeginsNoSkippable bytes =
    (c : DviCommand) (prefix rest : List ℕ) → Begins context.Page c prefix rest bytes
    → IsFalse (is_skippable c)

-- the preamble was judged, and its numbers are kept
pub record IsBegun (bytes : List ℕ) (s : Scaled) : Type 0 where
  pub fits : length bytes ≤ MAX_DOCUMENT_LENGTH
  pub right : preamble_fault s.units.res bytes ≡ None
  pub scaled : IsScaled s (signed_at bytes 2 4) (signed_at bytes 6 4) (signed_at bytes 10 4)

-- what is wrong before a command is whole, at the beginning of the bytes that stand there
abbrev pub EarlyFault : Context → Option ℕ → ℕ → List ℕ → DocFault → Type 0
EarlyFault place post at rest f =
    (is_postpost_at place rest ≡ true) × (postpost_fault post at rest ≡ Some f)

-- ---- what an index keeps

pub record IsIndex (bytes : List ℕ) (units : Units) (conv : Fraction) (reading : Reading)
    (pages : List PageSpan) (fonts : Fonts) : Type 0 where
  pub fits : length bytes ≤ MAX_DOCUMENT_LENGTH
  pub count : length pages ≡ pages_begun reading
  pub few : length pages ≤ MAX_PAGES
  pub spans : AreSpans bytes reading pages
  pub keys : (k : ℤ) → get fonts k ≡ font_table reading k
  pub fonts_fit : (k : ℤ) → IfSome (font_table reading k) IsFontKey
  pub of_preamble : document_units units.res reading ≡ Some units
  pub units_fit : AreUnits units
  pub converts : AreEqual conv (conversion units)
