-- A page as flat commands and look-ups of fonts: Knuth, DVItype, "Translation to symbolic form";
-- Knuth, VFtoVP, "Virtual fonts"; and the task of Breitenlohner's DVIcopy, "Terminating the page",
-- "Interpreting DVI commands" and "Interpreting VF packets". By cases on the list of the page's
-- commands; the commands of a packet are expanded where its character stands. What a page becomes
-- depends on fonts, each from its look-up on. So it is seen as a course: what comes next, and after
-- a look-up what each font that may be found makes of the rest.
use Rattle.std.specs.Prelude.{ℕ, zero, suc, ◌/◌, ℤ, pos, negsuc, Bool, true, false, List, [], ◌∷◌, Option, Some, None, unwrap_or}
use Rattle.outside.specs.declared.keys.FontKey.{FontKey}
use Rattle.fix_word.specs.Scale.{scale}
use Rattle.dvi_commands.specs.Spelling.{DviCommand, Set, Put, SetRule, PutRule, Push, Pop, Right, W0, W, X0, X, Down, Y0, Y, Z0, Z, Font}
use Rattle.dvi_commands.specs.Reading.{Placed, commands_of}
use Rattle.drift_rules.specs.Position.{FlatCommand}
use Rattle.drift_rules.specs.Position as flat
use Rattle.page_index.specs.Document.{Reading, font_table}
use Rattle.page_index.specs.Pages.{eop_at, page_commands}
use Rattle.pk_runs.specs.declared.glyph.Glyph.{Glyph}
use Rattle.font_decode.specs.Fonts.{FontValue, scaled_width_of, glyph_at, is_virtual_of, packet_of, local_of, first_local_of}
use Rattle.font_decode.specs.declared.font_or_fault.Decoded.{Decoded}
use Rattle.font_decode.specs.declared.font_or_fault.Decoded.TheVariants as decoded
use Rattle.font_decode.specs.declared.faults.FileKind.TheVariants.{Pk}
use Rattle.font_decode.specs.declared.faults.FontFault.{FontFault}
use Rattle.font_decode.specs.declared.faults.FontFault.TheVariants.{Missing}
use Rattle.vf_expand.specs.Faults.{PageFaultValue, is_missing}
use Rattle.vf_expand.specs.Faults as fault
use Rattle.vf_expand.specs.Limits.{MAX_DEPTH}
use Rattle.vf_expand.specs.Limits.{MAX_FLAT_COMMANDS}

-- what comes: a flat command, that of a character with its glyph; a look-up of a key, with what
-- each font makes of the rest; a lack, which is a fault that a tolerant run goes past, with what
-- comes where it does; or the end. Each has the position of the page's own command that it comes
-- from; a page's end has that of its Eop
pub data Course : Type 0 where
  Gives : FlatCommand → Option Glyph → ℕ → Course → Course
  Asks : FontKey → ℕ → (Decoded → Course) → Course
  Lacks : PageFaultValue → ℕ → Course → Course
  Ends : ℕ → Course
  Stops : PageFaultValue → ℕ → Course

abbrev pub gives : FlatCommand → ℕ → Course → Course
gives f at rest = Gives f None at rest

-- where a command stands: on a page of a document, or in a packet of the virtual font with this key
pub data Place : Type 0 where
  OnPage : Reading → Place
  InPacket : FontKey → FontValue → Place

-- the current font: none, a key that was not looked up since it became current, or a key with what
-- was found
pub data Current : Type 0 where
  NoFont : Current
  Chosen : FontKey → Current
  Known : FontKey → Decoded → Current

-- a sixth of the current font's size
abbrev pub space : Current → ℤ
space NoFont = pos 0
space (Chosen k) = pos (k.size / 6)
space (Known k d) = pos (k.size / 6)

-- a dimension in DVI units: in a packet it is a fix_word at the virtual font's size
abbrev pub dimension : Place → ℤ → ℤ
dimension (OnPage reading) z = z
dimension (InPacket k f) z = scale z f.size

-- ---- font changes

-- a font becomes current, also where it is so already
abbrev pub changed_to : Option FontKey → PageFaultValue → ℕ → (Current → Course) → Course
changed_to None f at others = Stops f at
changed_to (Some k) f at others = gives flat.Skip at (others (Chosen k))

-- a number that no local font has; it is named only where there are local fonts
abbrev pub no_local : FontKey → Option ℤ → ℤ → PageFaultValue
no_local k None n = fault.NoLocalFont k None
no_local k (Some first) n = fault.NoLocalFont k (Some n)

abbrev pub font_change : Place → ℕ → ℤ → (Current → Course) → Course
font_change (OnPage reading) at n others =
    changed_to (font_table reading n) (fault.NoFont n) at others
font_change (InPacket k f) at n others =
    changed_to (local_of f n) (no_local k (first_local_of f) n) at others

-- the first local font is current as a packet begins, and none where there are no local fonts
abbrev pub local_key : FontValue → Option ℤ → Option FontKey
local_key f None = None
local_key f (Some n) = local_of f n

abbrev pub current_of : Option FontKey → Current
current_of None = NoFont
current_of (Some k) = Chosen k

abbrev pub first_font : FontValue → Current
first_font f = current_of (local_key f (first_local_of f))

-- ---- lacks

-- in place of a character that is lacking comes a motion as far as the character's, or nothing
abbrev pub in_place : Option ℤ → FlatCommand
in_place None = flat.Skip
in_place (Some width) = flat.Advance width

abbrev pub lacking : ℕ → PageFaultValue → Option ℤ → Course → Course
lacking at f advance after = Lacks f at (gives (in_place advance) at after)

-- ---- virtual characters

-- what the commands of a packet of a font become, before what comes after them; None where no
-- packet may stand any deeper
abbrev pub Deeper : Type 0
Deeper = Option (FontKey → FontValue → List DviCommand → Course → Course)

-- how far a character moves after its packet, or in its place: not at all where it is put
abbrev pub advance_of : ℤ → Bool → Option ℤ
advance_of width true = None
advance_of width false = Some width

-- after a packet's commands
abbrev pub leave : Option ℤ → ℕ → Course → Course
leave None at after = gives flat.Leave at after
leave (Some width) at after = gives flat.Leave at (gives (flat.Advance width) at after)

abbrev pub packet : (FontKey → FontValue → List DviCommand → Course → Course) → ℕ → FontKey
    → FontValue → ℤ → Option ℤ → Option (List ℕ) → Course → Course
packet inner at k f c advance None after = lacking at (fault.NoPacket k c) advance after
packet inner at k f c advance (Some text) after =
    gives flat.Enter at (inner k f (commands_of text) (leave advance at after))

-- the code as a number from 0
abbrev pub number_of : ℤ → ℕ
number_of (pos c) = c
number_of (negsuc c) = 0

-- too deep comes before a packet that isn't there
abbrev pub virtual : Deeper → ℕ → FontKey → FontValue → ℤ → Option ℤ → Course → Course
virtual None at k f c advance after = Stops (fault.Depth k c) at
virtual (Some inner) at k f c advance after =
    packet inner at k f c advance (packet_of f (number_of c)) after

-- ---- characters

abbrev pub with_glyph : ℕ → FontKey → ℤ → ℤ → Bool → Option Glyph → Course → Course
with_glyph at k c width put None after =
    lacking at (fault.NoGlyph k c) (advance_of width put) after
with_glyph at k c width put (Some g) after =
    Gives (flat.Char k (number_of c) width put) (Some g) at after

-- of a packed font, or of a virtual one
abbrev pub by_kind : Deeper → ℕ → FontKey → FontValue → ℤ → ℤ → Bool → Bool → Course → Course
by_kind deeper at k f c width put false after =
    with_glyph at k c width put (glyph_at f (number_of c)) after
by_kind deeper at k f c width put true after = virtual deeper at k f c (advance_of width put) after

abbrev pub with_width : Deeper → ℕ → FontKey → FontValue → ℤ → Bool → Option ℤ → Course → Course
with_width deeper at k f c put None after = lacking at (fault.NoCharacter k c) None after
with_width deeper at k f c put (Some width) after =
    by_kind deeper at k f c width put (is_virtual_of f) after

-- a font with a fault
abbrev pub by_fault : ℕ → FontKey → FontFault → Bool → Course → Course
by_fault at k f true after = lacking at (fault.Font k f) None after
by_fault at k f false after = Stops (fault.Font k f) at

-- how far a character of a bare font moves: not at all where it is put or has no width
abbrev pub bare_advance : Option ℤ → Bool → Option ℤ
bare_advance None put = None
bare_advance (Some width) put = advance_of width put

-- a character of the font that was found; a bare font's glyphs are missing, whatever the code
abbrev pub char_of_decoded : Deeper → ℕ → FontKey → Decoded → ℤ → Bool → Course → Course
char_of_decoded deeper at k (decoded.Fault f) c put after = by_fault at k f (is_missing f) after
char_of_decoded deeper at k (decoded.Bare f) c put after =
    lacking at (fault.Font k (Missing Pk)) (bare_advance (scaled_width_of f c) put) after
char_of_decoded deeper at k (decoded.Font f) c put after =
    with_width deeper at k f c put (scaled_width_of f c) after

-- a character where no font is current; in a packet the font then has no local fonts
abbrev pub no_font : Place → PageFaultValue
no_font (OnPage reading) = fault.NoCurrentFont
no_font (InPacket k f) = fault.NoLocalFont k None

-- the current font is looked up at the first character after its change, and there alone
abbrev pub character : Deeper → Place → ℕ → Current → ℤ → Bool → (Current → Course) → Course
character deeper place at NoFont c put others = Stops (no_font place) at
character deeper place at (Chosen k) c put others =
    Asks k at (λ d. char_of_decoded deeper at k d c put (others (Known k d)))
character deeper place at (Known k d) c put others =
    char_of_decoded deeper at k d c put (others (Known k d))

-- ---- commands

-- one case for each command that moves or marks; the others of a page and of a packet do nothing
abbrev pub expand_one : Deeper → Place → ℕ → Current → DviCommand → (Current → Course) → Course
expand_one deeper place at current (Set c) others = character deeper place at current c false others
expand_one deeper place at current (Put c) others = character deeper place at current c true others
expand_one deeper place at current (Font n) others = font_change place at n others
expand_one deeper place at current (SetRule a b) others =
    gives (flat.Rule (dimension place a) (dimension place b) false) at (others current)
expand_one deeper place at current (PutRule a b) others =
    gives (flat.Rule (dimension place a) (dimension place b) true) at (others current)
expand_one deeper place at current (Right b) others =
    gives (flat.Right (dimension place b) (space current)) at (others current)
expand_one deeper place at current (W b) others =
    gives (flat.W (dimension place b) (space current)) at (others current)
expand_one deeper place at current (X b) others =
    gives (flat.X (dimension place b) (space current)) at (others current)
expand_one deeper place at current (Down a) others =
    gives (flat.Down (dimension place a) (space current)) at (others current)
expand_one deeper place at current (Y a) others =
    gives (flat.Y (dimension place a) (space current)) at (others current)
expand_one deeper place at current (Z a) others =
    gives (flat.Z (dimension place a) (space current)) at (others current)
expand_one deeper place at current W0 others = gives (flat.W0 (space current)) at (others current)
expand_one deeper place at current X0 others = gives (flat.X0 (space current)) at (others current)
expand_one deeper place at current Y0 others = gives (flat.Y0 (space current)) at (others current)
expand_one deeper place at current Z0 others = gives (flat.Z0 (space current)) at (others current)
expand_one deeper place at current Push others = gives flat.Push at (others current)
expand_one deeper place at current Pop others = gives flat.Pop at (others current)
expand_one deeper place at current _ others = gives flat.Skip at (others current)

-- the commands of a packet, one after another, and what comes after them; the font that is then
-- current is the packet's own
abbrev pub expand_list : (Current → DviCommand → (Current → Course) → Course) → Current
    → List DviCommand → Course → Course
expand_list one current [] after = after
expand_list one current (c ∷ commands) after =
    one current c (λ next. expand_list one next commands after)

-- where n packets may still stand inside one another; all that a packet gives has the position of
-- the page's own command
unfoldable pub deeper : ℕ → ℕ → Deeper
deeper zero at = None
deeper (suc n) at =
    Some (λ k f commands after. expand_list (expand_one (deeper n at) (InPacket k f) at)
    (first_font f) commands after)

-- a page's commands from one on, with the position of its Eop
abbrev pub page_from : Reading → ℕ → Current → List Placed → Course
page_from reading eop current [] = Ends eop
page_from reading eop current (p ∷ commands) =
    expand_one (deeper MAX_DEPTH p.at) (OnPage reading) p.at current p.command (λ next.
    page_from reading eop next commands)

-- ---- at most n flat commands: where no more may be given, only the end may stand. Where lacks are
-- not tolerated, the first one ends the page

abbrev pub lack_or_stop : Bool → PageFaultValue → ℕ → Course → Course
lack_or_stop true f at rest = Lacks f at rest
lack_or_stop false f at rest = Stops f at

abbrev pub cut : Bool → ℕ → Course → Course
cut tolerant n (Ends at) = Ends at
cut tolerant zero (Gives f g at rest) = Stops fault.TooLong at
cut tolerant zero (Asks k at rest) = Stops fault.TooLong at
cut tolerant zero (Lacks f at rest) = Stops fault.TooLong at
cut tolerant zero (Stops f at) = Stops fault.TooLong at
cut tolerant (suc n) (Gives f g at rest) = Gives f g at (cut tolerant n rest)
cut tolerant (suc n) (Asks k at rest) = Asks k at (λ d. cut tolerant (suc n) (rest d))
cut tolerant (suc n) (Lacks f at rest) = lack_or_stop tolerant f at (cut tolerant (suc n) rest)
cut tolerant (suc n) (Stops f at) = Stops f at

-- ---- the page of a document with a number, from 0, where lacks are tolerated or aren't

abbrev pub course_of : Bool → Reading → ℕ → Course
course_of tolerant reading i =
    cut tolerant MAX_FLAT_COMMANDS
    (page_from reading (unwrap_or (eop_at i reading) 0) NoFont (page_commands i reading))
