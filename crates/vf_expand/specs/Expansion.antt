-- A page that is being expanded, as its calls see it: what stands to be expanded, and what the last
-- step was.
use Rattle.std.specs.Prelude.{◌≡◌, ℕ, suc, ◌+◌, ◌-◌, ℤ, Bool, List, [], ◌∷◌, length, Option, Some, None, if◌then◌else◌}
use Rattle.dvi_commands.specs.Spelling.{DviCommand}
use Rattle.dvi_commands.specs.Reading.{Placed}
use Rattle.drift_rules.specs.Position.{FlatCommand, Char, Advance, Skip}
use Rattle.page_index.specs.Document.{Reading}
use Rattle.pk_runs.specs.declared.glyph.Glyph.{Glyph}
use Rattle.font_decode.specs.Fonts.{glyph_at}
use Rattle.font_decode.specs.declared.font_or_fault.Decoded.{Decoded}
use Rattle.font_decode.specs.declared.font_or_fault.Decoded.TheVariants as decoded
use Rattle.vf_expand.specs.Course.{Course, Gives, Asks, Lacks, Ends, Stops, gives, Place, OnPage, InPacket, Current, NoFont, Chosen, Known, deeper, expand_one, expand_list, leave, page_from, cut}
use Rattle.vf_expand.specs.Limits.{MAX_DEPTH}
use Rattle.vf_expand.specs.declared.pending.Pending.{Pending}
use Rattle.vf_expand.specs.declared.pending.Pending.TheVariants as pending

-- a packet that is read: the font that is current outside it, which is its own, how far its
-- character moves after it, and the commands that are left
pub record OpenPacket : Type 0 where
  pub outside : Current
  pub advance : Option ℤ
  pub commands : List DviCommand

-- what is read: the page's own commands that are left, and the packets inside one another, the
-- innermost first
pub record Stack : Type 0 where
  pub page : List Placed
  pub packets : List OpenPacket

-- the page alone
abbrev pub Page : List Placed → Stack
Page commands = record { page = commands; packets = [] }

-- a packet inside all others
abbrev pub Within : OpenPacket → Stack → Stack
Within p outer = record { page = outer.page; packets = p ∷ outer.packets }

-- how many packets stand inside one another
abbrev pub depth : Stack → ℕ
depth stack = length stack.packets

-- nothing is left of the packet that is read, or of the page
abbrev pub AreEnded : List Placed → List OpenPacket → Type 0
AreEnded commands [] = commands ≡ []
AreEnded commands (p ∷ outer) = p.commands ≡ []

abbrev pub IsEnded : Stack → Type 0
IsEnded stack = AreEnded stack.page stack.packets

-- in a packet of the virtual font that was found
abbrev pub place_in : Reading → Current → Place
place_in reading (Known k (decoded.Font f)) = InPacket k f
place_in reading _ = OnPage reading

-- what is left of the packets and of the page, where the page's own command at a position is being
-- expanded
abbrev pub packets_left : Reading → ℕ → ℕ → List Placed → Current → List OpenPacket → Course
packets_left reading eop at commands current [] = page_from reading eop current commands
packets_left reading eop at commands current (p ∷ outer) =
    expand_list (expand_one (deeper (MAX_DEPTH - suc (length outer)) at)
    (place_in reading p.outside) at) current p.commands
    (leave p.advance at (packets_left reading eop at commands p.outside outer))

abbrev pub stack_left : Reading → ℕ → ℕ → Current → Stack → Course
stack_left reading eop at current stack =
    packets_left reading eop at stack.page current stack.packets

-- a flat command that is still to come after a packet's end or a lack
abbrev pub flat_of_pending : Pending → FlatCommand
flat_of_pending pending.Skip = Skip
flat_of_pending (pending.Advance width) = Advance width

abbrev pub after_pending : Option Pending → ℕ → Course → Course
after_pending None at rest = rest
after_pending (Some p) at rest = gives (flat_of_pending p) at rest

-- after a packet's end
abbrev pub pending_advance : Option ℤ → Option Pending
pending_advance None = None
pending_advance (Some width) = Some (pending.Advance width)

-- `at` is the position of the last step, and `budget` how many flat commands may still be given.
-- The last step gave a character where it is marked
pub record Expansion : Type 0 where
  pub tolerant : Bool
  pub reading : Reading
  pub eop : ℕ
  pub at : ℕ
  pub budget : ℕ
  pub marked : Bool
  pub pending : Option Pending
  pub current : Current
  pub stack : Stack

-- what is still to come
unfoldable pub course_left : Bool → Reading → ℕ → ℕ → ℕ → Option Pending → Current → Stack
    → Course
course_left tolerant reading eop at budget pending current stack =
    cut tolerant budget (after_pending pending at (stack_left reading eop at current stack))

abbrev pub rest_of : Expansion → Course
rest_of v = course_left v.tolerant v.reading v.eop v.at v.budget v.pending v.current v.stack

-- a look-up stands next
abbrev pub IsAtLook : Course → Type 0
IsAtLook (Gives f g at rest) = ⊥
IsAtLook (Asks k at rest) = Unit {0}
IsAtLook (Lacks fault at rest) = ⊥
IsAtLook (Ends at) = ⊥
IsAtLook (Stops fault at) = ⊥

-- no lack comes, whatever fonts are found
abbrev pub HasNoLack : Course → Type 0
HasNoLack (Gives f g at rest) = HasNoLack rest
HasNoLack (Asks k at rest) = (d : Decoded) → HasNoLack (rest d)
HasNoLack (Lacks fault at rest) = ⊥
HasNoLack (Ends at) = Unit {0}
HasNoLack (Stops fault at) = Unit {0}

-- the flat command sets and puts no character
abbrev pub SetsNoCharacter : FlatCommand → Type 0
SetsNoCharacter (Char k c width put) = ⊥
SetsNoCharacter f = Unit {0}

-- the next step gives no character; one of a virtual font is given as its packet
abbrev pub GivesNoPackedChar : Course → Type 0
GivesNoPackedChar (Gives f g at rest) = SetsNoCharacter f
GivesNoPackedChar (Asks k at rest) = Unit {0}
GivesNoPackedChar (Lacks fault at rest) = Unit {0}
GivesNoPackedChar (Ends at) = Unit {0}
GivesNoPackedChar (Stops fault at) = Unit {0}

-- what is left after a look-up, with the font that is found
abbrev pub after_answer : Course → Decoded → Course
after_answer (Asks k at rest) d = rest d
after_answer other d = other

-- the position of what stands next
abbrev pub place_of : Course → ℕ
place_of (Gives f g at rest) = at
place_of (Asks k at rest) = at
place_of (Lacks fault at rest) = at
place_of (Ends at) = at
place_of (Stops fault at) = at

abbrev pub font_of : Current → Option Decoded
font_of NoFont = None
font_of (Chosen k) = None
font_of (Known k d) = Some d

-- the font of the character that the last step gave
abbrev pub marked_font : Expansion → Option Decoded
marked_font v = if v.marked then font_of v.current else None

-- the glyph of a code in what was found
abbrev pub glyph_in : Option Decoded → ℕ → Option Glyph
glyph_in None c = None
glyph_in (Some (decoded.Fault f)) c = None
glyph_in (Some (decoded.Bare f)) c = None
glyph_in (Some (decoded.Font f)) c = glyph_at f c

-- how many look-ups may still come: after one, a flat command changes the font before the next
abbrev pub asks_from : ℕ → Current → ℕ
asks_from budget NoFont = budget
asks_from budget (Chosen k) = budget
asks_from budget (Known k d) = budget - 1

abbrev pub asks_left : Expansion → ℕ
asks_left v = asks_from v.budget v.current

-- how many lacks may still come: after one, a flat command is given before the next
abbrev pub lacks_from : ℕ → Option Pending → ℕ
lacks_from budget None = budget
lacks_from budget (Some p) = budget - 1

abbrev pub lacks_left : Expansion → ℕ
lacks_left v = lacks_from v.budget v.pending

-- more than the steps that may come before the end
abbrev pub steps_left : Expansion → ℕ
steps_left v = v.budget + asks_left v + lacks_left v
