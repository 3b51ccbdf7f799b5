-- The whole list of a page, where it is given which font is found for each key: Knuth, DVItype,
-- "Translation to symbolic form"; Knuth, VFtoVP, "Virtual fonts"; and the task of Breitenlohner's
-- DVIcopy, "Terminating the page", "Interpreting DVI commands" and "Interpreting VF packets". By
-- cases on the list of the page's commands; a packet's list stands where its character does. A Bool
-- says whether lacks are tolerated.
use Rattle.std.specs.Prelude.{ℕ, zero, suc, ℤ, Bool, true, false, List, [], ◌∷◌, ◌++◌, Option, Some, None, unwrap_or}
use Rattle.outside.specs.declared.keys.FontKey.{FontKey}
use Rattle.dvi_commands.specs.Spelling.{DviCommand, Set, Put, SetRule, PutRule, Push, Pop, Right, W0, W, X0, X, Down, Y0, Y, Z0, Z, Font}
use Rattle.dvi_commands.specs.Reading.{Placed, commands_of}
use Rattle.drift_rules.specs.Position.{FlatCommand}
use Rattle.drift_rules.specs.Position as flat
use Rattle.page_index.specs.Document.{Reading, font_table}
use Rattle.page_index.specs.Pages.{eop_at, page_commands}
use Rattle.pk_runs.specs.declared.glyph.Glyph.{Glyph}
use Rattle.font_decode.specs.Fonts.{FontValue, scaled_width_of, glyph_at, is_virtual_of, packet_of, local_of, first_local_of}
use Rattle.font_decode.specs.declared.font_or_fault.Decoded.{Decoded}
use Rattle.font_decode.specs.declared.font_or_fault.Decoded.TheVariants as decoded
use Rattle.font_decode.specs.declared.faults.FileKind.TheVariants.{Pk}
use Rattle.font_decode.specs.declared.faults.FontFault.{FontFault}
use Rattle.font_decode.specs.declared.faults.FontFault.TheVariants.{Missing}
use Rattle.vf_expand.specs.Faults.{PageFaultValue, is_missing}
use Rattle.vf_expand.specs.Faults as fault
use Rattle.vf_expand.specs.Course.{Course, Gives, Asks, Lacks, Ends, Stops, Place, OnPage, InPacket, Current, NoFont, Chosen, Known, dimension, first_font, advance_of, bare_advance, in_place, no_font, no_local, number_of, space}
use Rattle.vf_expand.specs.Limits.{MAX_FLAT_COMMANDS}
use Rattle.vf_expand.specs.Limits.{MAX_DEPTH}
use Rattle.vf_expand.specs.Members.{Member, Flat, LookUp, Lack}

-- how a list ends: at the page's end, or at its first fault, with the position
pub data Ending : Type 0 where
  AtEnd : ℕ → Ending
  AtFault : PageFaultValue → ℕ → Ending

pub record PageList : Type 0 where
  pub members : List Member
  pub ending : Ending

abbrev pub no_more : Ending → PageList
no_more ending = record { members = []; ending = ending }

-- members, and the list that comes after them
abbrev pub list_after : List Member → PageList → PageList
list_after members rest = record { members = members ++ rest.members; ending = rest.ending }

-- the font that is found for each key
abbrev pub Fonts : Type 0
Fonts = FontKey → Decoded

-- ---- what commands give: members, and the font that is then current or a fault

pub data Outcome : Type 0 where
  Goes : List Member → Current → Outcome
  Faults : List Member → PageFaultValue → Outcome

abbrev pub goes_with : FlatCommand → ℕ → Current → Outcome
goes_with f at current = Goes (Flat f None at ∷ []) current

-- members, and the outcome that comes after them
abbrev pub outcome_after : List Member → Outcome → Outcome
outcome_after first (Goes members next) = Goes (first ++ members) next
outcome_after first (Faults members f) = Faults (first ++ members) f

abbrev pub go_on : Outcome → (Current → Outcome) → Outcome
go_on (Goes members next) others = outcome_after members (others next)
go_on (Faults members f) others = Faults members f

-- a character that is lacking: what comes in its place, or a fault
abbrev pub of_lack : Bool → ℕ → PageFaultValue → Option ℤ → Current → Outcome
of_lack true at f advance current =
    Goes (Lack f at ∷ Flat (in_place advance) None at ∷ []) current
of_lack false at f advance current = Faults [] f

-- ---- virtual characters

-- the commands of a packet, one after another
abbrev pub of_list : (Current → DviCommand → Outcome) → Current → List DviCommand → Outcome
of_list one current [] = Goes [] current
of_list one current (c ∷ commands) = go_on (one current c) (λ next. of_list one next commands)

-- what the commands of a packet of a font give; None where no packet may stand any deeper
abbrev pub Packets : Type 0
Packets = Option (FontKey → FontValue → List DviCommand → Outcome)

-- a character that was set moves after its packet, and one that was put doesn't
abbrev pub leave_members : Option ℤ → ℕ → List Member
leave_members None at = Flat flat.Leave None at ∷ []
leave_members (Some width) at = Flat flat.Leave None at ∷ Flat (flat.Advance width) None at ∷ []

-- the font that is current before a packet is so after it
abbrev pub in_packet_level : ℕ → Current → Option ℤ → Outcome → Outcome
in_packet_level at current advance (Goes members last) =
    Goes (Flat flat.Enter None at ∷ members ++ leave_members advance at) current
in_packet_level at current advance (Faults members f) = Faults (Flat flat.Enter None at ∷ members) f

abbrev pub of_packet : Bool → (FontKey → FontValue → List DviCommand → Outcome) → ℕ → FontKey
    → FontValue → ℤ → Option ℤ → Option (List ℕ) → Outcome
of_packet tolerant inner at k f c advance None =
    of_lack tolerant at (fault.NoPacket k c) advance (Known k (decoded.Font f))
of_packet tolerant inner at k f c advance (Some text) =
    in_packet_level at (Known k (decoded.Font f)) advance (inner k f (commands_of text))

-- too deep comes before a packet that isn't there
abbrev pub of_virtual : Bool → Packets → ℕ → FontKey → FontValue → ℤ → Option ℤ → Outcome
of_virtual tolerant None at k f c advance = Faults [] (fault.Depth k c)
of_virtual tolerant (Some inner) at k f c advance =
    of_packet tolerant inner at k f c advance (packet_of f (number_of c))

-- ---- characters

abbrev pub of_glyph : Bool → ℕ → FontKey → Decoded → ℤ → ℤ → Bool → Option Glyph → Outcome
of_glyph tolerant at k d c width put None =
    of_lack tolerant at (fault.NoGlyph k c) (advance_of width put) (Known k d)
of_glyph tolerant at k d c width put (Some g) =
    Goes (Flat (flat.Char k (number_of c) width put) (Some g) at ∷ []) (Known k d)

-- of a packed font, or of a virtual one
abbrev pub of_kind : Bool → Packets → ℕ → FontKey → FontValue → ℤ → ℤ → Bool → Bool → Outcome
of_kind tolerant packets at k f c width put false =
    of_glyph tolerant at k (decoded.Font f) c width put (glyph_at f (number_of c))
of_kind tolerant packets at k f c width put true =
    of_virtual tolerant packets at k f c (advance_of width put)

abbrev pub of_width : Bool → Packets → ℕ → FontKey → FontValue → ℤ → Bool → Option ℤ → Outcome
of_width tolerant packets at k f c put None =
    of_lack tolerant at (fault.NoCharacter k c) None (Known k (decoded.Font f))
of_width tolerant packets at k f c put (Some width) =
    of_kind tolerant packets at k f c width put (is_virtual_of f)

-- of a font with a fault
abbrev pub of_fault : Bool → ℕ → FontKey → FontFault → Bool → Outcome
of_fault tolerant at k f true =
    of_lack tolerant at (fault.Font k f) None (Known k (decoded.Fault f))
of_fault tolerant at k f false = Faults [] (fault.Font k f)

-- a character of a font; a bare font's glyphs are missing, whatever the code
abbrev pub of_decoded : Bool → Packets → ℕ → FontKey → Decoded → ℤ → Bool → Outcome
of_decoded tolerant packets at k (decoded.Fault f) c put = of_fault tolerant at k f (is_missing f)
of_decoded tolerant packets at k (decoded.Bare f) c put =
    of_lack tolerant at (fault.Font k (Missing Pk)) (bare_advance (scaled_width_of f c) put)
    (Known k (decoded.Bare f))
of_decoded tolerant packets at k (decoded.Font f) c put =
    of_width tolerant packets at k f c put (scaled_width_of f c)

-- a look-up stands before the first character after its font became current, and nowhere else
abbrev pub of_character : Bool → Fonts → Packets → Place → ℕ → Current → ℤ → Bool → Outcome
of_character tolerant fonts packets place at NoFont c put = Faults [] (no_font place)
of_character tolerant fonts packets place at (Chosen k) c put =
    outcome_after (LookUp k at ∷ []) (of_decoded tolerant packets at k (fonts k) c put)
of_character tolerant fonts packets place at (Known k d) c put =
    of_decoded tolerant packets at k d c put

-- ---- commands

abbrev pub of_change : ℕ → PageFaultValue → Option FontKey → Outcome
of_change at f None = Faults [] f
of_change at f (Some k) = goes_with flat.Skip at (Chosen k)

abbrev pub of_font : Place → ℕ → ℤ → Outcome
of_font (OnPage reading) at n = of_change at (fault.NoFont n) (font_table reading n)
of_font (InPacket k f) at n = of_change at (no_local k (first_local_of f) n) (local_of f n)

abbrev pub of_command : Bool → Fonts → Packets → Place → ℕ → Current → DviCommand → Outcome
of_command tolerant fonts packets place at current (Set c) =
    of_character tolerant fonts packets place at current c false
of_command tolerant fonts packets place at current (Put c) =
    of_character tolerant fonts packets place at current c true
of_command tolerant fonts packets place at current (Font n) = of_font place at n
of_command tolerant fonts packets place at current (SetRule a b) =
    goes_with (flat.Rule (dimension place a) (dimension place b) false) at current
of_command tolerant fonts packets place at current (PutRule a b) =
    goes_with (flat.Rule (dimension place a) (dimension place b) true) at current
of_command tolerant fonts packets place at current (Right b) =
    goes_with (flat.Right (dimension place b) (space current)) at current
of_command tolerant fonts packets place at current (W b) =
    goes_with (flat.W (dimension place b) (space current)) at current
of_command tolerant fonts packets place at current (X b) =
    goes_with (flat.X (dimension place b) (space current)) at current
of_command tolerant fonts packets place at current (Down a) =
    goes_with (flat.Down (dimension place a) (space current)) at current
of_command tolerant fonts packets place at current (Y a) =
    goes_with (flat.Y (dimension place a) (space current)) at current
of_command tolerant fonts packets place at current (Z a) =
    goes_with (flat.Z (dimension place a) (space current)) at current
of_command tolerant fonts packets place at current W0 =
    goes_with (flat.W0 (space current)) at current
of_command tolerant fonts packets place at current X0 =
    goes_with (flat.X0 (space current)) at current
of_command tolerant fonts packets place at current Y0 =
    goes_with (flat.Y0 (space current)) at current
of_command tolerant fonts packets place at current Z0 =
    goes_with (flat.Z0 (space current)) at current
of_command tolerant fonts packets place at current Push = goes_with flat.Push at current
of_command tolerant fonts packets place at current Pop = goes_with flat.Pop at current
of_command tolerant fonts packets place at current _ = goes_with flat.Skip at current

-- where n packets may stand inside one another; all that a packet gives has the position of the
-- page's own command
unfoldable pub packets_in : Bool → Fonts → ℕ → ℕ → Packets
packets_in tolerant fonts zero at = None
packets_in tolerant fonts (suc n) at =
    Some (λ k f commands. of_list
    (of_command tolerant fonts (packets_in tolerant fonts n at) (InPacket k f) at) (first_font f)
    commands)

-- ---- the commands of a page, one after another, with the position of its Eop

abbrev pub list_of_outcome : ℕ → Outcome → (Current → PageList) → PageList
list_of_outcome at (Goes members next) rest = list_after members (rest next)
list_of_outcome at (Faults members f) rest = record { members = members; ending = AtFault f at }

abbrev pub full_list : Bool → Fonts → Reading → ℕ → Current → List Placed → PageList
full_list tolerant fonts reading eop current [] = no_more (AtEnd eop)
full_list tolerant fonts reading eop current (p ∷ commands) =
    list_of_outcome p.at (of_command tolerant fonts (packets_in tolerant fonts MAX_DEPTH p.at)
    (OnPage reading) p.at current p.command)
    (λ next. full_list tolerant fonts reading eop next commands)

-- ---- at most n flat commands, and the look-ups and lacks before one of them; where more comes,
-- only the page's end may

abbrev pub position_of : Member → ℕ
position_of (Flat f g at) = at
position_of (LookUp k at) = at
position_of (Lack f at) = at

abbrev pub up_to_limit : ℕ → List Member → Ending → PageList
up_to_limit zero [] (AtEnd at) = no_more (AtEnd at)
up_to_limit zero [] (AtFault f at) = no_more (AtFault fault.TooLong at)
up_to_limit zero (m ∷ members) ending = no_more (AtFault fault.TooLong (position_of m))
up_to_limit (suc n) [] ending = no_more ending
up_to_limit (suc n) (Flat f g at ∷ members) ending =
    list_after (Flat f g at ∷ []) (up_to_limit n members ending)
up_to_limit (suc n) (LookUp k at ∷ members) ending =
    list_after (LookUp k at ∷ []) (up_to_limit (suc n) members ending)
up_to_limit (suc n) (Lack f at ∷ members) ending =
    list_after (Lack f at ∷ []) (up_to_limit (suc n) members ending)

-- ---- the list of the page of a document with a number, from 0

abbrev pub list_of : Bool → Fonts → Reading → ℕ → PageList
list_of tolerant fonts reading i =
    let full = full_list tolerant fonts reading (unwrap_or (eop_at i reading) 0) NoFont
    (page_commands i reading) in
    up_to_limit MAX_FLAT_COMMANDS full.members full.ending

-- ---- what is still to come, where the fonts are given

abbrev pub list_from : Fonts → Course → PageList
list_from fonts (Gives f g at rest) = list_after (Flat f g at ∷ []) (list_from fonts rest)
list_from fonts (Asks k at rest) = list_after (LookUp k at ∷ []) (list_from fonts (rest (fonts k)))
list_from fonts (Lacks f at rest) = list_after (Lack f at ∷ []) (list_from fonts rest)
list_from fonts (Ends at) = no_more (AtEnd at)
list_from fonts (Stops f at) = no_more (AtFault f at)
