-- The flat commands of a packet are balanced.
use Rattle.std.proofs.Common.{◌≡◌, ℕ, zero, suc, ◌+◌, ◌≤◌, ℤ, Bool, true, false, cond, List, [], ◌∷◌, ◌++◌, Option, Some, None, refl, sym, ap, subst, arith}
use Rattle.std.specs.Prelude.{IfSome}
use Rattle.std.proofs.lemmas.List.Sums.{sum_by-cons}
use Rattle.outside.specs.Library as library
use Rattle.outside.specs.declared.keys.FontKey.{FontKey}
use Rattle.pixel_round.specs.declared.units.Units.{Units}
use Rattle.dvi_commands.specs.Spelling.{DviCommand, Set, Put, SetRule, PutRule, Push, Pop, Right, W0, W, X0, X, Down, Y0, Y, Z0, Z, Font}
use Rattle.dvi_commands.specs.Reading.{commands_of}
use Rattle.drift_rules.specs.Position.{FlatCommand}
use Rattle.drift_rules.specs.Stack.{IsBalanced, is_pop, is_push, pops, pushes}
use Rattle.drift_rules.proofs.Stack.{packets_move_as_characters}
use Rattle.page_index.specs.Document.{font_table}
use Rattle.pk_runs.specs.declared.glyph.Glyph.{Glyph}
use Rattle.vf_reader.specs.Programs.{AreSoundFrom, command_fault, open_after}
use Rattle.vf_reader.proofs.Balanced.{commands_are}
use Rattle.font_decode.specs.Decoding.{IsFontOf}
use Rattle.font_decode.specs.Fonts.{FontValue, IsProgram, scaled_width_of, glyph_at, is_virtual_of, packet_of, local_of, first_local_of}
use Rattle.font_decode.specs.declared.font_or_fault.Decoded.{Decoded}
use Rattle.font_decode.specs.declared.font_or_fault.Decoded.TheVariants as decoded
use Rattle.font_decode.specs.declared.faults.FileKind.TheVariants.{Pk}
use Rattle.font_decode.specs.declared.faults.FontFault.{FontFault}
use Rattle.font_decode.specs.declared.faults.FontFault.TheVariants.{Missing}
use Rattle.font_decode.proofs.Programs.{HasPrograms, decoded_programs}
use Rattle.vf_expand.specs.Faults.{PageFaultValue, is_missing}
use Rattle.vf_expand.specs.Faults as fault
use Rattle.vf_expand.specs.Course.{Place, OnPage, InPacket, Current, NoFont, Chosen, Known, advance_of, bare_advance, current_of, first_font, local_key, no_local, number_of}
use Rattle.vf_expand.specs.Members.{Member, Flat, LookUp, Lack}
use Rattle.vf_expand.specs.PageLists.{Fonts, Outcome, Goes, Faults, Packets, go_on, in_packet_level, leave_members, of_change, of_character, of_command, of_decoded, of_fault, of_font, of_glyph, of_kind, of_lack, of_list, of_packet, of_virtual, of_width, outcome_after, packets_in}
use Rattle.vf_expand.specs.Packets.{CharactersMoveAsPacked, PacketsAreBalanced, flats_of}

-- ---- how many pushes are open along flat commands

-- n are open before them, and m after them; no pop finds none
abbrev Opens : ℕ → List FlatCommand → ℕ → Type 0
Opens n [] m = n ≡ m
Opens n (f ∷ flats) m = (k : ℕ) × (cond (is_pop f) 1 0 ≤ n) × (k + cond (is_pop f) 1 0 ≡ n + cond (is_push f) 1 0) × Opens k flats m

opens_both : (n k m : ℕ) (a b : List FlatCommand) → Opens n a k → Opens k b m → Opens n (a ++ b) m
opens_both n k m [] b first second = subst (λ (x : ℕ). Opens x b m) (sym first) second
opens_both n k m (f ∷ a) b first second = (first.0, first.1, first.2, opens_both first.0 k m a b first.3 second)

-- a flat command that neither saves nor restores
neither : (n : ℕ) → (k : ℕ) × (0 ≤ n) × (k + 0 ≡ n + 0) × (k ≡ n)
neither n = (n, omega arith, refl, refl)

-- where more are open before
opens_inside : (more n m before after : ℕ) (flats : List FlatCommand) → before ≡ more + n → after ≡ more + m → Opens n flats m → Opens before flats after
opens_inside more n m before after [] b a h = omega (arith, b, a, h)
opens_inside more n m before after (f ∷ flats) b a h =
    (more + h.0, omega (arith, b, h.1), omega (arith, b, h.2), opens_inside more h.0 m (more + h.0) after flats refl a h.3)

pushes_cons : (f : FlatCommand) (flats : List FlatCommand) → pushes (f ∷ flats) ≡ cond (is_push f) 1 0 + pushes flats
pushes_cons f flats = sum_by-cons (λ x. cond (is_push x) 1 0) f flats

pops_cons : (f : FlatCommand) (flats : List FlatCommand) → pops (f ∷ flats) ≡ cond (is_pop f) 1 0 + pops flats
pops_cons f flats = sum_by-cons (λ x. cond (is_pop x) 1 0) f flats

few_pops : (n m : ℕ) (flats first rest : List FlatCommand) → flats ≡ first ++ rest → Opens n flats m → pops first ≤ pushes first + n
few_pops n m flats [] rest e h = omega arith
few_pops n m [] (g ∷ first) rest e h = absurd cc
few_pops n m (f ∷ flats) (g ∷ first) rest e h =
    let same : f ≡ g = cc in
    let later : flats ≡ first ++ rest = cc in
    let older = few_pops h.0 m flats first rest later h.3 in
    let fewer : pops (f ∷ first) ≤ pushes (f ∷ first) + n = omega (arith, older, h.1, h.2, pushes_cons f first, pops_cons f first) in
    subst (λ (x : FlatCommand). pops (x ∷ first) ≤ pushes (x ∷ first) + n) same fewer

as_many_pops : (n m : ℕ) (flats : List FlatCommand) → Opens n flats m → pops flats + m ≡ pushes flats + n
as_many_pops n m [] h = omega (arith, h)
as_many_pops n m (f ∷ flats) h = omega (arith, as_many_pops h.0 m flats h.3, h.2, pushes_cons f flats, pops_cons f flats)

is_balanced : (flats : List FlatCommand) → Opens 0 flats 0 → IsBalanced flats
is_balanced flats h = record {
  own = λ first rest e. omega (arith, few_pops 0 0 flats first rest e h);
  as_many = omega (arith, as_many_pops 0 0 flats h);
}

-- ---- what commands give

-- the font that is current has programs, where it was found
abbrev IsRight : Current → Type 0
IsRight NoFont = Unit {0}
IsRight (Chosen k) = Unit {0}
IsRight (Known k d) = HasPrograms d

-- where it comes to no fault
abbrev Leaves : ℕ → ℕ → Outcome → Type 0
Leaves n m (Goes members next) = Opens n (flats_of members) m × IsRight next
Leaves n m (Faults members f) = Unit {0}

flats_append : (a b : List Member) → flats_of (a ++ b) ≡ flats_of a ++ flats_of b
flats_append [] b = refl
flats_append (Flat f g at ∷ a) b = ap (λ (flats : List FlatCommand). f ∷ flats) (flats_append a b)
flats_append (LookUp k at ∷ a) b = flats_append a b
flats_append (Lack f at ∷ a) b = flats_append a b

members_both : (n k m : ℕ) (a b : List Member) → Opens n (flats_of a) k → Opens k (flats_of b) m → Opens n (flats_of (a ++ b)) m
members_both n k m a b first second = subst (λ (flats : List FlatCommand). Opens n flats m) (sym (flats_append a b)) (opens_both n k m (flats_of a) (flats_of b) first second)

leaves_after : (n k m : ℕ) (members : List Member) (o : Outcome) → Opens n (flats_of members) k → Leaves k m o → Leaves n m (outcome_after members o)
leaves_after n k m first (Goes members next) h o = (members_both n k m first members h o.0, o.1)
leaves_after n k m first (Faults members f) h o = tt

leaves_on : (n k m : ℕ) (o : Outcome) (others : Current → Outcome) → Leaves n k o → ((next : Current) → IsRight next → Leaves k m (others next)) → Leaves n m (go_on o others)
leaves_on n k m (Goes members next) others h rest = leaves_after n k m members (others next) h.0 (rest next h.1)
leaves_on n k m (Faults members f) others h rest = tt

-- ---- a packet of a character

-- the packets that may stand inside are balanced
abbrev AreBalanced : Packets → Type 0
AreBalanced None = Unit {0}
AreBalanced (Some inner) = (k : FontKey) (f : FontValue) (c : ℕ) (text : List ℕ) → HasPrograms (decoded.Font f) → IsProgram c text → Leaves 0 0 (inner k f (commands_of text))

leaves_level : (n at : ℕ) (advance : Option ℤ) → Opens (suc n) (flats_of (leave_members advance at)) n
leaves_level n at None = (n, omega arith, omega arith, refl)
leaves_level n at (Some width) = (n, omega arith, omega arith, neither n)

packet_leaves : (n at : ℕ) (current : Current) (advance : Option ℤ) (o : Outcome) → IsRight current → Leaves 0 0 o → Leaves n n (in_packet_level at current advance o)
packet_leaves n at current advance (Goes members last) right o = (
  (
    suc n,
    omega arith,
    omega arith,
    members_both (suc n) (suc n) n members (leave_members advance at) (opens_inside (suc n) 0 0 (suc n) (suc n) (flats_of members) (omega arith) (omega arith) o.0) (leaves_level n at advance),
  ),
  right,
)
packet_leaves n at current advance (Faults members f) right o = tt

-- what comes in place of a character saves and restores nothing
lack_leaves : (t : Bool) (n at : ℕ) (f : PageFaultValue) (advance : Option ℤ) (current : Current) → IsRight current → Leaves n n (of_lack t at f advance current)
lack_leaves true n at f None current right = (neither n, right)
lack_leaves true n at f (Some width) current right = (neither n, right)
lack_leaves false n at f advance current right = tt

module _ (t : Bool) (fonts : Fonts) (found : (k : FontKey) → HasPrograms (fonts k)) where
  module _ (packets : Packets) (deep : AreBalanced packets) (n at : ℕ) where
    text_leaves : (inner : FontKey → FontValue → List DviCommand → Outcome) → AreBalanced (Some inner) → (k : FontKey) (f : FontValue) (c : ℤ) (advance : Option ℤ) (text : Option (List ℕ)) → HasPrograms (decoded.Font f)
        → IfSome text (IsProgram (number_of c)) → Leaves n n (of_packet t inner at k f c advance text)
    text_leaves inner balanced k f c advance None right is = lack_leaves t n at (fault.NoPacket k c) advance (Known k (decoded.Font f)) right
    text_leaves inner balanced k f c advance (Some text) right is =
        packet_leaves n at (Known k (decoded.Font f)) advance (inner k f (commands_of text)) right (balanced k f (number_of c) text right is)

    virtual_leaves : (p : Packets) → AreBalanced p → (k : FontKey) (f : FontValue) (c : ℤ) (advance : Option ℤ) → HasPrograms (decoded.Font f) → Leaves n n (of_virtual t p at k f c advance)
    virtual_leaves None balanced k f c advance right = tt
    virtual_leaves (Some inner) balanced k f c advance right = text_leaves inner balanced k f c advance (packet_of f (number_of c)) right (right (number_of c))

    glyph_leaves : (k : FontKey) (d : Decoded) (c width : ℤ) (put : Bool) (glyph : Option Glyph) → HasPrograms d → Leaves n n (of_glyph t at k d c width put glyph)
    glyph_leaves k d c width put None right = lack_leaves t n at (fault.NoGlyph k c) (advance_of width put) (Known k d) right
    glyph_leaves k d c width put (Some g) right = (neither n, right)

    kind_leaves : (k : FontKey) (f : FontValue) (c width : ℤ) (put virtual : Bool) → HasPrograms (decoded.Font f) → Leaves n n (of_kind t packets at k f c width put virtual)
    kind_leaves k f c width put false right = glyph_leaves k (decoded.Font f) c width put (glyph_at f (number_of c)) right
    kind_leaves k f c width put true right = virtual_leaves packets deep k f c (advance_of width put) right

    width_leaves : (k : FontKey) (f : FontValue) (c : ℤ) (put : Bool) (width : Option ℤ) → HasPrograms (decoded.Font f) → Leaves n n (of_width t packets at k f c put width)
    width_leaves k f c put None right = lack_leaves t n at (fault.NoCharacter k c) None (Known k (decoded.Font f)) right
    width_leaves k f c put (Some width) right = kind_leaves k f c width put (is_virtual_of f) right

    fault_leaves : (k : FontKey) (f : FontFault) (b : Bool) → Leaves n n (of_fault t at k f b)
    fault_leaves k f true = lack_leaves t n at (fault.Font k f) None (Known k (decoded.Fault f)) tt
    fault_leaves k f false = tt

    decoded_leaves : (k : FontKey) (d : Decoded) (c : ℤ) (put : Bool) → HasPrograms d → Leaves n n (of_decoded t packets at k d c put)
    decoded_leaves k (decoded.Fault f) c put right = fault_leaves k f (is_missing f)
    decoded_leaves k (decoded.Bare f) c put right =
        lack_leaves t n at (fault.Font k (Missing Pk)) (bare_advance (scaled_width_of f c) put) (Known k (decoded.Bare f)) right
    decoded_leaves k (decoded.Font f) c put right = width_leaves k f c put (scaled_width_of f c) right

    character_leaves : (place : Place) (current : Current) (c : ℤ) (put : Bool) → IsRight current → Leaves n n (of_character t fonts packets place at current c put)
    character_leaves place NoFont c put right = tt
    character_leaves place (Chosen k) c put right = leaves_after n n n (LookUp k at ∷ []) (of_decoded t packets at k (fonts k) c put) refl (decoded_leaves k (fonts k) c put (found k))
    character_leaves place (Known k d) c put right = decoded_leaves k d c put right

    change_leaves : (f : PageFaultValue) (k : Option FontKey) → Leaves n n (of_change at f k)
    change_leaves f None = tt
    change_leaves f (Some k) = (neither n, tt)

    font_leaves : (place : Place) (number : ℤ) → Leaves n n (of_font place at number)
    font_leaves (OnPage reading) number = change_leaves (fault.NoFont number) (font_table reading number)
    font_leaves (InPacket k f) number = change_leaves (no_local k (first_local_of f) number) (local_of f number)

  command_leaves : (packets : Packets) → AreBalanced packets → (code n at : ℕ) (place : Place) (current : Current) (c : DviCommand) → IsRight current → command_fault code n c ≡ None
      → Leaves n (open_after n c) (of_command t fonts packets place at current c)
  command_leaves packets deep code n at place current (Set c) right sound = character_leaves packets deep n at place current c false right
  command_leaves packets deep code n at place current (Put c) right sound = character_leaves packets deep n at place current c true right
  command_leaves packets deep code n at place current (Font number) right sound = font_leaves packets deep n at place number
  command_leaves packets deep code n at place current Push right sound = ((suc n, omega arith, omega arith, refl), right)
  command_leaves packets deep code zero at place current Pop right sound = absurd cc
  command_leaves packets deep code (suc n) at place current Pop right sound = ((n, omega arith, omega arith, omega arith), right)
  command_leaves packets deep code n at place current (SetRule a b) right sound = (neither n, right)
  command_leaves packets deep code n at place current (PutRule a b) right sound = (neither n, right)
  command_leaves packets deep code n at place current (Right b) right sound = (neither n, right)
  command_leaves packets deep code n at place current (W b) right sound = (neither n, right)
  command_leaves packets deep code n at place current (X b) right sound = (neither n, right)
  command_leaves packets deep code n at place current (Down a) right sound = (neither n, right)
  command_leaves packets deep code n at place current (Y a) right sound = (neither n, right)
  command_leaves packets deep code n at place current (Z a) right sound = (neither n, right)
  command_leaves packets deep code n at place current W0 right sound = (neither n, right)
  command_leaves packets deep code n at place current X0 right sound = (neither n, right)
  command_leaves packets deep code n at place current Y0 right sound = (neither n, right)
  command_leaves packets deep code n at place current Z0 right sound = (neither n, right)
  command_leaves packets deep code n at place current _ right sound = (neither n, right)

  list_leaves : (packets : Packets) → AreBalanced packets → (code n at : ℕ) (place : Place) (commands : List DviCommand) (text : List ℕ) (current : Current) → AreSoundFrom code n commands text → IsRight current
      → Leaves n 0 (of_list (of_command t fonts packets place at) current commands)
  list_leaves packets deep code n at place [] text current sound right = (sound.1, right)
  list_leaves packets deep code n at place (c ∷ commands) text current sound right =
      leaves_on n (open_after n c) 0 (of_command t fonts packets place at current c) (λ next. of_list (of_command t fonts packets place at) next commands)
      (command_leaves packets deep code n at place current c right sound.3)
      (λ next known. list_leaves packets deep code (open_after n c) at place commands sound.1 next sound.4 known)

  right_first : (f : FontValue) → IsRight (first_font f)
  right_first f = by (local_key f (first_local_of f))
    where
      by : (k : Option FontKey) → IsRight (current_of k)
      by None = tt
      by (Some k) = tt

  one_packet : (packets : Packets) → AreBalanced packets → (at : ℕ) (k : FontKey) (f : FontValue) (c : ℕ) (text : List ℕ) → IsProgram c text
      → Leaves 0 0 (of_list (of_command t fonts packets (InPacket k f) at) (first_font f) (commands_of text))
  one_packet packets deep at k f c text is =
      subst (λ (commands : List DviCommand). Leaves 0 0 (of_list (of_command t fonts packets (InPacket k f) at) (first_font f) commands)) (sym (commands_are c 0 is.0 text is.1))
      (list_leaves packets deep c 0 at (InPacket k f) is.0 text (first_font f) is.1 (right_first f))

  all_balanced : (n at : ℕ) → AreBalanced (packets_in t fonts n at)
  unfolding packets_in
  all_balanced zero at = tt
  all_balanced (suc n) at = λ k f c text right is. one_packet (packets_in t fonts n at) (all_balanced n at) at k f c text is

-- ---- the laws

programs_of : (known : Option library.FileTable) (u : Units) (k : FontKey) (d : Decoded) → IsFontOf known (Some u) k d → HasPrograms d
programs_of None u k d is = decoded_programs u k is.files d is.decoding
programs_of (Some l) u k d is = decoded_programs u k is.files d is.decoding

pub packets_are_balanced : PacketsAreBalanced
packets_are_balanced fonts members h =
    let found = λ (k : FontKey). programs_of h.known h.units k (fonts k) (h.found k) in
    let program : IsProgram h.code h.packet = subst (λ (o : Option (List ℕ)). IfSome o (IsProgram h.code)) h.here (programs_of h.known h.units h.key (decoded.Font h.font) h.is_font h.code) in
    let leaves = one_packet h.tolerant fonts found (packets_in h.tolerant fonts h.inside h.at) (all_balanced h.tolerant fonts found h.inside h.at) h.at h.key h.font h.code h.packet program in
    let gone : Leaves 0 0 (Goes members h.last) = subst (Leaves 0 0) h.gives leaves in
    is_balanced (flats_of members) gone.0

pub characters_move_as_packed : CharactersMoveAsPacked
characters_move_as_packed c s t fonts members key code width h leads = packets_move_as_characters c s t (flats_of members) key code width (packets_are_balanced fonts members h) leads
