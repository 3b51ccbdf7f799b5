-- The worked packets, from the definition.
use Rattle.std.proofs.Common.{◌≡◌, ℕ, zero, suc, ◌/◌, ℤ, pos, negsuc, Bool, true, false, List, [], ◌∷◌, ◌++◌, refl, ap, ◌∙◌, Option, Some, None}
use Rattle.outside.specs.declared.keys.FontKey.{FontKey}
use Rattle.fix_word.specs.Scale.{scale}
use Rattle.dvi_commands.specs.Spelling.{DviCommand, Font, Pop, Push, Put, Right, Set, SetRule}
use Rattle.dvi_commands.specs.Reading.{Placed, placed, commands_of}
use Rattle.drift_rules.specs.Position as flat
use Rattle.page_index.specs.Document.{Reading, font_table}
use Rattle.pk_runs.specs.declared.glyph.Glyph.{Glyph}
use Rattle.font_decode.specs.Fonts.{FontValue, first_local_of, local_of}
use Rattle.font_decode.specs.declared.font_or_fault.Decoded.{Decoded}
use Rattle.font_decode.specs.declared.font_or_fault.Decoded.TheVariants as decoded
use Rattle.vf_expand.specs.Faults.{Depth}
use Rattle.vf_expand.specs.Faults as fault
use Rattle.vf_expand.specs.Course.{Current, Known, NoFont, Chosen, InPacket, current_of, first_font, advance_of, local_key, no_local}
use Rattle.vf_expand.specs.Limits.{MAX_DEPTH}
use Rattle.vf_expand.specs.Members.{Member, Flat, LookUp}
use Rattle.vf_expand.specs.PageLists.{AtFault, Fonts, Outcome, Goes, Faults, Packets, outcome_after, go_on, in_packet_level, full_list, list_of_outcome, of_change, of_command, of_decoded, of_kind, of_list, of_packet, of_virtual, of_width, packets_in}
use Rattle.vf_expand.specs.Laws.{HasGlyph, HasPacket, LoopsAreTooDeep, ThePacketIsWorked, a_packet, nested_entries, packet_members}
use Rattle.vf_expand.proofs.WorkedPage.{gives_glyph, goes}

-- a virtual character of the font that was found
virtual_found : (t : Bool) (packets : Packets) (at : ℕ) (k local : FontKey) (f : FontValue) (wide : ℤ) (text : List ℕ) (put : Bool) → HasPacket f wide text local
    → of_decoded t packets at k (decoded.Font f) (pos 65) put ≡ of_virtual t packets at k f (pos 65) (advance_of wide put)
virtual_found t packets at k local f wide text put has =
    ap (of_width t packets at k f (pos 65) put) has.width ∙ ap (of_kind t packets at k f (pos 65) wide put) has.virtual

-- the first local font
begins : (k local : FontKey) (f : FontValue) (wide : ℤ) (text : List ℕ) → HasPacket f wide text local → first_font f ≡ Chosen local
begins k local f wide text has = ap (λ (o : Option ℤ). current_of (local_key f o)) has.first ∙ ap current_of has.key

abbrev at_the_end : List DviCommand
at_the_end = Set (pos 65) ∷ Push ∷ Pop ∷ []

abbrev after_the_first : List DviCommand
after_the_first = Right (negsuc 0) ∷ Right (pos 524288) ∷ SetRule (pos 262144) (pos 393216) ∷ Font (pos 1) ∷ at_the_end

the_commands : commands_of a_packet ≡ Set (pos 65) ∷ after_the_first
unfolding commands_of
the_commands = refl

one_command : commands_of (65 ∷ []) ≡ Set (pos 65) ∷ []
unfolding commands_of
one_command = refl

module _ (t : Bool) (fonts : Fonts) (reading : Reading) (k local : FontKey) (f : FontValue) where
  -- a packet of a font, where there is room for it
  packet_is : (n at : ℕ) (wide : ℤ) (text : List ℕ) (advance : Option ℤ) → HasPacket f wide text local
      → of_virtual t (packets_in t fonts (suc n) at) at k f (pos 65) advance
      ≡ in_packet_level at (Known k (decoded.Font f)) advance (of_list (of_command t fonts (packets_in t fonts n at) (InPacket k f) at) (Chosen local) (commands_of text))
  unfolding packets_in
  packet_is n at wide text advance has =
      let one = of_command t fonts (packets_in t fonts n at) (InPacket k f) at in
      ap (of_packet t (λ l g commands. of_list (of_command t fonts (packets_in t fonts n at) (InPacket l g) at) (first_font g) commands) at k f (pos 65) advance) has.packet
      ∙ ap (λ (c : Current). in_packet_level at (Known k (decoded.Font f)) advance (of_list one c (commands_of text))) (begins k local f wide text has)

  module _ (other : FontKey) (l m : FontValue) (g h : Glyph) (sized : f.size ≡ 128) (has : HasPacket f (pos 6) a_packet local) (second : local_of f (pos 1) ≡ Some other)
      (first_has : HasGlyph fonts local l (pos 3) g) (second_has : HasGlyph fonts other m (pos 5) h) where
    abbrev first_known : Current
    first_known = Known local (decoded.Font l)

    abbrev second_known : Current
    second_known = Known other (decoded.Font m)

    abbrev last_members : ℕ → List Member
    last_members at = LookUp other at ∷ Flat (flat.Char other 65 (pos 5) false) (Some h) at ∷ Flat flat.Push None at ∷ Flat flat.Pop None at ∷ []

    -- what stands between the two characters, at a size
    abbrev scaled_members : ℕ → ℕ → List Member
    scaled_members at size = Flat (flat.Right (scale (negsuc 0) size) (pos (local.size / 6))) None at ∷ Flat (flat.Right (scale (pos 524288) size) (pos (local.size / 6))) None at
        ∷ Flat (flat.Rule (scale (pos 262144) size) (scale (pos 393216) size) false) None at ∷ []

    abbrev moved_after : ℕ → ℕ → Outcome → Outcome
    moved_after at size o =
        outcome_after (Flat (flat.Right (scale (negsuc 0) size) (pos (local.size / 6))) None at ∷ [])
        (outcome_after (Flat (flat.Right (scale (pos 524288) size) (pos (local.size / 6))) None at ∷ [])
        (outcome_after (Flat (flat.Rule (scale (pos 262144) size) (scale (pos 393216) size) false) None at ∷ []) o))

    abbrev members_at : ℕ → ℕ → List Member
    members_at at size = LookUp local at ∷ Flat (flat.Char local 65 (pos 3) false) (Some g) at ∷ scaled_members at size ++ (Flat flat.Skip None at ∷ last_members at)

    the_second : (packets : Packets) (at : ℕ) → of_list (of_command t fonts packets (InPacket k f) at) (Chosen other) at_the_end ≡ Goes (last_members at) second_known
    the_second packets at =
        let one = of_command t fonts packets (InPacket k f) at in
        ap (λ (d : Decoded). go_on (outcome_after (LookUp other at ∷ []) (of_decoded t packets at other d (pos 65) false)) (λ next. of_list one next (Push ∷ Pop ∷ []))) second_has.found
        ∙ ap (λ (o : Outcome). go_on (outcome_after (LookUp other at ∷ []) o) (λ next. of_list one next (Push ∷ Pop ∷ []))) (gives_glyph t packets at other m h (pos 5) false second_has.width second_has.glyph)

    the_change : (packets : Packets) (at : ℕ) → of_list (of_command t fonts packets (InPacket k f) at) first_known (Font (pos 1) ∷ at_the_end)
        ≡ Goes (Flat flat.Skip None at ∷ last_members at) second_known
    the_change packets at =
        let one = of_command t fonts packets (InPacket k f) at in
        ap (λ (o : Option FontKey). go_on (of_change at (no_local k (first_local_of f) (pos 1)) o) (λ next. of_list one next at_the_end)) second
        ∙ ap (outcome_after (Flat flat.Skip None at ∷ [])) (the_second packets at)

    in_the_packet : (packets : Packets) (at : ℕ) → of_list (of_command t fonts packets (InPacket k f) at) (Chosen local) (commands_of a_packet) ≡ Goes (members_at at 128) second_known
    in_the_packet packets at =
        let one = of_command t fonts packets (InPacket k f) at in
        ap (of_list one (Chosen local)) the_commands
        ∙ ap (λ (d : Decoded). go_on (outcome_after (LookUp local at ∷ []) (of_decoded t packets at local d (pos 65) false)) (λ next. of_list one next after_the_first)) first_has.found
        ∙ ap (λ (o : Outcome). go_on (outcome_after (LookUp local at ∷ []) o) (λ next. of_list one next after_the_first)) (gives_glyph t packets at local l g (pos 3) false first_has.width first_has.glyph)
        ∙ ap (λ (o : Outcome). outcome_after (LookUp local at ∷ Flat (flat.Char local 65 (pos 3) false) (Some g) at ∷ []) (moved_after at f.size o)) (the_change packets at)
        ∙ ap (λ (n : ℕ). Goes (members_at at n) second_known) sized

    whole : (at : ℕ) (put : Bool) → of_decoded t (packets_in t fonts MAX_DEPTH at) at k (decoded.Font f) (pos 65) put
        ≡ in_packet_level at (Known k (decoded.Font f)) (advance_of (pos 6) put) (Goes (members_at at 128) second_known)
    whole at put =
        virtual_found t (packets_in t fonts MAX_DEPTH at) at k local f (pos 6) a_packet put has ∙ packet_is 9 at (pos 6) a_packet (advance_of (pos 6) put) has
        ∙ ap (in_packet_level at (Known k (decoded.Font f)) (advance_of (pos 6) put)) (in_the_packet (packets_in t fonts 9 at) at)

-- where the page's font has no other packet
module _ (t : Bool) (fonts : Fonts) (k : FontKey) (f : FontValue) (found : fonts k ≡ decoded.Font f) (has : HasPacket f (pos 8) (65 ∷ []) k) where
  deep : ℕ → ℕ → List Member
  deep at zero = []
  deep at (suc n) = Flat flat.Enter None at ∷ LookUp k at ∷ deep at n

  no_room : (at : ℕ) → of_virtual t (packets_in t fonts zero at) at k f (pos 65) (Some (pos 8)) ≡ Faults [] (Depth k (pos 65))
  unfolding packets_in
  no_room at = refl

  too_deep : (reading : Reading) (n at : ℕ) → of_decoded t (packets_in t fonts n at) at k (decoded.Font f) (pos 65) false ≡ Faults (deep at n) (Depth k (pos 65))
  unfolding deep
  too_deep reading zero at = virtual_found t (packets_in t fonts zero at) at k k f (pos 8) (65 ∷ []) false has ∙ no_room at
  too_deep reading (suc n) at =
      let one = of_command t fonts (packets_in t fonts n at) (InPacket k f) at in
      let outer = in_packet_level at (Known k (decoded.Font f)) (Some (pos 8)) in
      virtual_found t (packets_in t fonts (suc n) at) at k k f (pos 8) (65 ∷ []) false has
      ∙ packet_is t fonts reading k k f n at (pos 8) (65 ∷ []) (Some (pos 8)) has
      ∙ ap (λ (commands : List DviCommand). outer (of_list one (Chosen k) commands)) one_command
      ∙ ap (λ (d : Decoded). outer (go_on (outcome_after (LookUp k at ∷ []) (of_decoded t (packets_in t fonts n at) at k d (pos 65) false)) (λ next. of_list one next []))) found
      ∙ ap (λ (o : Outcome). outer (go_on (outcome_after (LookUp k at ∷ []) o) (λ next. of_list one next []))) (too_deep reading n at)

  deep_entered : (at n : ℕ) → LookUp k at ∷ deep at n ≡ nested_entries k at n ++ (LookUp k at ∷ [])
  unfolding deep
  deep_entered at zero = refl
  deep_entered at (suc n) = ap (λ (members : List Member). LookUp k at ∷ Flat flat.Enter None at ∷ members) (deep_entered at n)

abbrev last : List Placed
last = placed 83 (Right (pos 9)) (143 ∷ 9 ∷ []) ∷ []

abbrev from_82 : List Placed
from_82 = placed 82 (Put (pos 65)) (133 ∷ 65 ∷ []) ∷ last

abbrev from_81 : List Placed
from_81 = placed 81 (Set (pos 65)) (65 ∷ []) ∷ from_82

changes : (reading : Reading) (k : FontKey) (at : ℕ) → font_table reading (pos 0) ≡ Some k
    → of_change at (fault.NoFont (pos 0)) (font_table reading (pos 0)) ≡ Goes (Flat flat.Skip None at ∷ []) (Chosen k)
changes reading k at table = ap (of_change at (fault.NoFont (pos 0))) table

pub the_packet_is_worked : ThePacketIsWorked
the_packet_is_worked t fonts reading k local other f l m g h table sized found has second first_has second_has =
    let known = Known k (decoded.Font f) in
    let packet = packet_members local g other h in
    let set = ap (λ (d : Decoded). outcome_after (LookUp k 81 ∷ []) (of_decoded t (packets_in t fonts MAX_DEPTH 81) 81 k d (pos 65) false)) found
    ∙ ap (outcome_after (LookUp k 81 ∷ [])) (whole t fonts reading k local f other l m g h sized has second first_has second_has 81 false) in
    let put = whole t fonts reading k local f other l m g h sized has second first_has second_has 82 true in
    goes t fonts reading 85 (placed 80 (Font (pos 0)) (171 ∷ [])) from_81 NoFont (Chosen k) (Flat flat.Skip None 80 ∷ []) _ (changes reading k 80 table)
    (goes t fonts reading 85 (placed 81 (Set (pos 65)) (65 ∷ [])) from_82 (Chosen k) known (LookUp k 81 ∷ packet 81 ++ (Flat (flat.Advance (pos 6)) None 81 ∷ [])) _ set
    (goes t fonts reading 85 (placed 82 (Put (pos 65)) (133 ∷ 65 ∷ [])) last known known (packet 82) _ put
    (goes t fonts reading 85 (placed 83 (Right (pos 9)) (143 ∷ 9 ∷ [])) [] known known (Flat (flat.Right (pos 9) (pos (k.size / 6))) None 83 ∷ []) _ refl refl)))

pub loops_are_too_deep : LoopsAreTooDeep
loops_are_too_deep t fonts reading k f table found has =
    let set = ap (λ (d : Decoded). outcome_after (LookUp k 81 ∷ []) (of_decoded t (packets_in t fonts MAX_DEPTH 81) 81 k d (pos 65) false)) found
    ∙ ap (outcome_after (LookUp k 81 ∷ [])) (too_deep t fonts k f found has reading MAX_DEPTH 81) in
    let all = goes t fonts reading 85 (placed 80 (Font (pos 0)) (171 ∷ [])) from_81 NoFont (Chosen k) (Flat flat.Skip None 80 ∷ []) _ (changes reading k 80 table)
    (ap (λ (o : Outcome). list_of_outcome 81 o (λ now. full_list t fonts reading 85 now from_82)) set) in
    all ∙ ap (λ (members : List Member). record { members = Flat flat.Skip None 80 ∷ members; ending = AtFault (Depth k (pos 65)) 81 }) (deep_entered t fonts k f found has 81 MAX_DEPTH)
