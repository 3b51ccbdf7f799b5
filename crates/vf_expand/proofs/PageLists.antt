-- A page's course comes to its list.
use Rattle.std.proofs.Common.{◌≡◌, ℕ, zero, suc, ℤ, Bool, true, false, List, [], ◌∷◌, ◌++◌, refl, sym, ap, subst, ◌∙◌, Option, Some, None, append_assoc}
use Rattle.std.specs.Prelude.{unwrap_or}
use Rattle.outside.specs.declared.keys.FontKey.{FontKey}
use Rattle.dvi_commands.specs.Spelling.{DviCommand, Set, Put, SetRule, PutRule, Push, Pop, Right, W0, W, X0, X, Down, Y0, Y, Z0, Z, Font}
use Rattle.dvi_commands.specs.Reading.{Placed, commands_of}
use Rattle.drift_rules.specs.Position as flat
use Rattle.page_index.specs.Document.{Reading, font_table}
use Rattle.page_index.specs.Pages.{eop_at, page_commands}
use Rattle.pk_runs.specs.declared.glyph.Glyph.{Glyph}
use Rattle.font_decode.specs.Decoding.{AreAlike}
use Rattle.font_decode.specs.Fonts.{FontValue, scaled_width_of, glyph_at, is_virtual_of, packet_of, local_of, first_local_of}
use Rattle.font_decode.specs.declared.font_or_fault.Decoded.{Decoded}
use Rattle.font_decode.specs.declared.font_or_fault.Decoded.TheVariants as decoded
use Rattle.font_decode.specs.declared.faults.FileKind.TheVariants.{Pk}
use Rattle.font_decode.specs.declared.faults.FontFault.{FontFault}
use Rattle.font_decode.specs.declared.faults.FontFault.TheVariants.{Missing}
use Rattle.vf_expand.specs.Faults.{PageFaultValue, is_missing}
use Rattle.vf_expand.specs.Faults as fault
use Rattle.vf_expand.specs.Course.{Course, Gives, Asks, Lacks, Ends, Stops, bare_advance, by_fault, lack_or_stop, lacking, Place, OnPage, InPacket, Current, NoFont, Chosen, Known, Deeper, changed_to, no_local, font_change, first_font, advance_of, leave, packet, virtual, number_of, with_glyph, by_kind, with_width, char_of_decoded, character, expand_one, expand_list, deeper, page_from, cut, course_of}
use Rattle.vf_expand.specs.Limits.{MAX_FLAT_COMMANDS}
use Rattle.vf_expand.specs.Limits.{MAX_DEPTH}
use Rattle.vf_expand.specs.Members.{Member, Flat, LookUp, Lack, Finding, Unfolds, looks_of}
use Rattle.vf_expand.specs.PageLists.{AtEnd, AtFault, Fonts, PageList, of_fault, of_lack, Outcome, Goes, Faults, list_after, no_more, list_of_outcome, up_to_limit, full_list, list_from, list_of, outcome_after, go_on, of_list, Packets, leave_members, in_packet_level, of_packet, of_virtual, of_glyph, of_kind, of_width, of_decoded, of_character, of_change, of_font, of_command, packets_in}
use Rattle.vf_expand.proofs.Similar.{Similar}

joined_same : (at : ℕ) (o : Outcome) (f g : Current → PageList) → ((next : Current) → f next ≡ g next) → list_of_outcome at o f ≡ list_of_outcome at o g
joined_same at (Goes members next) f g same = ap (list_after members) (same next)
joined_same at (Faults members fault) f g same = refl

before_both : (first second : List Member) (list : PageList) → list_after (first ++ second) list ≡ list_after first (list_after second list)
before_both first second list = ap (λ (members : List Member). record { members = members; ending = list.ending }) (append_assoc first second list.members)

after_joined : (at : ℕ) (members : List Member) (o : Outcome) (rest : Current → PageList) → list_of_outcome at (outcome_after members o) rest ≡ list_after members (list_of_outcome at o rest)
after_joined at first (Goes members next) rest = before_both first members (rest next)
after_joined at first (Faults members fault) rest = refl

followed_joined : (at : ℕ) (o : Outcome) (others : Current → Outcome) (rest : Current → PageList) → list_of_outcome at (go_on o others) rest ≡ list_of_outcome at o (λ next. list_of_outcome at (others next) rest)
followed_joined at (Goes members next) others rest = after_joined at members (others next) rest
followed_joined at (Faults members fault) others rest = refl

framed_joined : (at : ℕ) (current : Current) (advance : Option ℤ) (o : Outcome) (rest : Current → PageList)
    → list_of_outcome at (in_packet_level at current advance o) rest ≡ list_after (Flat flat.Enter None at ∷ []) (list_of_outcome at o (λ last. list_after (leave_members advance at) (rest current)))
framed_joined at current advance (Goes members last) rest = ap (list_after (Flat flat.Enter None at ∷ [])) (before_both members (leave_members advance at) (rest current))
framed_joined at current advance (Faults members fault) rest = refl

-- what is still to come, where lacks are tolerated or aren't
abbrev by_lack : Bool → PageFaultValue → ℕ → PageList → PageList
by_lack true f at rest = list_after (Lack f at ∷ []) rest
by_lack false f at rest = no_more (AtFault f at)

abbrev list_by : Bool → Fonts → Course → PageList
list_by t fonts (Gives f g at rest) = list_after (Flat f g at ∷ []) (list_by t fonts rest)
list_by t fonts (Asks k at rest) = list_after (LookUp k at ∷ []) (list_by t fonts (rest (fonts k)))
list_by t fonts (Lacks f at rest) = by_lack t f at (list_by t fonts rest)
list_by t fonts (Ends at) = no_more (AtEnd at)
list_by t fonts (Stops f at) = no_more (AtFault f at)

lack_joined : (t : Bool) (fonts : Fonts) (at : ℕ) (f : PageFaultValue) (advance : Option ℤ) (current : Current) (others : Current → Course)
    → list_by t fonts (lacking at f advance (others current)) ≡ list_of_outcome at (of_lack t at f advance current) (λ next. list_by t fonts (others next))
lack_joined true fonts at f advance current others = refl
lack_joined false fonts at f advance current others = refl

lack_limited : (fonts : Fonts) (t : Bool) (n : ℕ) (f : PageFaultValue) (at : ℕ) (x : Course) (list : PageList) → list_from fonts x ≡ up_to_limit (suc n) list.members list.ending
    → list_from fonts (lack_or_stop t f at x) ≡ up_to_limit (suc n) (by_lack t f at list).members (by_lack t f at list).ending
lack_limited fonts true n f at x list e = ap (list_after (Lack f at ∷ [])) e
lack_limited fonts false n f at x list e = refl

module _ (t : Bool) (fonts : Fonts) where
  leave_list : (advance : Option ℤ) (at : ℕ) (later : Course) → list_by t fonts (leave advance at later) ≡ list_after (leave_members advance at) (list_by t fonts later)
  leave_list None at later = refl
  leave_list (Some width) at later = refl

  -- packets come to their lists
  abbrev ArePackets : ℕ → Deeper → Packets → Type 0
  ArePackets at None None = Unit {0}
  ArePackets at (Some i) (Some p) = (k : FontKey) (f : FontValue) (commands : List DviCommand) (later : Course)
      → list_by t fonts (i k f commands later) ≡ list_of_outcome at (p k f commands) (λ last. list_by t fonts later)
  ArePackets at _ _ = ⊥

  packet_joined : (at : ℕ) (i : FontKey → FontValue → List DviCommand → Course → Course) (p : FontKey → FontValue → List DviCommand → Outcome) → ArePackets at (Some i) (Some p)
      → (others : Current → Course) (k : FontKey) (f : FontValue) (c : ℤ) (advance : Option ℤ) (text : Option (List ℕ))
      → list_by t fonts (packet i at k f c advance text (others (Known k (decoded.Font f)))) ≡ list_of_outcome at (of_packet t p at k f c advance text) (λ next. list_by t fonts (others next))
  packet_joined at i p deep others k f c advance None = lack_joined t fonts at (fault.NoPacket k c) advance (Known k (decoded.Font f)) others
  packet_joined at i p deep others k f c advance (Some text) =
      let later = others (Known k (decoded.Font f)) in
      let inside = p k f (commands_of text) in
      ap (list_after (Flat flat.Enter None at ∷ [])) (deep k f (commands_of text) (leave advance at later)
      ∙ joined_same at inside (λ last. list_by t fonts (leave advance at later)) (λ last. list_after (leave_members advance at) (list_by t fonts later)) (λ last. leave_list advance at later))
      ∙ sym (framed_joined at (Known k (decoded.Font f)) advance inside (λ next. list_by t fonts (others next)))

  virtual_joined : (at : ℕ) (d : Deeper) (p : Packets) → ArePackets at d p → (others : Current → Course) (k : FontKey) (f : FontValue) (c : ℤ) (advance : Option ℤ)
      → list_by t fonts (virtual d at k f c advance (others (Known k (decoded.Font f)))) ≡ list_of_outcome at (of_virtual t p at k f c advance) (λ next. list_by t fonts (others next))
  virtual_joined at None None deep others k f c advance = refl
  virtual_joined at None (Some p) deep others k f c advance = absurd deep
  virtual_joined at (Some i) None deep others k f c advance = absurd deep
  virtual_joined at (Some i) (Some p) deep others k f c advance = packet_joined at i p deep others k f c advance (packet_of f (number_of c))

  -- ---- one command

  module _ (at : ℕ) (d : Deeper) (p : Packets) (deep : ArePackets at d p) (others : Current → Course) where
    abbrev rest : Current → PageList
    rest next = list_by t fonts (others next)

    glyph_joined : (k : FontKey) (char_of_decoded : Decoded) (c width : ℤ) (put : Bool) (glyph : Option Glyph)
        → list_by t fonts (with_glyph at k c width put glyph (others (Known k char_of_decoded))) ≡ list_of_outcome at (of_glyph t at k char_of_decoded c width put glyph) rest
    glyph_joined k char_of_decoded c width put None = lack_joined t fonts at (fault.NoGlyph k c) (advance_of width put) (Known k char_of_decoded) others
    glyph_joined k char_of_decoded c width put (Some g) = refl

    kind_joined : (k : FontKey) (f : FontValue) (c width : ℤ) (put is_virtual : Bool)
        → list_by t fonts (by_kind d at k f c width put is_virtual (others (Known k (decoded.Font f)))) ≡ list_of_outcome at (of_kind t p at k f c width put is_virtual) rest
    kind_joined k f c width put false = glyph_joined k (decoded.Font f) c width put (glyph_at f (number_of c))
    kind_joined k f c width put true = virtual_joined at d p deep others k f c (advance_of width put)

    width_joined : (k : FontKey) (f : FontValue) (c : ℤ) (put : Bool) (width : Option ℤ)
        → list_by t fonts (with_width d at k f c put width (others (Known k (decoded.Font f)))) ≡ list_of_outcome at (of_width t p at k f c put width) rest
    width_joined k f c put None = lack_joined t fonts at (fault.NoCharacter k c) None (Known k (decoded.Font f)) others
    width_joined k f c put (Some width) = kind_joined k f c width put (is_virtual_of f)

    fault_joined : (k : FontKey) (f : FontFault) (b : Bool) → list_by t fonts (by_fault at k f b (others (Known k (decoded.Fault f)))) ≡ list_of_outcome at (of_fault t at k f b) rest
    fault_joined k f true = lack_joined t fonts at (fault.Font k f) None (Known k (decoded.Fault f)) others
    fault_joined k f false = refl

    found_joined : (k : FontKey) (it : Decoded) (c : ℤ) (put : Bool) → list_by t fonts (char_of_decoded d at k it c put (others (Known k it))) ≡ list_of_outcome at (of_decoded t p at k it c put) rest
    found_joined k (decoded.Fault f) c put = fault_joined k f (is_missing f)
    found_joined k (decoded.Bare f) c put =
        lack_joined t fonts at (fault.Font k (Missing Pk)) (bare_advance (scaled_width_of f c) put) (Known k (decoded.Bare f)) others
    found_joined k (decoded.Font f) c put = width_joined k f c put (scaled_width_of f c)

    character_joined : (place : Place) (current : Current) (c : ℤ) (put : Bool)
        → list_by t fonts (character d place at current c put others) ≡ list_of_outcome at (of_character t fonts p place at current c put) rest
    character_joined place NoFont c put = refl
    character_joined place (Chosen k) c put =
        ap (list_after (LookUp k at ∷ [])) (found_joined k (fonts k) c put) ∙ sym (after_joined at (LookUp k at ∷ []) (of_decoded t p at k (fonts k) c put) rest)
    character_joined place (Known k it) c put = found_joined k it c put

    change_joined : (k : Option FontKey) (f : PageFaultValue) → list_by t fonts (changed_to k f at others) ≡ list_of_outcome at (of_change at f k) rest
    change_joined None f = refl
    change_joined (Some k) f = refl

    font_joined : (place : Place) (n : ℤ) → list_by t fonts (font_change place at n others) ≡ list_of_outcome at (of_font place at n) rest
    font_joined (OnPage reading) n = change_joined (font_table reading n) (fault.NoFont n)
    font_joined (InPacket k f) n = change_joined (local_of f n) (no_local k (first_local_of f) n)

    one_joined : (place : Place) (current : Current) (c : DviCommand)
        → list_by t fonts (expand_one d place at current c others) ≡ list_of_outcome at (of_command t fonts p place at current c) rest
    one_joined place current (Set c) = character_joined place current c false
    one_joined place current (Put c) = character_joined place current c true
    one_joined place current (Font n) = font_joined place n
    one_joined place current (SetRule a b) = refl
    one_joined place current (PutRule a b) = refl
    one_joined place current (Right b) = refl
    one_joined place current (W b) = refl
    one_joined place current (X b) = refl
    one_joined place current (Down a) = refl
    one_joined place current (Y a) = refl
    one_joined place current (Z a) = refl
    one_joined place current W0 = refl
    one_joined place current X0 = refl
    one_joined place current Y0 = refl
    one_joined place current Z0 = refl
    one_joined place current Push = refl
    one_joined place current Pop = refl
    one_joined place current _ = refl

  -- ---- packets

  packets_joined : (at : ℕ) (d : Deeper) (p : Packets) (place : Place) → ArePackets at d p → (commands : List DviCommand) (current : Current) (later : Course)
      → list_by t fonts (expand_list (expand_one d place at) current commands later)
      ≡ list_of_outcome at (of_list (of_command t fonts p place at) current commands) (λ last. list_by t fonts later)
  packets_joined at d p place deep [] current later = refl
  packets_joined at d p place deep (c ∷ commands) current later =
      let one = of_command t fonts p place at in
      let course = expand_list (expand_one d place at) in
      one_joined at d p deep (λ next. course next commands later) place current c
      ∙ joined_same at (one current c) (λ next. list_by t fonts (course next commands later)) (λ next. list_of_outcome at (of_list one next commands) (λ last. list_by t fonts later))
      (λ next. packets_joined at d p place deep commands next later)
      ∙ sym (followed_joined at (one current c) (λ next. of_list one next commands) (λ last. list_by t fonts later))

  are_packets : (n at : ℕ) → ArePackets at (deeper n at) (packets_in t fonts n at)
  unfolding deeper packets_in
  are_packets zero at = tt
  are_packets (suc n) at = λ k f commands later.
      packets_joined at (deeper n at) (packets_in t fonts n at) (InPacket k f) (are_packets n at) commands (first_font f) later

  -- ---- a page

  page_joined : (reading : Reading) (eop : ℕ) (commands : List Placed) (current : Current)
      → list_by t fonts (page_from reading eop current commands) ≡ full_list t fonts reading eop current commands
  page_joined reading eop [] current = refl
  page_joined reading eop (p ∷ commands) current =
      one_joined p.at (deeper MAX_DEPTH p.at) (packets_in t fonts MAX_DEPTH p.at) (are_packets MAX_DEPTH p.at) (λ next. page_from reading eop next commands) (OnPage reading) current p.command
      ∙ joined_same p.at (of_command t fonts (packets_in t fonts MAX_DEPTH p.at) (OnPage reading) p.at current p.command) (λ next. list_by t fonts (page_from reading eop next commands))
      (λ next. full_list t fonts reading eop next commands) (page_joined reading eop commands)

  cut_limited : (n : ℕ) (x : Course) → list_from fonts (cut t n x) ≡ up_to_limit n (list_by t fonts x).members (list_by t fonts x).ending
  cut_limited zero (Gives f g at rest) = refl
  cut_limited zero (Asks k at rest) = refl
  cut_limited zero (Lacks f at rest) = over t f at (list_by t fonts rest)
    where
      over : (b : Bool) (f : PageFaultValue) (at : ℕ) (list : PageList) → no_more (AtFault fault.TooLong at) ≡ up_to_limit zero (by_lack b f at list).members (by_lack b f at list).ending
      over true f at list = refl
      over false f at list = refl
  cut_limited zero (Ends at) = refl
  cut_limited zero (Stops f at) = refl
  cut_limited (suc n) (Gives f g at rest) = ap (list_after (Flat f g at ∷ [])) (cut_limited n rest)
  cut_limited (suc n) (Asks k at rest) = ap (list_after (LookUp k at ∷ [])) (cut_limited (suc n) (rest (fonts k)))
  cut_limited (suc n) (Lacks f at rest) = lack_limited fonts t n f at (cut t (suc n) rest) (list_by t fonts rest) (cut_limited (suc n) rest)
  cut_limited (suc n) (Ends at) = refl
  cut_limited (suc n) (Stops f at) = refl

  pub course_is_list : (reading : Reading) (i : ℕ) → list_from fonts (course_of t reading i) ≡ list_of t fonts reading i
  course_is_list reading i =
      let eop = unwrap_or (eop_at i reading) 0 in
      cut_limited MAX_FLAT_COMMANDS (page_from reading eop NoFont (page_commands i reading))
      ∙ ap (λ (full : PageList). up_to_limit MAX_FLAT_COMMANDS full.members full.ending) (page_joined reading eop (page_commands i reading) NoFont)

-- ---- members
module _ (fonts : Fonts) where
  -- courses that come to the same have one list
  same_lists : (self : (d : Decoded) → AreAlike d d) (x y : Course) → Similar x y → list_from fonts x ≡ list_from fonts y
  same_lists self (Gives f g at x) (Gives f2 g2 at2 y) h =
      let rest = same_lists self x y h.3 in
      ap (list_after (Flat f g at ∷ [])) rest ∙ ap (λ (m : Member). list_after (m ∷ []) (list_from fonts y))
      (ap (λ (c : flat.FlatCommand). Flat c g at) h.0 ∙ ap (λ (o : Option Glyph). Flat f2 o at) h.1 ∙ ap (Flat f2 g2) h.2)
  same_lists self (Asks k at x) (Asks k2 at2 y) h =
      ap (list_after (LookUp k at ∷ [])) (same_lists self (x (fonts k)) (y (fonts k)) (h.2 (fonts k) (fonts k) (self (fonts k))))
      ∙ ap (λ (l : FontKey). list_after (LookUp l at ∷ []) (list_from fonts (y (fonts l)))) h.0
      ∙ ap (λ (n : ℕ). list_after (LookUp k2 n ∷ []) (list_from fonts (y (fonts k2)))) h.1
  same_lists self (Lacks f at x) (Lacks f2 at2 y) h =
      ap (list_after (Lack f at ∷ [])) (same_lists self x y h.2)
      ∙ ap (λ (c : PageFaultValue). list_after (Lack c at ∷ []) (list_from fonts y)) h.0 ∙ ap (λ (n : ℕ). list_after (Lack f2 n ∷ []) (list_from fonts y)) h.1
  same_lists self (Ends at) (Ends at2) h = ap (λ (n : ℕ). list_from fonts (Ends n)) h
  same_lists self (Stops f at) (Stops f2 at2) h = ap (λ (c : PageFaultValue). list_from fonts (Stops c at)) h.0 ∙ ap (λ (n : ℕ). list_from fonts (Stops f2 n)) h.1
  same_lists self _ _ h = absurd h

  pub led : (self : (d : Decoded) → AreAlike d d) (Finds : Finding) → ((k : FontKey) (d : Decoded) → Finds k d → AreAlike d (fonts k)) → (from : Course) (members : List Member) (to : Course)
      → Similar from from → Unfolds Finds from members to → list_from fonts from ≡ list_after members (list_from fonts to)
  led self Finds alike from [] to similar leads = ap (list_from fonts) leads
  led self Finds alike from (Flat f g at ∷ members) to similar leads =
      let own = subst (λ (x : Course). Similar x x) leads.1 similar in
      ap (list_from fonts) leads.1 ∙ ap (list_after (Flat f g at ∷ [])) (led self Finds alike leads.0 members to own.3 leads.2)
  led self Finds alike from (LookUp k at ∷ members) to similar leads =
      let own = subst (λ (x : Course). Similar x x) leads.2 similar in
      let d = leads.1 in
      let same : list_from fonts (leads.0 (fonts k)) ≡ list_from fonts (leads.0 d) = sym (same_lists self (leads.0 d) (leads.0 (fonts k)) (own.2 d (fonts k) (alike k d leads.3))) in
      ap (list_from fonts) leads.2
      ∙ ap (list_after (LookUp k at ∷ [])) (same ∙ led self Finds alike (leads.0 d) members to (own.2 d d (self d)) leads.4)
  led self Finds alike from (Lack f at ∷ members) to similar leads =
      let own = subst (λ (x : Course). Similar x x) leads.1 similar in
      ap (list_from fonts) leads.1 ∙ ap (list_after (Lack f at ∷ [])) (led self Finds alike leads.0 members to own.2 leads.2)

  pub to_the_end : (Finds : Finding) → ((k : FontKey) → Finds k (fonts k)) → (from : Course)
      → (to : Course) × Unfolds Finds from (list_from fonts from).members to × (list_from fonts to ≡ no_more (list_from fonts from).ending)
  to_the_end Finds each (Gives f g at rest) = let r = to_the_end Finds each rest in (r.0, (rest, refl, r.1), r.2)
  to_the_end Finds each (Asks k at rest) = let r = to_the_end Finds each (rest (fonts k)) in (r.0, (rest, fonts k, refl, each k, r.1), r.2)
  to_the_end Finds each (Lacks f at rest) = let r = to_the_end Finds each rest in (r.0, (rest, refl, r.1), r.2)
  to_the_end Finds each (Ends at) = (Ends at, refl, refl)
  to_the_end Finds each (Stops f at) = (Stops f at, refl, refl)

pub looks_append : (first second : List Member) → looks_of (first ++ second) ≡ looks_of first ++ looks_of second
looks_append [] second = refl
looks_append (Flat f g at ∷ first) second = looks_append first second
looks_append (LookUp k at ∷ first) second = ap (λ (keys : List FontKey). k ∷ keys) (looks_append first second)
looks_append (Lack f at ∷ first) second = looks_append first second
