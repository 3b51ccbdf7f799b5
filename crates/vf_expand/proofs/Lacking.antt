-- What a tolerant page lacks, and what ends it.
use Rattle.std.proofs.Common.{◌≡◌, ◌∙◌, ℕ, zero, suc, ℤ, Bool, true, false, List, [], ◌∷◌, refl, sym, ap, subst, Option, Some, None}
use Rattle.std.specs.Prelude.{IsTrue, IsFalse, unwrap_or}
use Rattle.outside.specs.declared.keys.FontKey.{FontKey}
use Rattle.dvi_commands.specs.Spelling.{DviCommand, Set, Put, SetRule, PutRule, Push, Pop, Right, W0, W, X0, X, Down, Y0, Y, Z0, Z, Font}
use Rattle.dvi_commands.specs.Reading.{Placed, commands_of}
use Rattle.page_index.specs.Document.{Reading, font_table}
use Rattle.page_index.specs.Pages.{eop_at, page_commands}
use Rattle.pk_runs.specs.declared.glyph.Glyph.{Glyph}
use Rattle.font_decode.specs.Fonts.{FontValue, scaled_width_of, glyph_at, is_virtual_of, packet_of, local_of, first_local_of}
use Rattle.font_decode.specs.declared.font_or_fault.Decoded.{Decoded}
use Rattle.font_decode.specs.declared.font_or_fault.Decoded.TheVariants as decoded
use Rattle.font_decode.specs.declared.faults.FontFault.{FontFault}
use Rattle.vf_expand.specs.Faults.{PageFaultValue, is_lack, is_missing}
use Rattle.vf_expand.specs.Faults as fault
use Rattle.vf_expand.specs.Course.{Course, Gives, Asks, Lacks, Ends, Stops, Place, OnPage, InPacket, Current, NoFont, Chosen, Known, Deeper, advance_of, by_fault, by_kind, changed_to, char_of_decoded, character, course_of, cut, deeper, expand_list, expand_one, first_font, font_change, leave, no_font, no_local, number_of, packet, page_from, virtual, with_glyph, with_width}
use Rattle.vf_expand.specs.Limits.{MAX_DEPTH, MAX_FLAT_COMMANDS}
use Rattle.vf_expand.specs.PageLists.{Fonts, PageList, list_after, list_from}
use Rattle.vf_expand.specs.Members.{Flat, LookUp}
use Rattle.vf_expand.specs.Lacks.{IsTolerant, StrictPagesStopAtALack, TolerantPagesGoOn, up_to_lack}
use Rattle.vf_expand.proofs.PageLists.{course_is_list}

-- ---- along a course

abbrev pub Tolerates : Course → Type 0
Tolerates (Gives f g at rest) = Tolerates rest
Tolerates (Asks k at rest) = (d : Decoded) → Tolerates (rest d)
Tolerates (Lacks f at rest) = IsTrue (is_lack f) × Tolerates rest
Tolerates (Ends at) = Unit {0}
Tolerates (Stops f at) = IsFalse (is_lack f)

tolerates_leave : (advance : Option ℤ) (at : ℕ) (x : Course) → Tolerates x → Tolerates (leave advance at x)
tolerates_leave None at x h = h
tolerates_leave (Some width) at x h = h

-- packets tolerate what comes after them
abbrev AreTolerant : Deeper → Type 0
AreTolerant None = Unit {0}
AreTolerant (Some i) = (k : FontKey) (f : FontValue) (commands : List DviCommand) (x : Course) → Tolerates x → Tolerates (i k f commands x)

module _ (at : ℕ) (k : FontKey) (c : ℤ) (x : Course) (h : Tolerates x) where
  of_glyph : (width : ℤ) (put : Bool) (glyph : Option Glyph) → Tolerates (with_glyph at k c width put glyph x)
  of_glyph width put None = (refl, h)
  of_glyph width put (Some g) = h

  of_packet : (i : FontKey → FontValue → List DviCommand → Course → Course) → AreTolerant (Some i) → (f : FontValue) (advance : Option ℤ) (text : Option (List ℕ)) → Tolerates (packet i at k f c advance text x)
  of_packet i deep f advance None = (refl, h)
  of_packet i deep f advance (Some text) = deep k f (commands_of text) (leave advance at x) (tolerates_leave advance at x h)

  of_virtual : (d : Deeper) → AreTolerant d → (f : FontValue) (advance : Option ℤ) → Tolerates (virtual d at k f c advance x)
  of_virtual None deep f advance = refl
  of_virtual (Some i) deep f advance = of_packet i deep f advance (packet_of f (number_of c))

  of_kind : (d : Deeper) → AreTolerant d → (f : FontValue) (width : ℤ) (put is_virtual : Bool) → Tolerates (by_kind d at k f c width put is_virtual x)
  of_kind d deep f width put false = of_glyph width put (glyph_at f (number_of c))
  of_kind d deep f width put true = of_virtual d deep f (advance_of width put)

  of_width : (d : Deeper) → AreTolerant d → (f : FontValue) (put : Bool) (width : Option ℤ) → Tolerates (with_width d at k f c put width x)
  of_width d deep f put None = (refl, h)
  of_width d deep f put (Some width) = of_kind d deep f width put (is_virtual_of f)

  of_fault : (f : FontFault) (b : Bool) → is_missing f ≡ b → Tolerates (by_fault at k f b x)
  of_fault f true e = (e, h)
  of_fault f false e = e

  of_decoded : (d : Deeper) → AreTolerant d → (found : Decoded) (put : Bool) → Tolerates (char_of_decoded d at k found c put x)
  of_decoded d deep (decoded.Fault f) put = of_fault f (is_missing f) refl
  of_decoded d deep (decoded.Bare f) put = (refl, h)
  of_decoded d deep (decoded.Font f) put = of_width d deep f put (scaled_width_of f c)

of_no_font : (place : Place) → is_lack (no_font place) ≡ false
of_no_font (OnPage reading) = refl
of_no_font (InPacket k f) = refl

of_no_local : (k : FontKey) (first : Option ℤ) (n : ℤ) → is_lack (no_local k first n) ≡ false
of_no_local k None n = refl
of_no_local k (Some first) n = refl

module _ (d : Deeper) (deep : AreTolerant d) (place : Place) (at : ℕ) where
  of_character : (current : Current) (c : ℤ) (put : Bool) (others : Current → Course) → ((next : Current) → Tolerates (others next)) → Tolerates (character d place at current c put others)
  of_character NoFont c put others h = of_no_font place
  of_character (Chosen k) c put others h = λ found. of_decoded at k c (others (Known k found)) (h (Known k found)) d deep found put
  of_character (Known k found) c put others h = of_decoded at k c (others (Known k found)) (h (Known k found)) d deep found put

  of_changed : (k : Option FontKey) (f : PageFaultValue) (others : Current → Course) → ((next : Current) → Tolerates (others next)) → is_lack f ≡ false → Tolerates (changed_to k f at others)
  of_changed None f others h other = other
  of_changed (Some k) f others h other = h (Chosen k)

of_font_change : (place : Place) (at : ℕ) (n : ℤ) (others : Current → Course) → ((next : Current) → Tolerates (others next)) → Tolerates (font_change place at n others)
of_font_change (OnPage reading) at n others h = of_changed None tt (OnPage reading) at (font_table reading n) (fault.NoFont n) others h refl
of_font_change (InPacket k f) at n others h =
    of_changed None tt (InPacket k f) at (local_of f n) (no_local k (first_local_of f) n) others h (of_no_local k (first_local_of f) n)

module _ (d : Deeper) (deep : AreTolerant d) (place : Place) (at : ℕ) where
  of_one : (current : Current) (c : DviCommand) (others : Current → Course) → ((next : Current) → Tolerates (others next)) → Tolerates (expand_one d place at current c others)
  of_one current (Set c) others h = of_character d deep place at current c false others h
  of_one current (Put c) others h = of_character d deep place at current c true others h
  of_one current (Font n) others h = of_font_change place at n others h
  of_one current (SetRule a b) others h = h current
  of_one current (PutRule a b) others h = h current
  of_one current (Right b) others h = h current
  of_one current (W b) others h = h current
  of_one current (X b) others h = h current
  of_one current (Down a) others h = h current
  of_one current (Y a) others h = h current
  of_one current (Z a) others h = h current
  of_one current W0 others h = h current
  of_one current X0 others h = h current
  of_one current Y0 others h = h current
  of_one current Z0 others h = h current
  of_one current Push others h = h current
  of_one current Pop others h = h current
  of_one current _ others h = h current

  of_commands : (commands : List DviCommand) (current : Current) (x : Course) → Tolerates x → Tolerates (expand_list (expand_one d place at) current commands x)
  of_commands [] current x h = h
  of_commands (c ∷ commands) current x h = of_one current c (λ next. expand_list (expand_one d place at) next commands x) (λ next. of_commands commands next x h)

all_tolerant : (n at : ℕ) → AreTolerant (deeper n at)
unfolding deeper
all_tolerant zero at = tt
all_tolerant (suc n) at = λ k f commands x h. of_commands (deeper n at) (all_tolerant n at) (InPacket k f) at commands (first_font f) x h

of_page : (reading : Reading) (eop : ℕ) (commands : List Placed) (current : Current) → Tolerates (page_from reading eop current commands)
of_page reading eop [] current = tt
of_page reading eop (p ∷ commands) current =
    of_one (deeper MAX_DEPTH p.at) (all_tolerant MAX_DEPTH p.at) (OnPage reading) p.at current p.command (λ next. page_from reading eop next commands) (of_page reading eop commands)

of_cut : (n : ℕ) (x : Course) → Tolerates x → Tolerates (cut true n x)
of_cut zero (Gives f g at rest) h = refl
of_cut zero (Asks k at rest) h = refl
of_cut zero (Lacks f at rest) h = refl
of_cut zero (Ends at) h = tt
of_cut zero (Stops f at) h = refl
of_cut (suc n) (Gives f g at rest) h = of_cut n rest h
of_cut (suc n) (Asks k at rest) h = λ d. of_cut (suc n) (rest d) (h d)
of_cut (suc n) (Lacks f at rest) h = (h.0, of_cut (suc n) rest h.1)
of_cut (suc n) (Ends at) h = tt
of_cut (suc n) (Stops f at) h = h

-- ---- along its list

of_list : (fonts : Fonts) (x : Course) → Tolerates x → IsTolerant (list_from fonts x)
of_list fonts (Gives f g at rest) h = let r = of_list fonts rest h in record { lacks = r.lacks; ending = r.ending }
of_list fonts (Asks k at rest) h = let r = of_list fonts (rest (fonts k)) (h (fonts k)) in record { lacks = r.lacks; ending = r.ending }
of_list fonts (Lacks f at rest) h = let r = of_list fonts rest h.1 in record { lacks = (h.0, r.lacks); ending = r.ending }
of_list fonts (Ends at) h = record { lacks = tt; ending = tt }
of_list fonts (Stops f at) h = record { lacks = tt; ending = h }

pub tolerant_page : (reading : Reading) (i : ℕ) → Tolerates (course_of true reading i)
tolerant_page reading i =
    let page = page_from reading (unwrap_or (eop_at i reading) 0) NoFont (page_commands i reading) in
    of_cut MAX_FLAT_COMMANDS page (of_page reading (unwrap_or (eop_at i reading) 0) (page_commands i reading) NoFont)

pub tolerant_pages_go_on : TolerantPagesGoOn
tolerant_pages_go_on fonts reading i =
    subst IsTolerant (course_is_list true fonts reading i) (of_list fonts (course_of true reading i) (tolerant_page reading i))

-- ---- where lacks aren't tolerated

strict_cut : (fonts : Fonts) (n : ℕ) (x : Course) → list_from fonts (cut false n x) ≡ up_to_lack (list_from fonts (cut true n x)).members (list_from fonts (cut true n x)).ending
strict_cut fonts zero (Gives f g at rest) = refl
strict_cut fonts zero (Asks k at rest) = refl
strict_cut fonts zero (Lacks f at rest) = refl
strict_cut fonts zero (Ends at) = refl
strict_cut fonts zero (Stops f at) = refl
strict_cut fonts (suc n) (Gives f g at rest) = ap (list_after (Flat f g at ∷ [])) (strict_cut fonts n rest)
strict_cut fonts (suc n) (Asks k at rest) = ap (list_after (LookUp k at ∷ [])) (strict_cut fonts (suc n) (rest (fonts k)))
strict_cut fonts (suc n) (Lacks f at rest) = refl
strict_cut fonts (suc n) (Ends at) = refl
strict_cut fonts (suc n) (Stops f at) = refl

pub strict_pages_stop_at_a_lack : StrictPagesStopAtALack
strict_pages_stop_at_a_lack fonts reading i =
    let page = page_from reading (unwrap_or (eop_at i reading) 0) NoFont (page_commands i reading) in
    sym (course_is_list false fonts reading i) ∙ strict_cut fonts MAX_FLAT_COMMANDS page
    ∙ ap (λ (list : PageList). up_to_lack list.members list.ending) (course_is_list true fonts reading i)
