-- Where a look-up stands next, the font that it is for waits for it, and takes what is found.
use Rattle.std.proofs.Common.{◌≡◌, ℕ, zero, suc, ◌+◌, ◌-◌, ◌<◌, ℤ, Bool, true, false, List, [], ◌∷◌, length, refl, sym, ap, subst, ◌∙◌, arith, Some, None, Option}
use Rattle.std.specs.Prelude.{IsTrue, IsSome, if◌then◌else◌}
use Rattle.dvi_commands.specs.Spelling.{DviCommand, Set, Put, SetRule, PutRule, Push, Pop, Right, W0, W, X0, X, Down, Y0, Y, Z0, Z, Font}
use Rattle.dvi_commands.specs.Reading.{Placed}
use Rattle.outside.specs.declared.keys.FontKey.{FontKey}
use Rattle.page_index.specs.Document.{Reading, font_table}
use Rattle.pk_runs.specs.declared.glyph.Glyph.{Glyph}
use Rattle.font_decode.specs.Fonts.{FontValue, scaled_width_of, glyph_at, is_virtual_of, packet_of, local_of, first_local_of}
use Rattle.font_decode.specs.declared.font_or_fault.Decoded.{Decoded}
use Rattle.font_decode.specs.declared.font_or_fault.Decoded.TheVariants as decoded
use Rattle.font_decode.specs.declared.faults.FontFault.{FontFault}
use Rattle.vf_expand.specs.Faults.{PageFaultValue, is_missing}
use Rattle.vf_expand.specs.Faults as fault
use Rattle.vf_expand.specs.Course.{Course, Gives, Asks, Lacks, Ends, Stops, by_fault, lack_or_stop, Place, OnPage, InPacket, Current, NoFont, Chosen, Known, Deeper, deeper, expand_one, expand_list, page_from, cut, character, char_of_decoded, with_width, by_kind, with_glyph, virtual, packet, leave, advance_of, changed_to, font_change, no_local, number_of}
use Rattle.vf_expand.specs.Limits.{MAX_DEPTH}
use Rattle.vf_expand.specs.declared.pending.Pending.{Pending}
use Rattle.vf_expand.specs.Expansion.{Expansion, IsAtLook, OpenPacket, Stack, after_answer, asks_from, asks_left, course_left, after_pending, lacks_left, font_of, rest_of, marked_font, packets_left, place_in, stack_left}

abbrev Waits : Current → (Current → Course) → Type 0
Waits current part = (k : FontKey) × (current ≡ Chosen k) × ((d : Decoded) → part (Known k d) ≡ after_answer (part current) d)

no_look_in_glyph : (at : ℕ) (k : FontKey) (c width : ℤ) (put : Bool) (glyph : Option Glyph) (rest : Course) → IsAtLook (with_glyph at k c width put glyph rest) → ⊥
no_look_in_glyph at k c width put None rest look = look
no_look_in_glyph at k c width put (Some g) rest look = look

no_look_in_packet : (inner : FontKey → FontValue → List DviCommand → Course → Course) (at : ℕ) (k : FontKey) (f : FontValue) (c : ℤ) (advance : Option ℤ) (text : Option (List ℕ)) (rest : Course)
    → IsAtLook (packet inner at k f c advance text rest) → ⊥
no_look_in_packet inner at k f c advance None rest look = look
no_look_in_packet inner at k f c advance (Some text) rest look = look

no_look_in_virtual : (deep : Deeper) (at : ℕ) (k : FontKey) (f : FontValue) (c : ℤ) (advance : Option ℤ) (rest : Course) → IsAtLook (virtual deep at k f c advance rest) → ⊥
no_look_in_virtual None at k f c advance rest look = look
no_look_in_virtual (Some inner) at k f c advance rest look = no_look_in_packet inner at k f c advance (packet_of f (number_of c)) rest look

no_look_in_kind : (deep : Deeper) (at : ℕ) (k : FontKey) (f : FontValue) (c width : ℤ) (put is_virtual : Bool) (rest : Course) → IsAtLook (by_kind deep at k f c width put is_virtual rest) → ⊥
no_look_in_kind deep at k f c width put false rest look = no_look_in_glyph at k c width put (glyph_at f (number_of c)) rest look
no_look_in_kind deep at k f c width put true rest look = no_look_in_virtual deep at k f c (advance_of width put) rest look

no_look_in_width : (deep : Deeper) (at : ℕ) (k : FontKey) (f : FontValue) (c : ℤ) (put : Bool) (width : Option ℤ) (rest : Course) → IsAtLook (with_width deep at k f c put width rest) → ⊥
no_look_in_width deep at k f c put None rest look = look
no_look_in_width deep at k f c put (Some width) rest look = no_look_in_kind deep at k f c width put (is_virtual_of f) rest look

no_look_in_fault : (at : ℕ) (k : FontKey) (f : FontFault) (b : Bool) (rest : Course) → IsAtLook (by_fault at k f b rest) → ⊥
no_look_in_fault at k f true rest look = look
no_look_in_fault at k f false rest look = look

no_look_in_found : (deep : Deeper) (at : ℕ) (k : FontKey) (d : Decoded) (c : ℤ) (put : Bool) (rest : Course) → IsAtLook (char_of_decoded deep at k d c put rest) → ⊥
no_look_in_found deep at k (decoded.Fault f) c put rest look = no_look_in_fault at k f (is_missing f) rest look
no_look_in_found deep at k (decoded.Bare f) c put rest look = look
no_look_in_found deep at k (decoded.Font f) c put rest look = no_look_in_width deep at k f c put (scaled_width_of f c) rest look

no_look_in_changed : (k : Option FontKey) (f : PageFaultValue) (at : ℕ) (others : Current → Course) → IsAtLook (changed_to k f at others) → ⊥
no_look_in_changed None f at others look = look
no_look_in_changed (Some k) f at others look = look

no_look_in_font : (place : Place) (at : ℕ) (n : ℤ) (others : Current → Course) → IsAtLook (font_change place at n others) → ⊥
no_look_in_font (OnPage reading) at n others look = no_look_in_changed (font_table reading n) (fault.NoFont n) at others look
no_look_in_font (InPacket k f) at n others look = no_look_in_changed (local_of f n) (no_local k (first_local_of f) n) at others look

no_look_in_leave : (advance : Option ℤ) (at : ℕ) (rest : Course) → IsAtLook (leave advance at rest) → ⊥
no_look_in_leave None at rest look = look
no_look_in_leave (Some width) at rest look = look

module _ (deep : Deeper) (place : Place) (at : ℕ) where
  look_in_character : (current : Current) (c : ℤ) (put : Bool) (others : Current → Course) → IsAtLook (character deep place at current c put others)
      → Waits current (λ now. character deep place at now c put others)
  look_in_character NoFont c put others look = absurd look
  look_in_character (Chosen k) c put others look = (k, refl, λ d. refl)
  look_in_character (Known k d) c put others look = absurd (no_look_in_found deep at k d c put (others (Known k d)) look)

  look_in_one : (current : Current) (c : DviCommand) (others : Current → Course) → IsAtLook (expand_one deep place at current c others)
      → Waits current (λ now. expand_one deep place at now c others)
  look_in_one current (Set c) others look = look_in_character current c false others look
  look_in_one current (Put c) others look = look_in_character current c true others look
  look_in_one current (Font n) others look = absurd (no_look_in_font place at n others look)
  look_in_one current (SetRule a b) others look = absurd look
  look_in_one current (PutRule a b) others look = absurd look
  look_in_one current (Right b) others look = absurd look
  look_in_one current (W b) others look = absurd look
  look_in_one current (X b) others look = absurd look
  look_in_one current (Down b) others look = absurd look
  look_in_one current (Y b) others look = absurd look
  look_in_one current (Z b) others look = absurd look
  look_in_one current W0 others look = absurd look
  look_in_one current X0 others look = absurd look
  look_in_one current Y0 others look = absurd look
  look_in_one current Z0 others look = absurd look
  look_in_one current Push others look = absurd look
  look_in_one current Pop others look = absurd look
  look_in_one current _ others look = absurd look

  look_in_list : (current : Current) (commands : List DviCommand) (advance : Option ℤ) (after : Course) → IsAtLook (expand_list (expand_one deep place at) current commands (leave advance at after))
      → Waits current (λ now. expand_list (expand_one deep place at) now commands (leave advance at after))
  look_in_list current [] advance after look = absurd (no_look_in_leave advance at after look)
  look_in_list current (c ∷ commands) advance after look = look_in_one current c (λ next. expand_list (expand_one deep place at) next commands (leave advance at after)) look

look_in_packets : (reading : Reading) (eop at : ℕ) (current : Current) (page : List Placed) (packets : List OpenPacket) → IsAtLook (packets_left reading eop at page current packets)
    → Waits current (λ now. packets_left reading eop at page now packets)
look_in_packets reading eop at current [] [] look = absurd look
look_in_packets reading eop at current (p ∷ commands) [] look =
    look_in_one (deeper MAX_DEPTH p.at) (OnPage reading) p.at current p.command (λ next. page_from reading eop next commands) look
look_in_packets reading eop at current page (p ∷ outer) look =
    look_in_list (deeper (MAX_DEPTH - suc (length outer)) at) (place_in reading p.outside) at current p.commands p.advance (packets_left reading eop at page p.outside outer) look

look_in_pending : (reading : Reading) (eop at : ℕ) (pending : Option Pending) (current : Current) (stack : Stack) → IsAtLook (after_pending pending at (stack_left reading eop at current stack))
    → Waits current (λ now. after_pending pending at (stack_left reading eop at now stack))
look_in_pending reading eop at None current stack look = look_in_packets reading eop at current stack.page stack.packets look
look_in_pending reading eop at (Some p) current stack look = absurd look

no_look_in_lack : (t : Bool) (f : PageFaultValue) (at : ℕ) (rest : Course) → IsAtLook (lack_or_stop t f at rest) → ⊥
no_look_in_lack true f at rest look = look
no_look_in_lack false f at rest look = look

look_in_cut : (t : Bool) (n : ℕ) (x : Course) → IsAtLook (cut t n x) → IsAtLook x × (0 < n) × ((d : Decoded) → after_answer (cut t n x) d ≡ cut t n (after_answer x d))
look_in_cut t zero (Gives f g at rest) look = absurd look
look_in_cut t zero (Asks k at rest) look = absurd look
look_in_cut t zero (Lacks f at rest) look = absurd look
look_in_cut t zero (Ends at) look = absurd look
look_in_cut t zero (Stops fault at) look = absurd look
look_in_cut t (suc n) (Gives f g at rest) look = absurd look
look_in_cut t (suc n) (Asks k at rest) look = (tt, omega arith, λ d. refl)
look_in_cut t (suc n) (Lacks f at rest) look = absurd (no_look_in_lack t f at (cut t (suc n) rest) look)
look_in_cut t (suc n) (Ends at) look = absurd look
look_in_cut t (suc n) (Stops fault at) look = absurd look

-- the font that the next look-up is for
record Wanted (v : Expansion) : Type 0 where
  pub key : FontKey
  pub current_of : v.current ≡ Chosen key
  pub room : 0 < v.budget
  pub rest : (d : Decoded) → rest_of (record v { current = Known key d }) ≡ after_answer (rest_of v) d

wanted : (v : Expansion) → IsAtLook (rest_of v) → Wanted v
unfolding course_left
wanted v look =
    let inside = look_in_cut v.tolerant v.budget (after_pending v.pending v.at (stack_left v.reading v.eop v.at v.current v.stack)) look in
    let waits = look_in_pending v.reading v.eop v.at v.pending v.current v.stack inside.0 in
    record { key = waits.0; current_of = waits.1; room = inside.1; rest = λ d. ap (cut v.tolerant v.budget) (waits.2 d) ∙ sym (inside.2 d) }

-- the key that a page waits for
pub key_wanted : (v : Expansion) → IsAtLook (rest_of v) → (k : FontKey) × (v.current ≡ Chosen k)
key_wanted v look = let w = wanted v look in (w.key, w.current_of)

-- a font that waits to be looked up is that of no character
not_marked : (marked : Bool) (current : Current) (k : FontKey) → current ≡ Chosen k → (IsTrue marked → IsSome (font_of current)) → marked ≡ false
not_marked true current k e h = let bad : IsSome (font_of (Chosen k)) = subst (λ (x : Current). IsSome (font_of x)) e (h refl) in absurd cc
not_marked false current k e h = refl

module _ (v : Expansion) (k : FontKey) (current_of : v.current ≡ Chosen k) (look : IsAtLook (rest_of v)) where
  pub answered_rest : (d : Decoded) → rest_of (record v { current = Known k d }) ≡ after_answer (rest_of v) d
  answered_rest d =
      let w = wanted v look in
      let both : Chosen k ≡ Chosen w.key = sym current_of ∙ w.current_of in
      let same : k ≡ w.key = cc in
      ap (λ (key : FontKey). rest_of (record v { current = Known key d })) same ∙ w.rest d

  pub answered_asks : (v.budget - 1) + 1 ≡ asks_left v
  answered_asks =
      let room : 0 < v.budget = (wanted v look).room in
      let sum : (v.budget - 1) + 1 ≡ v.budget = omega (arith, room) in
      sum ∙ ap (asks_from v.budget) (sym current_of)

  pub answered_fewer : v.budget + (v.budget - 1) + lacks_left v < v.budget + asks_left v + lacks_left v
  answered_fewer =
      let room : 0 < v.budget = (wanted v look).room in
      let less : v.budget + (v.budget - 1) + lacks_left v < v.budget + v.budget + lacks_left v = omega (arith, room) in
      subst (λ (x : Current). v.budget + (v.budget - 1) + lacks_left v < v.budget + asks_from v.budget x + lacks_left v) (sym current_of) less

  pub answered_unmarked : (d : Decoded) → (IsTrue v.marked → IsSome (font_of v.current)) → marked_font (record v { current = Known k d }) ≡ None
  answered_unmarked d marks =
      ap (λ (b : Bool). if b then Some d else None) (not_marked v.marked v.current k current_of marks)
