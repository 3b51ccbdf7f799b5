-- Where no more flat commands may be given, whatever stands next stands at its position.
use Rattle.std.proofs.Common.{◌≡◌, ℕ, zero, suc, ◌-◌, ◌<◌, ℤ, Bool, true, false, List, [], ◌∷◌, refl, sym, ap, ◌∙◌, arith, Some, None, Option}
use Rattle.dvi_commands.specs.Spelling.{DviCommand, Set, Put, SetRule, PutRule, Push, Pop, Right, W0, W, X0, X, Down, Y0, Y, Z0, Z, Font}
use Rattle.outside.specs.declared.keys.FontKey.{FontKey}
use Rattle.drift_rules.specs.Position.{FlatCommand}
use Rattle.page_index.specs.Document.{font_table}
use Rattle.pk_runs.specs.declared.glyph.Glyph.{Glyph}
use Rattle.font_decode.specs.Fonts.{FontValue, scaled_width_of, glyph_at, is_virtual_of, packet_of, local_of, first_local_of}
use Rattle.font_decode.specs.declared.font_or_fault.Decoded.{Decoded}
use Rattle.font_decode.specs.declared.font_or_fault.Decoded.TheVariants as decoded
use Rattle.font_decode.specs.declared.faults.FontFault.{FontFault}
use Rattle.vf_expand.specs.Faults.{PageFaultValue, TooLong, is_missing}
use Rattle.vf_expand.specs.Faults as fault
use Rattle.vf_expand.specs.Course.{Course, Gives, Asks, Lacks, Ends, Stops, by_fault, lack_or_stop, Place, OnPage, InPacket, Current, NoFont, Chosen, Known, Deeper, expand_one, expand_list, cut, character, char_of_decoded, with_width, by_kind, with_glyph, virtual, packet, leave, advance_of, changed_to, font_change, no_local, number_of}

-- ---- what is left, by what stands next

one_less : (b : ℕ) → suc b - 1 ≡ b
one_less b = omega arith

pub give_cut : (t : Bool) (b : ℕ) (x y : Course) (f : FlatCommand) (g : Option Glyph) (at : ℕ) → 0 < b → x ≡ Gives f g at y → cut t b x ≡ Gives f g at (cut t (b - 1) y)
give_cut t zero x y f g at h e = absurd (omega arith)
give_cut t (suc b) x y f g at h e = ap (cut t (suc b)) e ∙ ap (λ (n : ℕ). Gives f g at (cut t n y)) (sym (one_less b))

pub ask_cut : (t : Bool) (b : ℕ) (x : Course) (k : FontKey) (at : ℕ) (rest : Decoded → Course) → 0 < b → x ≡ Asks k at rest → cut t b x ≡ Asks k at (λ d. cut t b (rest d))
ask_cut t zero x k at rest h e = absurd (omega arith)
ask_cut t (suc b) x k at rest h e = ap (cut t (suc b)) e

pub stop_cut : (t : Bool) (b : ℕ) (x : Course) (f : PageFaultValue) (at : ℕ) → 0 < b → x ≡ Stops f at → cut t b x ≡ Stops f at
stop_cut t zero x f at h e = absurd (omega arith)
stop_cut t (suc b) x f at h e = ap (cut t (suc b)) e

pub lack_cut : (t : Bool) (b : ℕ) (x rest : Course) (f : PageFaultValue) (at : ℕ) → 0 < b → x ≡ Lacks f at rest → cut t b x ≡ lack_or_stop t f at (cut t b rest)
lack_cut t zero x rest f at h e = absurd (omega arith)
lack_cut t (suc b) x rest f at h e = ap (cut t (suc b)) e

pub end_cut : (t : Bool) (b : ℕ) (x : Course) (at : ℕ) → x ≡ Ends at → cut t b x ≡ Ends at
end_cut t zero x at e = ap (cut t zero) e
end_cut t (suc b) x at e = ap (cut t (suc b)) e

-- ---- no room

late_glyph : (t : Bool) (at : ℕ) (k : FontKey) (c width : ℤ) (put : Bool) (glyph : Option Glyph) (after : Course) → cut t 0 (with_glyph at k c width put glyph after) ≡ Stops TooLong at
late_glyph t at k c width put None after = refl
late_glyph t at k c width put (Some g) after = refl

late_packet : (t : Bool) (inner : FontKey → FontValue → List DviCommand → Course → Course) (at : ℕ) (k : FontKey) (f : FontValue) (c : ℤ) (advance : Option ℤ) (text : Option (List ℕ)) (after : Course)
    → cut t 0 (packet inner at k f c advance text after) ≡ Stops TooLong at
late_packet t inner at k f c advance None after = refl
late_packet t inner at k f c advance (Some text) after = refl

late_virtual : (t : Bool) (deep : Deeper) (at : ℕ) (k : FontKey) (f : FontValue) (c : ℤ) (advance : Option ℤ) (after : Course) → cut t 0 (virtual deep at k f c advance after) ≡ Stops TooLong at
late_virtual t None at k f c advance after = refl
late_virtual t (Some inner) at k f c advance after = late_packet t inner at k f c advance (packet_of f (number_of c)) after

late_kind : (t : Bool) (deep : Deeper) (at : ℕ) (k : FontKey) (f : FontValue) (c width : ℤ) (put is_virtual : Bool) (after : Course)
    → cut t 0 (by_kind deep at k f c width put is_virtual after) ≡ Stops TooLong at
late_kind t deep at k f c width put false after = late_glyph t at k c width put (glyph_at f (number_of c)) after
late_kind t deep at k f c width put true after = late_virtual t deep at k f c (advance_of width put) after

late_width : (t : Bool) (deep : Deeper) (at : ℕ) (k : FontKey) (f : FontValue) (c : ℤ) (put : Bool) (width : Option ℤ) (after : Course)
    → cut t 0 (with_width deep at k f c put width after) ≡ Stops TooLong at
late_width t deep at k f c put None after = refl
late_width t deep at k f c put (Some width) after = late_kind t deep at k f c width put (is_virtual_of f) after

late_fault : (t : Bool) (at : ℕ) (k : FontKey) (f : FontFault) (b : Bool) (after : Course) → cut t 0 (by_fault at k f b after) ≡ Stops TooLong at
late_fault t at k f true after = refl
late_fault t at k f false after = refl

late_found : (t : Bool) (deep : Deeper) (at : ℕ) (k : FontKey) (d : Decoded) (c : ℤ) (put : Bool) (after : Course) → cut t 0 (char_of_decoded deep at k d c put after) ≡ Stops TooLong at
late_found t deep at k (decoded.Fault f) c put after = late_fault t at k f (is_missing f) after
late_found t deep at k (decoded.Bare f) c put after = refl
late_found t deep at k (decoded.Font f) c put after = late_width t deep at k f c put (scaled_width_of f c) after

late_character : (t : Bool) (deep : Deeper) (place : Place) (at : ℕ) (current : Current) (c : ℤ) (put : Bool) (others : Current → Course)
    → cut t 0 (character deep place at current c put others) ≡ Stops TooLong at
late_character t deep place at NoFont c put others = refl
late_character t deep place at (Chosen k) c put others = refl
late_character t deep place at (Known k d) c put others = late_found t deep at k d c put (others (Known k d))

late_changed : (t : Bool) (k : Option FontKey) (f : PageFaultValue) (at : ℕ) (others : Current → Course) → cut t 0 (changed_to k f at others) ≡ Stops TooLong at
late_changed t None f at others = refl
late_changed t (Some k) f at others = refl

late_font : (t : Bool) (place : Place) (at : ℕ) (n : ℤ) (others : Current → Course) → cut t 0 (font_change place at n others) ≡ Stops TooLong at
late_font t (OnPage reading) at n others = late_changed t (font_table reading n) (fault.NoFont n) at others
late_font t (InPacket k f) at n others = late_changed t (local_of f n) (no_local k (first_local_of f) n) at others

pub late_one : (t : Bool) (deep : Deeper) (place : Place) (at : ℕ) (current : Current) (c : DviCommand) (others : Current → Course) → cut t 0 (expand_one deep place at current c others) ≡ Stops TooLong at
late_one t deep place at current (Set c) others = late_character t deep place at current c false others
late_one t deep place at current (Put c) others = late_character t deep place at current c true others
late_one t deep place at current (Font n) others = late_font t place at n others
late_one t deep place at current (SetRule a b) others = refl
late_one t deep place at current (PutRule a b) others = refl
late_one t deep place at current (Right b) others = refl
late_one t deep place at current (W b) others = refl
late_one t deep place at current (X b) others = refl
late_one t deep place at current (Down b) others = refl
late_one t deep place at current (Y b) others = refl
late_one t deep place at current (Z b) others = refl
late_one t deep place at current W0 others = refl
late_one t deep place at current X0 others = refl
late_one t deep place at current Y0 others = refl
late_one t deep place at current Z0 others = refl
late_one t deep place at current Push others = refl
late_one t deep place at current Pop others = refl
late_one t deep place at current _ others = refl

late_leave : (t : Bool) (advance : Option ℤ) (at : ℕ) (x : Course) → cut t 0 (leave advance at x) ≡ Stops TooLong at
late_leave t None at x = refl
late_leave t (Some width) at x = refl

-- in a packet
pub late_list : (t : Bool) (deep : Deeper) (place : Place) (at : ℕ) (current : Current) (commands : List DviCommand) (advance : Option ℤ) (after : Course)
    → cut t 0 (expand_list (expand_one deep place at) current commands (leave advance at after)) ≡ Stops TooLong at
late_list t deep place at current [] advance after = late_leave t advance at after
late_list t deep place at current (c ∷ commands) advance after = late_one t deep place at current c (λ next. expand_list (expand_one deep place at) next commands (leave advance at after))
