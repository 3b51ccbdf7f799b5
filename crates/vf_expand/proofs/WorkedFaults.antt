-- The worked faults of fonts, from the definition.
use Rattle.std.proofs.Common.{◌≡◌, ℕ, suc, ℤ, pos, Bool, false, List, [], ◌∷◌, refl, ap, ◌∙◌, Option, Some, None}
use Rattle.outside.specs.declared.keys.FontKey.{FontKey}
use Rattle.dvi_commands.specs.Spelling.{DviCommand, Font, Put, Right, Set}
use Rattle.dvi_commands.specs.Reading.{Placed, placed, commands_of}
use Rattle.drift_rules.specs.Position as flat
use Rattle.page_index.specs.Document.{Reading, font_table}
use Rattle.font_decode.specs.Fonts.{FontValue, local_of, first_local_of}
use Rattle.font_decode.specs.declared.font_or_fault.Decoded.{Decoded}
use Rattle.font_decode.specs.declared.font_or_fault.Decoded.TheVariants as decoded
use Rattle.vf_expand.specs.Faults.{PageFaultValue}
use Rattle.vf_expand.specs.Faults as fault
use Rattle.vf_expand.specs.Course.{Current, Known, NoFont, Chosen, InPacket, current_of, first_font, local_key, no_local}
use Rattle.vf_expand.specs.Limits.{MAX_DEPTH}
use Rattle.vf_expand.specs.Members.{Flat, LookUp}
use Rattle.vf_expand.specs.PageLists.{Fonts, Outcome, Faults, go_on, in_packet_level, full_list, list_of_outcome, of_change, of_command, of_decoded, of_kind, of_list, of_packet, of_virtual, of_width, outcome_after, packets_in}
use Rattle.vf_expand.specs.WorkedFaults.{FontsOfPacketsAreWorked, FontsOfPagesAreWorked, IsVirtualWith, StopsInPacket}
use Rattle.vf_expand.proofs.WorkedPage.{goes}

pub fonts_of_pages_are_worked : FontsOfPagesAreWorked
fonts_of_pages_are_worked t fonts reading = record {
  none = refl;
  undefined = λ none. ap (λ (o : Option FontKey). list_of_outcome 60 (of_change 60 (fault.NoFont (pos 7)) o) (λ next. full_list t fonts reading 68 next
      (placed 61 (Set (pos 65)) (65 ∷ []) ∷ placed 62 (Put (pos 65)) (133 ∷ 65 ∷ []) ∷ placed 64 (Right (pos 9)) (143 ∷ 9 ∷ []) ∷ placed 66 (Font (pos 7)) (178 ∷ [])
      ∷ placed 67 (Set (pos 65)) (65 ∷ []) ∷ []))) none;
}

one_character : commands_of (65 ∷ []) ≡ Set (pos 65) ∷ []
unfolding commands_of
one_character = refl

one_change : commands_of (172 ∷ []) ≡ Font (pos 1) ∷ []
unfolding commands_of
one_change = refl

abbrev later : List Placed
later = placed 82 (Put (pos 65)) (133 ∷ 65 ∷ []) ∷ placed 83 (Right (pos 9)) (143 ∷ 9 ∷ []) ∷ []

abbrev stop_at : PageFaultValue → Outcome
stop_at f = Faults [] f

module _ (t : Bool) (fonts : Fonts) (reading : Reading) (k : FontKey) (f : FontValue) where
  abbrev one : ℕ → Current → DviCommand → Outcome
  one n = of_command t fonts (packets_in t fonts n 81) (InPacket k f) 81

  -- a packet that stops at its first command
  packet_stops : (n : ℕ) (local : Option ℤ) (begun : Current) (text : List ℕ) (commands : List DviCommand) (stop : PageFaultValue) → IsVirtualWith f local text
      → current_of (local_key f local) ≡ begun → commands_of text ≡ commands → of_list (one n) begun commands ≡ stop_at stop
      → of_virtual t (packets_in t fonts (suc n) 81) 81 k f (pos 65) (Some (pos 6)) ≡ Faults (Flat flat.Enter None 81 ∷ []) stop
  unfolding packets_in
  packet_stops n local begun text commands stop is begins are stops =
      let outer = in_packet_level 81 (Known k (decoded.Font f)) (Some (pos 6)) in
      ap (of_packet t (λ l g commands. of_list (of_command t fonts (packets_in t fonts n 81) (InPacket l g) 81) (first_font g) commands) 81 k f (pos 65) (Some (pos 6))) is.packet
      ∙ ap (λ (o : Option ℤ). outer (of_list (one n) (current_of (local_key f o)) (commands_of text))) is.first
      ∙ ap (λ (c : Current). outer (of_list (one n) c (commands_of text))) begins
      ∙ ap (λ (l : List DviCommand). outer (of_list (one n) begun l)) are
      ∙ ap outer stops

  -- and so does the page
  page_stops : (local : Option ℤ) (begun : Current) (text : List ℕ) (commands : List DviCommand) (stop : PageFaultValue) → font_table reading (pos 0) ≡ Some k → fonts k ≡ decoded.Font f
      → IsVirtualWith f local text → current_of (local_key f local) ≡ begun → commands_of text ≡ commands → of_list (one 9) begun commands ≡ stop_at stop
      → StopsInPacket t fonts reading k stop
  page_stops local begun text commands stop table found is begins are stops =
      let packets = packets_in t fonts MAX_DEPTH 81 in
      let looked = outcome_after (LookUp k 81 ∷ []) in
      let set = ap (λ (d : Decoded). looked (of_decoded t packets 81 k d (pos 65) false)) found
      ∙ ap (λ (o : Option ℤ). looked (of_width t packets 81 k f (pos 65) false o)) is.width
      ∙ ap (λ (b : Bool). looked (of_kind t packets 81 k f (pos 65) (pos 6) false b)) is.virtual
      ∙ ap looked (packet_stops 9 local begun text commands stop is begins are stops) in
      goes t fonts reading 85 (placed 80 (Font (pos 0)) (171 ∷ [])) (placed 81 (Set (pos 65)) (65 ∷ []) ∷ later) NoFont (Chosen k) (Flat flat.Skip None 80 ∷ []) _
      (ap (of_change 80 (fault.NoFont (pos 0))) table)
      (ap (λ (o : Outcome). list_of_outcome 81 o (λ now. full_list t fonts reading 85 now later)) set)

  -- a change to a number that no local font has
  change_stops : (local : Option ℤ) (begun : Current) → first_local_of f ≡ local → local_of f (pos 1) ≡ None → of_list (one 9) begun (Font (pos 1) ∷ []) ≡ stop_at (no_local k local (pos 1))
  change_stops local begun first none =
      ap (λ (o : Option FontKey). go_on (of_change 81 (no_local k (first_local_of f) (pos 1)) o) (λ next. of_list (one 9) next [])) none
      ∙ ap (λ (o : Option ℤ). stop_at (no_local k o (pos 1))) first

pub fonts_of_packets_are_worked : FontsOfPacketsAreWorked
fonts_of_packets_are_worked t fonts reading k f table found = record {
  none = λ is. page_stops t fonts reading k f None NoFont (65 ∷ []) (Set (pos 65) ∷ []) (fault.NoLocalFont k None) table found is refl one_character refl;
  undefined = λ is none. page_stops t fonts reading k f (Some (pos 0)) (current_of (local_of f (pos 0))) (172 ∷ []) (Font (pos 1) ∷ []) (fault.NoLocalFont k (Some (pos 1))) table found is refl one_change
      (change_stops t fonts reading k f (Some (pos 0)) (current_of (local_of f (pos 0))) is.first none);
  unnamed = λ is none. page_stops t fonts reading k f None NoFont (172 ∷ []) (Font (pos 1) ∷ []) (fault.NoLocalFont k None) table found is refl one_change
      (change_stops t fonts reading k f None NoFont is.first none);
}
