-- The worked lacks, from the definition.
use Rattle.std.proofs.Common.{◌≡◌, ℕ, suc, ℤ, pos, Bool, true, false, List, [], ◌∷◌, refl, ap, ◌∙◌, Option, Some, None}
use Rattle.std.specs.Prelude.{if◌then◌else◌}
use Rattle.outside.specs.declared.keys.FontKey.{FontKey}
use Rattle.dvi_commands.specs.Spelling.{Put, PutRule, Set}
use Rattle.dvi_commands.specs.Reading.{Placed, placed}
use Rattle.drift_rules.specs.Position as flat
use Rattle.page_index.specs.Document.{Reading, font_table}
use Rattle.font_decode.specs.Fonts.{FontValue, packet_of}
use Rattle.font_decode.specs.declared.font_or_fault.Decoded.{Decoded}
use Rattle.font_decode.specs.declared.font_or_fault.Decoded.TheVariants as decoded
use Rattle.font_decode.specs.declared.faults.FileKind.TheVariants.{Tfm, Pk}
use Rattle.font_decode.specs.declared.faults.FontFault.TheVariants.{Missing}
use Rattle.vf_expand.specs.Faults.{PageFaultValue}
use Rattle.vf_expand.specs.Faults as fault
use Rattle.vf_expand.specs.Course.{Known, Chosen, InPacket, bare_advance, first_font, advance_of}
use Rattle.vf_expand.specs.Members.{Flat, LookUp}
use Rattle.vf_expand.specs.PageLists.{Fonts, Outcome, Packets, outcome_after, list_after, full_list, list_of_outcome, of_change, of_command, of_decoded, of_glyph, of_kind, of_lack, of_list, of_packet, of_virtual, of_width, packets_in}
use Rattle.vf_expand.specs.Limits.{MAX_DEPTH}
use Rattle.vf_expand.specs.Lacks.{LacksAreCut, LacksAreWorked, LacksIt, lacks_it}

-- a virtual font without the packet
no_packet : (t : Bool) (fonts : Fonts) (n at : ℕ) (k : FontKey) (f : FontValue) (c : ℕ) (advance : Option ℤ) → packet_of f c ≡ None
    → of_virtual t (packets_in t fonts (suc n) at) at k f (pos c) advance ≡ of_lack t at (fault.NoPacket k (pos c)) advance (Known k (decoded.Font f))
unfolding packets_in
no_packet t fonts n at k f c advance none =
    ap (of_packet t (λ l g commands. of_list (of_command t fonts (packets_in t fonts n at) (InPacket l g) at) (first_font g) commands) at k f (pos c) advance) none

abbrev rule : List Placed
rule = placed 82 (PutRule (pos 2) (pos 2)) [] ∷ []

abbrev packets : Bool → Fonts → Packets
packets t fonts = packets_in t fonts MAX_DEPTH 80

module _ (fonts : Fonts) (reading : Reading) (k : FontKey) (table : font_table reading (pos 0) ≡ Some k) where
  -- the character's command
  head : (t put : Bool) (c : ℤ) → full_list t fonts reading 91 (Chosen k) (placed 80 (if put then Put c else Set c) [] ∷ rule)
      ≡ list_of_outcome 80 (outcome_after (LookUp k 80 ∷ []) (of_decoded t (packets t fonts) 80 k (fonts k) c put)) (λ now. full_list t fonts reading 91 now rule)
  head t true c = refl
  head t false c = refl

  last : (t : Bool) (f : PageFaultValue) (advance : Option ℤ) (d : Decoded)
      → list_after (Flat flat.Skip None 79 ∷ []) (list_of_outcome 80 (outcome_after (LookUp k 80 ∷ []) (of_lack t 80 f advance (Known k d))) (λ now. full_list t fonts reading 91 now rule)) ≡ lacks_it k f advance t
  last true f advance d = refl
  last false f advance d = refl

  lacks : (put : Bool) (c : ℤ) (f : PageFaultValue) (advance : Option ℤ) (d : Decoded)
      → ((t : Bool) → of_decoded t (packets t fonts) 80 k (fonts k) c put ≡ of_lack t 80 f advance (Known k d)) → LacksIt fonts reading k put c f advance
  lacks put c f advance d is = λ t.
      ap (λ (o : Outcome). list_of_outcome 79 o (λ now. full_list t fonts reading 91 now (placed 80 (if put then Put c else Set c) [] ∷ rule))) (ap (of_change 79 (fault.NoFont (pos 0))) table)
      ∙ ap (list_after (Flat flat.Skip None 79 ∷ [])) (head t put c
      ∙ ap (λ (o : Outcome). list_of_outcome 80 (outcome_after (LookUp k 80 ∷ []) o) (λ now. full_list t fonts reading 91 now rule)) (is t))
      ∙ last t f advance d

  finds : (t put : Bool) (c : ℤ) (d : Decoded) → fonts k ≡ d → of_decoded t (packets t fonts) 80 k (fonts k) c put ≡ of_decoded t (packets t fonts) 80 k d c put
  finds t put c d is = ap (λ (d : Decoded). of_decoded t (packets t fonts) 80 k d c put) is

pub lacks_are_worked : LacksAreWorked
lacks_are_worked fonts reading k table = record {
  no_file = λ put c is. lacks fonts reading k table put c _ None (decoded.Fault (Missing Tfm)) (λ t. finds fonts reading k table t put c _ is);
  bare = λ put c width f is wide. lacks fonts reading k table put c _ (advance_of width put) (decoded.Bare f) (λ t. finds fonts reading k table t put c _ is
      ∙ ap (λ (o : Option ℤ). of_lack t 80 (fault.Font k (Missing Pk)) (bare_advance o put) (Known k (decoded.Bare f))) wide);
  bare_none = λ put c f is none. lacks fonts reading k table put c _ None (decoded.Bare f) (λ t. finds fonts reading k table t put c _ is
      ∙ ap (λ (o : Option ℤ). of_lack t 80 (fault.Font k (Missing Pk)) (bare_advance o put) (Known k (decoded.Bare f))) none);
  no_width = λ put c f is none. lacks fonts reading k table put c _ None (decoded.Font f) (λ t. finds fonts reading k table t put c _ is
      ∙ ap (of_width t (packets t fonts) 80 k f c put) none);
  no_glyph = λ put c width f is packed wide none. lacks fonts reading k table put (pos c) _ (advance_of width put) (decoded.Font f) (λ t. finds fonts reading k table t put (pos c) _ is
      ∙ ap (of_width t (packets t fonts) 80 k f (pos c) put) wide ∙ ap (of_kind t (packets t fonts) 80 k f (pos c) width put) packed
      ∙ ap (of_glyph t 80 k (decoded.Font f) (pos c) width put) none);
  no_packet = λ put c width f is virtual wide none. lacks fonts reading k table put (pos c) _ (advance_of width put) (decoded.Font f) (λ t. finds fonts reading k table t put (pos c) _ is
      ∙ ap (of_width t (packets t fonts) 80 k f (pos c) put) wide ∙ ap (of_kind t (packets t fonts) 80 k f (pos c) width put) virtual
      ∙ no_packet t fonts 9 80 k f c (advance_of width put) none);
}

pub lacks_are_cut : LacksAreCut
lacks_are_cut k f advance = (refl, refl)
