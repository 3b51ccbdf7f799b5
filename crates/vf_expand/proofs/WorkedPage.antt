-- The worked page, from the definition.
use Rattle.std.proofs.Common.{◌≡◌, ℕ, ◌/◌, ℤ, pos, Bool, true, false, List, [], ◌∷◌, refl, ap, ◌∙◌, Some, None}
use Rattle.outside.specs.declared.keys.FontKey.{FontKey}
use Rattle.dvi_commands.specs.Spelling.{Font, Put, Right, Set}
use Rattle.dvi_commands.specs.Reading.{Placed, placed}
use Rattle.drift_rules.specs.Position as flat
use Rattle.page_index.specs.Document.{Reading, font_table}
use Rattle.pk_runs.specs.declared.glyph.Glyph.{Glyph}
use Rattle.font_decode.specs.Fonts.{FontValue, scaled_width_of, glyph_at, glyph_in, is_virtual_of, is_virtual_shape}
use Rattle.font_decode.specs.declared.shapes.Shapes.{Shapes}
use Rattle.font_decode.specs.declared.shapes.Shapes.TheVariants as shapes
use Rattle.font_decode.specs.declared.font_or_fault.Decoded.{Decoded}
use Rattle.font_decode.specs.declared.font_or_fault.Decoded.TheVariants as decoded
use Rattle.vf_expand.specs.Faults as fault
use Rattle.vf_expand.specs.Course.{Current, Known, NoFont, Chosen, OnPage}
use Rattle.vf_expand.specs.Limits.{MAX_DEPTH}
use Rattle.vf_expand.specs.Members.{Member, Flat, LookUp}
use Rattle.vf_expand.specs.PageLists.{AtEnd, Fonts, Outcome, Goes, PageList, Packets, outcome_after, list_after, full_list, list_of_outcome, up_to_limit, no_more, of_change, of_command, of_decoded, of_glyph, of_kind, of_width, packets_in}
use Rattle.vf_expand.specs.Laws.{ThePageIsWorked, worked}

-- a font with a glyph is no virtual one
packed_shape : (s : Shapes) (c : ℕ) (g : Glyph) → glyph_in s c ≡ Some g → is_virtual_shape s ≡ false
packed_shape (shapes.Packed glyphs) c g e = refl
packed_shape (shapes.Generic glyphs) c g e = refl
packed_shape shapes.Bare c g e = refl
packed_shape (shapes.Virtual file keys) c g e = absurd cc

is_packed : (f : FontValue) (c : ℕ) (g : Glyph) → glyph_at f c ≡ Some g → is_virtual_of f ≡ false
is_packed f c g e = packed_shape f.shapes c g e

-- a character of a packed font
pub gives_glyph : (t : Bool) (packets : Packets) (at : ℕ) (k : FontKey) (f : FontValue) (g : Glyph) (width : ℤ) (put : Bool) → scaled_width_of f (pos 65) ≡ Some width → glyph_at f 65 ≡ Some g
    → of_decoded t packets at k (decoded.Font f) (pos 65) put ≡ Goes (Flat (flat.Char k 65 width put) (Some g) at ∷ []) (Known k (decoded.Font f))
gives_glyph t packets at k f g width put wide glyph =
    ap (of_width t packets at k f (pos 65) put) wide ∙ ap (of_kind t packets at k f (pos 65) width put) (is_packed f 65 g glyph)
    ∙ ap (of_glyph t at k (decoded.Font f) (pos 65) width put) glyph

-- the character of the font
char_at : ℕ → FontKey → Glyph → Bool → Member
char_at at k g put = Flat (flat.Char k 65 (pos 8) put) (Some g) at

gives_all : (t : Bool) (packets : Packets) (at : ℕ) (k : FontKey) (f : FontValue) (g : Glyph) (put : Bool) → scaled_width_of f (pos 65) ≡ Some (pos 8) → glyph_at f 65 ≡ Some g
    → of_decoded t packets at k (decoded.Font f) (pos 65) put ≡ Goes (char_at at k g put ∷ []) (Known k (decoded.Font f))
unfolding char_at
gives_all t packets at k f g put width glyph = gives_glyph t packets at k f g (pos 8) put width glyph

module _ (t : Bool) (fonts : Fonts) (reading : Reading) where
  -- one command more
  pub goes : (eop : ℕ) (p : Placed) (commands : List Placed) (current next : Current) (members : List Member) (list : PageList)
      → of_command t fonts (packets_in t fonts MAX_DEPTH p.at) (OnPage reading) p.at current p.command ≡ Goes members next → full_list t fonts reading eop next commands ≡ list
      → full_list t fonts reading eop current (p ∷ commands) ≡ list_after members list
  goes eop p commands current next members list e rest =
      ap (λ (o : Outcome). list_of_outcome p.at o (λ now. full_list t fonts reading eop now commands)) e ∙ ap (list_after members) rest

  module _ (k : FontKey) (f : FontValue) (g : Glyph) (table : font_table reading (pos 7) ≡ Some k) (found : fonts k ≡ decoded.Font f)
      (width : scaled_width_of f (pos 65) ≡ Some (pos 8)) (glyph : glyph_at f 65 ≡ Some g) where
    abbrev known : Current
    known = Known k (decoded.Font f)

    -- a change to the font, and the look-up that stands before the character
    changes : (at : ℕ) → of_change at (fault.NoFont (pos 7)) (font_table reading (pos 7)) ≡ Goes (Flat flat.Skip None at ∷ []) (Chosen k)
    changes at = ap (of_change at (fault.NoFont (pos 7))) table

    looks : (packets : Packets) (at : ℕ) → outcome_after (LookUp k at ∷ []) (of_decoded t packets at k (fonts k) (pos 65) false) ≡ Goes (LookUp k at ∷ char_at at k g false ∷ []) known
    looks packets at =
        ap (λ (d : Decoded). outcome_after (LookUp k at ∷ []) (of_decoded t packets at k d (pos 65) false)) found ∙ ap (outcome_after (LookUp k at ∷ [])) (gives_all t packets at k f g false width glyph)

    abbrev last : List Placed
    last = placed 67 (Set (pos 65)) (65 ∷ []) ∷ []

    abbrev from_66 : List Placed
    from_66 = placed 66 (Font (pos 7)) (178 ∷ []) ∷ last

    abbrev from_64 : List Placed
    from_64 = placed 64 (Right (pos 9)) (143 ∷ 9 ∷ []) ∷ from_66

    abbrev from_62 : List Placed
    from_62 = placed 62 (Put (pos 65)) (133 ∷ 65 ∷ []) ∷ from_64

    abbrev from_61 : List Placed
    from_61 = placed 61 (Set (pos 65)) (65 ∷ []) ∷ from_62

    abbrev list_66 : PageList
    list_66 = list_after (Flat flat.Skip None 66 ∷ []) (list_after (LookUp k 67 ∷ char_at 67 k g false ∷ []) (no_more (AtEnd 68)))

    from_font : full_list t fonts reading 68 known from_66 ≡ list_66
    from_font = goes 68 (placed 66 (Font (pos 7)) (178 ∷ [])) last known (Chosen k) (Flat flat.Skip None 66 ∷ []) _ (changes 66)
        (goes 68 (placed 67 (Set (pos 65)) (65 ∷ [])) [] (Chosen k) known (LookUp k 67 ∷ char_at 67 k g false ∷ []) _ (looks _ 67) refl)

    all_of_it : full_list t fonts reading 68 NoFont worked ≡ list_after (Flat flat.Skip None 60 ∷ []) (list_after (LookUp k 61 ∷ char_at 61 k g false ∷ [])
        (list_after (char_at 62 k g true ∷ []) (list_after (Flat (flat.Right (pos 9) (pos (k.size / 6))) None 64 ∷ []) list_66)))
    all_of_it = goes 68 (placed 60 (Font (pos 7)) (178 ∷ [])) from_61 NoFont (Chosen k) (Flat flat.Skip None 60 ∷ []) _ (changes 60)
        (goes 68 (placed 61 (Set (pos 65)) (65 ∷ [])) from_62 (Chosen k) known (LookUp k 61 ∷ char_at 61 k g false ∷ []) _ (looks _ 61)
        (goes 68 (placed 62 (Put (pos 65)) (133 ∷ 65 ∷ [])) from_64 known known (char_at 62 k g true ∷ []) _ (gives_all t _ 62 k f g true width glyph)
        (goes 68 (placed 64 (Right (pos 9)) (143 ∷ 9 ∷ [])) from_66 known known (Flat (flat.Right (pos 9) (pos (k.size / 6))) None 64 ∷ []) _ refl from_font)))

pub the_page_is_worked : ThePageIsWorked
unfolding char_at
the_page_is_worked t fonts reading k f g table found width glyph =
    let whole = all_of_it t fonts reading k f g table found width glyph in
    record { whole = whole; cut = ap (λ (list : PageList). up_to_limit 5 list.members list.ending) whole }
