-- The decoding is the first row that holds, or the bare font in its place, and else the font.
use Rattle.std.proofs.Common.{◌≡◌, ◌∙◌, inl, inr, ℕ, List, [], ◌∷◌, Bool, true, false, Option, Some, None, refl, sym, ap, subst}
use Rattle.std.specs.Prelude.{◌↔◌, MatchBool, MatchOption}
use Rattle.std.proofs.lemmas.Bool.{true≢false, cases_Bool}
use Rattle.outside.specs.declared.keys.FontKey.{FontKey}
use Rattle.pixel_round.specs.declared.units.Units.{Units}
use Rattle.tfm_reader.specs.Tfm.{tfm_fault}
use Rattle.tfm_reader.specs.declared.faults.TfmFault.{TfmFault}
use Rattle.pk_packets.proofs.OneMeaning as pk_file
use Rattle.pk_packets.specs.Faults.{IsFirstFault}
use Rattle.pk_packets.specs.declared.faults.PkFault.{PkFault}
use Rattle.gf_reader.proofs.OneMeaning as gf_file
use Rattle.gf_reader.specs.FirstFault.{IsFirstFault as IsFirstGfFault}
use Rattle.gf_reader.specs.declared.faults.GfFault.{GfFault}
use Rattle.vf_reader.specs.Fonts.{IsVfFile}
use Rattle.vf_reader.specs.Faults.{IsFirstFault as IsFirstVfFault}
use Rattle.vf_reader.specs.Locals.{locals_of}
use Rattle.vf_reader.specs.declared.faults.VfFault.{VfFault}
use Rattle.vf_reader.proofs.OneMeaning as vf_file
use Rattle.font_decode.specs.Names.{is_valid_name, dpi, is_resolution}
use Rattle.font_decode.specs.Files.{FontFiles}
use Rattle.font_decode.specs.Locals.{are_local_sizes}
use Rattle.font_decode.specs.Decoding.{is_too_long, IsBareFont, IsPackedFont, IsGenericFont, IsVirtualFont, DecodesBare, DecodesPk, DecodesGf, DecodesShortGf, DecodesGlyphs, DecodesItems, DecodesVf, DecodesSound, DecodesTfm}
use Rattle.font_decode.specs.Rows.{Row, WrongName, NoTfm, LongTfm, WrongTfm, LongVf, WrongVf, LocalSize, Resolution, LongPk, WrongPk, LongGf, WrongGf, NoGlyphs, HoldsNot, NoneHolds, FirstHolds, NO_GLYPHS, IsFirstOf, IsFirstRow}
use Rattle.font_decode.specs.Laws.{RowsDetermineTheDecoding}
use Rattle.font_decode.proofs.FirstRows.{held, none_some, passed, some_is, some_none}
use Rattle.font_decode.specs.declared.font_or_fault.Decoded.{Decoded}
use Rattle.font_decode.specs.declared.font_or_fault.Decoded.TheVariants.{Font, Bare, Fault}
use Rattle.font_decode.specs.declared.faults.FileKind.TheVariants as kind
use Rattle.font_decode.specs.declared.faults.FontFault.{FontFault}
use Rattle.font_decode.specs.declared.faults.FontFault.TheVariants as fault

module _ (u : Units) (k : FontKey) where
  abbrev of : Option (List ℕ) → Option (List ℕ) → Option (List ℕ) → Option (List ℕ) → FontFiles
  of tfm vf pk gf = record { tfm = tfm; vf = vf; pk = pk; gf = gf }

  -- ---- a PK file

  -- no row of the GF file holds beside it
  abbrev gf_rows : List Row
  gf_rows = LongGf ∷ WrongGf ∷ NoGlyphs ∷ []

  none_beside_pk : (t p : List ℕ) (gf : Option (List ℕ)) → NoneHolds u k (of (Some t) None (Some p) gf) gf_rows
  none_beside_pk t p gf = ((λ f w. some_none p w.1), ((λ f w. some_none p w.1), ((λ f w. some_none p w.1), tt)))

  not_beside_pk : (t p : List ℕ) (gf : Option (List ℕ)) (f : FontFault) → FirstHolds u k (of (Some t) None (Some p) gf) gf_rows f → ⊥
  not_beside_pk t p gf f (inl w) = some_none p w.1
  not_beside_pk t p gf f (inr (a, inl w)) = some_none p w.1
  not_beside_pk t p gf f (inr (a, inr (b, inl w))) = some_none p w.1
  not_beside_pk t p gf f (inr (a, inr (b, inr later))) = later.1

  by_pk : (t p : List ℕ) (gf : Option (List ℕ)) (d : Decoded) → DecodesPk k t p d ↔ IsFirstOf u k (of (Some t) None (Some p) gf) (WrongPk ∷ gf_rows) d
  by_pk t p gf (Font f) = (
    λ h. (((λ g w. let same = some_is p w.1 w.2 in pk_file.files_have_no_fault p h.items w.3 h.file (subst (λ (b : List ℕ). IsFirstFault b w.3) same w.4)), none_beside_pk t p gf), (t, refl, h)),
    λ q. let font = q.1 in subst (λ (x : List ℕ). IsPackedFont k x p f) (some_is t font.0 font.1) font.2,
  )
  by_pk t p gf (Bare f) = (λ h. absurd h, λ q. elim q.0 [ inl w ↦ absurd (pk_is_there w.3 w.5) | inr later ↦ absurd (not_beside_pk t p gf NO_GLYPHS later.1) ])
    where
      pk_is_there : (found : PkFault) → NO_GLYPHS ≡ fault.Pk found → ⊥
      pk_is_there found e = cc
  by_pk t p gf (Fault f) = (
    λ h. (inl (refl, p, refl, h.0, h.1, h.2), λ e. other h.0 h.2 e),
    λ q. elim q.0 [ inl w ↦ (w.3, subst (λ (b : List ℕ). IsFirstFault b w.3) (some_is p w.1 w.2) w.4, w.5) | inr later ↦ absurd (not_beside_pk t p gf f later.1) ],
  )
    where
      other : (found : PkFault) → f ≡ fault.Pk found → f ≡ NO_GLYPHS → ⊥
      other found e n = cc

  by_long_pk : (t p : List ℕ) (gf : Option (List ℕ)) (d : Decoded) (b : Bool) → is_too_long p ≡ b
      → MatchBool b (d ≡ Fault (fault.TooLong kind.Pk)) (DecodesPk k t p d) ↔ IsFirstOf u k (of (Some t) None (Some p) gf) (LongPk ∷ WrongPk ∷ gf_rows) d
  by_long_pk t p gf d true e = held u k (of (Some t) None (Some p) gf) LongPk (WrongPk ∷ gf_rows) (fault.TooLong kind.Pk) d (λ e. cc) (refl, p, refl, e, refl) (λ f w. w.4)
  by_long_pk t p gf d false e =
      passed u k (of (Some t) None (Some p) gf) LongPk (WrongPk ∷ gf_rows) _ d
      (λ f w. true≢false (sym w.3 ∙ ap is_too_long (some_is p w.1 w.2) ∙ e)) (by_pk t p gf d)

  -- ---- a GF file

  by_gf : (t g : List ℕ) (d : Decoded) → DecodesGf k t g d ↔ IsFirstOf u k (of (Some t) None None (Some g)) (WrongGf ∷ NoGlyphs ∷ []) d
  by_gf t g (Font f) = (
    λ h. (
      (
        (λ x w. gf_file.files_have_no_fault g h.characters w.4 h.file (subst (λ (b : List ℕ). IsFirstGfFault b w.4) (some_is g w.2 w.3) w.5)),
        ((λ x w. some_none g w.2), tt),
      ),
      (t, refl, (g, refl, h)),
    ),
    λ q.
        let font = q.1 in
        let same_tfm = some_is t font.0 font.1 in
        let same_gf = some_is g font.2.0 font.2.1 in
        subst (λ (x : List ℕ). IsGenericFont k x g f) same_tfm (subst (λ (x : List ℕ). IsGenericFont k font.0 x f) same_gf font.2.2),
  )
  by_gf t g (Bare f) = (λ h. absurd h, λ q. absurd (not q.0))
    where
      gf_is_there : (found : GfFault) → NO_GLYPHS ≡ fault.Gf found → ⊥
      gf_is_there found e = cc

      not : FirstHolds u k (of (Some t) None None (Some g)) (WrongGf ∷ NoGlyphs ∷ []) NO_GLYPHS → ⊥
      not (inl w) = gf_is_there w.4 w.6
      not (inr (a, inl w)) = some_none g w.2
      not (inr (a, inr later)) = later.1
  by_gf t g (Fault f) = (
    λ h. (inl (refl, refl, g, refl, h.0, h.1, h.2), λ e. other h.0 h.2 e),
    λ q. by f q.0,
  )
    where
      other : (found : GfFault) → f ≡ fault.Gf found → f ≡ NO_GLYPHS → ⊥
      other found e n = cc

      by : (f : FontFault) → FirstHolds u k (of (Some t) None None (Some g)) (WrongGf ∷ NoGlyphs ∷ []) f → DecodesGf k t g (Fault f)
      by f (inl w) = (w.4, subst (λ (b : List ℕ). IsFirstGfFault b w.4) (some_is g w.2 w.3) w.5, w.6)
      by f (inr (a, inl w)) = absurd (some_none g w.2)
      by f (inr (a, inr later)) = absurd later.1

  by_long_gf : (t g : List ℕ) (d : Decoded) (b : Bool) → is_too_long g ≡ b
      → MatchBool b (d ≡ Fault (fault.TooLong kind.Gf)) (DecodesGf k t g d) ↔ IsFirstOf u k (of (Some t) None None (Some g)) gf_rows d
  by_long_gf t g d true e = held u k (of (Some t) None None (Some g)) LongGf (WrongGf ∷ NoGlyphs ∷ []) (fault.TooLong kind.Gf) d (λ e. cc) (refl, refl, g, refl, e, refl) (λ f w. w.5)
  by_long_gf t g d false e =
      passed u k (of (Some t) None None (Some g)) LongGf (WrongGf ∷ NoGlyphs ∷ []) _ d
      (λ f w. true≢false (sym w.4 ∙ ap is_too_long (some_is g w.2 w.3) ∙ e)) (by_gf t g d)

  by_no_glyphs : (t : List ℕ) (d : Decoded) → DecodesBare k t d ↔ IsFirstOf u k (of (Some t) None None None) (NoGlyphs ∷ []) d
  by_no_glyphs t (Font f) = (λ h. absurd h, λ q. absurd (q.0.0 NO_GLYPHS (refl, refl, refl, refl)))
  by_no_glyphs t (Bare f) = (
    λ h. (inl (refl, refl, refl, refl), (t, refl, h)),
    λ q. subst (λ (x : List ℕ). IsBareFont k x f) (some_is t q.1.0 q.1.1) q.1.2,
  )
  by_no_glyphs t (Fault f) = (λ h. absurd h, λ q. elim q.0 [ inl h ↦ absurd (q.1 h.3) | inr later ↦ absurd later.1 ])

  by_found_gf : (t : List ℕ) (gf : Option (List ℕ)) (d : Decoded)
      → MatchOption gf (DecodesBare k t d) (λ g. DecodesShortGf k t g d) ↔ IsFirstOf u k (of (Some t) None None gf) gf_rows d
  by_found_gf t None d =
      let files = of (Some t) None None None in
      passed u k files LongGf (WrongGf ∷ NoGlyphs ∷ []) _ d (λ f w. none_some w.2 w.3)
      (passed u k files WrongGf (NoGlyphs ∷ []) _ d (λ f w. none_some w.2 w.3) (by_no_glyphs t d))
  by_found_gf t (Some g) d = by_long_gf t g d (is_too_long g) refl

  -- ---- the files of glyphs

  abbrev glyph_rows : List Row
  glyph_rows = LongPk ∷ WrongPk ∷ gf_rows

  by_glyphs : (t : List ℕ) (pk gf : Option (List ℕ)) (d : Decoded) → DecodesGlyphs k t (of (Some t) None pk gf) d ↔ IsFirstOf u k (of (Some t) None pk gf) glyph_rows d
  by_glyphs t None gf d =
      let files = of (Some t) None None gf in
      passed u k files LongPk (WrongPk ∷ gf_rows) _ d (λ f w. none_some w.1 w.2)
      (passed u k files WrongPk gf_rows _ d (λ f w. none_some w.1 w.2) (by_found_gf t gf d))
  by_glyphs t (Some p) gf d = by_long_pk t p gf d (is_too_long p) refl

  abbrev pk_rows : List Row
  pk_rows = Resolution ∷ glyph_rows

  by_resolution : (t : List ℕ) (pk gf : Option (List ℕ)) (d : Decoded) (b : Bool) → is_resolution (dpi u k) ≡ b
      → MatchBool b (DecodesGlyphs k t (of (Some t) None pk gf) d) (d ≡ Fault fault.Size) ↔ IsFirstOf u k (of (Some t) None pk gf) pk_rows d
  by_resolution t pk gf d true e =
      passed u k (of (Some t) None pk gf) Resolution glyph_rows _ d (λ f w. true≢false (sym e ∙ w.1)) (by_glyphs t pk gf d)
  by_resolution t pk gf d false e = held u k (of (Some t) None pk gf) Resolution glyph_rows fault.Size d (λ e. cc) (refl, e, refl) (λ f w. w.2)

  -- ---- a VF file

  -- no row of the resolution or of the files of glyphs holds beside it
  none_beside : (t v : List ℕ) (pk gf : Option (List ℕ)) → NoneHolds u k (of (Some t) (Some v) pk gf) pk_rows
  none_beside t v pk gf =
      ((λ f w. some_none v w.0), ((λ f w. some_none v w.0), ((λ f w. some_none v w.0), ((λ f w. some_none v w.0), ((λ f w. some_none v w.0), ((λ f w. some_none v w.0), tt))))))

  not_beside : (t v : List ℕ) (pk gf : Option (List ℕ)) (f : FontFault) → FirstHolds u k (of (Some t) (Some v) pk gf) pk_rows f → ⊥
  not_beside t v pk gf f (inl w) = some_none v w.0
  not_beside t v pk gf f (inr (a, inl w)) = some_none v w.0
  not_beside t v pk gf f (inr (a, inr (b, inl w))) = some_none v w.0
  not_beside t v pk gf f (inr (a, inr (b, inr (c, inl w)))) = some_none v w.0
  not_beside t v pk gf f (inr (a, inr (b, inr (c, inr (d, inl w))))) = some_none v w.0
  not_beside t v pk gf f (inr (a, inr (b, inr (c, inr (d, inr (e, inl w)))))) = some_none v w.0
  not_beside t v pk gf f (inr (a, inr (b, inr (c, inr (d, inr (e, inr later)))))) = later.1

  abbrev Same : List (List ℕ) → List (List ℕ) → Type 0
  Same items others = others ≡ items

  one_list : (v w : List ℕ) (items others : List (List ℕ)) → Some v ≡ Some w → IsVfFile v items → IsVfFile w others → Same items others
  one_list v w items others e a b = vf_file.files_are_read_one_way v others items (subst (λ (x : List ℕ). IsVfFile x others) (some_is v w e) b) a

  no_size : NO_GLYPHS ≡ fault.Size → ⊥
  no_size e = cc

  no_vf : (found : VfFault) → NO_GLYPHS ≡ fault.Vf found → ⊥
  no_vf found e = cc

  -- the items of a sound file
  by_items : (t v : List ℕ) (pk gf : Option (List ℕ)) (items : List (List ℕ)) (d : Decoded) → IsVfFile v items → DecodesItems u k t items d ↔ IsFirstOf u k (of (Some t) (Some v) pk gf) (LocalSize ∷ pk_rows) d
  by_items t v pk gf items (Font f) file = (
    λ h. (((λ g w. true≢false (sym h.0 ∙ ap (λ (x : List (List ℕ)). are_local_sizes u k.size (locals_of x)) (sym (one_list v w.0 items w.2 w.1 file w.3)) ∙ w.4)), none_beside t v pk gf), (t, refl, (items, file, h.1))),
    λ q.
        let font = q.1 in
        let same : Same items font.2.0 = vf_file.files_are_read_one_way v font.2.0 items font.2.1 file in
        let right : are_local_sizes u k.size (locals_of items) ≡ true = elim (cases_Bool (are_local_sizes u k.size (locals_of items))) [
          | inl right ↦ right
          | inr wrong ↦ absurd (q.0.0 fault.Size (v, refl, items, file, wrong, refl))
        ] in
        (right, subst (λ (x : List (List ℕ)). IsVirtualFont u k t x f) same (subst (λ (x : List ℕ). IsVirtualFont u k x font.2.0 f) (some_is t font.0 font.1) font.2.2)),
  )
  by_items t v pk gf items (Bare f) file = (
    λ h. absurd h,
    λ q. elim q.0 [ inl w ↦ absurd (no_size w.5) | inr later ↦ absurd (not_beside t v pk gf NO_GLYPHS later.1) ],
  )
  by_items t v pk gf items (Fault f) file = (
    λ h. (inl (v, refl, items, file, h.0, h.1), λ e. no_size (sym e ∙ h.1)),
    λ q. elim q.0 [
      | inl w ↦ (ap (λ (x : List (List ℕ)). are_local_sizes u k.size (locals_of x)) (sym (one_list v w.0 items w.2 w.1 file w.3)) ∙ w.4, w.5)
      | inr later ↦ absurd (not_beside t v pk gf f later.1)
    ],
  )

  -- a sound file has no fault, and a file with a fault no items
  sound_there : (t v : List ℕ) (pk gf : Option (List ℕ)) (items : List (List ℕ)) → IsVfFile v items → HoldsNot u k (of (Some t) (Some v) pk gf) WrongVf
  sound_there t v pk gf items file f w = vf_file.files_have_no_fault v items w.2 file (subst (λ (b : List ℕ). IsFirstVfFault b w.2) (some_is v w.0 w.1) w.3)

  by_vf : (t v : List ℕ) (pk gf : Option (List ℕ)) (d : Decoded) → DecodesVf u k t v d ↔ IsFirstOf u k (of (Some t) (Some v) pk gf) (WrongVf ∷ LocalSize ∷ pk_rows) d
  by_vf t v pk gf d = (to d, from d)
    where
      to : (d : Decoded) → DecodesVf u k t v d → IsFirstOf u k (of (Some t) (Some v) pk gf) (WrongVf ∷ LocalSize ∷ pk_rows) d
      to d (inl h) = (held u k (of (Some t) (Some v) pk gf) WrongVf (LocalSize ∷ pk_rows) (fault.Vf h.0) d (λ e. cc) (v, refl, h.0, h.1, refl)
          (λ f w. w.4 ∙ ap (λ (x : VfFault). fault.Vf x) (vf_file.first_faults_are_one v w.2 h.0 (subst (λ (b : List ℕ). IsFirstVfFault b w.2) (some_is v w.0 w.1) w.3) h.1))).0 h.2
      to d (inr h) = (passed u k (of (Some t) (Some v) pk gf) WrongVf (LocalSize ∷ pk_rows) _ d (sound_there t v pk gf h.0 h.1) (by_items t v pk gf h.0 d h.1)).0 h.2

      from : (d : Decoded) → IsFirstOf u k (of (Some t) (Some v) pk gf) (WrongVf ∷ LocalSize ∷ pk_rows) d → DecodesVf u k t v d
      from (Font f) q = inr (q.1.2.0, q.1.2.1, (by_items t v pk gf q.1.2.0 (Font f) q.1.2.1).1 (q.0.1, q.1))
      from (Bare f) (inl w, bare) = absurd (no_vf w.2 w.4)
      from (Bare f) (inr (a, inl w), bare) = absurd (no_size w.5)
      from (Bare f) (inr (a, inr later), bare) = absurd (not_beside t v pk gf NO_GLYPHS later.1)
      from (Fault f) (inl w, other) = inl (w.2, subst (λ (b : List ℕ). IsFirstVfFault b w.2) (some_is v w.0 w.1) w.3, ap (λ (x : FontFault). Fault x) w.4)
      from (Fault f) (inr (a, inl w), other) =
          let file = subst (λ (x : List ℕ). IsVfFile x w.2) (some_is v w.0 w.1) w.3 in
          inr (w.2, file, (w.4, w.5))
      from (Fault f) (inr (a, inr later), other) = absurd (not_beside t v pk gf f later.1)

  by_long_vf : (t v : List ℕ) (pk gf : Option (List ℕ)) (d : Decoded) (b : Bool) → is_too_long v ≡ b
      → MatchBool b (d ≡ Fault (fault.TooLong kind.Vf)) (DecodesVf u k t v d) ↔ IsFirstOf u k (of (Some t) (Some v) pk gf) (LongVf ∷ WrongVf ∷ LocalSize ∷ pk_rows) d
  by_long_vf t v pk gf d true e =
      held u k (of (Some t) (Some v) pk gf) LongVf (WrongVf ∷ LocalSize ∷ pk_rows) (fault.TooLong kind.Vf) d (λ e. cc) (v, refl, e, refl) (λ f w. w.3)
  by_long_vf t v pk gf d false e =
      passed u k (of (Some t) (Some v) pk gf) LongVf (WrongVf ∷ LocalSize ∷ pk_rows) _ d (λ f w. true≢false (sym w.2 ∙ ap is_too_long (some_is v w.0 w.1) ∙ e)) (by_vf t v pk gf d)

  abbrev vf_rows : List Row
  vf_rows = LongVf ∷ WrongVf ∷ LocalSize ∷ pk_rows

  by_sound : (t : List ℕ) (vf pk gf : Option (List ℕ)) (d : Decoded) → DecodesSound u k t (of (Some t) vf pk gf) d ↔ IsFirstOf u k (of (Some t) vf pk gf) vf_rows d
  by_sound t None pk gf d =
      let files = of (Some t) None pk gf in
      passed u k files LongVf (WrongVf ∷ LocalSize ∷ pk_rows) _ d (λ f w. none_some w.0 w.1)
      (passed u k files WrongVf (LocalSize ∷ pk_rows) _ d (λ f w. none_some w.0 w.1)
      (passed u k files LocalSize pk_rows _ d (λ f w. none_some w.0 w.1)
      (by_resolution t pk gf d (is_resolution (dpi u k)) refl)))
  by_sound t (Some v) pk gf d = by_long_vf t v pk gf d (is_too_long v) refl

  -- ---- a TFM file

  by_tfm_fault : (t : List ℕ) (vf pk gf : Option (List ℕ)) (d : Decoded) (o : Option TfmFault) → tfm_fault t ≡ o
      → MatchOption o (DecodesSound u k t (of (Some t) vf pk gf) d) (λ found. d ≡ Fault (fault.Tfm found)) ↔ IsFirstOf u k (of (Some t) vf pk gf) (WrongTfm ∷ vf_rows) d
  by_tfm_fault t vf pk gf d None e =
      passed u k (of (Some t) vf pk gf) WrongTfm vf_rows _ d (λ f w. none_some w.2 (sym e ∙ ap tfm_fault (sym (some_is t w.0 w.1)) ∙ w.3)) (by_sound t vf pk gf d)
  by_tfm_fault t vf pk gf d (Some found) e =
      held u k (of (Some t) vf pk gf) WrongTfm vf_rows (fault.Tfm found) d (λ e. cc) (t, refl, found, e, refl)
      (λ f w. w.4 ∙ ap (λ (x : TfmFault). fault.Tfm x) (some_is found w.2 (sym e ∙ ap tfm_fault (sym (some_is t w.0 w.1)) ∙ w.3)))

  by_long_tfm : (t : List ℕ) (vf pk gf : Option (List ℕ)) (d : Decoded) (b : Bool) → is_too_long t ≡ b
      → MatchBool b (d ≡ Fault (fault.TooLong kind.Tfm)) (MatchOption (tfm_fault t) (DecodesSound u k t (of (Some t) vf pk gf) d) (λ found. d ≡ Fault (fault.Tfm found)))
      ↔ IsFirstOf u k (of (Some t) vf pk gf) (LongTfm ∷ WrongTfm ∷ vf_rows) d
  by_long_tfm t vf pk gf d true e = held u k (of (Some t) vf pk gf) LongTfm (WrongTfm ∷ vf_rows) (fault.TooLong kind.Tfm) d (λ e. cc) (t, refl, e, refl) (λ f w. w.3)
  by_long_tfm t vf pk gf d false e =
      passed u k (of (Some t) vf pk gf) LongTfm (WrongTfm ∷ vf_rows) _ d (λ f w. true≢false (sym w.2 ∙ ap is_too_long (some_is t w.0 w.1) ∙ e))
      (by_tfm_fault t vf pk gf d (tfm_fault t) refl)

  abbrev tfm_rows : List Row
  tfm_rows = NoTfm ∷ LongTfm ∷ WrongTfm ∷ vf_rows

  by_found_tfm : (tfm vf pk gf : Option (List ℕ)) (d : Decoded)
      → MatchOption tfm (d ≡ Fault (fault.Missing kind.Tfm)) (λ t. DecodesTfm u k t (of tfm vf pk gf) d) ↔ IsFirstOf u k (of tfm vf pk gf) tfm_rows d
  by_found_tfm None vf pk gf d = held u k (of None vf pk gf) NoTfm (LongTfm ∷ WrongTfm ∷ vf_rows) (fault.Missing kind.Tfm) d (λ e. cc) (refl, refl) (λ f w. w.1)
  by_found_tfm (Some t) vf pk gf d =
      passed u k (of (Some t) vf pk gf) NoTfm (LongTfm ∷ WrongTfm ∷ vf_rows) _ d (λ f w. some_none t w.0) (by_long_tfm t vf pk gf d (is_too_long t) refl)

  by_name : (files : FontFiles) (d : Decoded) (b : Bool) → is_valid_name k ≡ b
      → MatchBool b (MatchOption files.tfm (d ≡ Fault (fault.Missing kind.Tfm)) (λ t. DecodesTfm u k t files d)) (d ≡ Fault fault.Name) ↔ IsFirstRow u k files d
  by_name files d true e = passed u k files WrongName tfm_rows _ d (λ f w. true≢false (sym e ∙ w.0)) (by_found_tfm files.tfm files.vf files.pk files.gf d)
  by_name files d false e = held u k files WrongName tfm_rows fault.Name d (λ e. cc) (e, refl) (λ f w. w.1)

pub rows_determine_the_decoding : RowsDetermineTheDecoding
rows_determine_the_decoding u k files d = by_name u k files d (is_valid_name k) refl
