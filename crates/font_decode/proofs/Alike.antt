-- Files come to one font, or have one first fault.
use Rattle.std.proofs.Common.{◌≡◌, ◌∙◌, inl, inr, ℕ, ℤ, List, Bool, true, false, Option, Some, None, refl, sym, ap, subst, rules}
use Rattle.std.specs.Prelude.{MatchBool, MatchOption}
use Rattle.std.proofs.lemmas.Bool.{true≢false}
use Rattle.outside.specs.declared.keys.FontKey.{FontKey}
use Rattle.pixel_round.specs.declared.units.Units.{Units}
use Rattle.pk_packets.proofs.OneMeaning.{answers_are_one, files_have_no_fault, first_faults_are_one}
use Rattle.gf_reader.proofs.OneMeaning as gf_file
use Rattle.gf_reader.specs.Characters.{Character, glyph_for}
use Rattle.tfm_reader.specs.Tfm.{tfm_fault}
use Rattle.vf_reader.specs.declared.faults.VfFault.{VfFault}
use Rattle.vf_reader.proofs.OneMeaning as vf_file
use Rattle.font_decode.specs.Names.{is_valid_name, dpi, is_resolution}
use Rattle.font_decode.specs.Files.{FontFiles}
use Rattle.font_decode.specs.Fonts.{FontValue, first_in, glyph_at, glyph_in, is_virtual_shape, local_in, packet_in}
use Rattle.font_decode.specs.declared.shapes.Shapes.{Shapes}
use Rattle.font_decode.specs.declared.shapes.Shapes.TheVariants.{Packed, Generic, Bare as NoShape, Virtual}
use Rattle.font_decode.specs.Laws.{OneIsFound, OneOfItsFiles, OneInALibrary}
use Rattle.font_decode.specs.Decoding.{IsBareFont, IsPackedFont, IsGenericFont, IsVirtualFont, is_too_long, DecodesBare, DecodesPk, DecodesShortPk, DecodesGf, DecodesShortGf, DecodesGlyphs, DecodesPacked, DecodesItems, DecodesVf, DecodesShortVf, DecodesSound, DecodesTfm, IsDecodingOf, AreAlike, AreAlikeFonts}
use Rattle.font_decode.specs.declared.font_or_fault.Decoded.{Decoded}
use Rattle.font_decode.specs.declared.font_or_fault.Decoded.TheVariants.{Font, Bare, Fault}
use Rattle.font_decode.specs.declared.faults.FontFault.{FontFault}
use Rattle.font_decode.specs.declared.faults.FontFault.TheVariants as fault

-- what leaves one answer
abbrev IsOne : (Decoded → Type 0) → Type 0
IsOne P = (d e : Decoded) → P d → P e → AreAlike d e

-- one fault
one_fault : (f : FontFault) → IsOne (λ d. d ≡ Fault f)
one_fault f (Font x) e p q = absurd (cc)
one_fault f (Bare x) e p q = absurd (cc)
one_fault f (Fault x) (Font y) p q = absurd (cc)
one_fault f (Fault x) (Bare y) p q = absurd (cc)
one_fault f (Fault x) (Fault y) p q = cc

-- where each branch leaves one answer, so does the choice
one_of_two : (b : Bool) (P Q : Decoded → Type 0) → IsOne P → IsOne Q → IsOne (λ d. MatchBool b (P d) (Q d))
one_of_two true P Q p q d e x y = p d e x y
one_of_two false P Q p q d e x y = q d e x y

one_of_option : {A : Type 0} (o : Option A) (P : Decoded → Type 0) (Q : A → Decoded → Type 0) → IsOne P → ((a : A) → IsOne (Q a)) → IsOne (λ d. MatchOption o (P d) (λ a. Q a d))
one_of_option None P Q p q d e x y = p d e x y
one_of_option (Some a) P Q p q d e x y = q a d e x y

-- a packed font has no packets and no local fonts, and a virtual font no glyphs
no_packet : (s : Shapes) (c : ℕ) → is_virtual_shape s ≡ false → packet_in s c ≡ None
no_packet (Packed glyphs) c packed = refl
no_packet (Generic glyphs) c packed = refl
no_packet NoShape c packed = refl
no_packet (Virtual file keys) c packed = cc

no_local : (s : Shapes) (n : ℤ) → is_virtual_shape s ≡ false → local_in s n ≡ None
no_local (Packed glyphs) n packed = refl
no_local (Generic glyphs) n packed = refl
no_local NoShape n packed = refl
no_local (Virtual file keys) n packed = cc

no_first : (s : Shapes) → is_virtual_shape s ≡ false → first_in s ≡ None
no_first (Packed glyphs) packed = refl
no_first (Generic glyphs) packed = refl
no_first NoShape packed = refl
no_first (Virtual file keys) packed = cc

no_glyph : (s : Shapes) (c : ℕ) → is_virtual_shape s ≡ true → glyph_in s c ≡ None
no_glyph (Packed glyphs) c virtual = cc
no_glyph (Generic glyphs) c virtual = cc
no_glyph NoShape c virtual = refl
no_glyph (Virtual file keys) c virtual = refl

-- the fonts of two sound files are alike
alike_fonts : (k : FontKey) (tfm pk : List ℕ) (f g : FontValue) → IsPackedFont k tfm pk f → IsPackedFont k tfm pk g → AreAlikeFonts f g
alike_fonts k tfm pk f g p q = record {
  size = p.size ∙ sym q.size;
  widths = λ c. p.widths c ∙ sym (q.widths c);
  virtual = p.packed ∙ sym q.packed;
  glyphs = λ c. answers_are_one pk p.items q.items c (glyph_at f c) (glyph_at g c) p.file q.file (p.glyphs c) (q.glyphs c);
  packets = λ c. no_packet f.shapes c p.packed ∙ sym (no_packet g.shapes c q.packed);
  locals = λ n. no_local f.shapes n p.packed ∙ sym (no_local g.shapes n q.packed);
  first = no_first f.shapes p.packed ∙ sym (no_first g.shapes q.packed);
}

alike_generic : (k : FontKey) (tfm gf : List ℕ) (f g : FontValue) → IsGenericFont k tfm gf f → IsGenericFont k tfm gf g → AreAlikeFonts f g
alike_generic k tfm gf f g p q = record {
  size = p.size ∙ sym q.size;
  widths = λ c. p.widths c ∙ sym (q.widths c);
  virtual = p.packed ∙ sym q.packed;
  glyphs = λ c.
      p.glyphs c ∙ ap (λ (characters : List Character). glyph_for characters c) (gf_file.characters_are_one gf p.characters q.characters p.file q.file)
      ∙ sym (q.glyphs c);
  packets = λ c. no_packet f.shapes c p.packed ∙ sym (no_packet g.shapes c q.packed);
  locals = λ n. no_local f.shapes n p.packed ∙ sym (no_local g.shapes n q.packed);
  first = no_first f.shapes p.packed ∙ sym (no_first g.shapes q.packed);
}

alike_bare : (k : FontKey) (tfm : List ℕ) (f g : FontValue) → IsBareFont k tfm f → IsBareFont k tfm g → AreAlikeFonts f g
alike_bare k tfm f g p q = record {
  size = p.size ∙ sym q.size;
  widths = λ c. p.widths c ∙ sym (q.widths c);
  virtual = p.packed ∙ sym q.packed;
  glyphs = λ c. p.none c ∙ sym (q.none c);
  packets = λ c. no_packet f.shapes c p.packed ∙ sym (no_packet g.shapes c q.packed);
  locals = λ n. no_local f.shapes n p.packed ∙ sym (no_local g.shapes n q.packed);
  first = no_first f.shapes p.packed ∙ sym (no_first g.shapes q.packed);
}

alike_virtual : (u : Units) (k : FontKey) (tfm : List ℕ) (items : List (List ℕ)) (f g : FontValue) → IsVirtualFont u k tfm items f → IsVirtualFont u k tfm items g → AreAlikeFonts f g
alike_virtual u k tfm items f g p q = record {
  size = p.size ∙ sym q.size;
  widths = λ c. p.widths c ∙ sym (q.widths c);
  virtual = p.virtual ∙ sym q.virtual;
  glyphs = λ c. no_glyph f.shapes c p.virtual ∙ sym (no_glyph g.shapes c q.virtual);
  packets = λ c. p.packets c ∙ sym (q.packets c);
  locals = λ n. p.locals n ∙ sym (q.locals n);
  first = p.first ∙ sym q.first;
}

one_of_pk : (k : FontKey) (tfm pk : List ℕ) → IsOne (DecodesPk k tfm pk)
one_of_pk k tfm pk (Font f) (Font g) p q = alike_fonts k tfm pk f g p q
one_of_pk k tfm pk (Font f) (Fault g) p q = absurd (files_have_no_fault pk p.items q.0 p.file q.1)
one_of_pk k tfm pk (Fault f) (Font g) p q = absurd (files_have_no_fault pk q.items p.0 q.file p.1)
one_of_pk k tfm pk (Bare f) e p q = absurd p
one_of_pk k tfm pk d (Bare g) p q = absurd q
one_of_pk k tfm pk (Fault f) (Fault g) p q = p.2 ∙ ap fault.Pk (first_faults_are_one pk p.0 q.0 p.1 q.1) ∙ sym q.2

one_of_gf : (k : FontKey) (tfm gf : List ℕ) → IsOne (DecodesGf k tfm gf)
one_of_gf k tfm gf (Font f) (Font g) p q = alike_generic k tfm gf f g p q
one_of_gf k tfm gf (Font f) (Fault g) p q = absurd (gf_file.files_have_no_fault gf p.characters q.0 p.file q.1)
one_of_gf k tfm gf (Fault f) (Font g) p q = absurd (gf_file.files_have_no_fault gf q.characters p.0 q.file p.1)
one_of_gf k tfm gf (Bare f) e p q = absurd p
one_of_gf k tfm gf d (Bare g) p q = absurd q
one_of_gf k tfm gf (Fault f) (Fault g) p q = p.2 ∙ ap fault.Gf (gf_file.first_faults_are_one gf p.0 q.0 p.1 q.1) ∙ sym q.2

one_of_bare : (k : FontKey) (tfm : List ℕ) → IsOne (DecodesBare k tfm)
one_of_bare k tfm (Bare f) (Bare g) p q = alike_bare k tfm f g p q
one_of_bare k tfm (Font f) e p q = absurd p
one_of_bare k tfm (Fault f) e p q = absurd p
one_of_bare k tfm d (Font g) p q = absurd q
one_of_bare k tfm d (Fault g) p q = absurd q

module _ (u : Units) (k : FontKey) where
  one_of_short_pk : (tfm pk : List ℕ) → IsOne (DecodesShortPk k tfm pk)
  one_of_short_pk tfm pk = one_of_two (is_too_long pk) _ _ (one_fault _) (one_of_pk k tfm pk)

  one_of_short_gf : (tfm gf : List ℕ) → IsOne (DecodesShortGf k tfm gf)
  one_of_short_gf tfm gf = one_of_two (is_too_long gf) _ _ (one_fault _) (one_of_gf k tfm gf)

  one_of_glyphs : (tfm : List ℕ) (files : FontFiles) → IsOne (DecodesGlyphs k tfm files)
  one_of_glyphs tfm files = one_of_option files.pk _ _ (one_of_option files.gf _ _ (one_of_bare k tfm) (one_of_short_gf tfm)) (one_of_short_pk tfm)

  one_of_packed : (tfm : List ℕ) (files : FontFiles) → IsOne (DecodesPacked u k tfm files)
  one_of_packed tfm files = one_of_two (is_resolution (dpi u k)) _ _ (one_of_glyphs tfm files) (one_fault _)

  one_of_items : (tfm : List ℕ) (items : List (List ℕ)) → IsOne (DecodesItems u k tfm items)
  one_of_items tfm items (Font f) (Font g) p q = alike_virtual u k tfm items f g p.1 q.1
  one_of_items tfm items (Font f) (Fault g) p q = absurd (true≢false (sym p.0 ∙ q.0))
  one_of_items tfm items (Fault f) (Font g) p q = absurd (true≢false (sym q.0 ∙ p.0))
  one_of_items tfm items (Fault f) (Fault g) p q = p.1 ∙ sym q.1
  one_of_items tfm items (Bare f) e p q = absurd p
  one_of_items tfm items d (Bare g) p q = absurd q

  one_of_vf : (tfm vf : List ℕ) → IsOne (DecodesVf u k tfm vf)
  one_of_vf tfm vf d e (inl p) (inl q) =
      one_fault (fault.Vf p.0) d e p.2 (q.2 ∙ ap (λ (f : VfFault). Fault (fault.Vf f)) (vf_file.first_faults_are_one vf q.0 p.0 q.1 p.1))
  one_of_vf tfm vf d e (inl p) (inr q) = absurd (vf_file.files_have_no_fault vf q.0 p.0 q.1 p.1)
  one_of_vf tfm vf d e (inr p) (inl q) = absurd (vf_file.files_have_no_fault vf p.0 q.0 p.1 q.1)
  one_of_vf tfm vf d e (inr p) (inr q) =
      one_of_items tfm q.0 d e (subst (λ (items : List (List ℕ)). DecodesItems u k tfm items d) (vf_file.files_are_read_one_way vf p.0 q.0 p.1 q.1) p.2) q.2

  one_of_short_vf : (tfm vf : List ℕ) → IsOne (DecodesShortVf u k tfm vf)
  one_of_short_vf tfm vf = one_of_two (is_too_long vf) _ _ (one_fault _) (one_of_vf tfm vf)

  one_of_sound : (tfm : List ℕ) (files : FontFiles) → IsOne (DecodesSound u k tfm files)
  one_of_sound tfm files = one_of_option files.vf _ _ (one_of_packed tfm files) (one_of_short_vf tfm)

  one_of_tfm : (tfm : List ℕ) (files : FontFiles) → IsOne (DecodesTfm u k tfm files)
  one_of_tfm tfm files = one_of_two (is_too_long tfm) _ _ (one_fault _) (one_of_option (tfm_fault tfm) _ _ (one_of_sound tfm files) (λ f. one_fault _))

pub one_of_its_files : OneOfItsFiles
one_of_its_files u k files = one_of_two (is_valid_name k) _ _ (one_of_option files.tfm _ _ (one_fault _) (λ tfm. one_of_tfm u k tfm files)) (one_fault _)

-- a library has the same files each time
one_is_found : OneIsFound
one_is_found l u k f g p q = search rules

pub one_in_a_library : OneInALibrary
one_in_a_library l u k d e p q =
    one_of_its_files u k q.files d e (subst (λ (f : FontFiles). IsDecodingOf u k f d) (one_is_found l u k p.files q.files p.found q.found) p.decoding) q.decoding
