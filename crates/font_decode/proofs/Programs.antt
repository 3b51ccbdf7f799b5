-- The packets of a font that some files come to.
use Rattle.std.proofs.Common.{◌≡◌, inl, inr, ℕ, List, Bool, true, false, Option, Some, None, sym, subst}
use Rattle.std.specs.Prelude.{IfSome, MatchBool, MatchOption}
use Rattle.outside.specs.declared.keys.FontKey.{FontKey}
use Rattle.pixel_round.specs.declared.units.Units.{Units}
use Rattle.tfm_reader.specs.Tfm.{tfm_fault}
use Rattle.vf_reader.proofs.Balanced.{program_is_balanced}
use Rattle.font_decode.specs.Names.{is_valid_name, dpi, is_resolution}
use Rattle.font_decode.specs.Files.{FontFiles}
use Rattle.font_decode.specs.Fonts.{IsProgram, is_virtual_shape, packet_in, packet_of}
use Rattle.font_decode.specs.declared.shapes.Shapes.{Shapes}
use Rattle.font_decode.specs.declared.shapes.Shapes.TheVariants.{Packed, Generic, Bare as NoShape, Virtual}
use Rattle.font_decode.specs.Decoding.{is_too_long, DecodesBare, DecodesPk, DecodesShortPk, DecodesGf, DecodesShortGf, DecodesGlyphs, DecodesPacked, DecodesVf, DecodesShortVf, DecodesSound, DecodesTfm, IsDecodingOf}
use Rattle.font_decode.specs.declared.font_or_fault.Decoded.{Decoded}
use Rattle.font_decode.specs.declared.font_or_fault.Decoded.TheVariants.{Font, Bare, Fault}
use Rattle.font_decode.specs.declared.faults.FontFault.{FontFault}
use Rattle.font_decode.specs.Laws.{PacketsAreBalanced}
use Rattle.font_decode.proofs.SoundVf.{sound_programs}

-- each packet of a font is a program
abbrev pub HasPrograms : Decoded → Type 0
HasPrograms (Font f) = (c : ℕ) → IfSome (packet_of f c) (IsProgram c)
HasPrograms (Bare f) = Unit {0}
HasPrograms (Fault f) = Unit {0}

abbrev GivesPrograms : (Decoded → Type 0) → Type 0
GivesPrograms P = (d : Decoded) → P d → HasPrograms d

one_fault : (f : FontFault) → GivesPrograms (λ d. d ≡ Fault f)
one_fault f (Font x) e = absurd (cc)
one_fault f (Bare x) e = tt
one_fault f (Fault x) e = tt

one_of_two : (b : Bool) (P Q : Decoded → Type 0) → GivesPrograms P → GivesPrograms Q → GivesPrograms (λ d. MatchBool b (P d) (Q d))
one_of_two true P Q p q d h = p d h
one_of_two false P Q p q d h = q d h

one_of_option : {A : Type 0} (o : Option A) (P : Decoded → Type 0) (Q : A → Decoded → Type 0) → GivesPrograms P → ((a : A) → GivesPrograms (Q a)) → GivesPrograms (λ d. MatchOption o (P d) (λ a. Q a d))
one_of_option None P Q p q d h = p d h
one_of_option (Some a) P Q p q d h = q a d h

-- a packed font has no packets
none_packed : (s : Shapes) (c : ℕ) → is_virtual_shape s ≡ false → IfSome (packet_in s c) (IsProgram c)
none_packed (Packed glyphs) c packed = tt
none_packed (Generic glyphs) c packed = tt
none_packed NoShape c packed = tt
none_packed (Virtual file keys) c packed = absurd (cc)

module _ (u : Units) (k : FontKey) where
  of_pk : (tfm pk : List ℕ) → GivesPrograms (DecodesPk k tfm pk)
  of_pk tfm pk (Font f) h = λ c. none_packed f.shapes c h.packed
  of_pk tfm pk (Bare f) h = tt
  of_pk tfm pk (Fault f) h = tt

  of_gf : (tfm gf : List ℕ) → GivesPrograms (DecodesGf k tfm gf)
  of_gf tfm gf (Font f) h = λ c. none_packed f.shapes c h.packed
  of_gf tfm gf (Bare f) h = tt
  of_gf tfm gf (Fault f) h = tt

  of_bare : (tfm : List ℕ) → GivesPrograms (DecodesBare k tfm)
  of_bare tfm (Font f) h = absurd h
  of_bare tfm (Bare f) h = tt
  of_bare tfm (Fault f) h = tt

  of_short_pk : (tfm pk : List ℕ) → GivesPrograms (DecodesShortPk k tfm pk)
  of_short_pk tfm pk = one_of_two (is_too_long pk) _ _ (one_fault _) (of_pk tfm pk)

  of_short_gf : (tfm gf : List ℕ) → GivesPrograms (DecodesShortGf k tfm gf)
  of_short_gf tfm gf = one_of_two (is_too_long gf) _ _ (one_fault _) (of_gf tfm gf)

  of_glyphs : (tfm : List ℕ) (files : FontFiles) → GivesPrograms (DecodesGlyphs k tfm files)
  of_glyphs tfm files = one_of_option files.pk _ _ (one_of_option files.gf _ _ (of_bare tfm) (of_short_gf tfm)) (of_short_pk tfm)

  of_packed : (tfm : List ℕ) (files : FontFiles) → GivesPrograms (DecodesPacked u k tfm files)
  of_packed tfm files = one_of_two (is_resolution (dpi u k)) _ _ (of_glyphs tfm files) (one_fault _)

  of_vf : (tfm vf : List ℕ) → GivesPrograms (DecodesVf u k tfm vf)
  of_vf tfm vf (Bare f) h = tt
  of_vf tfm vf (Fault f) h = tt
  of_vf tfm vf (Font f) (inl wrong) = absurd (cc (wrong.2))
  of_vf tfm vf (Font f) (inr right) = λ c. subst (λ (o : Option (List ℕ)). IfSome o (IsProgram c)) (sym (right.2.1.packets c)) (sound_programs right.0 right.1.sound c)

  of_short_vf : (tfm vf : List ℕ) → GivesPrograms (DecodesShortVf u k tfm vf)
  of_short_vf tfm vf = one_of_two (is_too_long vf) _ _ (one_fault _) (of_vf tfm vf)

  of_sound : (tfm : List ℕ) (files : FontFiles) → GivesPrograms (DecodesSound u k tfm files)
  of_sound tfm files = one_of_option files.vf _ _ (of_packed tfm files) (of_short_vf tfm)

  of_tfm : (tfm : List ℕ) (files : FontFiles) → GivesPrograms (DecodesTfm u k tfm files)
  of_tfm tfm files = one_of_two (is_too_long tfm) _ _ (one_fault _) (one_of_option (tfm_fault tfm) _ _ (of_sound tfm files) (λ f. one_fault _))

pub decoded_programs : (u : Units) (k : FontKey) (files : FontFiles) → GivesPrograms (IsDecodingOf u k files)
decoded_programs u k files = one_of_two (is_valid_name k) _ _ (one_of_option files.tfm _ _ (one_fault _) (λ tfm. of_tfm u k tfm files)) (one_fault _)

pub packets_are_balanced : PacketsAreBalanced
packets_are_balanced u k files f c packet is there =
    let program = subst (λ (o : Option (List ℕ)). IfSome o (IsProgram c)) there (decoded_programs u k files (Font f) is c) in
    program_is_balanced c program.0 packet program.1
