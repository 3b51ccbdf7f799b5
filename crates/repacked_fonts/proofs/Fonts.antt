-- A key has the same decodings in two libraries that differ in how rasters are packed.
use Rattle.std.proofs.Common.{◌≡◌, ◌∙◌, inl, inr, ℕ, ◌+◌, ◌-◌, Bool, true, false, List, [], Option, Some, None, refl, sym, ap, ap₂, subst}
use Rattle.std.specs.Prelude.{MatchBool, MatchOption, ◌&&◌, if◌then◌else◌, is_none, is_some}
use Rattle.std.specs.FinMap.{get}
use Rattle.std.specs.Option.{option_or}
use Rattle.std.proofs.lemmas.Bool.{true≢false}
use Rattle.outside.specs.Library.{FileTable}
use Rattle.outside.specs.declared.keys.FontKey.{FontKey}
use Rattle.pixel_round.specs.declared.units.Units.{Units}
use Rattle.pk_runs.specs.declared.glyph.Glyph.{Glyph}
use Rattle.pk_packets.specs.Fonts.{IsAnswer}
use Rattle.pk_packets.proofs.OneMeaning.{answers_are_one, files_have_no_fault}
use Rattle.tfm_reader.specs.Tfm.{tfm_fault}
use Rattle.font_decode.specs.Names.{dpi, glyph_name, is_resolution, is_valid_name}
use Rattle.font_decode.specs.Files.{FontFiles, IsFound, first_there, gf_choices, pk_choices}
use Rattle.font_decode.specs.Fonts.{glyph_at}
use Rattle.font_decode.specs.Decoding.{DecodesGlyphs, DecodesPacked, DecodesPk, DecodesShortPk, DecodesSound, DecodesTfm, IsDecodingOf, IsFontIn, is_too_long}
use Rattle.font_decode.specs.declared.font_or_fault.Decoded.{Decoded}
use Rattle.font_decode.specs.declared.font_or_fault.Decoded.TheVariants.{Font, Bare, Fault}
use Rattle.repacked_fonts.specs.Repacked.{DifferInPacking, GiveTheSame, IsRepacked}
use Rattle.repacked_fonts.specs.Laws.{RepackedFontsAreDecodedAlike}

-- ---- the files

turned : (a b : Option (List ℕ)) → IsRepacked a b → IsRepacked b a
turned None None h = tt
turned None (Some y) h = absurd h
turned (Some x) None h = absurd h
turned (Some x) (Some y) (inl e) = inl (sym e)
turned (Some x) (Some y) (inr g) = inr (record {
  items = g.others;
  others = g.items;
  file = g.other_file;
  other_file = g.file;
  short = g.other_short;
  other_short = g.short;
  glyphs = λ c. let h = g.glyphs c in (h.0, h.2, h.1);
})

pub back : (l m : FileTable) → DifferInPacking l m → DifferInPacking m l
back l m h = record {
  tfm = λ k. sym (h.tfm k);
  vf = λ k. sym (h.vf k);
  pk = λ k n. turned (get l (glyph_name _ k n)) (get m (glyph_name _ k n)) (h.pk k n);
  gf = λ k n. sym (h.gf k n);
}

or_repacked : (a b c d : Option (List ℕ)) → IsRepacked a b → IsRepacked c d → IsRepacked (option_or a c) (option_or b d)
or_repacked None None c d p q = q
or_repacked None (Some y) c d p q = absurd p
or_repacked (Some x) None c d p q = absurd p
or_repacked (Some x) (Some y) c d p q = p

if_repacked : (b : Bool) (p q : Option (List ℕ)) → IsRepacked p q → IsRepacked (if b then p else None) (if b then q else None)
if_repacked true p q h = h
if_repacked false p q h = tt

-- the first file of a list of names that may be empty
near_repacked : (l m : FileTable) (near : Bool) (names : List (List ℕ)) → IsRepacked (first_there l names) (first_there m names)
    → IsRepacked (first_there l (if near then names else [])) (first_there m (if near then names else []))
near_repacked l m true names h = h
near_repacked l m false names h = tt

near_same : (l m : FileTable) (near : Bool) (names : List (List ℕ)) → first_there l names ≡ first_there m names
    → first_there l (if near then names else []) ≡ first_there m (if near then names else [])
near_same l m true names h = h
near_same l m false names h = refl

same_none : (a b : Option (List ℕ)) → IsRepacked a b → is_none a ≡ is_none b
same_none None None h = refl
same_none None (Some y) h = absurd h
same_none (Some x) None h = absurd h
same_none (Some x) (Some y) h = refl

module _ (l m : FileTable) (alike : DifferInPacking l m) (u : Units) (k : FontKey) where
  pk_first : IsRepacked (first_there l (pk_choices u k)) (first_there m (pk_choices u k))
  pk_first = near_repacked l m (is_resolution (dpi u k)) _
      (or_repacked _ _ _ _ (alike.pk k (dpi u k)) (or_repacked _ _ _ _ (alike.pk k (dpi u k + 1)) (or_repacked _ _ None None (alike.pk k (dpi u k - 1)) tt)))

  gf_first : first_there l (gf_choices u k) ≡ first_there m (gf_choices u k)
  gf_first = near_same l m (is_resolution (dpi u k)) _
      (ap₂ option_or (alike.gf k (dpi u k)) (ap₂ option_or (alike.gf k (dpi u k + 1)) (ap (λ (o : Option (List ℕ)). option_or o None) (alike.gf k (dpi u k - 1)))))

  abbrev other_files : FontFiles → FontFiles
  other_files f = record { tfm = f.tfm; vf = f.vf; pk = (if is_some f.tfm && is_none f.vf then first_there m (pk_choices u k) else None); gf = f.gf }

  found_pk : (f : FontFiles) → IsFound l u k f → IsRepacked f.pk (other_files f).pk
  found_pk f h = subst (λ (o : Option (List ℕ)). IsRepacked o (other_files f).pk) (sym h.pk) (if_repacked (is_some f.tfm && is_none f.vf) _ _ pk_first)

  found : (f : FontFiles) → IsFound l u k f → IsFound m u k (other_files f)
  found f h = record {
    tfm = h.tfm ∙ ap (λ (o : Option (List ℕ)). if is_valid_name k then o else None) (alike.tfm k);
    vf = h.vf ∙ ap (λ (o : Option (List ℕ)). if is_some f.tfm then o else None) (alike.vf k);
    pk = refl;
    gf = h.gf ∙ ap₂ (λ (b : Bool) (o : Option (List ℕ)). if is_some f.tfm && is_none f.vf && b then o else None) (same_none f.pk (other_files f).pk (found_pk f h)) gf_first;
  }

-- ---- what they come to

matched : (b : Bool) (P Q R S : Type 0) → (P → R) → (Q → S) → MatchBool b P Q → MatchBool b R S
matched true P Q R S f g h = f h
matched false P Q R S f g h = g h

matched_option : {A : Type 0} (o : Option A) (P R : Type 0) (Q S : A → Type 0) → (P → R) → ((a : A) → Q a → S a) → MatchOption o P Q → MatchOption o R S
matched_option None P R Q S f g h = f h
matched_option (Some a) P R Q S f g h = g a h

of_false : (b : Bool) (P Q : Type 0) → b ≡ false → MatchBool b P Q → Q
of_false true P Q e h = absurd (true≢false e)
of_false false P Q e h = h

to_false : (b : Bool) (P Q : Type 0) → b ≡ false → Q → MatchBool b P Q
to_false true P Q e h = absurd (true≢false e)
to_false false P Q e h = h

from_pk : (k : FontKey) (t x y : List ℕ) (d : Decoded) → GiveTheSame x y → DecodesPk k t x d → DecodesPk k t y d
from_pk k t x y (Font f) g p = record {
  size = p.size;
  widths = p.widths;
  packed = p.packed;
  items = g.others;
  file = g.other_file;
  glyphs = λ c.
      let h = g.glyphs c in
      subst (λ (answer : Option Glyph). IsAnswer g.others c answer) (sym (answers_are_one x p.items g.items c (glyph_at f c) h.0 p.file g.file (p.glyphs c) h.1)) h.2;
}
from_pk k t x y (Bare f) g p = absurd p
from_pk k t x y (Fault f) g p = absurd (files_have_no_fault x g.items p.0 g.file p.1)

from_short : (k : FontKey) (t x y : List ℕ) (d : Decoded) → GiveTheSame x y → DecodesShortPk k t x d → DecodesShortPk k t y d
from_short k t x y d g h = to_false (is_too_long y) _ _ g.other_short (from_pk k t x y d g (of_false (is_too_long x) _ _ g.short h))

abbrev of : Option (List ℕ) → Option (List ℕ) → Option (List ℕ) → Option (List ℕ) → FontFiles
of tfm vf pk gf = record { tfm = tfm; vf = vf; pk = pk; gf = gf }

from_glyphs : (k : FontKey) (t : List ℕ) (tfm vf pk other gf : Option (List ℕ)) (d : Decoded) → IsRepacked pk other → DecodesGlyphs k t (of tfm vf pk gf) d → DecodesGlyphs k t (of tfm vf other gf) d
from_glyphs k t tfm vf None None gf d r h = h
from_glyphs k t tfm vf None (Some y) gf d r h = absurd r
from_glyphs k t tfm vf (Some x) None gf d r h = absurd r
from_glyphs k t tfm vf (Some x) (Some y) gf d (inl e) h = subst (λ (b : List ℕ). DecodesShortPk k t b d) e h
from_glyphs k t tfm vf (Some x) (Some y) gf d (inr g) h = from_short k t x y d g h

module _ (u : Units) (k : FontKey) (tfm vf pk other gf : Option (List ℕ)) (d : Decoded) (r : IsRepacked pk other) where
  from_packed : (t : List ℕ) → DecodesPacked u k t (of tfm vf pk gf) d → DecodesPacked u k t (of tfm vf other gf) d
  from_packed t = matched (is_resolution (dpi u k)) _ _ _ _ (from_glyphs k t tfm vf pk other gf d r) (λ e. e)

  from_sound : (t : List ℕ) → DecodesSound u k t (of tfm vf pk gf) d → DecodesSound u k t (of tfm vf other gf) d
  from_sound t = matched_option vf _ _ _ _ (from_packed t) (λ v h. h)

  from_tfm : (t : List ℕ) → DecodesTfm u k t (of tfm vf pk gf) d → DecodesTfm u k t (of tfm vf other gf) d
  from_tfm t = matched (is_too_long t) _ _ _ _ (λ e. e) (matched_option (tfm_fault t) _ _ _ _ (from_sound t) (λ f e. e))

  from_files : IsDecodingOf u k (of tfm vf pk gf) d → IsDecodingOf u k (of tfm vf other gf) d
  from_files = matched (is_valid_name k) _ _ _ _ (matched_option tfm _ _ _ _ (λ e. e) from_tfm) (λ e. e)

pub carried : (l m : FileTable) → DifferInPacking l m → (u : Units) (k : FontKey) (d : Decoded) → IsFontIn l u k d → IsFontIn m u k d
carried l m alike u k d h = record {
  files = other_files l m alike u k h.files;
  found = found l m alike u k h.files h.found;
  decoding = from_files u k h.files.tfm h.files.vf h.files.pk _ h.files.gf d (found_pk l m alike u k h.files h.found) h.decoding;
}

pub repacked_fonts_are_decoded_alike : RepackedFontsAreDecodedAlike
repacked_fonts_are_decoded_alike l m alike u k d = (carried l m alike u k d, carried m l (back l m alike) u k d)
