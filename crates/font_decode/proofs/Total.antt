-- Each key has a decoding in a library.
use Rattle.std.proofs.Common.{◌≡◌, inl, inr, ℕ, ℤ, pos, Bool, true, false, ◌&&◌, List, [], ◌∷◌, Option, Some, None, refl, sym, ap, subst}
use Rattle.std.specs.Prelude.{IfSome, is_some, is_none, slice_get, if◌then◌else◌}
use Rattle.std.specs.Bool.{MatchBool}
use Rattle.std.specs.Option.{MatchOption, option_map, option_or}
use Rattle.std.specs.FinMap.{get}
use Rattle.std.proofs.lemmas.Bool.{cases_Bool}
use Rattle.big_endian.specs.Numbers.{AreBytes}
use Rattle.fix_word.specs.Scale.{scale}
use Rattle.tfm_reader.specs.Tfm.{tfm_fault, tfm_width, width_of}
use Rattle.tfm_reader.specs.declared.faults.TfmFault.{TfmFault}
use Rattle.tfm_reader.proofs.Table.{whole_table}
use Rattle.vf_reader.specs.Fonts.{AreSound}
use Rattle.vf_reader.specs.Locals.{locals_of}
use Rattle.vf_reader.specs.declared.locals.LocalDef.{LocalDef}
use Rattle.vf_reader.proofs.Total as vf_file
use Rattle.pk_packets.proofs.Total.{files_are_read_or_have_a_fault, sound_items_have_glyphs}
use Rattle.gf_reader.proofs.OneMeaning as gf_file
use Rattle.outside.specs.Library as library
use Rattle.outside.specs.declared.keys.FontKey.{FontKey}
use Rattle.pixel_round.specs.declared.units.Units.{Units}
use Rattle.font_decode.specs.Names.{is_valid_name, dpi, is_resolution, tfm_name, vf_name}
use Rattle.font_decode.specs.Files.{FontFiles, first_there, pk_choices, gf_choices}
use Rattle.font_decode.specs.Decoding.{is_too_long, scaled_width, DecodesPk, DecodesShortPk, DecodesGf, DecodesShortGf, DecodesGlyphs, DecodesPacked, DecodesItems, DecodesVf, DecodesShortVf, DecodesSound, DecodesTfm, IsDecodingOf, DecodesBare}
use Rattle.font_decode.specs.Laws.{AreByteFiles, EachKeyIsDecoded}
use Rattle.font_decode.specs.declared.font_or_fault.Decoded.{Decoded}
use Rattle.font_decode.specs.declared.font_or_fault.Decoded.TheVariants.{Font, Bare, Fault}
use Rattle.font_decode.specs.declared.faults.FileKind.TheVariants as kind
use Rattle.font_decode.specs.declared.faults.FontFault.TheVariants as fault
use Rattle.font_decode.specs.Locals.{are_local_sizes}
use Rattle.font_decode.specs.declared.shapes.Shapes.TheVariants as shape
use Rattle.font_decode.proofs.Scaled.{last_code, scaled_table}
use Rattle.font_decode.proofs.GfTotal.{characters_have_glyphs}
use Rattle.font_decode.proofs.VfTotal.{build, keys_are, keys_of, sound_items_have_a_font}

at_true : {b : Bool} (P Q : Type 0) → b ≡ true → P → MatchBool b P Q
at_true P Q e p = subst (λ b. MatchBool b P Q) (sym e) p

at_false : {b : Bool} (P Q : Type 0) → b ≡ false → Q → MatchBool b P Q
at_false P Q e q = subst (λ b. MatchBool b P Q) (sym e) q

module _ (u : Units) (k : FontKey) where
  -- the widths of a sound TFM file
  widths_then : (tfm : List ℕ) → tfm_fault tfm ≡ None → (widths : List (Option ℤ)) × ((c : ℤ) → width_of widths c ≡ scaled_width k.size tfm c)
  widths_then tfm sound =
      let read = build (λ c. tfm_width tfm (pos c)) None 256 in
      let widths = build (λ c. option_map (λ w. scale w k.size) (width_of read.0 (pos c))) None 256 in
      (widths.0, scaled_table k.size tfm read.0 widths.0 widths.1 widths.2 (record { sound = sound; widths = whole_table tfm read.0 read.1 (last_code tfm sound) read.2 }))

  pk_then : (tfm pk : List ℕ) → tfm_fault tfm ≡ None → AreBytes pk → (d : Decoded) × DecodesPk k tfm pk d
  pk_then tfm pk sound few = elim (files_are_read_or_have_a_fault pk few) [
    | inl file ↦
        let widths = widths_then tfm sound in
        let glyphs = sound_items_have_glyphs file.0 file.1.sound in (
          Font (record { size = k.size; widths = widths.0; shapes = shape.Packed glyphs.0 }),
          record { size = refl; widths = widths.1; packed = refl; items = file.0; file = file.1; glyphs = glyphs.1 },
        )
    | inr wrong ↦ (Fault (fault.Pk wrong.0), (wrong.0, wrong.1, refl))
  ]

  gf_then : (tfm gf : List ℕ) → tfm_fault tfm ≡ None → (d : Decoded) × DecodesGf k tfm gf d
  gf_then tfm gf sound = elim (gf_file.files_are_read_or_have_a_fault gf) [
    | inl file ↦
        let widths = widths_then tfm sound in
        let glyphs = characters_have_glyphs file.0 in (
          Font (record { size = k.size; widths = widths.0; shapes = shape.Generic glyphs.0 }),
          record { size = refl; widths = widths.1; packed = refl; characters = file.0; file = file.1; glyphs = glyphs.1 },
        )
    | inr wrong ↦ (Fault (fault.Gf wrong.0), (wrong.0, wrong.1, refl))
  ]

  items_then : (tfm : List ℕ) (items : List (List ℕ)) → tfm_fault tfm ≡ None → AreSound items → (d : Decoded) × DecodesItems u k tfm items d
  items_then tfm items sound are = elim (cases_Bool (are_local_sizes u k.size (locals_of items))) [
    | inl right ↦
        let widths = widths_then tfm sound in
        let file = sound_items_have_a_font items are in
        let locals : file.0.locals ≡ locals_of items = file.1.locals in (
          Font (record { size = k.size; widths = widths.0; shapes = shape.Virtual file.0 (keys_of u k.size (locals_of items)) }),
          (
            right,
            record {
              size = refl;
              widths = widths.1;
              virtual = refl;
              packets = file.1.packets;
              locals = keys_are u k.size (locals_of items);
              first = ap (λ (l : List LocalDef). option_map (λ local. local.number) (slice_get l 0)) locals;
            },
          ),
        )
    | inr wrong ↦ (Fault fault.Size, (wrong, refl))
  ]

  vf_then : (tfm vf : List ℕ) → tfm_fault tfm ≡ None → AreBytes vf → (d : Decoded) × DecodesVf u k tfm vf d
  vf_then tfm vf sound few = elim (vf_file.files_are_read_or_have_a_fault vf few) [
    | inl file ↦ let r = items_then tfm file.0 sound file.1.sound in (r.0, inr (file.0, file.1, r.1))
    | inr wrong ↦ (Fault (fault.Vf wrong.0), inl (wrong.0, wrong.1, refl))
  ]

  short_vf_then : (tfm vf : List ℕ) → tfm_fault tfm ≡ None → AreBytes vf → (d : Decoded) × DecodesShortVf u k tfm vf d
  short_vf_then tfm vf sound few = elim (cases_Bool (is_too_long vf)) [
    | inl long ↦ (Fault (fault.TooLong kind.Vf), at_true _ (DecodesVf u k tfm vf (Fault (fault.TooLong kind.Vf))) long refl)
    | inr fits ↦ let r = vf_then tfm vf sound few in (r.0, at_false (r.0 ≡ Fault (fault.TooLong kind.Vf)) _ fits r.1)
  ]

  short_then : (tfm pk : List ℕ) → tfm_fault tfm ≡ None → AreBytes pk → (d : Decoded) × DecodesShortPk k tfm pk d
  short_then tfm pk sound few = elim (cases_Bool (is_too_long pk)) [
    | inl long ↦ (Fault (fault.TooLong kind.Pk), at_true _ (DecodesPk k tfm pk (Fault (fault.TooLong kind.Pk))) long refl)
    | inr fits ↦ let r = pk_then tfm pk sound few in (r.0, at_false (r.0 ≡ Fault (fault.TooLong kind.Pk)) _ fits r.1)
  ]

  short_gf_then : (tfm gf : List ℕ) → tfm_fault tfm ≡ None → (d : Decoded) × DecodesShortGf k tfm gf d
  short_gf_then tfm gf sound = elim (cases_Bool (is_too_long gf)) [
    | inl long ↦ (Fault (fault.TooLong kind.Gf), at_true _ (DecodesGf k tfm gf (Fault (fault.TooLong kind.Gf))) long refl)
    | inr fits ↦ let r = gf_then tfm gf sound in (r.0, at_false (r.0 ≡ Fault (fault.TooLong kind.Gf)) _ fits r.1)
  ]

  bare_then : (tfm : List ℕ) → tfm_fault tfm ≡ None → (d : Decoded) × DecodesBare k tfm d
  bare_then tfm sound =
      let widths = widths_then tfm sound in
      (Bare (record { size = k.size; widths = widths.0; shapes = shape.Bare }), record { size = refl; widths = widths.1; packed = refl; none = λ c. refl })

  gf_file_then : (tfm : List ℕ) (gf : Option (List ℕ)) → tfm_fault tfm ≡ None → (d : Decoded) × MatchOption gf (DecodesBare k tfm d) (λ g. DecodesShortGf k tfm g d)
  gf_file_then tfm None sound = bare_then tfm sound
  gf_file_then tfm (Some gf) sound = short_gf_then tfm gf sound

  glyphs_then : (tfm : List ℕ) (pk gf : Option (List ℕ)) → tfm_fault tfm ≡ None → IfSome pk AreBytes
      → (d : Decoded) × MatchOption pk (MatchOption gf (DecodesBare k tfm d) (λ g. DecodesShortGf k tfm g d)) (λ p. DecodesShortPk k tfm p d)
  glyphs_then tfm None gf sound few = gf_file_then tfm gf sound
  glyphs_then tfm (Some pk) gf sound few = short_then tfm pk sound few

  packed_then : (tfm : List ℕ) (files : FontFiles) → tfm_fault tfm ≡ None → IfSome files.pk AreBytes → (d : Decoded) × DecodesPacked u k tfm files d
  packed_then tfm files sound few = elim (cases_Bool (is_resolution (dpi u k))) [
    | inl near ↦ let r = glyphs_then tfm files.pk files.gf sound few in (r.0, at_true _ (r.0 ≡ Fault fault.Size) near r.1)
    | inr far ↦ (Fault fault.Size, at_false (DecodesGlyphs k tfm files (Fault fault.Size)) _ far refl)
  ]

  sound_then : (tfm : List ℕ) (vf : Option (List ℕ)) (files : FontFiles) → tfm_fault tfm ≡ None → IfSome vf AreBytes → IfSome files.pk AreBytes
      → (d : Decoded) × MatchOption vf (DecodesPacked u k tfm files d) (λ vf. DecodesShortVf u k tfm vf d)
  sound_then tfm None files sound few_vf few = packed_then tfm files sound few
  sound_then tfm (Some vf) files sound few_vf few = short_vf_then tfm vf sound few_vf

  tfm_then : (tfm : List ℕ) (files : FontFiles) → IfSome files.vf AreBytes → IfSome files.pk AreBytes → (d : Decoded) × DecodesTfm u k tfm files d
  tfm_then tfm files few_vf few = elim (cases_Bool (is_too_long tfm)) [
    | inl long ↦ (Fault (fault.TooLong kind.Tfm), at_true _ (MatchOption (tfm_fault tfm) (DecodesSound u k tfm files (Fault (fault.TooLong kind.Tfm))) (λ found. Fault (fault.TooLong kind.Tfm) ≡ Fault (fault.Tfm found))) long refl)
    | inr fits ↦ let r = by (tfm_fault tfm) refl in (r.0, at_false (r.0 ≡ Fault (fault.TooLong kind.Tfm)) _ fits r.1)
  ]
    where
      by : (o : Option TfmFault) → tfm_fault tfm ≡ o → (d : Decoded) × MatchOption (tfm_fault tfm) (DecodesSound u k tfm files d) (λ found. d ≡ Fault (fault.Tfm found))
      by None e = let r = sound_then tfm files.vf files e few_vf few in (r.0, subst (λ (o : Option TfmFault). MatchOption o (DecodesSound u k tfm files r.0) (λ found. r.0 ≡ Fault (fault.Tfm found))) (sym e) r.1)
      by (Some f) e = (Fault (fault.Tfm f), subst (λ (o : Option TfmFault). MatchOption o (DecodesSound u k tfm files (Fault (fault.Tfm f))) (λ found. Fault (fault.Tfm f) ≡ Fault (fault.Tfm found))) (sym e) refl)

  file_then : (tfm : Option (List ℕ)) (files : FontFiles) → IfSome files.vf AreBytes → IfSome files.pk AreBytes → (d : Decoded) × MatchOption tfm (d ≡ Fault (fault.Missing kind.Tfm)) (λ t. DecodesTfm u k t files d)
  file_then None files few_vf few = (Fault (fault.Missing kind.Tfm), refl)
  file_then (Some tfm) files few_vf few = tfm_then tfm files few_vf few

  pub decoded_then : (files : FontFiles) → IfSome files.vf AreBytes → IfSome files.pk AreBytes → (d : Decoded) × IsDecodingOf u k files d
  decoded_then files few_vf few = elim (cases_Bool (is_valid_name k)) [
    | inl valid ↦ let r = file_then files.tfm files few_vf few in (r.0, at_true _ (r.0 ≡ Fault fault.Name) valid r.1)
    | inr other ↦ (Fault fault.Name, at_false (MatchOption files.tfm (Fault fault.Name ≡ Fault (fault.Missing kind.Tfm)) (λ t. DecodesTfm u k t files (Fault fault.Name))) _ other refl)
  ]

-- ---- in a library

first_bytes : (l : library.FileTable) (names : List (List ℕ)) → AreByteFiles l → IfSome (first_there l names) AreBytes
first_bytes l [] h = tt
first_bytes l (name ∷ names) h = by (get l name) (first_there l names) (h name) (first_bytes l names h)
  where
    by : (o rest : Option (List ℕ)) → IfSome o AreBytes → IfSome rest AreBytes → IfSome (option_or o rest) AreBytes
    by None rest a b = b
    by (Some x) rest a b = a

if_bytes : (b : Bool) (o : Option (List ℕ)) → IfSome o AreBytes → IfSome (if b then o else None) AreBytes
if_bytes true o h = h
if_bytes false o h = tt

pub each_key_is_decoded : EachKeyIsDecoded
each_key_is_decoded l u k bytes =
    let tfm : Option (List ℕ) = if is_valid_name k then get l (tfm_name k) else None in
    let vf : Option (List ℕ) = if is_some tfm then get l (vf_name k) else None in
    let pk : Option (List ℕ) = if is_some tfm && is_none vf then first_there l (pk_choices u k) else None in
    let gf : Option (List ℕ) = if is_some tfm && is_none vf && is_none pk then first_there l (gf_choices u k) else None in
    let files : FontFiles = record { tfm = tfm; vf = vf; pk = pk; gf = gf } in
    let r = decoded_then u k files (if_bytes (is_some tfm) (get l (vf_name k)) (bytes (vf_name k))) (if_bytes (is_some tfm && is_none vf) (first_there l (pk_choices u k)) (first_bytes l (pk_choices u k) bytes)) in
    (r.0, record { files = files; found = record { tfm = refl; vf = refl; pk = refl; gf = refl }; decoding = r.1 })
