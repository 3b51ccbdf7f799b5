-- The laws of made PK files.
use Rattle.std.proofs.Common.{◌≡◌, ℕ, ◌+◌, ◌*◌, ◌^◌, ◌<◌, ℤ, pos, negsuc, true, false, ◌∷◌, length, replicate, arith}
use Rattle.std.specs.Prelude.{nat_lt, ◌&&◌}
use Rattle.std.proofs.lemmas.Bool.{and_from, false_from_ne_true, lt-ltb}
use Rattle.std.proofs.lemmas.List.{length-append, length-replicate}
use Rattle.big_endian.specs.Numbers.{IsSigned}
use Rattle.pk_runs.specs.declared.glyph.Glyph.{Glyph}
use Rattle.pk_packets.specs.Written.{Fit}
use Rattle.sample_maker.specs.Coded.{Coded}
use Rattle.sample_maker.specs.PkFile.{FilesAreMultiplesOfFour, PacketsHaveTheFirstForm, fields, file_in, has_form, is_signed, no_ops_after, pk_items}
use Rattle.sample_maker.proofs.PkForms.{extended_fits, held, short_fits}
use Rattle.sample_maker.proofs.PkAppended.{extended_item, long_item, short_item}

-- ---- the forms

signed_told : (n : ℕ) (z : ℤ) → IsSigned n z → is_signed n z ≡ true
signed_told n (pos m) h = lt-ltb (2 * m) (256 ^ n) h
signed_told n (negsuc m) h = lt-ltb (2 * m) (256 ^ n) h

told : (n fixed most : ℕ) (c : Coded) (g : Glyph) → g.raster.width < 256 ^ n → g.raster.height < 256 ^ n → IsSigned n g.hoff → IsSigned n g.voff → fixed + length c.bytes < most → has_form n fixed most c g ≡ true
told n fixed most c g width height hoff voff raster =
    let w = nat_lt g.raster.width (256 ^ n) in
    let h = nat_lt g.raster.height (256 ^ n) in
    let x = is_signed n g.hoff in
    let y = is_signed n g.voff in
    let r = nat_lt (fixed + length c.bytes) most in
    and_from (w && h && x && y) r
    (and_from (w && h && x) y (and_from (w && h) x (and_from w h (lt-ltb _ _ width) (lt-ltb _ _ height)) (signed_told n g.hoff hoff)) (signed_told n g.voff voff))
    (lt-ltb _ _ raster)

short_told : (r : Coded) (p : ℕ × Glyph) → Fit (fields 4 r p) 1 4 1 1024 → has_form 1 8 1024 r p.1 ≡ true
short_told r p h = told 1 8 1024 r p.1 h.width h.height h.hoff h.voff (omega (arith, h.raster))

extended_told : (r : Coded) (p : ℕ × Glyph) → Fit (fields 5 r p) 1 5 2 196608 → has_form 2 13 196608 r p.1 ≡ true
extended_told r p h = told 2 13 196608 r p.1 h.width h.height h.hoff h.voff (omega (arith, h.raster))

pub packets_have_the_first_form : PacketsHaveTheFirstForm
packets_have_the_first_form r p form code = (
  λ short. short_item r p (short_told r p short),
  λ not_short extended. extended_item r p (never_short not_short) (extended_told r p extended),
  λ not_short not_extended. long_item r p (never_short not_short) (false_from_ne_true (has_form 2 13 196608 r p.1) (λ h. not_extended (extended_fits r p code form (held 2 13 196608 r p.1 h)))),
)
  where
    never_short : (Fit (fields 4 r p) 1 4 1 1024 → ⊥) → has_form 1 8 1024 r p.1 ≡ false
    never_short misfit = false_from_ne_true (has_form 1 8 1024 r p.1) (λ h. misfit (short_fits r p code form (held 1 8 1024 r p.1 h)))

-- ---- the file

pub files_are_multiples_of_four : FilesAreMultiplesOfFour
unfolding file_in
files_are_multiples_of_four way glyphs =
    let n = length (pk_items way glyphs) in
    let fill = replicate {A = ℕ} (no_ops_after n) 246 in
    omega (arith, length-append (pk_items way glyphs) (245 ∷ fill), length-replicate {A = ℕ} (no_ops_after n) 246)
