-- What decodings weigh.
use Rattle.std.proofs.Common.{◌≡◌, ◌∙◌, ℕ, ◌+◌, None, refl, sym, ap, ap₂, arith}
use Rattle.code_sums.proofs.Sums.{equal_terms_have_one_sum, sums_are_bounded}
use Rattle.pk_runs.specs.Glyphs.{Glyphs, glyph_of}
use Rattle.pk_runs.specs.Weights.{glyphs_weight, raster_bytes}
use Rattle.vf_reader.specs.Fonts.{Virtual, packet_of}
use Rattle.vf_reader.specs.Weights.{packet_bytes, packets_weight}
use Rattle.font_decode.specs.Fonts.{FontValue, glyph_at, glyph_in, packet_in}
use Rattle.font_decode.specs.Fonts as fonts
use Rattle.font_decode.specs.Decoding.{AreAlikeFonts}
use Rattle.font_decode.specs.FontWeights.{font_weight, shapes_weight}
use Rattle.font_decode.specs.Weights.{AlikeWeighTheSame, EachKeyHasAWeight, OneWeightInALibrary, weight_of}
use Rattle.font_decode.specs.declared.shapes.Shapes.{Shapes}
use Rattle.font_decode.specs.declared.shapes.Shapes.TheVariants.{Packed, Generic, Bare as NoShape}
use Rattle.font_decode.specs.declared.font_or_fault.Decoded.TheVariants.{Font, Bare, Fault}
use Rattle.font_decode.proofs.Alike.{one_in_a_library}
use Rattle.font_decode.proofs.Total.{each_key_is_decoded}

-- ---- by the files that were read

pub packed_weight : (glyphs : Glyphs) → glyphs_weight glyphs ≡ shapes_weight (Packed glyphs)
packed_weight glyphs =
    equal_terms_have_one_sum (λ c. raster_bytes (glyph_of glyphs c)) (λ c. raster_bytes (glyph_in (Packed glyphs) c) + packet_bytes (packet_in (Packed glyphs) c)) (λ c code. omega arith)

pub generic_weight : (glyphs : Glyphs) → glyphs_weight glyphs ≡ shapes_weight (Generic glyphs)
generic_weight glyphs =
    equal_terms_have_one_sum (λ c. raster_bytes (glyph_of glyphs c)) (λ c. raster_bytes (glyph_in (Generic glyphs) c) + packet_bytes (packet_in (Generic glyphs) c)) (λ c code. omega arith)

pub bare_weight : 0 ≡ shapes_weight NoShape
bare_weight =
    let none = sums_are_bounded (λ c. raster_bytes (glyph_in NoShape c) + packet_bytes (packet_in NoShape c)) 0 (λ c. omega arith) in
    omega arith

pub virtual_weight : (shapes : Shapes) (file : Virtual) → ((c : ℕ) → glyph_in shapes c ≡ None) → ((c : ℕ) → packet_in shapes c ≡ packet_of file c) → packets_weight file ≡ shapes_weight shapes
virtual_weight shapes file none packets =
    equal_terms_have_one_sum (λ c. packet_bytes (packet_of file c)) (λ c. raster_bytes (glyph_in shapes c) + packet_bytes (packet_in shapes c))
    (λ c code. let no = ap raster_bytes (none c) in let same = ap packet_bytes (packets c) in omega (arith, no, same))

-- ---- of fonts that can't be told apart

alike_fonts : (f g : FontValue) → AreAlikeFonts f g → font_weight f ≡ font_weight g
alike_fonts f g alike =
    equal_terms_have_one_sum (λ c. raster_bytes (glyph_at f c) + packet_bytes (fonts.packet_of f c)) (λ c. raster_bytes (glyph_at g c) + packet_bytes (fonts.packet_of g c))
    (λ c code. ap₂ (λ (m n : ℕ). m + n) (ap raster_bytes (alike.glyphs c)) (ap packet_bytes (alike.packets c)))

pub alike_weigh_the_same : AlikeWeighTheSame
alike_weigh_the_same (Font f) (Font g) alike = alike_fonts f g alike
alike_weigh_the_same (Font f) (Bare g) alike = absurd alike
alike_weigh_the_same (Font f) (Fault g) alike = absurd alike
alike_weigh_the_same (Bare f) (Font g) alike = absurd alike
alike_weigh_the_same (Bare f) (Bare g) alike = refl
alike_weigh_the_same (Bare f) (Fault g) alike = absurd alike
alike_weigh_the_same (Fault f) (Font g) alike = absurd alike
alike_weigh_the_same (Fault f) (Bare g) alike = absurd alike
alike_weigh_the_same (Fault f) (Fault g) alike = refl

pub one_weight_in_a_library : OneWeightInALibrary
one_weight_in_a_library l u k v w p q = p.2 ∙ alike_weigh_the_same p.0 q.0 (one_in_a_library l u k p.0 q.0 p.1 q.1) ∙ sym q.2

pub each_key_has_a_weight : EachKeyHasAWeight
each_key_has_a_weight l u bytes = (
  λ k. let found = each_key_is_decoded l u k bytes in weight_of found.0,
  λ k. let found = each_key_is_decoded l u k bytes in (found.0, found.1, refl),
)
