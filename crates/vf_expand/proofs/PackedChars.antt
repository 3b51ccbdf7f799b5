-- A character in a packed font that was found.
use Rattle.std.proofs.Common.{◌≡◌, ◌∙◌, ℕ, ℤ, pos, Bool, false, refl, sym, ap, Option, Some}
use Rattle.outside.specs.declared.keys.FontKey.{FontKey}
use Rattle.drift_rules.specs.Position.{Char}
use Rattle.pk_runs.specs.declared.glyph.Glyph.{Glyph}
use Rattle.font_decode.specs.Fonts.{FontValue, glyph_at, is_virtual_of, scaled_width_of}
use Rattle.font_decode.specs.declared.font_or_fault.Decoded.TheVariants as decoded
use Rattle.vf_expand.specs.Course.{Course, Current, Gives, Known, Place, by_kind, character, deeper, with_glyph, with_width}
use Rattle.vf_expand.specs.Effects.{SetsPackedChar}

module _ (current : Current) (k : FontKey) (f : FontValue) (n : ℕ) (c w : ℤ) (g : Glyph) (known : current ≡ Known k (decoded.Font f)) (is : c ≡ pos n)
    (width : scaled_width_of f c ≡ Some w) (packed : is_virtual_of f ≡ false) (glyph : glyph_at f n ≡ Some g) where
  sets_at : (put : Bool) (place : Place) (m at : ℕ) (after : Course) → with_width (deeper m at) at k f (pos n) put (scaled_width_of f (pos n)) after ≡ Gives (Char k n w put) (Some g) at after
  sets_at put place m at after =
      ap (λ (o : Option ℤ). with_width (deeper m at) at k f (pos n) put o after) (sym (ap (scaled_width_of f) is) ∙ width)
      ∙ ap (λ (b : Bool). by_kind (deeper m at) at k f (pos n) w put b after) packed
      ∙ ap (λ (o : Option Glyph). with_glyph at k (pos n) w put o after) glyph

  pub sets_packed_char : SetsPackedChar current (pos n) k w
  sets_packed_char = λ put place m. record {
    key = k;
    font = decoded.Font f;
    code = n;
    width = w;
    put = put;
    glyph = g;
    known = known;
    char = refl;
    has = glyph;
    gives = λ at others. ap (λ (x : Current). character (deeper m at) place at x (pos n) put others) known ∙ sets_at put place m at (others (Known k (decoded.Font f)))
        ∙ ap (λ (x : Current). Gives (Char k n w put) (Some g) at (others x)) (sym known);
  }
