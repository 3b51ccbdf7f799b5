-- A character that begins a packet of a virtual font that was found.
use Rattle.std.proofs.Common.{◌≡◌, ◌∙◌, ℕ, ◌<◌, ℤ, Bool, true, false, List, sym, ap, Option, Some}
use Rattle.outside.specs.declared.keys.FontKey.{FontKey}
use Rattle.font_decode.specs.Fonts.{FontValue, IsProgram, is_virtual_of, packet_of, scaled_width_of}
use Rattle.font_decode.specs.declared.font_or_fault.Decoded.TheVariants as decoded
use Rattle.vf_expand.specs.Course.{Course, Current, Known, Place, advance_of, by_kind, character, deeper, first_font, number_of, with_width}
use Rattle.vf_expand.specs.Effects.{CharacterHasEffect, HasEffect, value_of_current}
use Rattle.vf_expand.specs.Sets.{character_command}
use Rattle.vf_expand.specs.declared.effect.Effect.TheVariants as effect
use Rattle.vf_expand.specs.declared.outer_levels.Level.{Level}
use Rattle.vf_expand.proofs.Virtual.{entered, has_packet}

module _ (current : Current) (k : FontKey) (f : FontValue) (room : ℕ) (c w : ℤ) (put : Bool) (text : List ℕ) (level : Level) (known : current ≡ Known k (decoded.Font f))
    (width : scaled_width_of f c ≡ Some w) (virtual : is_virtual_of f ≡ true) (some : 0 < room) (there : packet_of f (number_of c) ≡ Some text) (own : packet_of f level.code ≡ Some text)
    (program : IsProgram level.code text) (prefix : level.pos ≡ 0) (first : value_of_current level.current ≡ first_font f) (advance : level.advance ≡ advance_of w put) where
  enters_at : (place : Place) (at : ℕ) (others : Current → Course) → character (deeper room at) place at current c put others ≡ entered at k f level.advance (others current) room text
  enters_at place at others =
      let after = others (Known k (decoded.Font f)) in
      ap (λ (x : Current). character (deeper room at) place at x c put others) known
      ∙ ap (λ (o : Option ℤ). with_width (deeper room at) at k f c put o after) width
      ∙ ap (λ (b : Bool). by_kind (deeper room at) at k f c w put b after) virtual
      ∙ has_packet at k f c (advance_of w put) after room text some there
      ∙ ap (λ (by : Option ℤ). entered at k f by after room text) (sym advance)
      ∙ ap (λ (x : Current). entered at k f level.advance (others x) room text) (sym known)

  pub enters : (place : Place) → CharacterHasEffect place room current c put (effect.Enter level)
  enters place = record {
    key = k;
    font = f;
    text = text;
    known = known;
    some = some;
    packet = own;
    program = program;
    prefix = prefix;
    first = first;
    gives = enters_at place;
  }

-- the same of the command that sets or puts the character
pub enter_command : (place : Place) (n : ℕ) (current : Current) (code : ℤ) (put : Bool) (level : Level) → CharacterHasEffect place n current code put (effect.Enter level)
    → HasEffect place n current (character_command code put) (effect.Enter level)
enter_command place n current code false level h = h
enter_command place n current code true level h = h
