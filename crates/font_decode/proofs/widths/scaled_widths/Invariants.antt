use Rattle.std.proofs.Common.{◌≡◌, ◌<◌, ℕ, pos, None, length, get_or}
use Rattle.std.specs.Option.{option_map}
use Rattle.fix_word.specs.Scale.{scale}
use Rattle.tfm_reader.specs.Tfm.{width_of}
use Rattle.font_decode.specs.Fonts.{AreWidths}
use Rattle.font_decode.proofs.widths.scaled_widths.Given as goal

abbrev pub invariant-loop-code : goal.invariant-loop-code
invariant-loop-code l = record {
  count : length l.widths.items ≡ l.code;
  fit : AreWidths l.widths.items;
  right : (c : ℕ) → c < l.code → get_or l.widths.items c None ≡ option_map (λ w. scale w l.size) (width_of l.tfm (pos c));
}
