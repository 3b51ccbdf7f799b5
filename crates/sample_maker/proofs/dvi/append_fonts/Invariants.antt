use Rattle.std.proofs.Common.{◌≡◌, ◌++◌, take}
use Rattle.std.specs.Prelude.{All}
use Rattle.sample_maker.specs.DviFile.{IsFontSpelled, fonts_text}
use Rattle.sample_maker.proofs.dvi.append_fonts.Given as goal

abbrev pub invariant-loop-i : goal.invariant-loop-i
invariant-loop-i l = record {
  items : l.out.items ≡ l.fn.out.items ++ fonts_text (take l.i l.fonts);
  spelled : All IsFontSpelled (take l.i l.fonts);
}
