use Rattle.std.proofs.Common.{◌≡◌, ◌++◌, ℕ, ℤ, take}
use Rattle.std.specs.List.{flat_map}
use Rattle.sample_maker.specs.TfmFile.{word}
use Rattle.sample_maker.proofs.tfm.append_widths.Given as goal

abbrev pub invariant-loop-width : goal.invariant-loop-width
invariant-loop-width l = l.out.items ≡ l.fn.out.items ++ flat_map (λ (pair : ℕ × ℤ). word pair.1) (take l.width-index l.widths)
