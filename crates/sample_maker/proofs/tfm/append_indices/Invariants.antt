use Rattle.std.proofs.Common.{◌≡◌, ◌++◌}
use Rattle.std.specs.List.{flat_map, range_with_len}
use Rattle.sample_maker.specs.TfmFile.{first_code, index_word}
use Rattle.sample_maker.proofs.tfm.append_indices.Given as goal

abbrev pub invariant-loop-i : goal.invariant-loop-i
invariant-loop-i l = l.out.items ≡ l.fn.out.items ++ flat_map (index_word l.widths) (range_with_len (first_code l.widths) l.i)
