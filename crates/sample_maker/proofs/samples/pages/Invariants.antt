use Rattle.std.proofs.Common.{◌≡◌, map}
use Rattle.std.specs.List.{range_with_len}
use Rattle.sample_maker.specs.Sample.{sample_page}
use Rattle.sample_maker.proofs.samples.pages.Given as goal

abbrev pub invariant-loop-i : goal.invariant-loop-i
invariant-loop-i l = map (λ page. page.items) l.pages.items ≡ map sample_page (range_with_len 1 l.i)
