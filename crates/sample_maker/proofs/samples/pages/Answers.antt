use Rattle.std.proofs.Common.{◌≡◌, ◌∙◌, ◌+◌, map, ap, arith}
use Rattle.std.specs.List.{range_with_len}
use Rattle.std.proofs.lemmas.Grind.{common_steps}
use Rattle.std.proofs.lemmas.List.FromFn.{map-range_with_len_more}
use Rattle.sample_maker.specs.Sample.{sample_page, sample_pages}
use Rattle.sample_maker.proofs.samples.pages.Goals as goal

pub loop-i-preserved : goal.loop-i-preserved
loop-i-preserved c =
    let number : 1 + c.loop-i.i ≡ c.loop-i.i + 1 = omega arith in
    let more = map-range_with_len_more sample_page 1 c.loop-i.i (c.loop-i.i + 1) number in
    grind (arith, common_steps, more)

pub returns : goal.returns
unfolding sample_pages
returns c =
    let all : c.loop-i.i ≡ c.args.n = omega arith in
    c.loop-i.invariant ∙ ap (λ k. map sample_page (range_with_len 1 k)) all
