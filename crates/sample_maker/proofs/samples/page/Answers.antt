use Rattle.std.proofs.Common.{◌≡◌, ◌∙◌, ◌∷◌, ◌+◌, ◌%◌, ◌++◌, refl, sym, ap, arith}
use Rattle.std.specs.List.{repeat}
use Rattle.sample_maker.specs.Sample.{line, sample_page}
use Rattle.sample_maker.proofs.SampleParts.{repeat_more}
use Rattle.sample_maker.proofs.samples.page.Goals as goal

pub loop-preserved : goal.loop-preserved
loop-preserved c = c.in_ok-extend_from_slice.ensures.items ∙ ap (λ t. t ++ line) c.loop.invariant ∙ ap (λ t. 0xab ∷ t) (sym (repeat_more c.loop.counter line))

pub returns : goal.returns
unfolding sample_page
returns c =
    let count : c.loop.counter ≡ 1 + c.args.number % 3 = omega arith in
    let lines : c.loop.page.items ≡ 0xab ∷ repeat (1 + c.args.number % 3) line = c.loop.invariant ∙ ap (λ k. 0xab ∷ repeat k line) count in
    c.in_ok-extend_from_slice-2.ensures.items ∙ rw lines refl
