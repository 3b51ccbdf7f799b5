use Rattle.std.proofs.Common.{arith, sym, ap, ◌∙◌}
use Rattle.page_counter.proofs.Keeps.{joins}
use Rattle.page_counter.proofs.counter.PageCounter.join.Goals as goal

pub join_seat-requires : goal.join_seat-requires
join_seat-requires c =
    let one = c.self.invariant.0 in
    let is = c.first.view_is in (
      ap (λ s. s.counter) is ∙ (c.requires.counter ∙ sym c.self.view_is),
      ap (λ s. s.counter) c.other.view_is ∙ (c.requires.other_counter ∙ sym c.self.view_is),
      c.other.invariant.1,
      omega arith,
      joins _ _ _ _ c.first.invariant.0 (ap (λ s. s.view.number) is ∙ c.requires.first) c.other.invariant.0,
    )
