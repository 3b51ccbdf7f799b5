use Rattle.std.proofs.Common.{◌<◌, arith, sym, ap, ◌∙◌, subst}
use Rattle.page_counter.specs.declared.view.View.{View}
use Rattle.page_counter.proofs.Keeps.{splits}
use Rattle.page_counter.proofs.counter.PageCounter.split.Goals as goal

pub split_seat-place-requires : goal.split_seat-place-requires
split_seat-place-requires c =
    let one = c.self.invariant.0 in
    let is = c.first.view_is in (
      ap (λ s. s.counter) is ∙ (c.requires.counter ∙ sym c.self.view_is),
      omega arith,
      splits _ _ c.first.invariant.0 (ap (λ s. s.view.number) is ∙ c.requires.first) (subst (λ (v : View). v.made < 33) (sym (ap (λ s. s.view) is)) c.requires.room),
    )
