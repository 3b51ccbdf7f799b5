use Rattle.std.proofs.Common.{◌≡◌, inl, inr, true, ◌<◌, ◌≤◌, length, get_or, rules, subst, ◌∙◌, arith}
use Rattle.std.proofs.lemmas.Bool.{cases_lt}
use Rattle.rtrb.specs.Ring.{known_items}
use Rattle.page_workers.specs.Handing.{HasAtHead}
use Rattle.page_workers.proofs.Lists.{same_default}
use Rattle.page_workers.proofs.taking.holder.Goals as goal

pub loop-k-preserved : goal.loop-k-preserved
loop-k-preserved c = λ k d lt h.
    let i = c.loop-k.k in
    let xs = c.args.inlets.now in
    let it = c.index-inlets-k.result in
    let inside : i < length xs = search rules in
    let is : get_or xs i it ≡ it = search rules in
    elim (cases_lt k i) [
      | inl before ↦ c.loop-k.invariant k d before h
      | inr from ↦
          let same : k ≡ i = omega (arith, lt, from) in
          let here = subst (λ j. HasAtHead c.args.page (known_items (get_or xs j d).results)) same h in
          let at : HasAtHead c.args.page (known_items it.results) = subst (λ x. HasAtHead c.args.page (known_items x.results)) (same_default xs i d it inside ∙ is) here in
          let yes : c.holds.result ≡ true = c.holds.ensures.1 at in
          let no = c.if-holds.false in
          absurd cc
    ]

pub returns-clause-none : goal.returns-clause-none
returns-clause-none c =
    let all : length c.args.inlets.now ≤ c.loop-k.k = search rules in
    λ e k d lt h. c.loop-k.invariant k d (omega (arith, lt, all)) h
