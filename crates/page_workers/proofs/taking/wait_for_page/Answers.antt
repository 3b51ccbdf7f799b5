use Rattle.std.proofs.Common.{◌≡◌, ◌<◌, length, get_or, rules, subst, sym}
use Rattle.page_workers.proofs.Taken.{looked_self, looked_then}
use Rattle.page_workers.proofs.taking.wait_for_page.Goals as goal

pub loop-init : goal.loop-init
loop-init g c = λ k d lt. looked_self (get_or c.args.inlets.now k d)

pub loop-preserved : goal.loop-preserved
loop-preserved g c =
    let xs = c.args.inlets.now in
    let ws = c.loop.inlets in
    let long : length ws ≡ length xs = search rules in
    λ k d lt. looked_then (get_or xs k d) (get_or ws k d) (get_or c.look_at_all.new.inlets k d) (c.loop.invariant k d lt) (c.look_at_all.ensures k d (subst (λ n. k < n) (sym long) lt))

pub returns-then-over-clause-looked : goal.returns-then-over-clause-looked
returns-then-over-clause-looked g c =
    let xs = c.args.inlets.now in
    let ws = c.loop.inlets in
    let long : length ws ≡ length xs = search rules in
    λ k d lt. looked_then (get_or xs k d) (get_or ws k d) (get_or c.look_at_all.new.inlets k d) (c.loop.invariant k d lt) (c.look_at_all.ensures k d (subst (λ n. k < n) (sym long) lt))
