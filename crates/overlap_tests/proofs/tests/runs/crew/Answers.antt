use Rattle.std.proofs.Common.{◌≡◌, ◌<◌, ◌++◌, ◌∷◌, [], length, get_or, ap, sym, subst, arith, rules}
use Rattle.std.proofs.lemmas.List.{length_push}
use Rattle.page_workers.specs.Seating.{IsUnused}
use Rattle.dvi_run.proofs.RunOfWorkers.{more_unused}
use Rattle.overlap_tests.proofs.tests.runs.crew.Goals as goal

pub loop-k-init : goal.loop-k-init
loop-k-init c = record { count = search rules; unused = λ k d lt. absurd (omega arith) }

pub loop-k-preserved : goal.loop-k-preserved
loop-k-preserved c =
    let inv = c.loop-k.invariant in
    let ws = c.loop-k.workers.items in
    let w = c.new-worker.result in
    let made = c.new-worker.ensures in
    let grew : c.push.new.self.items ≡ ws ++ w ∷ [] = c.in_ok-push.ensures.items in
    let longer : length c.push.new.self.items ≡ length (ws ++ w ∷ []) = ap length grew in
    let more = length_push ws w in
    record {
      count = omega (arith, longer, more, inv.count);
      unused = λ k d lt.
          subst (λ xs. IsUnused (get_or xs k d)) (sym grew)
          (more_unused c.loop-k._k ws w inv.count (record { seat = made.seat; none = made.results; counter = made.counter; loads = made.loads; pages = made.pages }) inv.unused k d lt);
    }
