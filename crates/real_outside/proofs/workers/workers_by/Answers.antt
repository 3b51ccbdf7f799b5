use Rattle.std.proofs.Common.{◌≡◌, ◌∙◌, ◌++◌, ◌∷◌, [], length, get_or, ap, sym, subst, arith, rules}
use Rattle.std.proofs.lemmas.List.{length_push}
use Rattle.dvi_run.proofs.RunOfWorkers.{more_each}
use Rattle.real_outside.specs.Workers.{IsNewWorker}
use Rattle.real_outside.proofs.workers.workers_by.Goals as goal

pub loop-k-init : goal.loop-k-init
loop-k-init g c = record { count = search rules; each = λ k d lt. absurd (omega arith) }

pub loop-k-preserved : goal.loop-k-preserved
loop-k-preserved g c =
    let inv = c.loop-k.invariant in
    let ws = c.loop-k.workers.items in
    let w = c.new-worker.result in
    let made = c.new-worker.ensures in
    let over = c.over.ensures in
    let grew : c.push.new.self.items ≡ ws ++ w ∷ [] = c.in_ok-push.ensures.items in
    let longer : length c.push.new.self.items ≡ length (ws ++ w ∷ []) = ap length grew in
    let more = length_push ws w in
    let new : IsNewWorker c.args.opener w = record {
      unused = record { seat = made.seat; none = made.results; counter = made.counter; loads = made.loads; pages = made.pages };
      spare_pages = made.spare_pages;
      opener = ap (λ source. source.opener) made.source ∙ over.opener;
      faults = ap (λ source. source.faults) made.source ∙ over.faults;
      loads = ap (λ source. source.loads) made.source ∙ over.loads;
    } in
    record {
      count = omega (arith, longer, more, inv.count);
      each = λ k d lt.
          subst (λ xs. IsNewWorker c.args.opener (get_or xs k d)) (sym grew)
          (more_each (λ worker. IsNewWorker c.args.opener worker) c.loop-k._k ws w inv.count new inv.each k d lt);
    }

pub returns : goal.returns
returns g c = record {
  count = omega (arith, c.loop-k.invariant.count, c.loop-k-test.false, c.loop-k.auto._k-end);
  each = λ k d lt. c.loop-k.invariant.each k d (omega (arith, lt, c.loop-k-test.false, c.loop-k.auto._k-end));
}
