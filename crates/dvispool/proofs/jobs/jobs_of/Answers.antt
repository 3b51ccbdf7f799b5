use Rattle.std.proofs.Common.{◌≡◌, ◌++◌, ◌∷◌, [], length, get_or, ap, sym, subst, arith}
use Rattle.std.proofs.lemmas.List.{length_push}
use Rattle.dvi_run.proofs.RunOfWorkers.{more_each}
use Rattle.job_spool.specs.declared.job.Job.{Job}
use Rattle.dvispool.proofs.jobs.jobs_of.Goals as goal

pub loop-pair-preserved : goal.loop-pair-preserved
loop-pair-preserved g c =
    let inv = c.loop-pair.invariant in
    let xs = c.loop-pair.jobs.items in
    let job : Job _ _ = record { input = c.new.result; out = c.new-in-loop-pair.result; status = 0; history = c.new-in-loop-pair-2.result } in
    let grew : c.push.new.self.items ≡ xs ++ job ∷ [] = c.in_ok-push.ensures.items in
    let longer : length c.push.new.self.items ≡ length (xs ++ job ∷ []) = ap length grew in
    let more = length_push xs job in
    record {
      count = omega (arith, longer, more, inv.count);
      empty = λ k d lt.
          subst (λ ys. (get_or ys k d).history.items ≡ []) (sym grew)
          (more_each (λ (j : Job _ _). j.history.items ≡ []) c.loop-pair.pair-index xs job inv.count c.new-in-loop-pair-2.ensures.items inv.empty k d lt);
    }
