use Rattle.std.proofs.Common.{◌≡◌, ◌++◌, ◌∷◌, [], Some, length, get_or, ap, sym, subst, arith, rules}
use Rattle.std.proofs.lemmas.List.{length_push}
use Rattle.outside.specs.declared.mem_fonts.SureFonts.{SureFonts}
use Rattle.outside.specs.Library.{FileTable}
use Rattle.page_workers.specs.declared.worker.Worker.{Worker}
use Rattle.dvi_run.specs.Together.{IsReadyWorker}
use Rattle.dvi_run.proofs.RunOfWorkers.{more_each}
use Rattle.dvi_run.proofs.own_workers.own_workers.Goals as goal

-- ready for a run that knows these files
abbrev Ready : FileTable → Worker SureFonts → Type 0
Ready files w = IsReadyWorker (λ s. Some s.library.value) (Some files) w

pub loop-k-init : goal.loop-k-init
loop-k-init c = record { count = search rules; ready = λ k d lt. absurd (omega arith) }

pub loop-k-preserved : goal.loop-k-preserved
loop-k-preserved c =
    let inv = c.loop-k.invariant in
    let ws = c.loop-k.workers.items in
    let w = c.new-worker.result in
    let made = c.new-worker.ensures in
    let files = c.in_ok-library.library.value in
    let known : Some w.source.library.value ≡ Some files = search rules in
    let grew : c.push.new.self.items ≡ ws ++ w ∷ [] = c.in_ok-push.ensures.items in
    let longer : length c.push.new.self.items ≡ length (ws ++ w ∷ []) = ap length grew in
    let more = length_push ws w in
    record {
      count = omega (arith, longer, more, inv.count);
      ready = λ k d lt.
          subst (λ xs. Ready files (get_or xs k d)) (sym grew)
          (more_each (Ready files) c.loop-k._k ws w inv.count (record { fresh = record { knows_library = known; none = made.results; counter = made.counter; loads = made.loads; pages = made.pages }; seat = made.seat }) inv.ready k d lt);
    }
