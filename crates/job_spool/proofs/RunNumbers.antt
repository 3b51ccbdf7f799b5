-- What holds under the numbers that the words of a run give.
use Rattle.std.proofs.Common.{◌≡◌, ◌≤◌, ◌<◌, ◌++◌, List, length, get_or, take, Option, Some, sym, subst, ◌∙◌, arith, ℕ}
use Rattle.std.proofs.lemmas.List.{get_or-take, length-take-le, take_at}
use Rattle.outside.specs.Library.{FileTable}
use Rattle.page_workers.specs.declared.worker.Worker.{Worker}
use Rattle.command_line.specs.declared.settings.Settings.{Settings}
use Rattle.dvi_run.specs.Outside.{Sources}
use Rattle.dvi_run.specs.Together.{IsReadyWorker}
use Rattle.job_spool.specs.Jobs.{JobView, jobs_change, settings_for}
use Rattle.job_spool.specs.Promises.{ForNumbers, KeepsSpool, spool_drawing}
use Rattle.job_spool.specs.declared.job.Job.{Job}
use Rattle.job_spool.specs.declared.numbers.SpoolNumbers.{SpoolNumbers}

one_some : (a b : SpoolNumbers) → Some a ≡ Some b → a ≡ b
one_some a b same = cc

pub for_numbers : (given : Option SpoolNumbers) (numbers : SpoolNumbers) (P : SpoolNumbers → Type 0) → given ≡ Some numbers → P numbers → ForNumbers given P
for_numbers given numbers P is holds others are = subst P (one_some numbers others (sym is ∙ are)) holds

-- ---- the first workers, which are used

module _ {F : Type 0} (library : F → Option FileTable) (known : Option FileTable) (n : ℕ) (ws : List (Worker F)) (there : n ≤ length ws) (ready : (k : ℕ) (d : Worker F) → k < length ws → IsReadyWorker library known (get_or ws k d)) where
  pub prefix_ready : (k : ℕ) (d : Worker F) → k < length (take n ws) → IsReadyWorker library known (get_or (take n ws) k d)
  prefix_ready k d lt =
      let below : k < n = subst (λ (m : ℕ). k < m) (length-take-le n ws there) lt in
      subst (λ (w : Worker F). IsReadyWorker library known w) (sym (get_or-take n ws k d below)) (ready k d (omega (arith, below, there)))

-- what the drawing by them keeps is what the run keeps
module _ {F I O : Type 0} (known : Option FileTable) (sources : Sources F) (view : JobView I O) (jobs now : List (Job I O)) where
  abbrev pub KeptFor : Settings → (before after : List (Worker F)) → Type 0
  KeptFor settings before after =
      (d : Job I O) → KeepsSpool settings known (spool_drawing settings known sources (length jobs) (jobs_change view jobs now d) before after)

  pub kept_for : (n : SpoolNumbers) (settings : Settings) (before drawn rest : List (Worker F)) → settings ≡ settings_for n → length drawn ≡ n.workers → KeptFor settings before drawn
      → KeptFor (settings_for n) before (take n.workers (drawn ++ rest))
  kept_for n settings before drawn rest same long kept =
      subst (λ (after : List (Worker F)). KeptFor (settings_for n) before after) (sym (take_at drawn rest n.workers long)) (subst (λ (s : Settings). KeptFor s before drawn) same kept)
