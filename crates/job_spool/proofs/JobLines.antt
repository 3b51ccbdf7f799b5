-- The lines of jobs, one after another.
use Rattle.std.proofs.Common.{◌≡◌, ℕ, zero, suc, ◌+◌, ◌<◌, List, [], ◌∷◌, ◌++◌, length, get_or, refl, sym, ap, subst, arith}
use Rattle.job_spool.specs.Notes.{job_line, job_lines, statuses_of}
use Rattle.job_spool.specs.declared.job.Job.{Job}

status_at : {I O : Type 0} (jobs : List (Job I O)) (k : ℕ) (r : Job I O) → k < length jobs → get_or (statuses_of jobs) k 0 ≡ (get_or jobs k r).status
status_at [] k r lt = absurd (omega arith)
status_at (x ∷ jobs) zero r lt = refl
status_at (x ∷ jobs) (suc k) r lt = status_at jobs k r (omega arith)

pub lines_more : {I O : Type 0} (jobs : List (Job I O)) (k : ℕ) (r : Job I O) → k < length jobs → job_lines (statuses_of jobs) k ++ job_line (k + 1) (get_or jobs k r).status ≡ job_lines (statuses_of jobs) (k + 1)
lines_more jobs k r lt =
    let one : k + 1 ≡ suc k = omega arith in
    subst (λ (n : ℕ). job_lines (statuses_of jobs) k ++ job_line (k + 1) (get_or jobs k r).status ≡ job_lines (statuses_of jobs) n) (sym one)
    (ap (λ (s : ℕ). job_lines (statuses_of jobs) k ++ job_line (k + 1) s) (sym (status_at jobs k r lt)))
