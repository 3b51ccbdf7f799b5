-- What a run over several documents prints in its notes, and its answer.
use Rattle.std.specs.Prelude.{◌≡◌, ◌⊎◌, ℕ, zero, suc, ◌+◌, ◌==◌, not, List, [], ◌++◌, Option, Some, None, codes, decimal, find, length, map, slice_index}
use Rattle.std.specs.List.{sum_by}
use Rattle.std.specs.Io.KnownBytes.{Appends}
use Rattle.outside.specs.Streams.{AppendsPrefix}
use Rattle.cache_core.specs.Views.{calls_of}
use Rattle.run_report.specs.Summary.{count_line, count_of, is_hit, is_look}
use Rattle.dvi_run.specs.Endings.{Prints}
use Rattle.dvi_run.specs.Outside.{FaultsRose, StreamChange}
use Rattle.job_spool.specs.declared.job.Job.{Job}

-- ---- the text

abbrev pub statuses_of : {I O : Type 0} → List (Job I O) → List ℕ
statuses_of jobs = map (λ job. job.status) jobs

-- the line of a job, counted from 1
abbrev pub job_line : (job status : ℕ) → List ℕ
job_line job status =
    codes "job " ++ decimal job ++ codes " status " ++ decimal status ++ codes "\n"

-- those of the first k jobs
abbrev pub job_lines : (statuses : List ℕ) → (k : ℕ) → List ℕ
job_lines statuses zero = []
job_lines statuses (suc k) = job_lines statuses k ++ job_line (k + 1) (slice_index statuses k)

-- how many look-ups there were in all histories, and how many of them hit
abbrev pub looks_of : {I O : Type 0} → List (Job I O) → ℕ
looks_of jobs = sum_by (λ job. count_of is_look (calls_of job.history.items)) jobs

abbrev pub hits_of : {I O : Type 0} → List (Job I O) → ℕ
hits_of jobs = sum_by (λ job. count_of is_hit (calls_of job.history.items)) jobs

abbrev pub counts_text : {I O : Type 0} → List (Job I O) → (loads : ℕ) → List ℕ
counts_text jobs loads =
    count_line (codes "looks") (looks_of jobs) ++ count_line (codes "hits") (hits_of jobs)
    ++ count_line (codes "loads") loads

-- a line for each job, and then these counts, and how many files were loaded
abbrev pub notes_text : {I O : Type 0} → List (Job I O) → (loads : ℕ) → List ℕ
notes_text jobs loads =
    job_lines (statuses_of jobs) (length jobs) ++ counts_text jobs loads

-- where the words aren't a line
abbrev pub usage_text : List ℕ
usage_text = codes "dvispool: usage\n"

-- ---- the answer

-- the first status that isn't 0
abbrev pub first_refusal : (statuses : List ℕ) → Option ℕ
first_refusal statuses = find (λ status. not (status == 0)) statuses

-- that status; or where there is none 0, or 8 where the notes failed
abbrev pub IsAnswer : (refusal : Option ℕ) → (notes : StreamChange) → (text : List ℕ)
    → (answer : ℕ) → Type 0
IsAnswer (Some status) notes text answer =
    (answer ≡ status) × Prints notes.before.bytes notes.after.bytes notes.before.faults
    notes.after.faults text
IsAnswer None notes text answer =
    ((answer ≡ 0) × Appends notes.before.bytes notes.after.bytes text)
    ⊎ ((answer ≡ 8) × AppendsPrefix notes.before.bytes notes.after.bytes text × FaultsRose notes)
