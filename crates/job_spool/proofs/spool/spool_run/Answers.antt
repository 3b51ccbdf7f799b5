use mir.Syntax.{of_param}
use Rattle.std.proofs.Common.{◌≡◌, ◌≤◌, ◌∙◌, ◌++◌, ℕ, Bool, length, take, drop, sym, ap, subst, arith, rules}
use Rattle.std.specs.Prelude.{cond, map, string_bytes, unwrap_or}
use Rattle.std.proofs.lemmas.List.{length-take-le, take_at}
use Rattle.outside.specs.Streams.{Writes}
use Rattle.dvi_run.specs.Outside.{Sources, StreamChange, change_of}
use Rattle.dvi_run.specs.Report.{loads_of}
use Rattle.dvi_run.specs.Together.{RestIsKept}
use Rattle.dvi_run.proofs.RunOfWorkers.{rest_of_prefix}
use Rattle.job_spool.specs.Jobs.{JobView, settings_for}
use Rattle.job_spool.specs.Notes.{IsAnswer, first_refusal, notes_text, statuses_of}
use Rattle.job_spool.proofs.RunAnswers.{is_answer, not_usage}
use Rattle.job_spool.proofs.RunNumbers.{KeptFor, for_numbers, kept_for, prefix_ready}
use Rattle.job_spool.proofs.spool.spool_run.Goals as goal

pub settings_for-settings-requires : goal.settings_for-settings-requires
settings_for-settings-requires g c = (c.given_pairs.ensures.given (map string_bytes c.args.words.now) c.in-Some.numbers (sym c.in-Some.ensures)).0

pub draw_jobs-requires : goal.draw_jobs-requires
draw_jobs-requires g c κs within =
    let q = c.requires.1.1.1.1.1.1.1 in
    let n = c.in-Some.numbers in
    let ws = c.args.workers.now in
    let is = sym c.in-Some.ensures in
    let pairs = (c.given_pairs.ensures.given (map string_bytes c.args.words.now) n is).1 in
    let fits = q.1.1.1.0 n is in
    let there : n.workers ≤ length ws = fits.0 in
    let few = pairs.few in
    let count = fits.1 in
    let same = c.settings_for-settings.ensures.value in
    let sent = c.requires.1.1.1.1.1.0 in
    (search rules fits 100000 depth 60, (search rules fits 100000 depth 60, (search rules fits 100000 depth 60, (search rules fits 100000 depth 60, (record { owned = sent.owned; leaving = λ k x w. sent.leaving (λ _. k (of_param 1)) x w }, (search rules fits 100000 depth 60, (c.settings_for-settings.ensures.allowed, (ap (λ s. s.sample) same, (length-take-le n.workers ws there ∙ sym (ap (λ s. s.workers) same), (omega (arith, few, count), (prefix_ready g.F.FontSource.library g.told n.workers ws there q.1.1.0, q.1.1.1.1)))))))))))

pub slice_bounds-loads_asked-end-2 : goal.slice_bounds-loads_asked-end-2
slice_bounds-loads_asked-end-2 g c =
    let q = c.requires.1.1.1.1.1.1.1 in
    let n = c.in-Some.numbers.workers in
    let ws = c.args.workers.now in
    let drawn = c.draw_jobs.new.workers in
    let there : n ≤ length ws = (q.1.1.1.0 c.in-Some.numbers (sym c.in-Some.ensures)).0 in
    let kept : length drawn ≡ length (take n ws) = search rules in
    let long : length drawn ≡ n = kept ∙ length-take-le n ws there in
    sym (ap length (take_at drawn (drop n ws) n long) ∙ long)

pub print-requires : goal.print-requires
print-requires g c =
    let q = c.requires.1.1.1.1.1.1.1 in
    let n = c.in-Some.numbers in
    let is = sym c.in-Some.ensures in
    let few = (c.given_pairs.ensures.given (map string_bytes c.args.words.now) n is).1.few in
    let count = (q.1.1.1.0 n is).1 in
    let kept : length c.draw_jobs.new.jobs ≡ length c.args.jobs.now = search rules in
    record { few = omega (arith, few, count, kept) }

pub returns-clause-usage : goal.returns-clause-usage
returns-clause-usage g c =
    let jobs = c.draw_jobs.new.jobs in
    let kept : length jobs ≡ length c.args.jobs.now = search rules in
    let by = c.status_of.ensures ∙ ap (λ o. unwrap_or o (cond c.is_ok-taken.result 0 8)) c.first_refusal.ensures in
    λ one. absurd (not_usage jobs (λ k d lt. ((c.draw_jobs.ensures d).jobs k (omega (arith, lt, kept))).answers) c.is_ok-taken.result c.status_of.result by one)

pub returns-clause-promises : goal.returns-clause-promises
returns-clause-promises g c =
    let q = c.requires.1.1.1.1.1.1.1 in
    let sources : Sources _ = record { library = g.F.FontSource.library; faults = g.F.FontSource.faults; loads = g.F.FontSource.loads } in
    let view : JobView _ _ = record { left = g.I.Input.left; taken = g.I.Input.taken; ended = g.I.Input.ended; reads = g.I.Input.faults; written = g.O.Output.written; writes = g.O.Output.faults } in
    let n = c.in-Some.numbers in
    let ws = c.args.workers.now in
    let drawn = c.draw_jobs.new.workers in
    let is = sym c.in-Some.ensures in
    let there : n.workers ≤ length ws = (q.1.1.1.0 n is).0 in
    let kept : length drawn ≡ length (take n.workers ws) = search rules in
    let rest = drop n.workers ws in
    let jobs = c.args.jobs.now in
    let now = c.draw_jobs.new.jobs in
    for_numbers _ n (λ numbers. KeptFor g.told sources view jobs now (settings_for numbers) (take numbers.workers ws) (take numbers.workers (drawn ++ rest))) is
    (kept_for g.told sources view jobs now n c.settings_for-settings.result (take n.workers ws) drawn rest c.settings_for-settings.ensures.value (kept ∙ length-take-le n.workers ws there) c.draw_jobs.ensures)

pub returns-clause-rest : goal.returns-clause-rest
returns-clause-rest g c =
    let q = c.requires.1.1.1.1.1.1.1 in
    let n = c.in-Some.numbers in
    let ws = c.args.workers.now in
    let drawn = c.draw_jobs.new.workers in
    let is = sym c.in-Some.ensures in
    let there : n.workers ≤ length ws = (q.1.1.1.0 n is).0 in
    let kept : length drawn ≡ length (take n.workers ws) = search rules in
    for_numbers _ n (λ numbers. RestIsKept numbers.workers ws (drawn ++ drop n.workers ws)) is (rest_of_prefix n.workers ws drawn (kept ∙ length-take-le n.workers ws there))

pub returns-clause-answers : goal.returns-clause-answers
returns-clause-answers g c =
    let n = c.in-Some.numbers in
    let jobs = c.draw_jobs.new.jobs in
    let after = c.draw_jobs.new.workers ++ drop n.workers c.args.workers.now in
    let notes : StreamChange = change_of g.N.Output.written g.N.Output.faults c.args.notes.now c.print.new.notes in
    let answer = c.status_of.result in
    let loads : c.loads_asked-loads.result ≡ loads_of n.workers after = c.loads_asked-loads.ensures in
    let wrote =
    subst (λ (l : ℕ). Writes (g.N.Output.written c.args.notes.now) (g.N.Output.written c.print.new.notes) (g.N.Output.faults c.args.notes.now) (g.N.Output.faults c.print.new.notes) (notes_text jobs l) c.print.result) loads c.print.ensures in
    let by =
    c.status_of.ensures ∙ ap (λ o. unwrap_or o (cond c.is_ok-taken.result 0 8)) c.first_refusal.ensures
    ∙ ap (λ (b : Bool). unwrap_or (first_refusal (statuses_of jobs)) (cond b 0 8)) c.is_ok-taken.ensures.value in
    for_numbers _ n (λ numbers. IsAnswer (first_refusal (statuses_of jobs)) notes (notes_text jobs (loads_of numbers.workers after)) answer) (sym c.in-Some.ensures)
    (is_answer notes (notes_text jobs (loads_of n.workers after)) answer (first_refusal (statuses_of jobs)) c.print.result by wrote)
