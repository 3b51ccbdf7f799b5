use Rattle.std.proofs.Common.{◌≡◌, ◌∙◌, ◌+◌, ℕ, None, length, get_or, refl, sym, ap, subst, arith, rules}
use Rattle.cache_core.specs.Histories.{own}
use Rattle.cache_core.specs.Views.{calls_of}
use Rattle.font_decode.specs.Desks.{misses}
use Rattle.dvi_run.specs.CacheLimits.{cache_limits}
use Rattle.dvi_run.specs.Outside.{Sources}
use Rattle.dvi_run.specs.Pages.{Setup, setup_with}
use Rattle.job_spool.specs.Caches.{KeepsCache}
use Rattle.job_spool.specs.Jobs.{JobView, jobs_change}
use Rattle.job_spool.specs.Sharing.{Documents, caches_of, document_at}
use Rattle.job_spool.specs.Sums.{sum_below}
use Rattle.job_spool.specs.Workers.{FewSourceEnds, IsResting}
use Rattle.job_spool.proofs.JobsRead.{all_found, are_empty, are_for, are_undrawn, none_found, undrawn, was_read}
use Rattle.job_spool.proofs.SpoolKept.{keeps_drawn_jobs, keeps_undrawn_jobs, ready_rests}
use Rattle.job_spool.proofs.spool.draw_jobs.Goals as goal

pub returns-in_default : goal.returns-in_default
returns-in_default g c =
    let q = c.requires.1.1.1.1.1.1 in
    let sources : Sources _ = record { library = g.F.FontSource.library; faults = g.F.FontSource.faults; loads = g.F.FontSource.loads } in
    let view : JobView _ _ = record { left = g.I.Input.left; taken = g.I.Input.taken; ended = g.I.Input.ended; reads = g.I.Input.faults; written = g.O.Output.written; writes = g.O.Output.faults } in
    let runs = c.runs.ensures in
    let settings = c.args.settings.now in
    let given : Setup = setup_with g.known settings in
    let xs = c.args.jobs.now in
    let ws = c.read_inputs.new.jobs in
    λ d.
    keeps_undrawn_jobs settings g.known sources view xs ws d c.args.workers.now q.1.0 runs.reading runs.values runs.no_fault (λ k w lt. q.1.1.1.1.0 k w (omega (arith, lt, q.1.1.0))) (λ k lt. q.1.1.1.1.1 k d lt)
    (λ k lt. was_read view given (get_or xs k d) (get_or ws k d) (get_or ws k d) None None (c.in_default.ensures.refused k d lt) refl)

pub returns-in_default-index_texts : goal.returns-in_default-index_texts
returns-in_default-index_texts g c =
    let q = c.requires.1.1.1.1.1.1 in
    let sources : Sources _ = record { library = g.F.FontSource.library; faults = g.F.FontSource.faults; loads = g.F.FontSource.loads } in
    let view : JobView _ _ = record { left = g.I.Input.left; taken = g.I.Input.taken; ended = g.I.Input.ended; reads = g.I.Input.faults; written = g.O.Output.written; writes = g.O.Output.faults } in
    let runs = c.runs.ensures in
    let settings = c.args.settings.now in
    let given : Setup = setup_with g.known settings in
    let xs = c.args.jobs.now in
    let ws = c.read_inputs.new.jobs in
    let zs = c.index_texts.new.jobs in
    let same : length ws ≡ length xs = search rules in
    λ d.
    keeps_undrawn_jobs settings g.known sources view xs zs d c.args.workers.now q.1.0 runs.reading runs.values runs.no_fault (λ k w lt. q.1.1.1.1.0 k w (omega (arith, lt, q.1.1.0))) (λ k lt. q.1.1.1.1.1 k d lt)
    (λ k lt. none_found view given c.in-Ok.texts.items c.deref.result.now xs ws zs same c.deref.ensures.value c.in-Ok.ensures.texts c.in_default-index_texts.ensures.refused k d lt)

pub returns-in_default-share_caches : goal.returns-in_default-share_caches
returns-in_default-share_caches g c =
    let q = c.requires.1.1.1.1.1.1 in
    let sources : Sources _ = record { library = g.F.FontSource.library; faults = g.F.FontSource.faults; loads = g.F.FontSource.loads } in
    let view : JobView _ _ = record { left = g.I.Input.left; taken = g.I.Input.taken; ended = g.I.Input.ended; reads = g.I.Input.faults; written = g.O.Output.written; writes = g.O.Output.faults } in
    let runs = c.runs.ensures in
    let settings = c.args.settings.now in
    let given : Setup = setup_with g.known settings in
    let xs = c.args.jobs.now in
    let ws = c.read_inputs.new.jobs in
    let zs = c.index_texts.new.jobs in
    let docs : Documents = c.in-Ok-index_texts.documents.items in
    let same : length ws ≡ length xs = search rules in
    λ d.
    keeps_undrawn_jobs settings g.known sources view xs zs d c.args.workers.now q.1.0 runs.reading runs.values runs.no_fault (λ k w lt. q.1.1.1.1.0 k w (omega (arith, lt, q.1.1.0))) (λ k lt. q.1.1.1.1.1 k d lt)
    (λ k lt.
    undrawn view given (document_at docs k) (get_or xs k d) (get_or zs k d)
    (all_found view given c.in-Ok.texts.items c.deref.result.now xs ws zs same c.deref.ensures.value c.in-Ok.ensures.texts docs docs refl c.in-Ok-index_texts.ensures.documents k d lt))

pub draw_caches-requires : goal.draw_caches-requires
draw_caches-requires g c κs within =
    let q = c.requires.1.1.1.1.1.1 in
    let sources : Sources _ = record { library = g.F.FontSource.library; faults = g.F.FontSource.faults; loads = g.F.FontSource.loads } in
    let view : JobView _ _ = record { left = g.I.Input.left; taken = g.I.Input.taken; ended = g.I.Input.ended; reads = g.I.Input.faults; written = g.O.Output.written; writes = g.O.Output.faults } in
    let settings = c.args.settings.now in
    let given : Setup = setup_with g.known settings in
    let xs = c.args.jobs.now in
    let ws = c.read_inputs.new.jobs in
    let zs = c.index_texts.new.jobs in
    let docs : Documents = c.in-Ok-index_texts.documents.items in
    let found : Documents = c.deref-3.result.now in
    let are : found ≡ docs = c.deref-3.ensures.value in
    let same : length ws ≡ length xs = search rules in
    let later : length zs ≡ length ws = search rules in
    let count : length docs ≡ length ws = c.in-Ok-index_texts.ensures.count in
    let long : length found ≡ length docs = ap length are in
    let was = all_found view given c.in-Ok.texts.items c.deref.result.now xs ws zs same c.deref.ensures.value c.in-Ok.ensures.texts docs found are c.in-Ok-index_texts.ensures.documents in
    let many : length found ≡ length xs = omega (arith, long, count, same) in
    let all : length zs ≡ length xs = omega (arith, later, same) in
    let used = q.0.workers in
    let workers : length c.args.workers.now ≡ settings.workers = q.1.1.0 in (
      search rules fits 100000 depth 60,
      (
        search rules fits 100000 depth 60,
        (
          search rules fits 100000 depth 60,
          (
            search rules fits 100000 depth 60,
            (
              search rules fits 100000 depth 60,
              (
                search rules fits 100000 depth 60,
                (
                  omega (arith, used.0, workers),
                  (
                    omega (arith, used.1, workers),
                    (
                      q.0,
                      (
                        c.deref-4.ensures.value ∙ c.in-Ok-share_caches.ensures ∙ ap caches_of (c.deref-2.ensures.value ∙ sym are),
                        (
                          omega (arith, many, all),
                          (
                            are_for view given found xs zs many all was,
                            (
                              are_undrawn view given found xs zs many all was,
                              (are_empty view given found xs zs many all was q.1.1.1.1.1, λ k w lt. ready_rests sources g.known (get_or c.args.workers.now k w) (q.1.1.1.1.0 k w lt)),
                            ),
                          ),
                        ),
                      ),
                    ),
                  ),
                ),
              ),
            ),
          ),
        ),
      ),
    )

pub returns : goal.returns
returns g c =
    let q = c.requires.1.1.1.1.1.1 in
    let sources : Sources _ = record { library = g.F.FontSource.library; faults = g.F.FontSource.faults; loads = g.F.FontSource.loads } in
    let view : JobView _ _ = record { left = g.I.Input.left; taken = g.I.Input.taken; ended = g.I.Input.ended; reads = g.I.Input.faults; written = g.O.Output.written; writes = g.O.Output.faults } in
    let runs = c.runs.ensures in
    let settings = c.args.settings.now in
    let given : Setup = setup_with g.known settings in
    let xs = c.args.jobs.now in
    let ws = c.read_inputs.new.jobs in
    let zs = c.index_texts.new.jobs in
    let now = c.draw_caches.new.jobs in
    let before = c.args.workers.now in
    let after = c.draw_caches.new.workers in
    let docs : Documents = c.in-Ok-index_texts.documents.items in
    let found : Documents = c.deref-3.result.now in
    let are : found ≡ docs = c.deref-3.ensures.value in
    let same : length ws ≡ length xs = search rules in
    let later : length zs ≡ length ws = search rules in
    let all : length zs ≡ length xs = omega (arith, later, same) in
    let kept : length after ≡ length before = search rules in
    let workers : length before ≡ settings.workers = q.1.1.0 in
    let count : length docs ≡ length ws = c.in-Ok-index_texts.ensures.count in
    let long : length found ≡ length docs = ap length are in
    let was = all_found view given c.in-Ok.texts.items c.deref.result.now xs ws zs same c.deref.ensures.value c.in-Ok.ensures.texts docs found are c.in-Ok-index_texts.ensures.documents in
    let drew = c.draw_caches.ensures in
    λ d.
    keeps_drawn_jobs settings g.known sources view xs zs now d before after found runs.reading runs.values runs.no_fault (record {
      plain = q.1.0;
      some = q.0.workers.0;
      empty = λ k lt. q.1.1.1.1.1 k d lt;
      many = omega (arith, long, count, same);
      long = workers;
      same = kept ∙ workers;
      was = λ k lt. was k d lt;
      input = λ k. drew.input k d;
      others = λ k none. drew.others k d none;
      caches = λ first lt.
          subst (λ (n : ℕ). KeepsCache (record { given = given; limits = cache_limits settings; workers = n; sources = sources; count = length xs; jobs = jobs_change view zs now d; before = before; after = after }) found first) workers
          (subst (λ (m : ℕ). KeepsCache (record { given = given; limits = cache_limits settings; workers = length before; sources = sources; count = m; jobs = jobs_change view zs now d; before = before; after = after }) found first) all
          (drew.caches d first (omega (arith, lt, all))));
      few = subst (λ (n : ℕ). FewSourceEnds sources.faults n (length xs) before after zs now) workers (subst (λ (m : ℕ). FewSourceEnds sources.faults (length before) m before after zs now) all drew.few_ends);
      resting = λ k w lt.
          subst (λ (m : ℕ). IsResting sources g.known (sum_below (λ j. misses (own (k + 1) (calls_of (get_or now j d).history.items))) m) (get_or before k w) (get_or after k w)) all (drew.resting k w d (omega (arith, lt, workers)));
    })
