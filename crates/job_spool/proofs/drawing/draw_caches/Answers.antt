use Rattle.std.proofs.Common.{◌≡◌, ◌≤◌, ◌<◌, ◌+◌, ℕ, suc, length, get_or, refl, sym, ap, subst, ◌∙◌, rules, arith}
use Rattle.cache_core.specs.Histories.{own}
use Rattle.cache_core.specs.Views.{calls_of}
use Rattle.font_decode.specs.Desks.{misses}
use Rattle.page_workers.specs.declared.worker.Worker.{Worker}
use Rattle.dvi_run.specs.CacheLimits.{cache_limits}
use Rattle.dvi_run.specs.Outside.{Sources}
use Rattle.dvi_run.specs.Pages.{setup_with}
use Rattle.dvi_run.proofs.RunOfWorkers.{one_of}
use Rattle.job_spool.specs.Caches.{KeepsCache}
use Rattle.job_spool.specs.Jobs.{JobView}
use Rattle.job_spool.specs.Sums.{sum_below}
use Rattle.job_spool.specs.Workers.{FewSourceEnds, IsResting}
use Rattle.job_spool.proofs.CachesDrawn.{all_kept, drawn_by, no_document, still_untouched}
use Rattle.job_spool.proofs.SeatsLeft.{rests_again, rests_later}
use Rattle.job_spool.proofs.SourceEnds.{ends_then, no_ends}
use Rattle.job_spool.proofs.Sums.{sum_same}
use Rattle.job_spool.proofs.drawing.draw_caches.Goals as goal

pub loop-first-init : goal.loop-first-init
loop-first-init g c =
    let q = c.requires.1.1.1.1.1.1 in record {
      caches = λ d j lt. absurd (omega (arith, lt));
      untouched = λ j k d le some. refl;
      others = λ k d none. refl;
      input = λ k d. refl;
      history = λ k d le. refl;
      few = no_ends g.F.FontSource.faults (length c.args.workers.now) (length c.args.jobs.now) c.args.workers.now c.args.jobs.now;
      resting = λ k d e lt. q.1.1.1.1.1.1.1.1 k d lt;
    }

pub draw_cache-requires : goal.draw_cache-requires
draw_cache-requires g c κs within =
    let q = c.requires.1.1.1.1.1.1 in
    let sources : Sources _ = record { library = g.F.FontSource.library; faults = g.F.FontSource.faults; loads = g.F.FontSource.loads } in
    let docs = c.args.plan.now.documents.now in
    let first = c.loop-first.first in
    let ws = c.args.workers.now in
    let now = c.loop-first.workers in
    let jobs = c.args.jobs.now in
    let inv = c.loop-first.invariant in
    let long : length now ≡ length ws = search rules in
    let many : length c.loop-first.jobs ≡ length jobs = search rules in
    let below : first < length jobs = search rules in
    let e = one_of jobs first below in (
      search rules fits 100000 depth 60,
      (
        search rules fits 100000 depth 60,
        (
          search rules fits 100000 depth 60,
          (
            search rules fits 100000 depth 60,
            (
              search rules fits 100000 depth 60,
              (
                search rules fits 100000 depth 60,
                (
                  subst (λ (n : ℕ). 1 ≤ n) (sym long) q.0,
                  (
                    subst (λ (n : ℕ). n ≤ 32) (sym long) q.1.0,
                    (
                      q.1.1.0,
                      (
                        q.1.1.1.0,
                        (
                          q.1.1.1.1.0 ∙ sym many,
                          (
                            q.1.1.1.1.1.0,
                            (
                              subst (λ (n : ℕ). first < n) (sym many) below,
                              (
                                λ k d lt some. ap (λ x. x.status) (inv.untouched first k d (omega arith) some) ∙ q.1.1.1.1.1.1.0 first k d (subst (λ (n : ℕ). k < n) many lt) some,
                                (λ d. ap (λ h. h.items) (inv.history first d (omega arith)) ∙ q.1.1.1.1.1.1.1.0 first d below, λ k d lt. rests_again sources g.known _ (get_or ws k d) (get_or now k d) (inv.resting k d e (subst (λ (n : ℕ). k < n) long lt))),
                              ),
                            ),
                          ),
                        ),
                      ),
                    ),
                  ),
                ),
              ),
            ),
          ),
        ),
      ),
    )

pub loop-first-preserved : goal.loop-first-preserved
loop-first-preserved g c =
    let q = c.requires.1.1.1.1.1.1 in
    let sources : Sources _ = record { library = g.F.FontSource.library; faults = g.F.FontSource.faults; loads = g.F.FontSource.loads } in
    let view : JobView _ _ = record { left = g.I.Input.left; taken = g.I.Input.taken; ended = g.I.Input.ended; reads = g.I.Input.faults; written = g.O.Output.written; writes = g.O.Output.faults } in
    let settings = c.args.plan.now.settings.now in
    let given = setup_with g.known settings in
    let limits = cache_limits settings in
    let docs = c.args.plan.now.documents.now in
    let first = c.loop-first.first in
    let ws = c.args.workers.now in
    let vs = c.loop-first.workers in
    let us = c.draw_cache.new.workers in
    let jobs = c.args.jobs.now in
    let now = c.loop-first.jobs in
    let new = c.draw_cache.new.jobs in
    let inv = c.loop-first.invariant in
    let did = c.draw_cache.ensures in
    let n = length ws in
    let m = length jobs in
    let long : length vs ≡ n = search rules in
    let many : length now ≡ m = search rules in
    let below : first < m = search rules in
    let j0 = one_of jobs first below in
    let grew : (i : ℕ) (u : Worker _) → i < n → sources.faults (get_or ws i u).source ≤ sources.faults (get_or vs i u).source = λ i u lt. (inv.resting i u j0 lt).faults in
    let more : (i : ℕ) (u : Worker _) → i < n → sources.faults (get_or vs i u).source ≤ sources.faults (get_or us i u).source = λ i u lt. (did.resting i u j0 (subst (λ (x : ℕ). i < x) (sym long) lt)).faults in
    let one : first + 1 ≡ suc first = omega arith in
    record {
      caches = λ d.
          let here : KeepsCache (drawn_by given limits sources view docs first n m d now new vs us) docs first =
          subst (λ (x : ℕ). KeepsCache (drawn_by given limits sources view docs first x m d now new vs us) docs first) long (subst (λ (x : ℕ). KeepsCache (drawn_by given limits sources view docs first (length vs) x d now new vs us) docs first) many (did.cache d)) in
          all_kept given limits sources view docs first n m d jobs now new ws vs us (λ j k le some. inv.untouched j k d le some) did.left_alone (λ k not. did.history k d not) grew more (inv.caches d) here;
      untouched = λ j k d. still_untouched given limits sources view docs first n m d jobs now new ws vs us (λ i o le some. inv.untouched i o d le some) did.left_alone (λ i not. did.history i d not) grew more j k;
      others = λ k d none. did.left_alone.others k d (no_document docs first k none) ∙ inv.others k d none;
      input = λ k d. did.left_alone.input k d ∙ inv.input k d;
      history = λ k d le. did.history k d (λ e. omega (arith, le, e)) ∙ inv.history k d (omega (arith, le));
      few = ends_then g.F.FontSource.faults n ws vs us grew more m jobs now new inv.few
          (subst (λ (x : ℕ). FewSourceEnds g.F.FontSource.faults x m vs us now new) long (subst (λ (x : ℕ). FewSourceEnds g.F.FontSource.faults (length vs) x vs us now new) many did.few_ends));
      resting = λ k d e lt.
          let before : sum_below (λ j. misses (own (k + 1) (calls_of (get_or new j e).history.items))) first ≡ sum_below (λ j. misses (own (k + 1) (calls_of (get_or now j e).history.items))) first =
          sum_same _ _ first (λ j l. ap (λ h. misses (own (k + 1) (calls_of h.items))) (did.history j e (λ is. omega (arith, is, l)))) in
          subst (λ (x : ℕ). IsResting sources g.known (sum_below (λ j. misses (own (k + 1) (calls_of (get_or new j e).history.items))) x) (get_or ws k d) (get_or us k d)) (sym one)
          (rests_later sources g.known (sum_below (λ j. misses (own (k + 1) (calls_of (get_or now j e).history.items))) first) (misses (own (k + 1) (calls_of (get_or new first e).history.items))) _ (get_or ws k d) (get_or vs k d) (get_or us k d)
          (ap (λ (x : ℕ). x + misses (own (k + 1) (calls_of (get_or new first e).history.items))) before) (inv.resting k d e lt) (did.resting k d e (subst (λ (x : ℕ). k < x) (sym long) lt)));
    }

pub returns-clause-caches : goal.returns-clause-caches
returns-clause-caches g c =
    let all : c.loop-first.first ≡ length c.args.jobs.now = search rules in
    λ d j lt. c.loop-first.invariant.caches d j (subst (λ (n : ℕ). j < n) (sym all) lt)

pub returns-clause-resting : goal.returns-clause-resting
returns-clause-resting g c =
    let all : c.loop-first.first ≡ length c.args.jobs.now = search rules in
    rw (sym all) c.loop-first.invariant.resting

pub returns-clause-others : goal.returns-clause-others
returns-clause-others g c = c.loop-first.invariant.others

pub returns-clause-input : goal.returns-clause-input
returns-clause-input g c = c.loop-first.invariant.input

pub returns-clause-few_ends : goal.returns-clause-few_ends
returns-clause-few_ends g c = c.loop-first.invariant.few
