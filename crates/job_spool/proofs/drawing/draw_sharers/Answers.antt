use Rattle.std.proofs.Common.{◌≡◌, ◌≤◌, ◌<◌, ◌+◌, ℕ, List, Option, Some, None, length, get_or, refl, sym, subst, ◌∙◌, rules, arith}
use Rattle.std.specs.Prelude.{IfSome}
use Rattle.std.proofs.lemmas.List.{get_or-set_other}
use Rattle.page_index.specs.Pages.{Indexed, document_units}
use Rattle.page_workers.specs.Rounds.{MayDraw}
use Rattle.page_workers.proofs.Lists.{same_default}
use Rattle.dvi_run.specs.CacheLimits.{cache_limits}
use Rattle.dvi_run.specs.Outside.{Sources}
use Rattle.dvi_run.specs.Pages.{setup_with}
use Rattle.dvi_run.proofs.RunOfWorkers.{one_of}
use Rattle.job_spool.specs.Drawn.{SharersDrew, drawing_with, left_for}
use Rattle.job_spool.specs.Jobs.{JobView}
use Rattle.job_spool.specs.Sharing.{caches_of, document_at, pages_in}
use Rattle.job_spool.proofs.SeatsDrawn.{may_draw}
use Rattle.job_spool.proofs.SharedPages.{count_below}
use Rattle.job_spool.proofs.SharersDrawn.{drew_none, drew_past}
use Rattle.job_spool.proofs.SharersNext.{drew_next, few_next, field_next, others_next, pages_fit, same_history, same_input, shares_none, units_fit}
use Rattle.job_spool.proofs.SourceEnds.{no_ends}
use Rattle.job_spool.proofs.drawing.draw_sharers.Goals as goal
use Rattle.job_spool.proofs.drawing.draw_sharers.Goals.{then-plan-k, else-plan-k}

pub loop-k-init : goal.loop-k-init
loop-k-init g c =
    let q = c.requires.1.1.1.1.1.1 in
    let sources : Sources _ = record { library = g.F.FontSource.library; faults = g.F.FontSource.faults; loads = g.F.FontSource.loads } in
    let view : JobView _ _ = record { left = g.I.Input.left; taken = g.I.Input.taken; ended = g.I.Input.ended; reads = g.I.Input.faults; written = g.O.Output.written; writes = g.O.Output.faults } in
    let settings = c.args.plan.now.settings.now in
    let ws = c.args.workers.now in
    let jobs = c.args.jobs.now in
    record {
      drew = λ d. drew_none (setup_with g.known settings) (cache_limits settings) sources view c.args.bench.now c.args.plan.now.documents.now c.args.first jobs d ws (λ i e lt. q.1.1.1.1.1.1.1.1 i e lt);
      kept = λ j d le. refl;
      others = λ j d none. refl;
      input = λ j d. refl;
      history = λ j d. refl;
      few = no_ends g.F.FontSource.faults (length ws) (length jobs) ws jobs;
    }

pub bounds-plan-k : goal.bounds-plan-k
bounds-plan-k g c =
    let q = c.requires.1.1.1.1.1.1 in
    let docs = c.args.plan.now.documents.now in
    let k = c.loop-k.k in
    let below : k < length c.args.jobs.now = search rules in
    let many : length docs ≡ length c.args.jobs.now = q.1.1.1.1.0 in
    let placed : length (caches_of docs) ≡ length docs = count_below docs (length docs) in
    let inside : k < length (caches_of docs) = omega (arith, below, many, placed) in
    subst (λ (l : List ℕ). k < length l) (sym q.1.1.1.0) inside

pub draw_one-requires : goal.draw_one-requires
draw_one-requires g c κs within =
    let q = c.requires.1.1.1.1.1.1 in
    let sources : Sources _ = record { library = g.F.FontSource.library; faults = g.F.FontSource.faults; loads = g.F.FontSource.loads } in
    let docs = c.args.plan.now.documents.now in
    let bench = c.args.bench.now in
    let first = c.args.first in
    let k = c.loop-k.k in
    let ws = c.args.workers.now in
    let now = c.loop-k.workers in
    let inv = c.loop-k.invariant in
    let long : length now ≡ length ws = search rules in
    let below : k < length c.args.jobs.now = search rules in
    let here : k < length docs = omega (arith, below, q.1.1.1.1.0) in
    let at : get_or c.args.plan.now.caches.now k 0 ≡ first = c.if-plan-k.true in
    let own : get_or (caches_of docs) k 0 ≡ first = subst (λ (l : List ℕ). get_or l k 0 ≡ first) q.1.1.1.0 at in
    let document : document_at docs k ≡ c.index-documents-k.result = same_default docs k None c.index-documents-k.result here ∙ sym c.index-documents-k.is in
    let j = one_of c.args.jobs.now k below in (
      search rules fits 100000 depth 60,
      (
        search rules fits 100000 depth 60,
        (
          search rules fits 100000 depth 60,
          (
            search rules fits 100000 depth 60,
            (
              search rules fits 100000 depth 60,
              (
                search rules fits 100000 depth 60,
                (
                  subst (λ (n : ℕ). 1 ≤ n) (sym long) q.0,
                  (
                    subst (λ (n : ℕ). n ≤ 32) (sym long) q.1.0,
                    (
                      q.1.1.0.sheet,
                      (
                        subst (λ (o : Option Indexed). IfSome o (λ x. document_units x.res x.reading ≡ Some bench.units)) document (units_fit docs first k bench.units own here q.1.1.1.1.1.1.0),
                        (
                          λ i d lt.
                              let there : i < length ws = subst (λ (n : ℕ). i < n) long lt in
                              subst (λ (o : Option Indexed). MayDraw g.F.FontSource.library bench (pages_in o) (get_or now i d)) document
                              (may_draw sources g.known bench (i + 1) (left_for docs first k) (pages_in (document_at docs k)) _ (get_or ws i d) (get_or now i d) (pages_fit docs first k c.args.plan.now.settings.now.res own here q.1.1.1.1.1.0) ((inv.drew j).seats i d there)),
                          λ i d lt. ((inv.drew j).seats i d (subst (λ (n : ℕ). i < n) long lt)).library,
                        ),
                      ),
                    ),
                  ),
                ),
              ),
            ),
          ),
        ),
      ),
    )

pub loop-k-preserved : goal.loop-k-preserved
loop-k-preserved g c =
    let q = c.requires.1.1.1.1.1.1 in
    let sources : Sources _ = record { library = g.F.FontSource.library; faults = g.F.FontSource.faults; loads = g.F.FontSource.loads } in
    let view : JobView _ _ = record { left = g.I.Input.left; taken = g.I.Input.taken; ended = g.I.Input.ended; reads = g.I.Input.faults; written = g.O.Output.written; writes = g.O.Output.faults } in
    let settings = c.args.plan.now.settings.now in
    let given = setup_with g.known settings in
    let limits = cache_limits settings in
    let docs = c.args.plan.now.documents.now in
    let bench = c.args.bench.now in
    let first = c.args.first in
    let k = c.loop-k.k in
    let ws = c.args.workers.now in
    let jobs = c.args.jobs.now in
    let after = c.loop-k.workers in
    let now = c.loop-k.jobs in
    let inv = c.loop-k.invariant in
    let long : length after ≡ length ws = search rules in
    let many : length now ≡ length jobs = search rules in
    let below : k < length jobs = search rules in
    let inside : k < length now = omega (arith, below, many) in
    elim c.if-plan-k.branch [
      | then-plan-k w ↦
          let at : get_or c.args.plan.now.caches.now k 0 ≡ first = w.if-plan-k.true in
          let own : get_or (caches_of docs) k 0 ≡ first = subst (λ (l : List ℕ). get_or l k 0 ≡ first) q.1.1.1.0 at in
          let document : document_at docs k ≡ w.index-documents-k.result = same_default docs k None w.index-documents-k.result (omega (arith, below, q.1.1.1.1.0)) ∙ sym w.index-documents-k.is in
          let later = w.draw_one.new.workers in
          let v = w.draw_one.new.job in
          let job = get_or now k w.index-jobs-k.result in
          let longer : length later ≡ length ws = search rules in
          let here : (d : _) → get_or now k d ≡ job = λ d. same_default now k d w.index-jobs-k.result inside in
          let u = one_of ws 0 (omega (arith, q.0)) in
          let came = w.draw_one.ensures in
          rw (w.workers-is, w.jobs-is) (record {
            drew = λ d. drew_next given limits sources view bench docs first jobs ws k now after later job v inside many q.1.1.1.1.0 long longer inv.kept here own w.index-documents-k.result document q.1.1.1.1.1.0 came d u (inv.drew d);
            kept = λ j d le. get_or-set_other now k j v d (λ e. omega (arith, e, le)) ∙ inv.kept j d (omega (arith, le));
            others = others_next given limits sources view bench docs first jobs ws k now after later job v inside many q.1.1.1.1.0 long longer inv.kept here own w.index-documents-k.result document came inv.others;
            input = field_next given limits sources view bench docs first jobs ws k now after later job v inside many q.1.1.1.1.0 long longer inv.kept here own (λ x. x.input)
                (same_input given limits sources view bench docs first jobs ws k now after later job v inside many q.1.1.1.1.0 long longer inv.kept here own w.index-documents-k.result came) inv.input;
            history = field_next given limits sources view bench docs first jobs ws k now after later job v inside many q.1.1.1.1.0 long longer inv.kept here own (λ x. x.history)
                (same_history given limits sources view bench docs first jobs ws k now after later job v inside many q.1.1.1.1.0 long longer inv.kept here own w.index-documents-k.result came) inv.history;
            few = few_next given limits sources view bench docs first jobs ws k now after later job v inside many q.1.1.1.1.0 long longer inv.kept here own w.index-documents-k.result document came q.1.1.1.1.1.1.1.0 (λ i e lt. ((inv.drew job).seats i e lt).faults) job inv.few;
          })
      | else-plan-k w ↦
          let not : get_or (caches_of docs) k 0 ≡ first → ⊥ = λ e. w.if-plan-k.false (subst (λ (l : List ℕ). get_or l k 0 ≡ first) (sym q.1.1.1.0) e) in
          rw (w.workers-is, w.jobs-is) (record {
            drew = λ d. drew_past given limits sources view bench docs first jobs d ws k now after (inv.drew d) (shares_none docs first k not);
            kept = λ j d le. inv.kept j d (omega (arith, le));
            others = inv.others;
            input = inv.input;
            history = inv.history;
            few = inv.few;
          })
    ]

pub returns-clause-drew : goal.returns-clause-drew
returns-clause-drew g c =
    let all : c.loop-k.k ≡ length c.args.jobs.now = search rules in
    let sources : Sources _ = record { library = g.F.FontSource.library; faults = g.F.FontSource.faults; loads = g.F.FontSource.loads } in
    let view : JobView _ _ = record { left = g.I.Input.left; taken = g.I.Input.taken; ended = g.I.Input.ended; reads = g.I.Input.faults; written = g.O.Output.written; writes = g.O.Output.faults } in
    let settings = c.args.plan.now.settings.now in
    λ d. subst (λ (n : ℕ). SharersDrew (drawing_with (setup_with g.known settings) (cache_limits settings) sources view c.args.jobs.now c.loop-k.jobs d c.args.workers.now c.loop-k.workers) g.known c.args.bench.now c.args.plan.now.documents.now c.args.first n) all (c.loop-k.invariant.drew d)
