use Rattle.std.proofs.Common.{◌≡◌, ◌<◌, ◌≤◌, ◌+◌, ◌∙◌, ℕ, List, [], length, get_or, set, sym, ap, subst, arith, rules, inl, inr, Some, None, refl}
use Rattle.std.proofs.lemmas.List.{get_or-set_same, get_or-set_other}
use Rattle.cache_core.specs.Histories.{own}
use Rattle.cache_core.specs.Laws.{FewClaims}
use Rattle.cache_core.specs.Machine.{Legal}
use Rattle.cache_core.specs.States.{limits_of}
use Rattle.cache_core.specs.Views.{calls_of}
use Rattle.cache_core.specs.declared.calls.Call.{Call}
use Rattle.cache_core.specs.declared.common.Common.{Common}
use Rattle.cache_core.specs.declared.limits.Limits.{Limits}
use Rattle.pixel_round.specs.Preamble.{AreUnits}
use Rattle.font_decode.specs.Desks.{misses}
use Rattle.turn_lock.specs.Histories.{AllMade}
use Rattle.page_workers.specs.Seating.{numbers}
use Rattle.page_workers.proofs.Lists.{same_default}
use Rattle.page_workers.proofs.Numbers.{numbers_joined}
use Rattle.dvi_run.specs.CacheLimits.{cache_limits}
use Rattle.dvi_run.specs.Outside.{Sources}
use Rattle.dvi_run.specs.Pages.{Setup, setup_with}
use Rattle.dvi_run.proofs.RunOfWorkers.{one_of}
use Rattle.job_spool.specs.Drawn.{SharersDrew, left_for}
use Rattle.job_spool.specs.Jobs.{JobView}
use Rattle.job_spool.specs.Sharing.{caches_of, document_at, units_in}
use Rattle.job_spool.specs.Workers.{FewSourceEnds, IsResting}
use Rattle.job_spool.specs.declared.job.Job.{Job}
use Rattle.job_spool.proofs.CacheClosed.{all_rest, all_seated, cache_closed, closed_alone, has_document, one_history}
use Rattle.job_spool.proofs.CacheOpened.{opened_by, still_resting}
use Rattle.job_spool.proofs.CachesDrawn.{drawn_by, field_kept}
use Rattle.job_spool.proofs.SharedPages.{count_below}
use Rattle.job_spool.proofs.SeatsDrawn.{may_leave}
use Rattle.job_spool.proofs.SharersNext.{shares_own}
use Rattle.job_spool.proofs.SourceEnds.{ends_as}
use Rattle.job_spool.proofs.drawing.draw_cache.Goals as goal

pub bounds-plan-first : goal.bounds-plan-first
bounds-plan-first g c =
    let q = c.requires.1.1.1.1.1.1 in
    let docs = c.args.plan.now.documents.now in
    let placed : length (caches_of docs) ≡ length docs = count_below docs (length docs) in
    let inside : c.args.first < length (caches_of docs) = omega (arith, placed, q.1.1.1.1.0, q.1.1.1.1.1.1.0) in
    subst (λ (l : List ℕ). c.args.first < length l) (sym q.1.1.1.0) inside

pub returns-then-plan-first-clause-cache : goal.returns-then-plan-first-clause-cache
returns-then-plan-first-clause-cache g c =
    let q = c.requires.1.1.1.1.1.1 in
    λ d. inl (record { history = ap calls_of (q.1.1.1.1.1.1.1.1.0 d); ended = λ k lt some. (q.1.1.1.1.1.1.1.0 k d lt some, refl) })

pub returns-then-plan-first-clause-resting : goal.returns-then-plan-first-clause-resting
returns-then-plan-first-clause-resting g c =
    let q = c.requires.1.1.1.1.1.1 in
    let sources : Sources _ = record { library = g.F.FontSource.library; faults = g.F.FontSource.faults; loads = g.F.FontSource.loads } in
    λ k u e lt. still_resting sources g.known k (get_or c.args.workers.now k u) (get_or c.args.jobs.now c.args.first e).history.items (q.1.1.1.1.1.1.1.1.0 e) (q.1.1.1.1.1.1.1.1.1 k u lt)

pub returns-in_default-clause-cache : goal.returns-in_default-clause-cache
returns-in_default-clause-cache g c =
    let q = c.requires.1.1.1.1.1.1 in
    λ d. inl (record { history = ap calls_of (q.1.1.1.1.1.1.1.1.0 d); ended = λ k lt some. (q.1.1.1.1.1.1.1.0 k d lt some, refl) })

pub returns-in_default-clause-resting : goal.returns-in_default-clause-resting
returns-in_default-clause-resting g c =
    let q = c.requires.1.1.1.1.1.1 in
    let sources : Sources _ = record { library = g.F.FontSource.library; faults = g.F.FontSource.faults; loads = g.F.FontSource.loads } in
    λ k u e lt. still_resting sources g.known k (get_or c.args.workers.now k u) (get_or c.args.jobs.now c.args.first e).history.items (q.1.1.1.1.1.1.1.1.0 e) (q.1.1.1.1.1.1.1.1.1 k u lt)

pub returns-then-not-have_room-clause-cache : goal.returns-then-not-have_room-clause-cache
returns-then-not-have_room-clause-cache g c =
    let q = c.requires.1.1.1.1.1.1 in
    λ d. inl (record { history = ap calls_of (q.1.1.1.1.1.1.1.1.0 d); ended = λ k lt some. (q.1.1.1.1.1.1.1.0 k d lt some, refl) })

pub returns-then-not-have_room-clause-resting : goal.returns-then-not-have_room-clause-resting
returns-then-not-have_room-clause-resting g c =
    let q = c.requires.1.1.1.1.1.1 in
    let sources : Sources _ = record { library = g.F.FontSource.library; faults = g.F.FontSource.faults; loads = g.F.FontSource.loads } in
    λ k u e lt. still_resting sources g.known k (get_or c.args.workers.now k u) (get_or c.args.jobs.now c.args.first e).history.items (q.1.1.1.1.1.1.1.1.0 e) (q.1.1.1.1.1.1.1.1.1 k u lt)

pub returns-in_default-bench_with-clause-cache : goal.returns-in_default-bench_with-clause-cache
returns-in_default-bench_with-clause-cache g c =
    let q = c.requires.1.1.1.1.1.1 in
    λ d. inl (record { history = ap calls_of (q.1.1.1.1.1.1.1.1.0 d); ended = λ k lt some. (q.1.1.1.1.1.1.1.0 k d lt some, refl) })

pub returns-in_default-bench_with-clause-resting : goal.returns-in_default-bench_with-clause-resting
returns-in_default-bench_with-clause-resting g c =
    let q = c.requires.1.1.1.1.1.1 in
    let sources : Sources _ = record { library = g.F.FontSource.library; faults = g.F.FontSource.faults; loads = g.F.FontSource.loads } in
    λ k u e lt. still_resting sources g.known k (get_or c.args.workers.now k u) (get_or c.args.jobs.now c.args.first e).history.items (q.1.1.1.1.1.1.1.1.0 e) (q.1.1.1.1.1.1.1.1.1 k u lt)

-- ---- a cache

pub draw_sharers-requires : goal.draw_sharers-requires
draw_sharers-requires g c κs within =
    let q = c.requires.1.1.1.1.1.1 in
    let sources : Sources _ = record { library = g.F.FontSource.library; faults = g.F.FontSource.faults; loads = g.F.FontSource.loads } in
    let view : JobView _ _ = record { left = g.I.Input.left; taken = g.I.Input.taken; ended = g.I.Input.ended; reads = g.I.Input.faults; written = g.O.Output.written; writes = g.O.Output.faults } in
    let settings = c.args.plan.now.settings.now in
    let given : Setup = setup_with g.known settings in
    let limits : Limits = cache_limits settings in
    let docs = c.args.plan.now.documents.now in
    let first = c.args.first in
    let jobs = c.args.jobs.now in
    let xs = c.args.workers.now in
    let ws = c.seat_all.new.workers in
    let bench = c.in-Some-bench_with.bench in
    let seat = c.in-Some-bench_with.seat in
    let part : Common = seat.view.part in
    let opened = opened_by g.known limits c.in-Some.units c.open_cache-opened.result (Some (bench, seat)) c.open_cache-opened.ensures.lock c.open_cache-opened.ensures.seat c.in-Some-bench_with.ensures.same c.in-Some-bench_with.ensures.made in
    let library = ap (λ v. v.part.library) opened.view in
    let units = ap (λ v. v.part.units) opened.view ∙ sym opened.units_are in
    let sound : AreUnits bench.units = subst AreUnits (sym opened.units_are) c.in-Some.ensures.sound in
    let rested = q.1.1.1.1.1.1.1.1.1 in
    let room = c.have_room.ensures c.if-not-have_room.false in
    let seated = c.seat_all.ensures.seated in
    let long : length ws ≡ length xs = search rules in
    let below : first < length docs = omega (arith, q.1.1.1.1.0, q.1.1.1.1.1.1.0) in
    let document : document_at docs first ≡ c.index-documents-first.result = same_default docs first None c.index-documents-first.result below ∙ sym c.index-documents-first.is in (
      search rules fits 100000 depth 60,
      (
        search rules fits 100000 depth 60,
        (
          search rules fits 100000 depth 60,
          (
            search rules fits 100000 depth 60,
            (
              search rules fits 100000 depth 60,
              (
                search rules fits 100000 depth 60,
                (
                  subst (λ (n : ℕ). 1 ≤ n) (sym long) q.0,
                  (
                    subst (λ (n : ℕ). n ≤ 32) (sym long) q.1.0,
                    (
                      q.1.1.0,
                      (
                        q.1.1.1.0,
                        (
                          q.1.1.1.1.0,
                          (
                            q.1.1.1.1.1.0,
                            (
                              ap units_in document ∙ sym c.in-Some.ensures.units ∙ ap Some (sym opened.units_are),
                              (q.1.1.1.1.1.1.1.0, all_seated given limits sources view docs first jobs xs ws bench part library units sound rested room seated long),
                            ),
                          ),
                        ),
                      ),
                    ),
                  ),
                ),
              ),
            ),
          ),
        ),
      ),
    )

pub join_all-requires-clause-leave : goal.join_all-requires-clause-leave
join_all-requires-clause-leave g c =
    let q = c.requires.1.1.1.1.1.1 in
    let sources : Sources _ = record { library = g.F.FontSource.library; faults = g.F.FontSource.faults; loads = g.F.FontSource.loads } in
    let ws = c.seat_all.new.workers in
    let now = c.draw_sharers.new.workers in
    let same : length now ≡ length ws = search rules in
    let d = one_of c.args.jobs.now c.args.first q.1.1.1.1.1.1.0 in
    λ k u lt.
    let there : k < length ws = subst (λ (n : ℕ). k < n) same lt in
    may_leave sources g.known c.in-Some-bench_with.bench (k + 1) (left_for c.args.plan.now.documents.now c.args.first (length c.args.jobs.now)) _ (get_or ws k u) (get_or now k u) ((c.draw_sharers.ensures.drew d).seats k u there)

pub closed-requires-clause-joined : goal.closed-requires-clause-joined
closed-requires-clause-joined g c =
    let n = length c.args.workers.now in
    let long : length c.draw_sharers.new.workers ≡ n = search rules in
    let made : c.join_all.new.first.view.made ≡ n + 1 = search rules in
    let joined : c.join_all.new.first.view.joined ≡ numbers n = subst (λ (m : ℕ). c.join_all.new.first.view.joined ≡ numbers m) long c.join_all.ensures.joined in
    numbers_joined c.join_all.new.first.view n made joined

pub returns-clause-cache : goal.returns-clause-cache
returns-clause-cache g c =
    let q = c.requires.1.1.1.1.1.1 in
    let sources : Sources _ = record { library = g.F.FontSource.library; faults = g.F.FontSource.faults; loads = g.F.FontSource.loads } in
    let view : JobView _ _ = record { left = g.I.Input.left; taken = g.I.Input.taken; ended = g.I.Input.ended; reads = g.I.Input.faults; written = g.O.Output.written; writes = g.O.Output.faults } in
    let settings = c.args.plan.now.settings.now in
    let given : Setup = setup_with g.known settings in
    let limits : Limits = cache_limits settings in
    let docs = c.args.plan.now.documents.now in
    let first = c.args.first in
    let jobs = c.args.jobs.now in
    let xs = c.args.workers.now in
    let ws = c.seat_all.new.workers in
    let bench = c.in-Some-bench_with.bench in
    let seat = c.in-Some-bench_with.seat in
    let part : Common = seat.view.part in
    let opened = opened_by g.known limits c.in-Some.units c.open_cache-opened.result (Some (bench, seat)) c.open_cache-opened.ensures.lock c.open_cache-opened.ensures.seat c.in-Some-bench_with.ensures.same c.in-Some-bench_with.ensures.made in
    let library = ap (λ v. v.part.library) opened.view in
    let units = ap (λ v. v.part.units) opened.view ∙ sym opened.units_are in
    let sound : AreUnits bench.units = subst AreUnits (sym opened.units_are) c.in-Some.ensures.sound in
    let rested = q.1.1.1.1.1.1.1.1.1 in
    let room = c.have_room.ensures c.if-not-have_room.false in
    let seated = c.seat_all.ensures.seated in
    let long : length ws ≡ length xs = search rules in
    let now = c.draw_sharers.new.workers in
    let js = c.draw_sharers.new.jobs in
    let same : length now ≡ length ws = search rules in
    let drew : (d : Job _ _) → SharersDrew (drawn_by given limits sources view docs first (length xs) (length jobs) d jobs js ws now) g.known bench docs first (length jobs) =
    λ d. subst (λ (n : ℕ). SharersDrew (drawn_by given limits sources view docs first n (length jobs) d jobs js ws now) g.known bench docs first (length jobs)) long (c.draw_sharers.ensures.drew d) in
    let joined = c.join_all.new.workers in
    let after = c.drop_spare_pages.new.workers in
    let joins : length joined ≡ length now = search rules in
    let left = c.join_all.ensures.left in
    let but = c.drop_spare_pages.ensures.same in
    let history = c.join_all.new.first.view.seen in
    let job : Job _ _ = get_or js first c.index-jobs-first.result in
    let v : Job _ _ = record job { history = c.closed.result } in
    let there : first < length js = search rules in
    let is : (d : Job _ _) → job ≡ get_or js first d = λ d. same_default js first c.index-jobs-first.result d there in
    let last = c.join_all.new.first.view in
    let limits_are : limits_of last.part ≡ limits = ap limits_of (c.join_all.ensures.same.2 ∙ c.seat_all.ensures.same.2) ∙ ap (λ v. limits_of v.part) opened.view in
    let made_are : last.made ≡ length xs + 1 = c.join_all.ensures.same.3 ∙ c.seat_all.ensures.made in
    let legal : Legal limits history = subst (λ (l : Limits). Legal l history) limits_are (subst (λ (h : List Call). Legal (limits_of last.part) h) c.closed.ensures.history c.closed.ensures.legal) in
    let made : AllMade (length xs + 1) history = subst (λ (n : ℕ). AllMade n history) made_are (subst (λ (h : List Call). AllMade last.made h) c.closed.ensures.history c.closed.ensures.made) in
    let none : own 0 history ≡ [] = c.join_all.ensures.mine ∙ ap (own 0) (c.seat_all.ensures.seen ∙ ap (λ v. v.seen) opened.view) in
    let few : FewClaims history = subst (λ (h : List Call). FewClaims h) c.closed.ensures.history c.closed.ensures.few_claims in
    λ d.
    let one = one_history given limits sources view docs first jobs xs ws bench part library units sound rested room seated long now same js d (drew d) joined after joins history left but legal made none few in
    inr (cache_closed given limits sources view docs first jobs xs ws bench part library units sound rested room seated long now same js d (drew d) joined after joins history left but v there (ap (λ x. x.out) (is d)) (ap (λ x. x.status) (is d)) c.closed.ensures.history one)

pub returns-clause-left_alone : goal.returns-clause-left_alone
returns-clause-left_alone g c =
    let q = c.requires.1.1.1.1.1.1 in
    let docs = c.args.plan.now.documents.now in
    let first = c.args.first in
    let jobs = c.args.jobs.now in
    let js = c.draw_sharers.new.jobs in
    let job : Job _ _ = get_or js first c.index-jobs-first.result in
    let v : Job _ _ = record job { history = c.closed.result } in
    let there : first < length js = search rules in
    let is : (d : Job _ _) → job ≡ get_or js first d = λ d. same_default js first c.index-jobs-first.result d there in
    let below : first < length docs = omega (arith, q.1.1.1.1.0, q.1.1.1.1.1.1.0) in
    let document : document_at docs first ≡ c.index-documents-first.result = same_default docs first None c.index-documents-first.result below ∙ sym c.index-documents-first.is in
    let found = has_document c.index-documents-first.result c.in-Some.units c.in-Some.ensures.units in
    let at : get_or c.args.plan.now.caches.now first 0 ≡ first = c.if-plan-first.false in
    let cache : get_or (caches_of docs) first 0 ≡ first = subst (λ (l : List ℕ). get_or l first 0 ≡ first) q.1.1.1.0 at in
    closed_alone docs first found.0 jobs js v (shares_own docs first first cache ∙ document ∙ found.1) there (λ d. ap (λ x. x.input) (is d)) c.draw_sharers.ensures.left_alone

pub returns-clause-history : goal.returns-clause-history
returns-clause-history g c =
    let js = c.draw_sharers.new.jobs in
    let first = c.args.first in
    let job : Job _ _ = get_or js first c.index-jobs-first.result in
    let v : Job _ _ = record job { history = c.closed.result } in
    λ k d other. ap (λ x. x.history) (get_or-set_other js first k v d other) ∙ c.draw_sharers.ensures.history k d

pub returns-clause-few_ends : goal.returns-clause-few_ends
returns-clause-few_ends g c =
    let sources : Sources _ = record { library = g.F.FontSource.library; faults = g.F.FontSource.faults; loads = g.F.FontSource.loads } in
    let first = c.args.first in
    let jobs = c.args.jobs.now in
    let xs = c.args.workers.now in
    let ws = c.seat_all.new.workers in
    let now = c.draw_sharers.new.workers in
    let joined = c.join_all.new.workers in
    let after = c.drop_spare_pages.new.workers in
    let js = c.draw_sharers.new.jobs in
    let long : length ws ≡ length xs = search rules in
    let same : length now ≡ length ws = search rules in
    let joins : length joined ≡ length now = search rules in
    let job : Job _ _ = get_or js first c.index-jobs-first.result in
    let v : Job _ _ = record job { history = c.closed.result } in
    let there : first < length js = search rules in
    let few = subst (λ (n : ℕ). FewSourceEnds sources.faults n (length jobs) ws now jobs js) long c.draw_sharers.ensures.few_ends in
    ends_as sources.faults (length xs) (length jobs) ws now xs after jobs js (set js first v) (λ k u lt. (c.seat_all.ensures.seated k u lt).same.source)
    (λ k u lt.
    let here : k < length now = subst (λ (n : ℕ). k < n) (sym (same ∙ long)) lt in
    sym ((c.drop_spare_pages.ensures.same k u (subst (λ (n : ℕ). k < n) (sym joins) here)).source ∙ (c.join_all.ensures.left k u here).same.source))
    (λ k e. sym (field_kept (λ x. x.status) js first v e there (ap (λ x. x.status) (same_default js first c.index-jobs-first.result e there)) k)) few

pub returns-clause-resting : goal.returns-clause-resting
returns-clause-resting g c =
    let q = c.requires.1.1.1.1.1.1 in
    let sources : Sources _ = record { library = g.F.FontSource.library; faults = g.F.FontSource.faults; loads = g.F.FontSource.loads } in
    let view : JobView _ _ = record { left = g.I.Input.left; taken = g.I.Input.taken; ended = g.I.Input.ended; reads = g.I.Input.faults; written = g.O.Output.written; writes = g.O.Output.faults } in
    let settings = c.args.plan.now.settings.now in
    let given : Setup = setup_with g.known settings in
    let limits : Limits = cache_limits settings in
    let docs = c.args.plan.now.documents.now in
    let first = c.args.first in
    let jobs = c.args.jobs.now in
    let xs = c.args.workers.now in
    let ws = c.seat_all.new.workers in
    let bench = c.in-Some-bench_with.bench in
    let seat = c.in-Some-bench_with.seat in
    let part : Common = seat.view.part in
    let opened = opened_by g.known limits c.in-Some.units c.open_cache-opened.result (Some (bench, seat)) c.open_cache-opened.ensures.lock c.open_cache-opened.ensures.seat c.in-Some-bench_with.ensures.same c.in-Some-bench_with.ensures.made in
    let library = ap (λ v. v.part.library) opened.view in
    let units = ap (λ v. v.part.units) opened.view ∙ sym opened.units_are in
    let sound : AreUnits bench.units = subst AreUnits (sym opened.units_are) c.in-Some.ensures.sound in
    let rested = q.1.1.1.1.1.1.1.1.1 in
    let room = c.have_room.ensures c.if-not-have_room.false in
    let seated = c.seat_all.ensures.seated in
    let long : length ws ≡ length xs = search rules in
    let now = c.draw_sharers.new.workers in
    let js = c.draw_sharers.new.jobs in
    let same : length now ≡ length ws = search rules in
    let drew : (d : Job _ _) → SharersDrew (drawn_by given limits sources view docs first (length xs) (length jobs) d jobs js ws now) g.known bench docs first (length jobs) =
    λ d. subst (λ (n : ℕ). SharersDrew (drawn_by given limits sources view docs first n (length jobs) d jobs js ws now) g.known bench docs first (length jobs)) long (c.draw_sharers.ensures.drew d) in
    let joined = c.join_all.new.workers in
    let after = c.drop_spare_pages.new.workers in
    let joins : length joined ≡ length now = search rules in
    let left = c.join_all.ensures.left in
    let but = c.drop_spare_pages.ensures.same in
    let history = c.join_all.new.first.view.seen in
    let job : Job _ _ = get_or js first c.index-jobs-first.result in
    let v : Job _ _ = record job { history = c.closed.result } in
    let there : first < length js = search rules in
    let is : (d : Job _ _) → job ≡ get_or js first d = λ d. same_default js first c.index-jobs-first.result d there in
    λ k u e lt.
    let d = one_of jobs first q.1.1.1.1.1.1.0 in
    let kept = ap (λ x. calls_of x.history.items) (get_or-set_same js first v e there) ∙ c.closed.ensures.history in
    subst (λ (h : List Call). IsResting sources g.known (misses (own (k + 1) h)) (get_or xs k u) (get_or after k u)) (sym kept)
    (all_rest given limits sources view docs first jobs xs ws bench part library units sound rested room seated long now same js d (drew d) joined after joins history left but k u lt)

-- the jobs are no larger than memory
pub offset_bounds-jobs-first : goal.offset_bounds-jobs-first
offset_bounds-jobs-first g c =
    let inside : c.args.first < length c.args.jobs.now = c.requires.1.1.1.1.1.1.1.1.1.1.1.1.0 in
    let room = c.well_formed.1.1.1.1.1.0.1 in
    search rules
