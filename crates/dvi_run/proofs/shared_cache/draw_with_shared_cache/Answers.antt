use Rattle.std.proofs.Common.{◌≡◌, ◌+◌, [], Option, None, length, get_or, refl, sym, subst, ap, ◌∙◌, arith, rules}
use Rattle.std.specs.Prelude.{IfSome}
use Rattle.outside.specs.Library.{FileTable}
use Rattle.outside.proofs.Growth.{grown_none}
use Rattle.pixel_round.specs.declared.units.Units.{Units}
use Rattle.turn_lock.specs.declared.view.View.{View}
use Rattle.turn_lock.specs.Views.{opening_view}
use Rattle.cache_core.specs.Views.{calls_of}
use Rattle.cache_core.specs.Histories.{own}
use Rattle.cache_core.specs.States.{limits_of}
use Rattle.cache_core.specs.declared.limits.Limits.{Limits}
use Rattle.dvi_run.specs.CacheLimits.{cache_limits}
use Rattle.dvi_run.specs.Endings.{Memory}
use Rattle.dvi_run.specs.Looked.{EveryPageCameToItsEnd, MayBreakOff}
use Rattle.dvi_run.specs.Rounds.{IsNewBench, WorkerRan}
use Rattle.dvi_run.proofs.Noting.{noted_none}
use Rattle.dvi_run.proofs.WorkerSeats.{unused}
use Rattle.dvi_run.proofs.Shares.{none_shared}
use Rattle.dvi_run.proofs.shared_cache.draw_with_shared_cache.Goals as goal

opening_is : (v : View) (limits : Limits) (u : Units) (l : Option FileTable) → v ≡ opening_view (record { capacity = limits.capacity; budget = limits.budget; units = u; library = l })
    → v ≡ opening_view (record { capacity = v.part.capacity; budget = v.part.budget; units = u; library = l })
opening_is v limits u l e =
    let same : limits_of v.part ≡ limits = ap (λ (x : View). limits_of x.part) e in
    e ∙ ap (λ (n : Limits). opening_view (record { capacity = n.capacity; budget = n.budget; units = u; library = l })) (sym same)

pub returns-in_default-clause-ends : goal.returns-in_default-clause-ends
returns-in_default-clause-ends g c =
    ([], record { few = omega arith; are = tt }, record { count = 0; grew = grown_none (g.O.Output.written c.args.out.now) }, (refl, refl, ap calls_of c.new.ensures.items, noted_none g.N.Output.written g.N.Output.faults c.args.notes.now))

pub returns-in_default-clause-workers : goal.returns-in_default-clause-workers
returns-in_default-clause-workers g c =
    let q = c.requires.1.1.1.1.1.1 in
    λ k d lt.
    subst (λ h. WorkerRan (MayBreakOff Memory None) (EveryPageCameToItsEnd (length c.args.workers.now) Memory) g.F.FontSource.library g.F.FontSource.faults g.F.FontSource.loads (record { library = g.known; res = c.args.index.now.res; sheet = c.args.settings.now.sheet }) c.args.index.now.reading (calls_of h) (k + 1)
    (get_or c.args.workers.now k d) (get_or c.args.workers.now k d)) (sym c.new.ensures.items)
    (unused g.F.FontSource.library g.F.FontSource.faults g.F.FontSource.loads (record { library = g.known; res = c.args.index.now.res; sheet = c.args.settings.now.sheet }) c.args.index.now.reading (k + 1)
    (get_or c.args.workers.now k d) (q.1.1.1.1.0 k d lt) (q.1.1.1.1.1 k d lt) (MayBreakOff Memory None) _)

pub draw_with_cache-ending-requires : goal.draw_with_cache-ending-requires
draw_with_cache-ending-requires g c κs within =
    let q = c.requires.1.1.1.1.1.1 in
    let made : IsNewBench (cache_limits c.args.settings.now) g.known c.args.index.now c.in-Some.opening.0 c.in-Some.opening.1 =
    subst (λ o. IfSome o (λ made. IsNewBench (cache_limits c.args.settings.now) g.known c.args.index.now made.0 made.1)) c.in-Some.is q.1.1.1.0 in (
      search rules fits 100000 depth 60,
      (
        search rules fits 100000 depth 60,
        (
          search rules fits 100000 depth 60,
          (
            search rules fits 100000 depth 60,
            (
              search rules fits 100000 depth 60,
              (
                search rules fits 100000 depth 60,
                (
                  q.0,
                  (
                    q.1.0,
                    (
                      q.1.1.0,
                      (
                        made.units,
                        (
                          made.sound,
                          (
                            made.lock,
                            (opening_is c.in-Some.opening.1.view (cache_limits c.args.settings.now) c.in-Some.opening.0.units g.known made.opening, q.1.1.1.1.0),
                          ),
                        ),
                      ),
                    ),
                  ),
                ),
              ),
            ),
          ),
        ),
      ),
    )

pub returns-in_default-clause-shares : goal.returns-in_default-clause-shares
returns-in_default-clause-shares g c =
    let q = c.requires.1.1.1.1.1.1 in
    let xs = c.args.workers.now in
    record {
      drawn = 0;
      few = omega arith;
      shares = λ d. none_shared (length xs) (λ k. (get_or xs k d).pages.items) (λ k lt. (q.1.1.1.1.0 k d lt).pages);
      reach = tt;
      written = tt;
    }

pub returns-in_default-clause-first : goal.returns-in_default-clause-first
returns-in_default-clause-first g c = ap (λ h. own 0 (calls_of h)) c.new.ensures.items
