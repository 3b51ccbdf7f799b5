use Rattle.std.proofs.Common.{◌≡◌, ◌≤◌, ℕ, Option, Some, None, Result, Ok, length, take, drop, sym, ap, subst, ◌∙◌, rules}
use Rattle.std.specs.Prelude.{IfOk, IfSome}
use Rattle.atomic_table.specs.Seated.{TableId}
use Rattle.std.proofs.lemmas.List.{length-take-le}
use Rattle.outside.specs.Library.{FileTable}
use Rattle.cache_core.specs.declared.limits.Limits.{Limits}
use Rattle.dvi_run.specs.CacheLimits.{cache_limits}
use Rattle.pixel_round.specs.Preamble.{AreUnits}
use Rattle.pixel_round.specs.declared.units.Units.{Units}
use Rattle.page_index.specs.Pages.{Indexed, document_units}
use Rattle.cache_core.specs.Views.{calls_of}
use Rattle.turn_lock.specs.Seats.{SeatView}
use Rattle.turn_lock.specs.Views.{opening_view}
use Rattle.page_workers.specs.declared.bench.Bench.{Bench}
use Rattle.dvi_run.specs.Endings.{value_of_ending, status_of}
use Rattle.command_line.specs.declared.settings.Settings.{Settings}
use Rattle.dvi_run.specs.Pages.{setup_with}
use Rattle.dvi_run.specs.Outside.{Drawing, FaultsRose, Sources, change_of, task_for_sample}
use Rattle.dvi_run.specs.Rounds.{IsNewBench}
use Rattle.dvi_run.specs.Together.{DrewDocument}
use Rattle.dvi_run.proofs.FirstWorkers.{prefix_few, prefix_fresh, prefix_seatless, prefix_some}
use Rattle.dvi_run.proofs.RunOfWorkers.{history_for_sample, of_prefix, one_history, one_of, rest_of_prefix}
use Rattle.dvi_run.proofs.stages.draw_pages.Goals as goal

-- a bench with a new cache, where there was memory for one
new_bench : (known : Option FileTable) (limits : Limits) (indexed : Indexed) (units : Units) → document_units indexed.res indexed.reading ≡ Some units → AreUnits units → {E : Type 0} (opened : Result (TableId × SeatView) E) (made : Option (Bench × SeatView))
    → IfOk opened (λ m. m.1.lock ≡ m.0) → IfOk opened (λ m. m.1.view ≡ opening_view (record { capacity = limits.capacity; budget = limits.budget; units = units; library = known })) → IfSome made (λ b. b.0.units ≡ units) → IfSome made (λ b. opened ≡ Ok (b.0.cache, b.1))
    → IfSome made (λ b. IsNewBench limits known indexed b.0 b.1)
new_bench known limits indexed units of_document sound opened None lock seat same is = tt
new_bench known limits indexed units of_document sound opened (Some b) lock seat same is =
    let view : b.1.view ≡ opening_view (record { capacity = limits.capacity; budget = limits.budget; units = units; library = known }) = subst (λ r. IfOk r (λ m. m.1.view ≡ opening_view (record { capacity = limits.capacity; budget = limits.budget; units = units; library = known }))) is seat in
    record {
      units = of_document ∙ ap Some (sym same);
      sound = subst AreUnits (sym same) sound;
      lock = subst (λ r. IfOk r (λ m. m.1.lock ≡ m.0)) is lock;
      opening = subst (λ (u : Units). b.1.view ≡ opening_view (record { capacity = limits.capacity; budget = limits.budget; units = u; library = known })) (sym same) view;
    }

pub draw_with_shared_cache-ending-requires : goal.draw_with_shared_cache-ending-requires
draw_with_shared_cache-ending-requires g c κs within =
    let q = c.requires.1.1.1.1.1.1 in
    let n = c.args.settings.now.workers in
    let ws = c.args.workers.now in
    let there : n ≤ length ws = q.1.0 in
    let cache = c.open_cache-opened.ensures in
    let bench = c.bench_with-opening.ensures in
    let opening =
    new_bench g.known (cache_limits c.args.settings.now) c.args.index.now c.units-units.result c.units-units.ensures.value c.units-units.ensures.fits c.open_cache-opened.result c.bench_with-opening.result cache.lock cache.seat bench.same bench.made in
    (search rules fits 100000 depth 60, (search rules fits 100000 depth 60, (search rules fits 100000 depth 60, (search rules fits 100000 depth 60, (search rules fits 100000 depth 60, (search rules fits 100000 depth 60, (prefix_some n ws there q.0.workers.0, (prefix_few n ws there q.0.workers.1, (search rules, (opening, (prefix_fresh g.F.FontSource.library g.known n ws there q.1.1.0, prefix_seatless g.F.FontSource.library g.known n ws there q.1.1.0)))))))))))

pub returns-clause-drew : goal.returns-clause-drew
returns-clause-drew g c =
    let q = c.requires.1.1.1.1.1.1 in
    let settings = c.args.settings.now in
    let n = settings.workers in
    let ws = c.args.workers.now in
    let there : n ≤ length ws = q.1.0 in
    let long : length (take n ws) ≡ n = length-take-le n ws there in
    let prefix = c.draw_with_shared_cache-ending.new.workers in
    let many : length prefix ≡ n = (let same : length prefix ≡ length (take n ws) = search rules in same ∙ long) in
    let reading = c.args.index.now.reading in
    let done = c.draw_with_shared_cache-ending.ensures in
    let e = value_of_ending c.draw_with_shared_cache-ending.result.0 in
    let tally = c.draw_with_shared_cache-ending.result.1 in
    let sources : Sources _ = record { library = g.F.FontSource.library; faults = g.F.FontSource.faults; loads = g.F.FontSource.loads } in
    let output = change_of g.O.Output.written g.O.Output.faults c.args.out.now c.draw_with_shared_cache-ending.new.out in
    let notes = change_of g.N.Output.written g.N.Output.faults c.args.notes.now c.draw_with_shared_cache-ending.new.notes in
    let drawing : Drawing _ = record { sources = sources; output = output; before = take n ws; after = prefix; history = calls_of c.draw_with_shared_cache-ending.result.2.items } in
    let given : Settings = record settings { res = c.args.index.now.res; workers = length (take n ws) } in
    let drew : DrewDocument (task_for_sample None g.known given) reading drawing notes e tally = record {
      ends = done.ends;
      failed = done.cause;
      shares = done.shares;
      one = history_for_sample None given (status_of e) drawing.history
          (one_history given (setup_with g.known given) reading drawing (FaultsRose output) done.ends.0 e tally done.ends.2 done.legal done.made done.first done.few_claims done.workers (λ k lt. one_of (take n ws) k lt));
      ran = done.workers;
    } in
    let all : DrewDocument (task_for_sample None g.known (record settings { res = c.args.index.now.res })) reading drawing notes e tally =
    subst (λ (m : ℕ). DrewDocument (task_for_sample None g.known (record settings { res = c.args.index.now.res; workers = m })) reading drawing notes e tally) long drew in
    of_prefix (task_for_sample None g.known settings) reading (record drawing { before = ws }) notes e tally (drop n ws) many
    (subst (λ (r : ℕ). DrewDocument (task_for_sample None g.known (record settings { res = r })) reading drawing notes e tally) q.1.1.1.1 all)

pub returns-clause-rest : goal.returns-clause-rest
returns-clause-rest g c =
    let q = c.requires.1.1.1.1.1.1 in
    let n = c.args.settings.now.workers in
    let ws = c.args.workers.now in
    let there : n ≤ length ws = q.1.0 in
    let long : length (take n ws) ≡ n = length-take-le n ws there in
    let prefix = c.draw_with_shared_cache-ending.new.workers in
    let many : length prefix ≡ n = (let same : length prefix ≡ length (take n ws) = search rules in same ∙ long) in
    rest_of_prefix n ws prefix many
