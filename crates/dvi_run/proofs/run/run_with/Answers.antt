use Rattle.std.proofs.Common.{◌≡◌, ◌∙◌, ◌++◌, ℕ, ◌+◌, Bool, true, List, get_or, ap, ap₂, subst, sym, rules}
use Rattle.std.specs.Prelude.{IfSome, is_ok}
use Rattle.cache_core.specs.Histories.{own}
use Rattle.cache_core.specs.Views.{calls_of}
use Rattle.cache_core.specs.declared.calls.Call.{Call}
use Rattle.dvi_run.specs.Endings.{value_of_ending, status_of, with_notes}
use Rattle.dvi_run.specs.Reading.{input_change}
use Rattle.dvi_run.specs.Lines.{lacks_text}
use Rattle.dvi_run.specs.Noted.{Took, is_noted}
use Rattle.dvi_run.specs.Report.{loads_of, notes_text, report_text}
use Rattle.dvi_run.specs.Sampled.{UsesTheSample}
use Rattle.dvi_run.specs.Outside.{Run, Sources, Streams, Task, change_of, drawing_of}
use Rattle.dvi_run.specs.Together.{IsOneHistory, WorkerDone}
use Rattle.dvi_run.proofs.PromisesKept.{caused_at, cut_short_at, noted_at, written_at}
use Rattle.dvi_run.proofs.EndAfterReport.{done_on, drew_on, ends_on, failed_on, read_on, report_on, sample_on, prints_on}
use Rattle.dvi_run.proofs.Noting.{took_twice}
use Rattle.dvi_run.proofs.RunOfWorkers.{ended_at}
use Rattle.dvi_run.proofs.run.run_with.Goals as goal

pub draw_asked-ending-requires : goal.draw_asked-ending-requires
draw_asked-ending-requires g c κs within =
    let q = c.requires.1.1.1.1.1.1.1 in
    (search rules fits 100000 depth 60, (search rules fits 100000 depth 60, (search rules fits 100000 depth 60, (search rules fits 100000 depth 60, (search rules fits 100000 depth 60, (search rules fits 100000 depth 60, (search rules fits 100000 depth 60, (q.0, (q.1.0, (q.1.1.0, q.1.1.1))))))))))

pub returns-clause-promises : goal.returns-clause-promises
returns-clause-promises g c =
    let runs = c.runs.ensures in
    let x = c.draw_asked-ending.result.0 in
    let taken = is_ok c.print.result in
    let end = c.draw_asked-ending.ensures in
    let settings = c.args.settings.now in
    let tally = c.draw_asked-ending.result.1 in
    let workers = c.draw_asked-ending.new.workers in
    let history = calls_of c.draw_asked-ending.new.history.items in
    let task : Task = record { settings = settings; known = g.told } in
    let streams : Streams = record {
      input = input_change g.I.Input.left g.I.Input.taken g.I.Input.ended g.I.Input.faults c.args.input.now c.draw_asked-ending.new.input;
      output = change_of g.O.Output.written g.O.Output.faults c.args.out.now c.draw_asked-ending.new.out;
      notes = change_of g.N.Output.written g.N.Output.faults c.args.notes.now c.print.new.notes;
    } in
    let sources : Sources _ = record { library = g.F.FontSource.library; faults = g.F.FontSource.faults; loads = g.F.FontSource.loads } in
    let run : Run _ = record { task = task; streams = streams; sources = sources; before = c.args.workers.now; after = workers; history = history } in
    let is = c.status.ensures ∙ ap (λ (b : Bool). status_of (with_notes (value_of_ending x) b)) c.is_ok-taken.ensures.value in
    let ends = ends_on _ _ _ _ _ _ _ _ x taken end.ends in
    let done = done_on task (drawing_of run) tally x taken end.done in
    let pages = end.drew in
    let whole = pages.whole in
    let drew = drew_on task (drawing_of run) tally whole x taken _ pages.are in
    let loads : c.loads_asked-loads.result ≡ loads_of settings.workers workers = c.loads_asked-loads.ensures in
    let calls : calls_of c.as_slice.result.now ≡ history = ap calls_of c.as_slice.ensures.value in
    let report = ap₂ (λ (l : ℕ) (h : List Call). report_text settings tally l h (value_of_ending x)) loads calls ∙ report_on settings tally (loads_of settings.workers workers) history x taken in
    let text = notes_text whole settings tally (loads_of settings.workers workers) history (with_notes (value_of_ending x) taken) in
    let took : Took taken streams.notes text =
    subst (λ (line : List ℕ). Took taken streams.notes (lacks_text whole ++ line)) report
    (took_twice g.N.Output.written g.N.Output.faults c.args.notes.now c.draw_asked-ending.new.notes c.print.new.notes true (is_noted tally) taken (lacks_text whole) _ pages.noted.count c.print.ensures.count pages.noted.took c.print.ensures.printed) in
    let printed = prints_on streams.notes text x taken took in
    record {
      caused = caused_at run runs.reading runs.values runs.no_fault (with_notes (value_of_ending x) taken) (failed_on streams.notes text x taken took) ends _ is;
      written = written_at run (with_notes (value_of_ending x) taken) ends _ is;
      ended = (with_notes (value_of_ending x) taken, tally, is, ended_at run (with_notes (value_of_ending x) taken) tally whole pages.count pages.lacking (λ none. read_on streams.input (drawing_of run) tally x taken (end.read none)) (noted_at run (with_notes (value_of_ending x) taken) ends _ printed) done drew _ is);
      history = subst (λ (status : ℕ). IsOneHistory settings status history) (sym is) done.one;
      called = λ k d lt.
          subst (λ (status : ℕ). WorkerDone task sources status (own (k + 1) history) (get_or c.args.workers.now k d) (get_or workers k d)) (sym is) (done.worked k d lt);
      cut_short = cut_short_at run (with_notes (value_of_ending x) taken) ends _ is;
      shares = end.done.shares;
      rest = end.done.rest;
      sample = subst (λ (status : ℕ). IfSome settings.sample (λ pages. UsesTheSample status streams.input.Kept c.args.workers.now workers)) (sym is) (sample_on streams.input.Kept c.args.workers.now workers settings.sample x taken end.sample);
    }
