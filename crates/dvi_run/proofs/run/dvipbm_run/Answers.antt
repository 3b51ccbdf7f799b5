use Rattle.std.proofs.Common.{None, Err, inl, inr, ◌≡◌, [], refl, sym, ap, rules, ◌≤◌, ◌∙◌, length, arith}
use Rattle.cache_core.specs.Views.{calls_of}
use Rattle.dvi_run.specs.Endings.{Memory, Usage}
use Rattle.dvi_run.specs.Reading.{input_change}
use Rattle.dvi_run.specs.Outside.{Run, Sources, Streams, Task, change_of}
use Rattle.dvi_run.specs.Promises.{document_of}
use Rattle.dvi_run.proofs.PromisesKept.{idle_caused, idle_cut_short, idle_sample, idle_wrote, not_usage}
use Rattle.dvi_run.proofs.RunOfWorkers.{idle_done, idle_drew}
use Rattle.dvi_run.proofs.GivenSettings.{not_both, same_settings}
use Rattle.dvi_run.proofs.run.dvipbm_run.Goals as goal

pub returns-in-Err-Usage-clause-promises : goal.returns-in-Err-Usage-clause-promises
returns-in-Err-Usage-clause-promises g c = λ s is. not_both _ s (c.in-Err-Usage.ensures.usage (ap Err c.in-Err-Usage.field-0-is)) is

pub returns-in-Ok-clause-promises : goal.returns-in-Ok-clause-promises
returns-in-Ok-clause-promises g c = λ s is. rw (same_settings _ _ s c.in-Ok.ensures.settings is) c.run_with.ensures.promises

pub returns-in-Ok-clause-usage : goal.returns-in-Ok-clause-usage
returns-in-Ok-clause-usage g c = λ one. absurd (not_usage _ c.run_with.ensures.promises.caused.answers one)

pub returns-in-Ok-clause-refused : goal.returns-in-Ok-clause-refused
returns-in-Ok-clause-refused g c = λ none. not_both _ _ none c.in-Ok.ensures.settings

pub returns-in-Err-NoMemory-clause-usage : goal.returns-in-Err-NoMemory-clause-usage
returns-in-Err-NoMemory-clause-usage g c = λ one. absurd (let e : 9 ≡ 1 = sym c.print_line-in-Err-NoMemory.ensures.status ∙ one in cc)

pub returns-in-Err-NoMemory-clause-refused : goal.returns-in-Err-NoMemory-clause-refused
returns-in-Err-NoMemory-clause-refused g c = λ none. record { answers = inr (inl c.print_line-in-Err-NoMemory.ensures.status); input = refl; output = refl; workers = refl; history = refl; printed = (Memory, c.print_line-in-Err-NoMemory.ensures.status, c.print_line-in-Err-NoMemory.ensures.printed.prints) }

pub returns-in-Err-NoMemory-clause-promises : goal.returns-in-Err-NoMemory-clause-promises
returns-in-Err-NoMemory-clause-promises g c =
    let q = c.requires.1.1.1.1.1.1.1 in
    let ws = c.args.workers.now in
    let history = calls_of c.args.history.now.items in
    let none : history ≡ [] = ap calls_of q.1.1.1 in
    let printed = c.print_line-in-Err-NoMemory.ensures in
    let streams : Streams = record {
      input = input_change g.I.Input.left g.I.Input.taken g.I.Input.ended g.I.Input.faults c.args.input.now c.args.input.now;
      output = change_of g.O.Output.written g.O.Output.faults c.args.out.now c.args.out.now;
      notes = change_of g.N.Output.written g.N.Output.faults c.args.notes.now c.print_line-in-Err-NoMemory.new.notes;
    } in
    let sources : Sources _ = record { library = g.F.FontSource.library; faults = g.F.FontSource.faults; loads = g.F.FontSource.loads } in
    λ s is.
    let most : s.workers ≤ length ws = (c.given_settings.ensures.allowed _ _ s is).1 in
    let task : Task = record { settings = s; known = g.told } in
    let run : Run _ = record { task = task; streams = streams; sources = sources; before = ws; after = ws; history = history } in
    let done = idle_done task sources streams.output ws history Memory (λ k d lt. q.1.1.0 k d (omega (arith, lt, most))) tt none in
    let drew = idle_drew task sources streams.output ws history 9 Memory (document_of run) [] tt none in
    rw printed.status (record {
      caused = idle_caused run;
      written = idle_wrote run;
      ended = (Memory, None, refl, record { read = λ input. inr (record { answers = inr (inl refl); output = refl; workers = refl; history = none; no_tally = refl }); whole = []; count = refl; lacking = λ strict. tt; noted = record { placed = tt; printed = printed.printed.prints }; counted = done.counts; failed = done.failed; gave_up = done.gave_up; drew = drew });
      history = done.one;
      called = done.worked;
      cut_short = idle_cut_short run refl;
      shares = done.shares;
      rest = done.rest;
      sample = idle_sample s.sample streams.input.Kept ws refl;
    })

pub returns-in-Err-Usage-clause-refused : goal.returns-in-Err-Usage-clause-refused
returns-in-Err-Usage-clause-refused g c =
    λ none. record { answers = inl c.print_line.ensures.status; input = refl; output = refl; workers = refl; history = refl; printed = (Usage, c.print_line.ensures.status, c.print_line.ensures.printed.prints) }

pub run_with-requires : goal.run_with-requires
run_with-requires g c κs within =
    let q = c.requires.1.1.1.1.1.1.1 in
    let most = c.in-Ok.ensures.at_hand in
    (search rules fits 100000 depth 60, (search rules fits 100000 depth 60, (search rules fits 100000 depth 60, (search rules fits 100000 depth 60, (search rules fits 100000 depth 60, (search rules fits 100000 depth 60, (search rules fits 100000 depth 60, (c.in-Ok.ensures.allowed, (omega (arith, most), (λ k d lt. q.1.1.0 k d (omega (arith, lt, most)), q.1.1.1))))))))))
