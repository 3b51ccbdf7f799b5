use mir.Syntax.{of_param}
use Rattle.std.proofs.Common.{◌≡◌, ◌∙◌, ◌≤◌, ℕ, Option, None, Some, IfSome, sym, subst, rules}
use Rattle.outside.specs.Counts.{Rose}
use Rattle.cache_core.specs.Views.{calls_of}
use Rattle.dvi_run.specs.Reading.{HoldsOfInput, read_since}
use Rattle.dvi_run.specs.Endings.{IsEnding, value_of_ending, status_of}
use Rattle.dvi_run.specs.Pages.{setup_with}
use Rattle.dvi_run.specs.Sampled.{FailedForSample, document_for_sample, library_for_sample}
use Rattle.dvi_run.specs.Noted.{WrotePages}
use Rattle.dvi_run.specs.Outside.{Drawing, Sources, change_of, task_for_sample}
use Rattle.dvi_run.specs.Together.{WorkersAreDone, PagesMatchHistory, SomeUsed, SourceRose}
use Rattle.dvi_run.proofs.sampled.draw_asked.Goals as goal

pub draw_sample-requires : goal.draw_sample-requires
draw_sample-requires g c κs within =
    let q = c.requires.1.1.1.1.1.1.1 in
    let sent = c.requires.1.1.1.1.1.0 in
    let range = subst (λ (o : Option ℕ). IfSome o (λ pages. (1 ≤ pages) × (pages ≤ 1000))) c.in-Some.is q.0.sample in (
      search rules fits 100000 depth 60,
      (
        search rules fits 100000 depth 60,
        (
          search rules fits 100000 depth 60,
          (
            search rules fits 100000 depth 60,
            (
              record { owned = sent.owned; leaving = λ k x w. sent.leaving (λ _. k (of_param 1)) x w },
              (search rules fits 100000 depth 60, (q.0, (range.0, (range.1, (q.1.0, (q.1.1.0, q.1.1.1)))))),
            ),
          ),
        ),
      ),
    )

pub returns-in-Some-clause-ends : goal.returns-in-Some-clause-ends
returns-in-Some-clause-ends g c =
    let old = g.O.Output.written c.args.out.now in
    let new = g.O.Output.written c.draw_sample.new.out in
    let OutputFailed = Rose (g.O.Output.faults c.args.out.now) (g.O.Output.faults c.draw_sample.new.out) in
    let SourceFailed = SomeUsed c.args.settings.now.workers c.args.workers.now c.draw_sample.new.workers (SourceRose g.F.FontSource.faults) in
    let InputFailed = Rose (g.I.Input.faults c.args.input.now) (g.I.Input.faults c.args.input.now) in
    let known = read_since (g.I.Input.taken c.args.input.now) (g.I.Input.taken c.args.input.now) in
    subst (λ (o : Option ℕ). IsEnding old new OutputFailed (FailedForSample o SourceFailed) (c.draw_sample.new.out ≡ c.args.out.now) (FailedForSample o InputFailed)
    (setup_with (library_for_sample c.args.settings.now.packed o g.known) c.args.settings.now) (document_for_sample o known) (value_of_ending c.draw_sample.result.0)) (sym c.in-Some.is) c.draw_sample.ensures.ends

pub returns-in-Some-clause-done : goal.returns-in-Some-clause-done
returns-in-Some-clause-done g c =
    let sources : Sources _ = record { library = g.F.FontSource.library; faults = g.F.FontSource.faults; loads = g.F.FontSource.loads } in
    let output = change_of g.O.Output.written g.O.Output.faults c.args.out.now c.draw_sample.new.out in
    let drawing : Drawing _ = record { sources = sources; output = output; before = c.args.workers.now; after = c.draw_sample.new.workers; history = calls_of c.draw_sample.new.history.items } in
    subst (λ (o : Option ℕ). WorkersAreDone (task_for_sample o g.known c.args.settings.now) drawing (value_of_ending c.draw_sample.result.0) c.draw_sample.result.1) (sym c.in-Some.is) c.draw_sample.ensures.done

pub returns-in-Some-clause-drew : goal.returns-in-Some-clause-drew
returns-in-Some-clause-drew g c =
    let sources : Sources _ = record { library = g.F.FontSource.library; faults = g.F.FontSource.faults; loads = g.F.FontSource.loads } in
    let output = change_of g.O.Output.written g.O.Output.faults c.args.out.now c.draw_sample.new.out in
    let drawing : Drawing _ = record { sources = sources; output = output; before = c.args.workers.now; after = c.draw_sample.new.workers; history = calls_of c.draw_sample.new.history.items } in
    let e = value_of_ending c.draw_sample.result.0 in
    let notes = change_of g.N.Output.written g.N.Output.faults c.args.notes.now c.draw_sample.new.notes in
    subst (λ (o : Option ℕ). WrotePages notes c.args.settings.now.sheet.tolerant c.draw_sample.result.1
    (λ whole. HoldsOfInput (document_for_sample o (read_since (g.I.Input.taken c.args.input.now) (g.I.Input.taken c.args.input.now))) (PagesMatchHistory (task_for_sample o g.known c.args.settings.now) drawing (status_of e) e c.draw_sample.result.1 whole))) (sym c.in-Some.is) c.draw_sample.ensures.drew

pub returns-in-None-clause-done : goal.returns-in-None-clause-done
returns-in-None-clause-done g c =
    let sources : Sources _ = record { library = g.F.FontSource.library; faults = g.F.FontSource.faults; loads = g.F.FontSource.loads } in
    let output = change_of g.O.Output.written g.O.Output.faults c.args.out.now c.draw_input.new.out in
    let drawing : Drawing _ = record { sources = sources; output = output; before = c.args.workers.now; after = c.draw_input.new.workers; history = calls_of c.draw_input.new.history.items } in
    subst (λ (o : Option ℕ). WorkersAreDone (task_for_sample o g.known c.args.settings.now) drawing (value_of_ending c.draw_input.result.0) c.draw_input.result.1) (sym c.in-None.is) c.draw_input.ensures.done

pub returns-in-None-clause-drew : goal.returns-in-None-clause-drew
returns-in-None-clause-drew g c =
    let sources : Sources _ = record { library = g.F.FontSource.library; faults = g.F.FontSource.faults; loads = g.F.FontSource.loads } in
    let output = change_of g.O.Output.written g.O.Output.faults c.args.out.now c.draw_input.new.out in
    let drawing : Drawing _ = record { sources = sources; output = output; before = c.args.workers.now; after = c.draw_input.new.workers; history = calls_of c.draw_input.new.history.items } in
    let e = value_of_ending c.draw_input.result.0 in
    let notes = change_of g.N.Output.written g.N.Output.faults c.args.notes.now c.draw_input.new.notes in
    subst (λ (o : Option ℕ). WrotePages notes c.args.settings.now.sheet.tolerant c.draw_input.result.1
    (λ whole. HoldsOfInput (document_for_sample o (read_since (g.I.Input.taken c.args.input.now) (g.I.Input.taken c.draw_input.new.input))) (PagesMatchHistory (task_for_sample o g.known c.args.settings.now) drawing (status_of e) e c.draw_input.result.1 whole))) (sym c.in-None.is) c.draw_input.ensures.drew

pub returns-in-None-clause-ends : goal.returns-in-None-clause-ends
returns-in-None-clause-ends g c =
    let old = g.O.Output.written c.args.out.now in
    let new = g.O.Output.written c.draw_input.new.out in
    let OutputFailed = Rose (g.O.Output.faults c.args.out.now) (g.O.Output.faults c.draw_input.new.out) in
    let SourceFailed = SomeUsed c.args.settings.now.workers c.args.workers.now c.draw_input.new.workers (SourceRose g.F.FontSource.faults) in
    let InputFailed = Rose (g.I.Input.faults c.args.input.now) (g.I.Input.faults c.draw_input.new.input) in
    let known = read_since (g.I.Input.taken c.args.input.now) (g.I.Input.taken c.draw_input.new.input) in
    subst (λ (o : Option ℕ). IsEnding old new OutputFailed (FailedForSample o SourceFailed) (c.draw_input.new.out ≡ c.args.out.now) (FailedForSample o InputFailed)
    (setup_with (library_for_sample c.args.settings.now.packed o g.known) c.args.settings.now) (document_for_sample o known) (value_of_ending c.draw_input.result.0)) (sym c.in-None.is) c.draw_input.ensures.ends

pub returns-in-None-clause-read : goal.returns-in-None-clause-read
returns-in-None-clause-read g c = λ none. c.draw_input.ensures.read

some_none : (n : ℕ) → Some n ≡ None → ⊥
some_none n is = cc

pub returns-in-Some-clause-read : goal.returns-in-Some-clause-read
returns-in-Some-clause-read g c = λ none. absurd (some_none _ (sym c.in-Some.is ∙ none))
