use mir.Syntax.{of_param}
use Rattle.std.proofs.Common.{◌≡◌, inl, inr, List, [], ℕ, None, Some, refl, ap, subst, rules}
use Rattle.outside.specs.Counts.{Rose}
use Rattle.cache_core.specs.Views.{calls_of}
use Rattle.dvi_run.specs.Endings.{EndsBytes, Input, Memory, value_of_ending, status_of}
use Rattle.dvi_run.specs.Pages.{Setup, setup_with}
use Rattle.dvi_run.specs.Reading.{read_since}
use Rattle.dvi_run.specs.Outside.{Drawing, Sources, change_of, task_for_sample}
use Rattle.dvi_run.specs.Together.{PagesMatchHistory, SomeUsed, SourceRose}
use Rattle.page_draw.specs.Values.{DrawnValue}
use Rattle.dvi_run.proofs.Noting.{idle_pages, pages_so}
use Rattle.dvi_run.proofs.Outcomes.{bytes_end}
use Rattle.dvi_run.proofs.RunOfWorkers.{idle_done, idle_drew}
use Rattle.dvi_run.proofs.InputRead.{gave_whole, of_read}
use Rattle.dvi_run.proofs.stages.draw_input.Goals as goal

pub draw_document-requires : goal.draw_document-requires
draw_document-requires g c κs within =
    let q = c.requires.1.1.1.1.1.1.1 in
    let sent = c.requires.1.1.1.1.1.0 in (
      search rules fits 100000 depth 60,
      (
        search rules fits 100000 depth 60,
        (
          search rules fits 100000 depth 60,
          (
            search rules fits 100000 depth 60,
            (
              record { owned = sent.owned; leaving = λ k x w. sent.leaving (λ _. k (of_param 1)) x w },
              (search rules fits 100000 depth 60, (q.0, (q.1.0, (q.1.1.0, q.1.1.1)))),
            ),
          ),
        ),
      ),
    )

pub returns-in-Ok-clause-ends : goal.returns-in-Ok-clause-ends
returns-in-Ok-clause-ends g c =
    let given : Setup = setup_with g.known c.args.settings.now in
    let old = g.O.Output.written c.args.out.now in
    let new = g.O.Output.written c.draw_document.new.out in
    let OutputFailed = Rose (g.O.Output.faults c.args.out.now) (g.O.Output.faults c.draw_document.new.out) in
    let SourceFailed = SomeUsed c.args.settings.now.workers c.args.workers.now c.draw_document.new.workers (SourceRose g.F.FontSource.faults) in
    let Kept = c.draw_document.new.out ≡ c.args.out.now in
    let e = value_of_ending c.draw_document.result.0 in
    let ends = subst (λ (bytes : List ℕ). EndsBytes old new OutputFailed SourceFailed Kept given bytes e) c.as_slice-bytes.ensures.value c.draw_document.ensures.ends in
    bytes_end old new OutputFailed SourceFailed Kept given (Rose (g.I.Input.faults c.args.input.now) (g.I.Input.faults c.read_all.new.input)) (read_since (g.I.Input.taken c.args.input.now) (g.I.Input.taken c.read_all.new.input))
    (Some []) _ (gave_whole _ _ c.in-Ok.ensures.bytes) e ends

pub returns-in-Ok-clause-drew : goal.returns-in-Ok-clause-drew
returns-in-Ok-clause-drew g c =
    let sources : Sources _ = record { library = g.F.FontSource.library; faults = g.F.FontSource.faults; loads = g.F.FontSource.loads } in
    let output = change_of g.O.Output.written g.O.Output.faults c.args.out.now c.draw_document.new.out in
    let drawing : Drawing _ = record { sources = sources; output = output; before = c.args.workers.now; after = c.draw_document.new.workers; history = calls_of c.draw_document.new.history.items } in
    let e = value_of_ending c.draw_document.result.0 in
    let Of : List DrawnValue → List ℕ → Type 0 = PagesMatchHistory (task_for_sample None g.known c.args.settings.now) drawing (status_of e) e c.draw_document.result.1 in
    pages_so _ _ _ _ _
    (λ whole h. of_read (Of whole) (read_since (g.I.Input.taken c.args.input.now) (g.I.Input.taken c.read_all.new.input)) (Some []) _ (gave_whole _ _ c.in-Ok.ensures.bytes) (subst (Of whole) c.as_slice-bytes.ensures.value h))
    c.draw_document.ensures.drew

pub returns-in-Err-Failed-clause-done : goal.returns-in-Err-Failed-clause-done
returns-in-Err-Failed-clause-done g c = let q = c.requires.1.1.1.1.1.1.1 in idle_done _ _ _ _ _ _ q.1.1.0 tt (ap calls_of q.1.1.1)

pub returns-in-Err-Failed-clause-drew : goal.returns-in-Err-Failed-clause-drew
returns-in-Err-Failed-clause-drew g c =
    let q = c.requires.1.1.1.1.1.1.1 in
    let sources : Sources _ = record { library = g.F.FontSource.library; faults = g.F.FontSource.faults; loads = g.F.FontSource.loads } in
    let output = change_of g.O.Output.written g.O.Output.faults c.args.out.now c.args.out.now in
    idle_pages g.N.Output.written g.N.Output.faults c.args.notes.now c.args.settings.now.sheet.tolerant _
    (idle_drew (task_for_sample None g.known c.args.settings.now) sources output c.args.workers.now (calls_of c.args.history.now.items) (status_of Input) Input (read_since (g.I.Input.taken c.args.input.now) (g.I.Input.taken c.read_all.new.input)) [] tt (ap calls_of q.1.1.1))

pub returns-in-Err-NoMemory-clause-done : goal.returns-in-Err-NoMemory-clause-done
returns-in-Err-NoMemory-clause-done g c = let q = c.requires.1.1.1.1.1.1.1 in idle_done _ _ _ _ _ _ q.1.1.0 tt (ap calls_of q.1.1.1)

pub returns-in-Err-NoMemory-clause-drew : goal.returns-in-Err-NoMemory-clause-drew
returns-in-Err-NoMemory-clause-drew g c =
    let q = c.requires.1.1.1.1.1.1.1 in
    let sources : Sources _ = record { library = g.F.FontSource.library; faults = g.F.FontSource.faults; loads = g.F.FontSource.loads } in
    let output = change_of g.O.Output.written g.O.Output.faults c.args.out.now c.args.out.now in
    idle_pages g.N.Output.written g.N.Output.faults c.args.notes.now c.args.settings.now.sheet.tolerant _
    (idle_drew (task_for_sample None g.known c.args.settings.now) sources output c.args.workers.now (calls_of c.args.history.now.items) (status_of Memory) Memory (read_since (g.I.Input.taken c.args.input.now) (g.I.Input.taken c.read_all.new.input)) [] tt (ap calls_of q.1.1.1))

pub returns-in-Ok-clause-read : goal.returns-in-Ok-clause-read
returns-in-Ok-clause-read g c = inl (_, c.in-Ok.ensures.bytes)

pub returns-in-Err-Failed-clause-read : goal.returns-in-Err-Failed-clause-read
returns-in-Err-Failed-clause-read g c = let q = c.requires.1.1.1.1.1.1.1 in inr (record { answers = inl refl; output = refl; workers = refl; history = ap calls_of q.1.1.1; no_tally = refl })

pub returns-in-Err-NoMemory-clause-read : goal.returns-in-Err-NoMemory-clause-read
returns-in-Err-NoMemory-clause-read g c = let q = c.requires.1.1.1.1.1.1.1 in inr (record { answers = inr (inl refl); output = refl; workers = refl; history = ap calls_of q.1.1.1; no_tally = refl })
