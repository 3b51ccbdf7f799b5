use denote.Param.Send.{sendable}
use Rattle.std.proofs.Common.{◌≡◌, ◌∙◌, inl, ◌<◌, ◌≤◌, ℕ, List, [], Option, Some, length, get_or, refl, ap, sym, subst, arith, rules}
use Rattle.outside.specs.Library.{FileTable}
use Rattle.outside.specs.declared.mem_fonts.SureFonts.{SureFonts}
use Rattle.outside.proofs.mem_fonts.SureFonts.TheSendSync.{the_send}
use Rattle.cache_core.specs.Views.{calls_of}
use Rattle.page_index.specs.Faults.{IsFirstFault}
use Rattle.page_index.specs.Limits.{MAX_DOCUMENT_LENGTH}
use Rattle.page_workers.specs.declared.worker.Worker.{Worker}
use Rattle.sample_maker.specs.Sample.{made_files, sample_document}
use Rattle.dvi_run.specs.Endings.{IsEnding, value_of_ending, status_of}
use Rattle.dvi_run.specs.Pages.{Setup, setup_with}
use Rattle.dvi_run.specs.Sampled.{TookResults}
use Rattle.dvi_run.specs.Outside.{Drawing, FaultsRose, Sources, change_of, task_for_sample}
use Rattle.dvi_run.specs.Together.{PagesMatchHistory, IsReadyWorker, RestIsKept}
use Rattle.dvi_run.proofs.MovedResults.{done_handed, drew_handed, none_rose, sources_kept}
use Rattle.page_draw.specs.Values.{DrawnValue}
use Rattle.dvi_run.proofs.Noting.{idle_pages, pages_so}
use Rattle.dvi_run.proofs.Outcomes.{bytes_end}
use Rattle.dvi_run.proofs.OwnDocument.{all_taken, answers_of, ends_without}
use Rattle.dvi_run.proofs.RunOfWorkers.{idle_done}
use Rattle.dvi_run.proofs.InputRead.{of_read}
use Rattle.dvi_run.proofs.sampled.draw_sample.Goals as goal

abbrev Library : SureFonts → Option FileTable
Library s = Some s.library.value

-- the run's own workers are ready as they are handed to a call
own_ready : (files told : FileTable) (n : ℕ) (items now : List (Worker SureFonts)) → now ≡ items → files ≡ told → ((k : ℕ) (d : Worker SureFonts) → k < n → IsReadyWorker Library (Some files) (get_or items k d))
    → (k : ℕ) (d : Worker SureFonts) → k < n → IsReadyWorker Library (Some told) (get_or now k d)
own_ready files told n items now same known each k d lt =
    subst (λ (ws : List (Worker SureFonts)). IsReadyWorker Library (Some told) (get_or ws k d)) (sym same) (subst (λ (fs : FileTable). IsReadyWorker Library (Some fs) (get_or items k d)) known (each k d lt))

pub returns-in_default-clause-drew : goal.returns-in_default-clause-drew
returns-in_default-clause-drew g c =
    let q = c.requires.1.1.1.1.1.1 in
    idle_pages g.N.Output.written g.N.Output.faults c.args.notes.now c.args.settings.now.sheet.tolerant _ (inl (tt, refl, ap calls_of q.1.1.1.1.1, refl))

pub returns-in_default-own_workers-clause-drew : goal.returns-in_default-own_workers-clause-drew
returns-in_default-own_workers-clause-drew g c =
    let q = c.requires.1.1.1.1.1.1 in
    idle_pages g.N.Output.written g.N.Output.faults c.args.notes.now c.args.settings.now.sheet.tolerant _ (inl (tt, refl, ap calls_of q.1.1.1.1.1, refl))

pub returns-in_default-own_workers-clause-done : goal.returns-in_default-own_workers-clause-done
returns-in_default-own_workers-clause-done g c = let q = c.requires.1.1.1.1.1.1 in idle_done _ _ _ _ _ _ q.1.1.1.1.0 tt (ap calls_of q.1.1.1.1.1)

pub draw_document-drawn-requires : goal.draw_document-drawn-requires
draw_document-drawn-requires g c κs within =
    let q = c.requires.1.1.1.1.1.1 in
    let settings = c.args.settings.now in
    let own = c.in-Ok-own_workers.ensures in
    let first = c.as_mut_slice-own.result.now in
    let same : first ≡ c.in-Ok-own_workers.made.items = c.as_mut_slice-own.ensures.value in
    let long : length first ≡ settings.workers = ap length same ∙ own.count in
    let files : c.in-Ok.field-0.library ≡ made_files settings.packed = search rules in
    let ready = own_ready c.in-Ok.field-0.library (made_files settings.packed) settings.workers c.in-Ok-own_workers.made.items first same files own.ready in (
      search rules fits 100000 depth 60,
      (
        search rules fits 100000 depth 60,
        (
          search rules fits 100000 depth 60,
          (
            search rules fits 100000 depth 60,
            (search (sendable, rules, the_send) fits 100000 depth 60, (search rules fits 100000 depth 60, (q.0, (omega (arith, long), (ready, q.1.1.1.1.1))))),
          ),
        ),
      ),
    )

pub returns-clause-ends : goal.returns-clause-ends
returns-clause-ends g c =
    let q = c.requires.1.1.1.1.1.1 in
    let settings = c.args.settings.now in
    let own = c.in-Ok-own_workers.ensures in
    let first = c.as_mut_slice-own.result.now in
    let last = c.draw_document-drawn.new.workers in
    let before = c.args.workers.now in
    let after = c.move_results.new.workers in
    let same : first ≡ c.in-Ok-own_workers.made.items = c.as_mut_slice-own.ensures.value in
    let long : length first ≡ settings.workers = ap length same ∙ own.count in
    let long_last : length last ≡ settings.workers = (let kept : length last ≡ length first = search rules in kept ∙ long) in
    let handed : (k : ℕ) (e : _) (d : _) → k < settings.workers → TookResults (get_or last k e) (get_or before k d) (get_or after k d) =
    λ k e d lt. c.move_results.ensures.handed k e d (omega (arith, lt, long_last)) in
    let doc = sample_document c.args.pages in
    let bytes : c.deref.result.now ≡ doc = search rules in
    let few : length c.deref.result.now ≤ MAX_DOCUMENT_LENGTH = subst (λ (text : List ℕ). length text ≤ MAX_DOCUMENT_LENGTH) (sym bytes) (c.samples.ensures.fit c.args.pages q.1.1.0) in
    let output = change_of g.O.Output.written g.O.Output.faults c.args.out.now c.draw_document-drawn.new.out in
    let history = calls_of c.draw_document-drawn.new.history.items in
    let e = value_of_ending c.draw_document-drawn.result.0 in
    let tally = c.draw_document-drawn.result.1 in
    let old = output.before.bytes in
    let new = output.after.bytes in
    let given : Setup = setup_with (Some (made_files settings.packed)) settings in
    let OutputFailed = FaultsRose output in
    let text = c.deref.result.now in
    let ends = ends_without old new OutputFailed _ output.Kept given text (none_rose settings first last before after long long_last handed (λ s. 0) (λ s. refl)) e c.draw_document-drawn.ensures.ends in
    subst (λ (t : List ℕ). IsEnding old new OutputFailed ⊥ output.Kept ⊥ given (Some t) e) bytes (bytes_end old new OutputFailed ⊥ output.Kept given ⊥ (Some text) (Some []) text (all_taken text few) e ends)

pub returns-clause-sample : goal.returns-clause-sample
returns-clause-sample g c =
    let q = c.requires.1.1.1.1.1.1 in
    let settings = c.args.settings.now in
    let own = c.in-Ok-own_workers.ensures in
    let first = c.as_mut_slice-own.result.now in
    let last = c.draw_document-drawn.new.workers in
    let before = c.args.workers.now in
    let after = c.move_results.new.workers in
    let same : first ≡ c.in-Ok-own_workers.made.items = c.as_mut_slice-own.ensures.value in
    let long : length first ≡ settings.workers = ap length same ∙ own.count in
    let long_last : length last ≡ settings.workers = (let kept : length last ≡ length first = search rules in kept ∙ long) in
    let handed : (k : ℕ) (e : _) (d : _) → k < settings.workers → TookResults (get_or last k e) (get_or before k d) (get_or after k d) =
    λ k e d lt. c.move_results.ensures.handed k e d (omega (arith, lt, long_last)) in
    let rest : RestIsKept settings.workers before after = subst (λ (m : ℕ). RestIsKept m before after) long_last c.move_results.ensures.rest in
    let doc = sample_document c.args.pages in
    let bytes : c.deref.result.now ≡ doc = search rules in
    let few : length c.deref.result.now ≤ MAX_DOCUMENT_LENGTH = subst (λ (text : List ℕ). length text ≤ MAX_DOCUMENT_LENGTH) (sym bytes) (c.samples.ensures.fit c.args.pages q.1.1.0) in
    let output = change_of g.O.Output.written g.O.Output.faults c.args.out.now c.draw_document-drawn.new.out in
    let history = calls_of c.draw_document-drawn.new.history.items in
    let e = value_of_ending c.draw_document-drawn.result.0 in
    let tally = c.draw_document-drawn.result.1 in
    let old = output.before.bytes in
    let new = output.after.bytes in
    let given : Setup = setup_with (Some (made_files settings.packed)) settings in
    let OutputFailed = FaultsRose output in
    let text = c.deref.result.now in
    let ends = ends_without old new OutputFailed _ output.Kept given text (none_rose settings first last before after long long_last handed (λ s. 0) (λ s. refl)) e c.draw_document-drawn.ensures.ends in
    let res = settings.res in
    let document = c.samples.ensures.documents c.args.pages res q.1.0 q.1.1.0 q.0.resolution.0 q.0.resolution.1 in
    record {
      input = tt;
      sources = sources_kept settings first last before after long long_last handed rest;
      answers = answers_of old new OutputFailed output.Kept given text
          (λ fault is. c.documents.ensures.no_fault res doc document.0 fault document.1 (subst (λ (t : List ℕ). IsFirstFault res t fault) bytes is)) e ends;
    }

pub returns-clause-done : goal.returns-clause-done
returns-clause-done g c =
    let q = c.requires.1.1.1.1.1.1 in
    let settings = c.args.settings.now in
    let own = c.in-Ok-own_workers.ensures in
    let first = c.as_mut_slice-own.result.now in
    let last = c.draw_document-drawn.new.workers in
    let before = c.args.workers.now in
    let after = c.move_results.new.workers in
    let same : first ≡ c.in-Ok-own_workers.made.items = c.as_mut_slice-own.ensures.value in
    let long : length first ≡ settings.workers = ap length same ∙ own.count in
    let long_last : length last ≡ settings.workers = (let kept : length last ≡ length first = search rules in kept ∙ long) in
    let handed : (k : ℕ) (e : _) (d : _) → k < settings.workers → TookResults (get_or last k e) (get_or before k d) (get_or after k d) =
    λ k e d lt. c.move_results.ensures.handed k e d (omega (arith, lt, long_last)) in
    let rest : RestIsKept settings.workers before after = subst (λ (m : ℕ). RestIsKept m before after) long_last c.move_results.ensures.rest in
    let files : c.in-Ok.field-0.library ≡ made_files settings.packed = search rules in
    let ready = own_ready c.in-Ok.field-0.library (made_files settings.packed) settings.workers c.in-Ok-own_workers.made.items first same files own.ready in
    let output = change_of g.O.Output.written g.O.Output.faults c.args.out.now c.draw_document-drawn.new.out in
    let history = calls_of c.draw_document-drawn.new.history.items in
    let e = value_of_ending c.draw_document-drawn.result.0 in
    let tally = c.draw_document-drawn.result.1 in
    done_handed settings first last before after long long_last handed rest g.F.FontSource.library g.known q.1.1.1.1.0 _ ready (omega (arith, q.0.workers.0)) _ _ g.F.FontSource.faults g.F.FontSource.loads output history e tally
    (λ s. refl) c.args.pages c.draw_document-drawn.ensures.done

pub returns-clause-drew : goal.returns-clause-drew
returns-clause-drew g c =
    let q = c.requires.1.1.1.1.1.1 in
    let settings = c.args.settings.now in
    let own = c.in-Ok-own_workers.ensures in
    let first = c.as_mut_slice-own.result.now in
    let last = c.draw_document-drawn.new.workers in
    let before = c.args.workers.now in
    let after = c.move_results.new.workers in
    let same : first ≡ c.in-Ok-own_workers.made.items = c.as_mut_slice-own.ensures.value in
    let long : length first ≡ settings.workers = ap length same ∙ own.count in
    let long_last : length last ≡ settings.workers = (let kept : length last ≡ length first = search rules in kept ∙ long) in
    let handed : (k : ℕ) (e : _) (d : _) → k < settings.workers → TookResults (get_or last k e) (get_or before k d) (get_or after k d) =
    λ k e d lt. c.move_results.ensures.handed k e d (omega (arith, lt, long_last)) in
    let rest : RestIsKept settings.workers before after = subst (λ (m : ℕ). RestIsKept m before after) long_last c.move_results.ensures.rest in
    let files : c.in-Ok.field-0.library ≡ made_files settings.packed = search rules in
    let ready = own_ready c.in-Ok.field-0.library (made_files settings.packed) settings.workers c.in-Ok-own_workers.made.items first same files own.ready in
    let doc = sample_document c.args.pages in
    let bytes : c.deref.result.now ≡ doc = search rules in
    let few : length c.deref.result.now ≤ MAX_DOCUMENT_LENGTH = subst (λ (text : List ℕ). length text ≤ MAX_DOCUMENT_LENGTH) (sym bytes) (c.samples.ensures.fit c.args.pages q.1.1.0) in
    let output = change_of g.O.Output.written g.O.Output.faults c.args.out.now c.draw_document-drawn.new.out in
    let history = calls_of c.draw_document-drawn.new.history.items in
    let e = value_of_ending c.draw_document-drawn.result.0 in
    let tally = c.draw_document-drawn.result.1 in
    let sources : Sources _ = record { library = g.F.FontSource.library; faults = g.F.FontSource.faults; loads = g.F.FontSource.loads } in
    let drawing : Drawing _ = record { sources = sources; output = output; before = before; after = after; history = history } in
    let Of : List DrawnValue → List ℕ → Type 0 = PagesMatchHistory (task_for_sample (Some c.args.pages) g.known settings) drawing (status_of e) e tally in
    let text = c.deref.result.now in
    let sizes : length before ≡ length after = search rules in
    pages_so _ _ _ _ _
    (λ whole h.
    of_read (Of whole) (Some doc) (Some []) doc (all_taken doc (c.samples.ensures.fit c.args.pages q.1.1.0))
    (subst (Of whole) bytes
    (drew_handed settings first last before after long long_last handed rest g.F.FontSource.library g.known q.1.1.1.1.0 _ ready (omega (arith, q.0.workers.0)) (λ s. 0) (λ s. 0) g.F.FontSource.faults g.F.FontSource.loads output history e tally sizes c.args.pages (status_of e) whole text h)))
    c.draw_document-drawn.ensures.drew
