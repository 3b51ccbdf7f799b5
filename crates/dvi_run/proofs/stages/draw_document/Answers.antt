use Rattle.std.proofs.Common.{◌≡◌, inl, refl, ap, rules}
use Rattle.outside.specs.Counts.{Rose}
use Rattle.cache_core.specs.Views.{calls_of}
use Rattle.dvi_run.specs.Endings.{value_of_ending}
use Rattle.dvi_run.specs.Pages.{setup_with}
use Rattle.dvi_run.specs.Together.{SomeUsed, SourceRose}
use Rattle.dvi_run.proofs.Noting.{idle_pages}
use Rattle.dvi_run.proofs.Outcomes.{pages_end}
use Rattle.dvi_run.proofs.RunOfWorkers.{are_done, drew_together, ends_used, idle_done}
use Rattle.dvi_run.proofs.stages.draw_document.Goals as goal

pub draw_pages-requires : goal.draw_pages-requires
draw_pages-requires g c κs within =
    let q = c.requires.1.1.1.1.1.1 in
    (search rules fits 100000 depth 60, (search rules fits 100000 depth 60, (search rules fits 100000 depth 60, (search rules fits 100000 depth 60, (search rules fits 100000 depth 60, (search rules fits 100000 depth 60, (q.0, (q.1.0, (q.1.1.0, (q.1.1.1, search rules))))))))))

pub returns-in-Ok-clause-ends : goal.returns-in-Ok-clause-ends
returns-in-Ok-clause-ends g c =
    let d = c.draw_pages.ensures.drew in
    let n = c.args.settings.now.workers in
    pages_end (g.O.Output.written c.args.out.now) (g.O.Output.written c.draw_pages.new.out) (Rose (g.O.Output.faults c.args.out.now) (g.O.Output.faults c.draw_pages.new.out))
    (SomeUsed n c.args.workers.now c.draw_pages.new.workers (SourceRose g.F.FontSource.faults)) (c.draw_pages.new.out ≡ c.args.out.now) (setup_with g.known c.args.settings.now) c.args.bytes.now
    c.in-Ok.index.reading d.ends.0 c.in-Ok.ensures.document d.ends.1 (value_of_ending c.draw_pages.result.0) (ends_used g.known c.args.settings.now _ _ _ _ _ d)

pub returns-in-Ok-clause-done : goal.returns-in-Ok-clause-done
returns-in-Ok-clause-done g c = are_done g.known c.args.settings.now _ _ _ _ _ c.draw_pages.ensures.drew c.draw_pages.ensures.rest

pub returns-in-Ok-clause-drew : goal.returns-in-Ok-clause-drew
returns-in-Ok-clause-drew g c = drew_together g.known c.args.settings.now _ _ _ _ _ c.draw_pages.ensures.drew c.args.bytes.now c.in-Ok.ensures.document c.own_calls.ensures.alone c.solo.ensures.one

pub returns-in-Err-Fault-clause-done : goal.returns-in-Err-Fault-clause-done
returns-in-Err-Fault-clause-done g c = let q = c.requires.1.1.1.1.1.1 in idle_done _ _ _ _ _ _ q.1.1.0 tt (ap calls_of q.1.1.1)

pub returns-in-Err-NoMemory-clause-done : goal.returns-in-Err-NoMemory-clause-done
returns-in-Err-NoMemory-clause-done g c = let q = c.requires.1.1.1.1.1.1 in idle_done _ _ _ _ _ _ q.1.1.0 tt (ap calls_of q.1.1.1)

pub returns-in-Err-Fault-clause-drew : goal.returns-in-Err-Fault-clause-drew
returns-in-Err-Fault-clause-drew g c =
    let q = c.requires.1.1.1.1.1.1 in
    idle_pages g.N.Output.written g.N.Output.faults c.args.notes.now c.args.settings.now.sheet.tolerant _ (inl (tt, refl, ap calls_of q.1.1.1, refl))

pub returns-in-Err-NoMemory-clause-drew : goal.returns-in-Err-NoMemory-clause-drew
returns-in-Err-NoMemory-clause-drew g c =
    let q = c.requires.1.1.1.1.1.1 in
    idle_pages g.N.Output.written g.N.Output.faults c.args.notes.now c.args.settings.now.sheet.tolerant _ (inl (tt, refl, ap calls_of q.1.1.1, refl))
