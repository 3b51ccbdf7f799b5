use Rattle.std.proofs.Common.{◌≡◌, ◌∙◌, ◌+◌, ◌++◌, ◌<◌, ℕ, List, [], ◌∷◌, length, get_or, take, sym, ap}
use Rattle.std.proofs.lemmas.List.{flat_map_more, map-append, take_more}
use Rattle.cache_core.specs.Views.{call_of, calls_of}
use Rattle.cache_core.specs.declared.entry.Entry.{Entry}
use Rattle.run_report.specs.Trace.{entry_line, trace_text}
use Rattle.run_report.proofs.Joined.{puts_as, puts_twice}
use Rattle.run_report.proofs.trace.put_trace.Goals as goal

-- one line more
one_more : (entries : List Entry) (i : ℕ) (e : Entry) → i < length entries → e ≡ get_or entries i e
    → trace_text (calls_of (take i entries)) ++ entry_line (call_of e) ≡ trace_text (calls_of (take (i + 1) entries))
one_more entries i e below is =
    flat_map_more entry_line [] (calls_of (take i entries)) (call_of e)
    ∙ ap trace_text (sym (map-append call_of (take i entries) (e ∷ [])))
    ∙ ap (λ (x : Entry). trace_text (calls_of (take i entries ++ x ∷ []))) is
    ∙ ap (λ (xs : List Entry). trace_text (calls_of xs)) (sym (take_more entries i e below))

pub loop-entry-preserved : goal.loop-entry-preserved
loop-entry-preserved g c =
    puts_as (one_more c.args.history.now c.loop-entry.entry-index c.entry-item.result c.loop-entry-test.true c.entry-item.is)
    (puts_twice c.loop-entry.invariant c.put_entry.ensures)
