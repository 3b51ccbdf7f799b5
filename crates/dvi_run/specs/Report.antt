-- What a run prints in its notes: what its pages lack, and then its report, which is the trace, the
-- summary and the line of its end.
use Rattle.std.specs.Prelude.{ℕ, Bool, true, false, List, [], ◌++◌, take, Option, Some, None}
use Rattle.std.specs.List.{sum_by}
use Rattle.cache_core.specs.declared.calls.Call.{Call}
use Rattle.page_draw.specs.Values.{DrawnValue}
use Rattle.page_workers.specs.declared.worker.Worker.{Worker}
use Rattle.run_report.specs.Trace.{trace_text}
use Rattle.run_report.specs.Summary.{summary_text}
use Rattle.run_report.specs.declared.counts.Counts.{Counts}
use Rattle.dvi_run.specs.Endings.{EndingValue}
use Rattle.dvi_run.specs.Lines.{lacks_text, line_of}
use Rattle.command_line.specs.declared.settings.Settings.{Settings}
use Rattle.dvi_run.specs.declared.tally.Tally.{Tally}

-- the loads that were asked of the sources of the first n workers, all of them together
abbrev pub loads_of : {F : Type 0} → ℕ → List (Worker F) → ℕ
loads_of n workers = sum_by (λ w. w.loads) (take n workers)

abbrev pub counts_of : Tally → (loads : ℕ) → Counts
counts_of t loads = record { pages = t.pages; loads = loads; black = t.black }

-- a text that is asked for
abbrev pub if_asked : Bool → List ℕ → List ℕ
if_asked true text = text
if_asked false text = []

-- the trace where it is asked for, and then the summary where it is
abbrev pub trace_and_summary : Settings → Tally → (loads : ℕ) → List Call → List ℕ
trace_and_summary settings t loads history =
    if_asked settings.trace (trace_text history)
    ++ if_asked settings.summary (summary_text (counts_of t loads) history)

-- and last the line of the end. A run that ended before a cache was made has that line alone
abbrev pub report_text : Settings → Option Tally → (loads : ℕ) → List Call → EndingValue → List ℕ
report_text settings None loads history e = line_of e
report_text settings (Some t) loads history e =
    trace_and_summary settings t loads history ++ line_of e

-- what the pages lack that were written whole, and then the report. No page was where no cache was
-- made
abbrev pub notes_text : List DrawnValue → Settings → Option Tally → (loads : ℕ) → List Call
    → EndingValue → List ℕ
notes_text whole settings tally loads history e =
    lacks_text whole ++ report_text settings tally loads history e
