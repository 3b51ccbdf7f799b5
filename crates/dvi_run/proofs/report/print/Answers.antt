use Rattle.std.proofs.Common.{◌≡◌, [], ℕ, Bool, true, false, List, Option, Result, Ok, Err, refl, sym}
use Rattle.std.specs.Prelude.{is_ok}
use Rattle.outside.specs.Streams.{Writes}
use Rattle.dvi_run.specs.Noted.{TookAfter, is_noted}
use Rattle.dvi_run.specs.Outside.{change_of}
use Rattle.dvi_run.proofs.report.print.Goals as goal

-- what was written, where the notes took all before
written_so : {N T E : Type 0} (written : N → Option (List ℕ)) (faults : N → ℕ) (a b : N) (before : Bool) (text : List ℕ) (r : Result T E) → before ≡ true → Writes (written a) (written b) (faults a) (faults b) text r
    → TookAfter before (is_ok r) (change_of written faults a b) text
written_so written faults a b true text (Ok v) is w = w.grew
written_so written faults a b true text (Err v) is w = (w.grew, w.cause.rose refl)
written_so written faults a b false text r is w = absurd cc

pub returns : goal.returns
returns g c =
    let start = g.N.Output.written c.args.notes.now in
    let before = g.N.Output.faults c.args.notes.now in
    let wrote = c.finish.ensures start before _ (c.put_report.ensures.puts start before [] (c.new-gather.ensures start before)) in
    record {
      printed = written_so g.N.Output.written g.N.Output.faults c.args.notes.now c.finish.new.out (is_noted c.args.tally.now) _ c.finish.result (sym (c.if-not-may_print.ensures {u = tt})) wrote;
      count = wrote.cause.never_falls;
    }
