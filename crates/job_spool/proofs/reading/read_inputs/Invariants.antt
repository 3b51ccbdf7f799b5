use Rattle.std.proofs.Common.{◌≡◌, ℕ, ◌<◌, ◌≤◌, get_or, length}
use Rattle.job_spool.specs.Read.{HasText, text_at}
use Rattle.job_spool.proofs.reading.read_inputs.Given as goal

abbrev pub invariant-loop-k : goal.invariant-loop-k
invariant-loop-k g l = record {
  count : length l.texts.items ≡ l.k;
  done : (j : ℕ) (d : _) → j < l.k
      → HasText (record { left = g.I.Input.left; taken = g.I.Input.taken; ended = g.I.Input.ended; reads = g.I.Input.faults; written = g.O.Output.written; writes = g.O.Output.faults }) (text_at l.texts.items j) (get_or l.initial.jobs j d) (get_or l.jobs j d);
  left : (j : ℕ) (d : _) → l.k ≤ j → get_or l.jobs j d ≡ get_or l.initial.jobs j d;
}
