use Rattle.std.proofs.Common.{◌≡◌, ℕ, ◌<◌, ◌≤◌, get_or, length}
use Rattle.job_spool.specs.Read.{IsIndexed, text_at}
use Rattle.job_spool.specs.Sharing.{document_at}
use Rattle.job_spool.proofs.reading.index_texts.Given as goal

abbrev pub invariant-loop-k : goal.invariant-loop-k
invariant-loop-k g l = record {
  count : length l.documents.items ≡ l.k;
  done : (j : ℕ) (d : _) → j < l.k → IsIndexed l.res (text_at l.texts j) (document_at l.documents.items j) (get_or l.initial.jobs j d) (get_or l.jobs j d);
  left : (j : ℕ) (d : _) → l.k ≤ j → get_or l.jobs j d ≡ get_or l.initial.jobs j d;
}
