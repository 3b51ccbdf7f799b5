-- Jobs whose inputs were read, and in which a document was looked for.
use Rattle.std.proofs.Common.{◌≡◌, ℕ, zero, suc, ◌<◌, ◌≤◌, Bool, true, false, List, [], ◌∷◌, length, get_or, Option, Some, None, inl, inr, refl, sym, ap, subst, ◌∙◌, arith}
use Rattle.std.specs.Prelude.{◌==◌, if◌then◌else◌, IfSome, IsSome, Vec}
use Rattle.page_index.specs.Document.{pages_begun}
use Rattle.page_index.specs.Faults.{IsFirstFault}
use Rattle.page_index.specs.Pages.{Indexed}
use Rattle.page_index.specs.declared.faults.DocFault.{DocFault}
use Rattle.dvi_run.specs.Endings.{Document, Input, Memory}
use Rattle.dvi_run.specs.Pages.{Setup}
use Rattle.dvi_run.specs.Reading.{read_since}
use Rattle.dvi_run.proofs.InputRead.{gave_whole, of_read}
use Rattle.dvi_run.proofs.RunOfWorkers.{one_of}
use Rattle.job_spool.specs.Drawn.{AreFor, AreUndrawn}
use Rattle.job_spool.specs.Jobs.{JobView, WasRead, job_input}
use Rattle.job_spool.specs.Read.{HasText, IsIndexed, text_at}
use Rattle.job_spool.specs.Sharing.{Documents, caches_of, document_at}
use Rattle.job_spool.specs.declared.job.Job.{Job}
use Rattle.job_spool.proofs.TextsRead.{no_text}

module _ {I O : Type 0} (view : JobView I O) (g : Setup) (a b c : Job I O) where
  no_bytes : HasText view None a b → c ≡ b → WasRead view g None a c
  no_bytes had same = subst (λ (x : Job I O). WasRead view g None a x) (sym same) (record {
    out = had.out;
    history = had.history;
    came = elim had.came [ inl nine ↦ (Memory, nine, (tt, inl had.out, inr (inr (inl refl)))) | inr failed ↦ (Input, failed.0, (tt, (failed.1, had.out), inr (inl refl))) ];
  })

  faulted : (bytes : List ℕ) (fault : DocFault) → HasText view (Some bytes) a b → c ≡ record b { status = 2 } → IsFirstFault g.res bytes fault → WasRead view g None a c
  faulted bytes fault had same first =
      let known = read_since (view.taken a.input) (view.taken b.input) in
      let read = gave_whole (job_input view a b) bytes had.came.1 in
      subst (λ (x : Job I O). WasRead view g None a x) (sym same) (record {
        out = had.out;
        history = had.history;
        came = (Document fault, refl, (tt, (of_read (λ bs. IsFirstFault g.res bs fault) known (Some []) bytes read first, had.out), inl (bytes, had.came.1)));
      })

  pub was_read : (text : Option (List ℕ)) (document : Option Indexed) → HasText view text a b → IsIndexed g.res text document b c → WasRead view g document a c
  was_read None None had is = no_bytes had is
  was_read None (Some x) had is = absurd is
  was_read (Some bytes) None had is = elim is [ inl same ↦ no_bytes (no_text view (Some bytes) a b had) same | inr fault ↦ faulted bytes fault.1.0 had fault.0 fault.1.1 ]
  was_read (Some bytes) (Some x) had is =
      subst (λ (y : Job I O). WasRead view g (Some x) a y) (sym is.0) (record { out = had.out; history = had.history; came = (had.came.0, is.1, is.2, (bytes, had.came.1, is.3)) })

-- a job that wasn't drawn is one without a document
pub undrawn : {I O : Type 0} (view : JobView I O) (g : Setup) (document : Option Indexed) (a b : Job I O) → WasRead view g document a b → WasRead view g None a b
undrawn view g None a b read = read
undrawn view g (Some x) a b read = record { out = read.out; history = read.history; came = (Memory, read.came.0, (tt, inl read.out, inl (read.came.3.0, read.came.3.1))) }

-- ---- all jobs

module _ {I O A : Type 0} (view : JobView I O) (g : Setup) (ts us : List (Option (Vec ℕ A))) (xs ws zs : List (Job I O)) (same : length ws ≡ length xs) (us_are : us ≡ ts) (texts : (k : ℕ) (d : Job I O) → k < length xs → HasText view (text_at ts k) (get_or xs k d) (get_or ws k d)) where
  pub all_found : (docs found : Documents) → found ≡ docs → ((k : ℕ) (d : Job I O) → k < length ws → IsIndexed g.res (text_at us k) (document_at docs k) (get_or ws k d) (get_or zs k d)) → (k : ℕ) (d : Job I O) → k < length xs
      → WasRead view g (document_at found k) (get_or xs k d) (get_or zs k d)
  all_found docs found are indexed k d lt =
      was_read view g (get_or xs k d) (get_or ws k d) (get_or zs k d) (text_at ts k) (document_at found k) (texts k d lt)
      (subst (λ (l : Documents). IsIndexed g.res (text_at ts k) (document_at l k) (get_or ws k d) (get_or zs k d)) (sym are)
      (subst (λ (l : List (Option (Vec ℕ A))). IsIndexed g.res (text_at l k) (document_at docs k) (get_or ws k d) (get_or zs k d)) us_are (indexed k d (omega (arith, same, lt)))))

  pub none_found : ((k : ℕ) (d : Job I O) → k < length ws → IsIndexed g.res (text_at us k) None (get_or ws k d) (get_or zs k d)) → (k : ℕ) (d : Job I O) → k < length xs → WasRead view g None (get_or xs k d) (get_or zs k d)
  none_found indexed k d lt =
      was_read view g (get_or xs k d) (get_or ws k d) (get_or zs k d) (text_at ts k) None (texts k d lt)
      (subst (λ (l : List (Option (Vec ℕ A))). IsIndexed g.res (text_at l k) None (get_or ws k d) (get_or zs k d)) us_are (indexed k d (omega (arith, same, lt))))

fits : {I O : Type 0} (view : JobView I O) (g : Setup) (o : Option Indexed) (a b : Job I O) → WasRead view g o a b → IfSome o (λ x. (x.res ≡ g.res) × (pages_begun x.reading ≤ 1000000))
fits view g None a b read = tt
fits view g (Some x) a b read = (read.came.1, read.came.2)

every : (P : Indexed → Type 0) (docs : Documents) → ((k : ℕ) → k < length docs → IfSome (document_at docs k) P) → (k : ℕ) → IfSome (document_at docs k) P
every P [] here k = tt
every P (o ∷ docs) here zero = here 0 (omega arith)
every P (o ∷ docs) here (suc k) = every P docs (λ j lt. here (suc j) (omega arith)) k

shares_undrawn : {I O : Type 0} (view : JobView I O) (g : Setup) (b : Bool) (o : Option Indexed) (x y : Job I O) → WasRead view g o x y → IsSome {T = Indexed} (if b then o else None) → y.status ≡ 9
shares_undrawn view g true None x y read some = cc
shares_undrawn view g true (Some i) x y read some = read.came.0
shares_undrawn view g false o x y read some = cc

-- what the drawing of all jobs asks of them
module _ {I O : Type 0} (view : JobView I O) (g : Setup) (docs : Documents) (xs zs : List (Job I O)) (many : length docs ≡ length xs) (same : length zs ≡ length xs)
    (was : (k : ℕ) (d : Job I O) → k < length xs → WasRead view g (document_at docs k) (get_or xs k d) (get_or zs k d)) where
  pub are_for : AreFor g.res docs
  are_for = every (λ x. (x.res ≡ g.res) × (pages_begun x.reading ≤ 1000000)) docs
      (λ k lt.
      let inside : k < length xs = omega (arith, lt, many) in
      let d = one_of xs k inside in
      fits view g (document_at docs k) (get_or xs k d) (get_or zs k d) (was k d inside))

  pub are_undrawn : (first : ℕ) → AreUndrawn docs first zs
  are_undrawn first k d lt some = shares_undrawn view g (get_or (caches_of docs) k 0 == first) (document_at docs k) (get_or xs k d) (get_or zs k d) (was k d (omega (arith, lt, same))) some

  pub are_empty : ((k : ℕ) (d : Job I O) → k < length xs → (get_or xs k d).history.items ≡ []) → (k : ℕ) (d : Job I O) → k < length zs → (get_or zs k d).history.items ≡ []
  are_empty empty k d lt = let inside : k < length xs = omega (arith, lt, same) in ap (λ h. h.items) (was k d inside).history ∙ empty k d inside
