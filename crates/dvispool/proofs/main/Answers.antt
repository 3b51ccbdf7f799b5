use Rattle.real_streams.specs.contracts.fonts.OpenedFonts.{the_row as opened_row}
use Rattle.real_streams.specs.contracts.folder.FolderOpener.{the_row as opener_row}
use Rattle.std.specs.contracts.rt.LibcRuntime.{the_row as runtime_row}
use denote.Param.Send.{IsSend, sendable}
use Rattle.real_streams.proofs.folder.FolderOpener.TheSendSync.{the_send as opener_send}
use Rattle.real_streams.proofs.fonts.OpenedFonts.TheSendSync.{the_send}
use Rattle.std.proofs.Common.{◌≡◌, ◌⊎◌, ◌≤◌, ◌∙◌, ℕ, List, [], Some, None, Err, inl, inr, length, get_or, ap, sym, subst, arith, rules}
use Rattle.std.specs.Prelude.{map, string_bytes}
use Rattle.std.proofs.lemmas.List.{length-map}
use Rattle.page_workers.specs.Seating.{IsUnused}
use Rattle.dvi_run.proofs.RunOfWorkers.{ready_unknown}
use Rattle.job_spool.specs.Words.{Text, names_of, pairs_of_words, spool_numbers}
use Rattle.job_spool.specs.declared.numbers.SpoolNumbers.{SpoolNumbers}
use Rattle.job_spool.proofs.Given.{given}
use Rattle.dvispool.proofs.main.Goals.{in-Ok-spool_pairs, in-Err-Usage}
use Rattle.dvispool.proofs.main.Goals as goal

-- there are enough workers and as many jobs as pairs, where the words are a line
fits_line : (words read : List Text) (jobs workers : ℕ) → words ≡ read → workers ≡ 32 → ((spool_numbers read ≡ None) ⊎ (jobs ≡ length (pairs_of_words read))) → (numbers : SpoolNumbers) → spool_numbers words ≡ Some numbers
    → (numbers.workers ≤ workers) × (jobs ≡ length (pairs_of_words words))
fits_line words read jobs workers same all either numbers is =
    let most = (given words numbers is).0.workers.1 in (
      omega (arith, most, all),
      elim either [
        | inl none ↦ absurd (let bad : Some numbers ≡ None = sym is ∙ ap spool_numbers same ∙ none in cc)
        | inr count ↦ count ∙ ap (λ (l : List Text). length (pairs_of_words l)) (sym same)
      ],
    )

pub spool_run-status-requires : goal.spool_run-status-requires
spool_run-status-requires g c κs =
    let fonts_send : (ℓ : _) → IsSend (opened_row (opener_row ℓ runtime_row)) = λ ℓ. the_send (opener_row ℓ runtime_row) (opener_send ℓ runtime_row (search (sendable, rules) fits 100000 depth 60)) in
    let made = c.in-Ok-workers_over.ensures in
    let ws = c.deref_mut-2.result.now in
    let same : ws ≡ c.in-Ok-workers_over.workers.items = c.deref_mut-2.ensures.value in
    let long : length ws ≡ length c.in-Ok-workers_over.workers.items = ap length same in
    let all : length ws ≡ 32 = long ∙ made.count in
    let js = c.deref_mut.result.now in
    let are : js ≡ c.in-Ok-jobs_of.jobs.items = c.deref_mut.ensures.value in
    let count : length js ≡ length c.deref-2.result.now = ap length are ∙ c.in-Ok-jobs_of.ensures.count in
    let pairs : length js ≡ length c.match-spool_pairs.pairs.items = count ∙ ap length c.deref-2.ensures.value in
    let read : List Text = map string_bytes c.deref.result.now in
    let words : List Text = map string_bytes c.deref-3.result.now in
    let once : words ≡ read = ap (map string_bytes) (c.deref-3.ensures.value ∙ sym c.deref.ensures.value) in
    let either : (spool_numbers read ≡ None) ⊎ (length js ≡ length (pairs_of_words read)) =
    elim c.match-spool_pairs.branch [
      | in-Ok-spool_pairs w ↦ inr (pairs ∙ ap (λ v. length v.items) w.pairs-is ∙ sym (length-map w.in-Ok-spool_pairs.pairs.items names_of) ∙ ap length w.in-Ok-spool_pairs.ensures.pairs)
      | in-Err-Usage w ↦ inl (w.in-Err-Usage.ensures.usage (ap Err w.in-Err-Usage.field-0-is))
    ] in (
      search rules fits 100000 depth 60,
      (
        search rules fits 100000 depth 60,
        (
          search rules fits 100000 depth 60,
          (
            search rules fits 100000 depth 60,
            (
              search rules fits 100000 depth 60,
              (
                search (sendable, rules, fonts_send) fits 100000 depth 60,
                (
                  search rules fits 100000 depth 60,
                  (
                    omega (arith, all),
                    (
                      omega (arith, all),
                      (
                        λ k d lt. ready_unknown _ (get_or ws k d) (subst (λ xs. IsUnused (get_or xs k d)) (sym same) (made.unused k d (omega (arith, lt, all)))),
                        (
                          fits_line words read (length js) (length ws) once all either,
                          λ k d lt. subst (λ xs. (get_or xs k d).history.items ≡ []) (sym are) (c.in-Ok-jobs_of.ensures.empty k d (omega (arith, lt, count))),
                        ),
                      ),
                    ),
                  ),
                ),
              ),
            ),
          ),
        ),
      ),
    )
