use denote.Param.Send.{sendable}
use Rattle.std.proofs.Common.{◌≡◌, ◌∙◌, ◌++◌, ℕ, Some, IsTrue, length, take, drop, get_or, map, sym, ap, subst, arith, rules}
use Rattle.std.specs.Prelude.{string_bytes}
use Rattle.std.proofs.Math.Seq.{take-append_seam}
use Rattle.dvi_run.specs.Outside.{Sources, StreamChange, Streams, change_of}
use Rattle.dvi_run.specs.Reading.{input_change}
use Rattle.dvi_run.specs.Together.{IsReadyWorker}
use Rattle.real_streams.specs.Used.{unused_reader, unused_writer}
use Rattle.real_outside.specs.Program.{Began, KeepsWords, writer_change}
use Rattle.real_outside.proofs.Streams.{same_stream}
use Rattle.real_outside.proofs.Words.{keeps_over, keeps_words, of_equals}
use Rattle.real_outside.proofs.program.draw_by.Goals as goal

pub dvipbm_run-status-requires : goal.dvipbm_run-status-requires
dvipbm_run-status-requires g c κs within =
    let q = c.requires.1.1.1.1.1.1.1.1.1 in
    let ws = c.deref_mut.result.now in
    let same : ws ≡ c.args.workers.items = c.deref_mut.ensures.value in
    let long : length ws ≡ 32 = ap length same ∙ q.1.1.0 in
    (search rules fits 100000 depth 60, (search rules fits 100000 depth 60, (search rules fits 100000 depth 60, (search rules fits 100000 depth 60, (search rules fits 100000 depth 60, (search (sendable, rules, c.requires.1.1.1.1.1.1.1.0) fits 100000 depth 60, (search rules fits 100000 depth 60, (omega (arith, long), (omega (arith, long), (λ k d lt. subst (λ xs. IsReadyWorker g.F.FontSource.library g.told (get_or xs k d)) (sym same) (q.1.1.1 k d (omega (arith, lt, long))), search rules))))))))))

pub returns-clause-promises : goal.returns-clause-promises
returns-clause-promises g c =
    let q = c.requires.1.1.1.1.1.1.1.1.1 in
    let ran = c.dvipbm_run-status.ensures in
    let now = c.dvipbm_run-status.new in
    let status = c.dvipbm_run-status.result in
    let words = map string_bytes c.args.words.now in
    let ws = c.deref_mut.result.now in
    let same : ws ≡ c.args.workers.items = c.deref_mut.ensures.value in
    let long : length ws ≡ 32 = ap length same ∙ q.1.1.0 in
    let len : length now.workers ≡ c.args.workers.len = omega (arith, c.dvipbm_run-status.auto.workers, c.deref_mut.ensures.len) in
    let rest = drop (length now.workers) c.args.workers.items in
    let seam : take c.args.workers.len (now.workers ++ rest) ≡ now.workers = subst (λ (n : ℕ). take n (now.workers ++ rest) ≡ now.workers) len (take-append_seam now.workers rest) in
    let sources : Sources _ = record { library = g.F.FontSource.library; faults = g.F.FontSource.faults; loads = g.F.FontSource.loads } in
    let s : Streams = record {
      input = input_change (λ i. g.R.Read.remaining i.from.reader) (λ i. i.from.log.bytes) (λ i. IsTrue i.from.is_ended) (λ i. i.faults) c.new-input.result now.input;
      output = change_of (λ w. Some w.to.log.bytes) (λ w. w.faults) c.new-out.result now.out;
      notes = change_of (λ w. Some w.to.log.bytes) (λ w. w.faults) c.new-notes.result now.notes;
    } in
    let run : Began _ = record { known = g.told; streams = s; sources = sources; before = ws; after = now.workers; history = now.history.items } in
    let ran_so : KeepsWords words run status =
    keeps_words words run status (length ws) long _ _ (λ e. e) (λ e. ap (λ v. v.items) e ∙ c.new-history.ensures.items) ran.usage ran.refused ran.promises ran.counts in
    let out : StreamChange = writer_change c.args.out c.into_used.result in
    let notes : StreamChange = writer_change c.args.notes c.into_used-2.result in
    let used = c.into_used.ensures in
    let noted = c.into_used-2.ensures in
    let new_out = c.new-out.ensures in
    let new_notes = c.new-notes.ensures in
    let over =
    keeps_over words run status s out notes (same_stream _ _ _ _ new_out.taken new_out.faults) (same_stream _ _ _ _ (sym used.log) (sym used.faults))
    (λ e. used.untouched (ap (λ w. w.to.log.bytes) e ∙ new_out.taken) (ap (λ w. w.faults) e ∙ new_out.faults) ∙ ap unused_writer (ap (λ w. w.to.writer) e ∙ new_out.writer))
    (same_stream _ _ _ _ new_notes.taken new_notes.faults) (same_stream _ _ _ _ (sym noted.log) (sym noted.faults)) ran_so in
    of_equals c.new-input.result (unused_reader c.args.reader) ws c.args.workers.items now.workers _
    (λ i before after. KeepsWords words (record {
      known = g.told;
      streams = record {
        input = input_change (λ i. g.R.Read.remaining i.from.reader) (λ i. i.from.log.bytes) (λ i. IsTrue i.from.is_ended) (λ i. i.faults) i now.input;
        output = out;
        notes = notes;
      };
      sources = sources;
      before = before;
      after = after;
      history = now.history.items;
    }) status) c.new-input.ensures.unused same (sym seam) over
