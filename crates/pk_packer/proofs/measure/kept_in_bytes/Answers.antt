use Rattle.std.proofs.Common.{◌≡◌, ◌∙◌, ◌+◌, [], ◌∷◌, ◌++◌, List, take, sym, ap}
use Rattle.std.proofs.lemmas.List.{take_more}
use Rattle.pk_runs.specs.Numbers.{Item, Run}
use Rattle.pk_packer.specs.Kept.{with_runs}
use Rattle.pk_packer.specs.Spelling.{items_text}
use Rattle.pk_packer.specs.Written.{with_count}
use Rattle.pk_packer.specs.declared.counted.CountedRun.{CountedRun}
use Rattle.pk_packer.proofs.KeptRuns.{with_more}
use Rattle.pk_packer.proofs.Lengthened.{added_text}
use Rattle.pk_packer.proofs.measure.kept_in_bytes.Goals as goal

pub loop-i-preserved : goal.loop-i-preserved
loop-i-preserved c =
    let run : CountedRun = c.index-runs-i.result in
    let before : List Item = with_runs [] (take c.loop-i.i c.args.runs.now) in
    let more : take (c.loop-i.i + 1) c.args.runs.now ≡ take c.loop-i.i c.args.runs.now ++ run ∷ [] =
    take_more c.args.runs.now c.loop-i.i run c.loop-i-test.true ∙ ap (λ (r : CountedRun). take c.loop-i.i c.args.runs.now ++ r ∷ []) (sym c.index-runs-i.is) in
    record {
      high = c.write_run.ensures.high;
      written =
          c.in_ok-write_run.ensures.written ∙ ap (λ l. l ++ items_text c.args.dyn_f (Run run.len ∷ with_count run.count [])) c.loop-i.invariant.written
          ∙ sym (added_text c.args.dyn_f run.count run.len before)
          ∙ ap (items_text c.args.dyn_f) (sym (ap (with_runs []) more ∙ with_more [] (take c.loop-i.i c.args.runs.now) run));
    }
