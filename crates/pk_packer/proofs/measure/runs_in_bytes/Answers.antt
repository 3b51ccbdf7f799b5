use Rattle.std.proofs.Common.{◌≡◌, ◌∙◌, ℕ, [], ◌∷◌, ◌++◌, Global, Vec, sym, ap, subst, arith, List}
use Rattle.std.proofs.lemmas.Result.{IfOk-weaker}
use Rattle.pk_runs.specs.Numbers.{Run}
use Rattle.pk_packer.specs.Held.{nybbles_written}
use Rattle.pk_packer.specs.Spelling.{HoldNybbles, items_text}
use Rattle.pk_packer.specs.Written.{pixel_rows, with_count, written_runs}
use Rattle.pk_packer.proofs.Begun.{no_runs, reached_first}
use Rattle.pk_packer.proofs.Lengthened.{added_text}
use Rattle.pk_packer.proofs.measure.runs_in_bytes.Goals as goal

pub returns-then-width-eq0 : goal.returns-then-width-eq0
returns-then-width-eq0 c =
    let none : written_runs (pixel_rows c.args.bits.now) ≡ [] = no_runs c.args.bits.now (omega (arith, c.if-width-eq0.true, c.width.ensures.value)) in
    IfOk-weaker c.finish.result (λ (v : Vec ℕ Global). HoldNybbles v.items (nybbles_written c.in_ok-out.out)) (λ (v : Vec ℕ Global). HoldNybbles v.items (items_text c.args.dyn_f (written_runs (pixel_rows c.args.bits.now))))
    (λ v h. subst (λ (l : List ℕ). HoldNybbles v.items l) (c.in_ok-out.ensures.empty ∙ ap (items_text c.args.dyn_f) (sym none)) h) c.finish.ensures

pub loop-step-init : goal.loop-step-init
loop-step-init c = record {
  place = c.row_begin-place.ensures.place;
  high = c.in_ok-out.ensures.high;
  given = ([], reached_first c.args.bits.now c.row_begin-place.result c.row_begin-place.ensures.row c.row_begin-place.ensures.column c.row_begin-place.ensures.more, c.in_ok-out.ensures.empty);
}

pub loop-step-preserved : goal.loop-step-preserved
loop-step-preserved c =
    let g = c.loop-step.invariant.given in
    let count : ℕ = c.in-Some.step.count in
    let len : ℕ = c.in-Some.step.len in
    record {
      place = c.in-Some.ensures.place;
      high = c.write_run.ensures.high;
      given = (
        Run len ∷ with_count count g.0,
        c.in-Some.ensures.step g.0 g.1,
        c.in_ok-write_run.ensures.written ∙ ap (λ l. l ++ items_text c.args.dyn_f (Run len ∷ with_count count [])) g.2 ∙ sym (added_text c.args.dyn_f count len g.0),
      );
    }
