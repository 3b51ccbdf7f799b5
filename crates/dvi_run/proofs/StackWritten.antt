-- One result that was written.
use Rattle.std.proofs.Common.{ℕ, ◌*◌, ◌≤◌, Bool, List, Option, Result, Ok, Err, IfOk, arith}
use Rattle.page_draw.specs.Values.{value_of_drawn}
use Rattle.page_draw.specs.declared.stop.PageStop.{PageStop}
use Rattle.page_draw.specs.declared.drawn.Drawn.{Drawn}
use Rattle.dvi_run.specs.Rounds.{WroteOutcome}
use Rattle.dvi_run.specs.declared.pages.WriteStop.{WriteStop}
use Rattle.dvi_run.specs.declared.pages.WriteStop.TheVariants as stop
use Rattle.dvi_run.proofs.Dots.{few_counted}
use Rattle.dvi_run.specs.Pages.{black_in}

pub wrote_err : (counted : Bool) (old new : Option (List ℕ)) (P Q : Type 0) (outcome : Result Drawn PageStop) (why : WriteStop) → (P → Q) → WroteOutcome counted old new P outcome (Err why)
    → WroteOutcome counted old new Q outcome (Err why)
wrote_err counted old new P Q (Ok page) (stop.Draw reason) f wrote = absurd wrote
wrote_err counted old new P Q (Ok page) stop.Output f wrote = (wrote.0, f wrote.1)
wrote_err counted old new P Q (Err reason) (stop.Draw cause) f wrote = wrote
wrote_err counted old new P Q (Err reason) stop.Output f wrote = absurd wrote

-- one page has few dots
pub few_in : (counted : Bool) (old new : Option (List ℕ)) (P : Type 0) (outcome : Result Drawn PageStop) (more : ℕ) → IfOk outcome (λ drawn. black_in (value_of_drawn drawn) ≤ 20000 * 20000)
    → WroteOutcome counted old new P outcome (Ok more) → more ≤ 20000 * 20000
few_in counted old new P (Ok page) more few wrote = let small = few_counted counted (value_of_drawn page) few in let is = wrote.1 in omega (arith, small, is)
few_in counted old new P (Err reason) more few wrote = absurd wrote
