use Rattle.std.proofs.Common.{◌∙◌, Result, Ok, Err, IfOk, sym, ap}
use Rattle.std.specs.Prelude.{IsOk}
use Rattle.std.specs.Arc.{arc_value}
use Rattle.cache_core.specs.declared.calls.Done.TheVariants.{Filled}
use Rattle.cache_core.specs.declared.entry.Fill.{Fill}
use Rattle.font_cache.specs.Turns.{NotedCall}
use Rattle.font_decode.specs.Weights.{weight_of}
use Rattle.page_workers.proofs.keeping.keep.Goals as goal

-- what holds of an answer that there is
first_of_ok : {A E : Type 0} (P : A → Type 0) (r : Result A E) → IsOk r → IfOk r P → (a : A) × P a
first_of_ok P (Ok a) ok h = (a, h)
first_of_ok P (Err e) ok h = absurd cc

pub returns-then-is_ok-clause-filled : goal.returns-then-is_ok-clause-filled
returns-then-is_ok-clause-filled g c =
    let key = arc_value c.args.key.now in
    let before = c.args.seat.now.view in
    let after = c.fill.new.seat.view in
    let weight = weight_of (arc_value c.in-Ok.kept) in
    let filled = first_of_ok (λ (f : Fill). NotedCall key (Filled weight f.kept f.gone) before after) c.fill.result (sym c.is_ok.ensures.value ∙ c.if-is_ok.true) c.fill.ensures.noted in
    (weight, filled.0.kept, filled.0.gone, filled.1.own, (arc_value c.args.font, c.requires.stands, ap weight_of c.in-Ok.ensures))
