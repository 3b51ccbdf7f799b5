use Rattle.std.proofs.Common.{◌≡◌, ◌++◌, ◌∷◌, [], ◌∙◌, ℕ, Result, Ok, Err, IfOk, sym, ap, subst}
use Rattle.std.specs.Prelude.{IsOk}
use Rattle.std.specs.Arc.{arc_value}
use Rattle.cache_core.specs.States.{call}
use Rattle.cache_core.specs.declared.calls.Done.TheVariants.{Filled}
use Rattle.cache_core.specs.declared.entry.Fill.{Fill}
use Rattle.font_decode.specs.Weights.{weight_of}
use Rattle.page_draw.proofs.keeping.keep.Goals as goal

-- what holds of an answer that there is
first_of_ok : {A E : Type 0} (P : A → Type 0) (r : Result A E) → IsOk r → IfOk r P → (a : A) × P a
first_of_ok P (Ok a) ok h = (a, h)
first_of_ok P (Err e) ok h = absurd cc

pub returns-then-is_ok-clause-filled : goal.returns-then-is_ok-clause-filled
returns-then-is_ok-clause-filled c =
    let k = arc_value c.args.key.now in
    let noted = λ (w : ℕ) (f : Fill). c.fill.new.self.history ≡ c.args.cache.now.history ++ call 1 k (Filled w f.kept f.gone) ∷ [] in
    let filled = first_of_ok (noted (weight_of (arc_value c.in-Ok.kept))) c.fill.result (sym c.is_ok.ensures.value ∙ c.if-is_ok.true) c.fill.ensures.noted in
    (filled.0.kept, filled.0.gone, subst (λ (w : ℕ). noted w filled.0) (ap weight_of c.in-Ok.ensures) filled.1)
