use Rattle.std.proofs.Common.{◌≡◌, true, false, ◌+◌, [], ◌∷◌, ℕ, Vec, Global}
use Rattle.std.specs.Prelude.{is_some}
use Rattle.font_decode.proofs.Asking.{until_now, second_until, third_until, exact_asked, above_asked, below_asked, moved, named_until, named_until_now, on_err, on_err_then}
use Rattle.font_decode.specs.Names.{name_at}
use Rattle.font_decode.proofs.loading.load_nearest.Goals as goal

pub returns-in_err-exact-clause-stopped : goal.returns-in_err-exact-clause-stopped
returns-in_err-exact-clause-stopped g c = on_err c.from_residual.result _ (until_now _ _ _ _ c.in_err-exact.ensures.stopped)

pub returns-in_err-exact-clause-named_until : goal.returns-in_err-exact-clause-named_until
returns-in_err-exact-clause-named_until g c =
    let k = c.args.key.now in
    let name = name_at c.args.units.now k in
    let n = c.args.first in
    on_err c.from_residual.result _ (named_until_now (g.F.FontSource.library c.args.source.now) (name n) (name (n + 1) ∷ name (n + 2) ∷ []) _ _ c.in_err-exact.ensures.stopped)

pub returns-then-is_some-clause-asked : goal.returns-then-is_some-clause-asked
returns-then-is_some-clause-asked g c =
    let there : is_some c.in_ok-exact.exact ≡ true = let h = c.if-is_some.true in let e = c.is_some.ensures in cc in
    exact_asked (is_some c.in_ok-exact.exact) _ _ _ _ _ there c.in_ok-exact.ensures.asked

pub returns-in_err-above-clause-stopped : goal.returns-in_err-above-clause-stopped
returns-in_err-above-clause-stopped g c = on_err c.from_residual-in_err-above.result _ (second_until _ _ _ _ _ _ c.in_ok-exact.ensures.asked c.in_err-above.ensures.stopped)

pub returns-in_err-above-clause-named_until : goal.returns-in_err-above-clause-named_until
returns-in_err-above-clause-named_until g c =
    let k = c.args.key.now in
    let name = name_at c.args.units.now k in
    let n = c.args.first in
    let gone : is_some c.in_ok-exact.exact ≡ false = let h = c.if-is_some.false in let e = c.is_some.ensures in cc in
    on_err c.from_residual-in_err-above.result _ (named_until (λ (v : Vec ℕ Global). v.items) (g.F.FontSource.library c.args.source.now) (name n) (name (n + 1) ∷ name (n + 2) ∷ []) c.in_ok-exact.exact _ _ _
    c.in_ok-exact.ensures.file gone c.in_ok-exact.ensures.asked (named_until_now (g.F.FontSource.library c.args.source.now) (name (n + 1)) (name (n + 2) ∷ []) _ _ c.in_err-above.ensures.stopped))

pub returns-then-is_some-2-clause-asked : goal.returns-then-is_some-2-clause-asked
returns-then-is_some-2-clause-asked g c =
    let there : is_some c.in_ok-above.above ≡ true = let h = c.if-is_some-2.true in let e = c.is_some-2.ensures in cc in
    above_asked (is_some c.in_ok-above.above) _ _ _ _ _ _ there c.in_ok-exact.ensures.asked c.in_ok-above.ensures.asked

pub returns-clause-asked : goal.returns-clause-asked
returns-clause-asked g c = below_asked c.load_file-3.result _ _ _ _ _ _ _ c.in_ok-exact.ensures.asked c.in_ok-above.ensures.asked c.load_file-3.ensures.asked

pub returns-clause-stopped : goal.returns-clause-stopped
returns-clause-stopped g c = on_err_then c.load_file-3.result _ _ (third_until _ _ _ _ _ _ _ c.in_ok-exact.ensures.asked c.in_ok-above.ensures.asked) c.load_file-3.ensures.stopped

pub returns-clause-named_until : goal.returns-clause-named_until
returns-clause-named_until g c =
    let k = c.args.key.now in
    let name = name_at c.args.units.now k in
    let n = c.args.first in
    let gone : is_some c.in_ok-exact.exact ≡ false = let h = c.if-is_some.false in let e = c.is_some.ensures in cc in
    let gone_too : is_some c.in_ok-above.above ≡ false = let h = c.if-is_some-2.false in let e = c.is_some-2.ensures in cc in
    let known = g.F.FontSource.library c.args.source.now in
    on_err_then c.load_file-3.result _ _
    (λ last. named_until (λ (v : Vec ℕ Global). v.items) known (name n) (name (n + 1) ∷ name (n + 2) ∷ []) c.in_ok-exact.exact _ _ _ c.in_ok-exact.ensures.file gone c.in_ok-exact.ensures.asked
    (named_until (λ (v : Vec ℕ Global). v.items) known (name (n + 1)) (name (n + 2) ∷ []) c.in_ok-above.above _ _ _ (moved known _ _ c.in_ok-exact.ensures.library c.in_ok-above.ensures.file) gone_too c.in_ok-above.ensures.asked
    (named_until_now known (name (n + 2)) [] _ _ last)))
    c.load_file-3.ensures.stopped
