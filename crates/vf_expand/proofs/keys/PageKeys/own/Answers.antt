use Rattle.std.proofs.Common.{◌≡◌, sym, subst}
use Rattle.std.specs.Prelude.{IfOk}
use Rattle.std.specs.Arc.{arc_value}
use Rattle.outside.specs.declared.keys.FontKey.{FontKey}
use Rattle.vf_expand.proofs.SameKeys.{same_key}
use Rattle.vf_expand.proofs.keys.PageKeys.own.Goals as goal

pub returns-in-Some : goal.returns-in-Some
returns-in-Some c =
    let same = same_key (arc_value c.args.key.now) (arc_value c.in-Some.own.now) c.in-Some.ensures.same_key in
    subst (λ (k : FontKey). IfOk c.try_clone.result (λ own. arc_value own ≡ k)) (sym same) c.try_clone.ensures
