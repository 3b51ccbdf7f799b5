use Rattle.std.proofs.Common.{◌∙◌, ℤ, List, Some, cond, is_eq, ap, w32, FitsSigned, rules}
use Rattle.std.specs.Arc.{arc_value}
use Rattle.std.specs.Map.{lookup}
use Rattle.std.specs.Ordering.{int_cmp}
use Rattle.std.proofs.lemmas.Int.{to_z-of_z}
use Rattle.outside.specs.declared.keys.FontKey.{FontKey}
use Rattle.font_decode.specs.Fonts.{key_with}
use Rattle.font_decode.proofs.KeyTables.{seen_put}
use Rattle.font_decode.proofs.local_keys.LocalKeys.put.Goals as goal

pub returns : goal.returns
returns c = λ k.
    let number = c.args.local.now.number in
    let fits : FitsSigned w32 number = search rules in
    seen_put arc_value number c.args.key c.self.inside.keys.entries c.insert.new.self.entries k
    (c.in_ok-insert.ensures.updates.0 k
    ∙ ap (λ (n : ℤ). cond (is_eq (int_cmp n k)) (Some c.args.key) (lookup (λ x. is_eq (int_cmp k x)) c.self.inside.keys.entries)) (to_z-of_z w32 number fits))
    ∙ ap (λ (keys : List (ℤ × FontKey)). cond (is_eq (int_cmp number k)) (Some (arc_value c.args.key)) (key_with keys k)) c.self.view_is
