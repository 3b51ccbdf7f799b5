use Rattle.std.proofs.Common.{◌∙◌, ℤ, List, is_eq, sym, ap, w32}
use Rattle.std.specs.Arc.{arc_value}
use Rattle.std.specs.Map.{lookup}
use Rattle.std.specs.Option.{option_map}
use Rattle.std.specs.Ordering.{int_cmp}
use Rattle.std.proofs.lemmas.Int.{to_z-of_z}
use Rattle.outside.specs.declared.keys.FontKey.{FontKey}
use Rattle.font_decode.specs.Fonts.{key_with}
use Rattle.font_decode.proofs.KeyTables.{found, seen_there}
use Rattle.font_decode.proofs.local_keys.LocalKeys.get.Goals as goal

pub returns : goal.returns
returns c =
    found arc_value c.get.result _ _ c.get.ensures.value
    (ap (λ (keys : List (ℤ × FontKey)). key_with keys c.args.number) (sym c.self.view_is)
    ∙ seen_there arc_value c.args.number c.self.inside.keys.entries
    ∙ ap (λ (k : ℤ). option_map arc_value (lookup (λ n. is_eq (int_cmp k n)) c.self.inside.keys.entries)) (sym (to_z-of_z w32 c.args.number c.ranges.number)))
