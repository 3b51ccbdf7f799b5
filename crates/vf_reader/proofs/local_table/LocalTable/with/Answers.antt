use Rattle.std.proofs.Common.{◌≡◌, ◌∙◌, ℕ, ℤ, List, Some, cond, length, is_eq, sym, ap, subst, arith}
use Rattle.std.specs.Map.{lookup}
use Rattle.std.specs.Ordering.{int_cmp}
use Rattle.vf_reader.specs.Locals.{local_with}
use Rattle.vf_reader.specs.Places.{ArePlaces}
use Rattle.vf_reader.specs.declared.locals.LocalDef.{LocalDef}
use Rattle.vf_reader.proofs.Fields.{stored_is}
use Rattle.vf_reader.proofs.Found.{places_with}
use Rattle.vf_reader.proofs.local_table.LocalTable.with.Goals as goal

pub invariant_of-result : goal.invariant_of-result
invariant_of-result c =
    let old = c.self.inside.places.entries in
    let items = c.self.inside.list.items in
    let len : c.len.result ≡ length items = omega arith in
    subst (ArePlaces c.put.new.places.entries) (sym c.in_ok-push.ensures.items)
    (places_with items c.args.local old c.put.new.places.entries (ap (λ (locals : List LocalDef). local_with locals c.args.local.number) c.self.view_is ∙ c.requires.absent) c.self.invariant
    (λ q. c.in_ok-put.ensures q ∙ ap (λ (k : ℤ). cond (is_eq (int_cmp k q)) (Some c.len.result) (lookup (λ x. is_eq (int_cmp q x)) old)) (stored_is c.args.local.number c.requires.fits) ∙ ap (λ (n : ℕ). cond (is_eq (int_cmp c.args.local.number q)) (Some n) (lookup (λ x. is_eq (int_cmp q x)) old)) len))
