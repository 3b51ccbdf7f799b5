use Rattle.std.proofs.Common.{◌∙◌, ℤ, List, Some, is_eq, sym, ap, arith, w32}
use Rattle.std.specs.Map.{lookup}
use Rattle.std.specs.Ordering.{int_cmp}
use Rattle.std.proofs.lemmas.Int.{to_z-of_z}
use Rattle.vf_reader.specs.Locals.{local_with}
use Rattle.vf_reader.specs.declared.locals.LocalDef.{LocalDef}
use Rattle.vf_reader.proofs.Found.{found_at, not_found}
use Rattle.vf_reader.proofs.local_table.LocalTable.get.Goals as goal

pub index-requires : goal.index-requires
index-requires c =
    let key = ap (λ (k : ℤ). lookup (λ x. is_eq (int_cmp k x)) c.self.inside.places.entries) (to_z-of_z w32 c.args.number c.ranges.number) in
    let there = (found_at c.self.inside.places.entries c.self.inside.list.items c.args.number c.in-Some.place.now c.self.invariant (sym key ∙ sym c.in-Some.ensures.value)).0 in
    omega (arith, there)

pub returns-in-Some : goal.returns-in-Some
returns-in-Some c =
    let key = ap (λ (k : ℤ). lookup (λ x. is_eq (int_cmp k x)) c.self.inside.places.entries) (to_z-of_z w32 c.args.number c.ranges.number) in
    ap (λ (locals : List LocalDef). local_with locals c.args.number) (sym c.self.view_is)
    ∙ (found_at c.self.inside.places.entries c.self.inside.list.items c.args.number c.in-Some.place.now c.self.invariant (sym key ∙ sym c.in-Some.ensures.value)).1 c.index.result.now
    ∙ ap Some (sym c.index.ensures)

pub returns-in-None : goal.returns-in-None
returns-in-None c =
    let key = ap (λ (k : ℤ). lookup (λ x. is_eq (int_cmp k x)) c.self.inside.places.entries) (to_z-of_z w32 c.args.number c.ranges.number) in
    ap (λ (locals : List LocalDef). local_with locals c.args.number) (sym c.self.view_is)
    ∙ not_found c.self.inside.places.entries c.self.inside.list.items c.args.number c.self.invariant (sym key ∙ sym c.in-None.ensures.value)
