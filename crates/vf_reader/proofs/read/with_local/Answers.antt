use Rattle.std.proofs.Common.{◌≡◌, ◌∙◌, ◌++◌, ◌∷◌, [], List, ℤ, Some, None, ap, sym, subst}
use Rattle.std.specs.Option.{MatchOption}
use Rattle.dvi_commands.specs.Spelling.{value_of_definition}
use Rattle.vf_reader.specs.Locals.{local_with}
use Rattle.vf_reader.specs.declared.locals.LocalDef.{LocalDef}
use Rattle.vf_reader.proofs.Fields.{stored_is}
use Rattle.vf_reader.proofs.Defined.{fault_is, local_sound, locals_kept, locals_more}
use Rattle.vf_reader.proofs.read.with_local.Goals as goal

pub returns-in-None : goal.returns-in-None
returns-in-None c = record {
  added = λ before are.
      let d = value_of_definition c.definition-def.result in
      let item = c.args.item.now in
      let known = c.get-known.result in
      let found = subst (λ (k : ℤ). MatchOption known (local_with c.args.locals k ≡ None) (λ local. local_with c.args.locals k ≡ Some local.now)) (stored_is d.number c.definition-def.ensures.fits) c.get-known.ensures in (
        local_sound before item c.requires.kind (sym (fault_is before item c.args.locals known d are c.definition-def.ensures.fields found) ∙ sym c.fault_of.ensures ∙ c.in-None.is),
        locals_kept before item c.args.locals known d c.requires.kind are c.definition-def.ensures.fields found (sym c.is_some.ensures ∙ c.if-is_some.true),
      );
}

pub returns-in_ok-with-in-None-2 : goal.returns-in_ok-with-in-None-2
returns-in_ok-with-in-None-2 c = record {
  added = λ before are.
      let d = value_of_definition c.definition-def.result in
      let item = c.args.item.now in
      let known = c.get-known.result in
      let found = subst (λ (k : ℤ). MatchOption known (local_with c.args.locals k ≡ None) (λ local. local_with c.args.locals k ≡ Some local.now)) (stored_is d.number c.definition-def.ensures.fits) c.get-known.ensures in (
        local_sound before item c.requires.kind (sym (fault_is before item c.args.locals known d are c.definition-def.ensures.fields found) ∙ sym c.fault_of.ensures ∙ c.in-None-2.is),
        locals_more before item c.args.locals c.in_ok-with-in-None-2.field-0 c.in_ok-local-in-None-2.field-0 known d c.requires.kind are c.definition-def.ensures.fields found
            (sym c.is_some.ensures ∙ c.if-is_some.false) c.in_ok-local-in-None-2.ensures (c.in_ok-with-in-None-2.ensures ∙ ap (λ (locals : List LocalDef). locals ++ c.in_ok-local-in-None-2.field-0 ∷ []) c.locals.view_is),
      );
}
