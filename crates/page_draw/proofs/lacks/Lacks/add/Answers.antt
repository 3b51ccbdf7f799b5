use Rattle.std.proofs.Common.{◌≡◌, ◌∙◌, true, false, List, [], ◌∷◌, ◌++◌, ap, sym}
use Rattle.vf_expand.specs.Faults.{value_of_fault}
use Rattle.vf_expand.specs.declared.lack.Lack.{Lack}
use Rattle.page_draw.specs.Lacks.{is_known, value_of_lack, values_of, with_lack}
use Rattle.page_draw.proofs.Known.{added, known_more, passed_over}
use Rattle.page_draw.proofs.lacks.Lacks.add.Goals as goal

pub returns-then-contains : goal.returns-then-contains
returns-then-contains c =
    let fault = value_of_fault c.args.lack.fault in
    let known : is_known (values_of c.args.self.now) fault ≡ true =
    ap (λ (ls : List Lack). is_known (values_of ls) fault) (sym c.self.view_is)
    ∙ sym (c.self.invariant fault c.in_ok-missing.missing c.in_ok-missing.ensures) ∙ sym c.contains.ensures ∙ c.if-contains.true in
    passed_over c.args.self.now c.args.lack known

pub invariant_of-self-2 : goal.invariant_of-self-2
invariant_of-self-2 c =
    let same : c.push_reserved.new.self.items ≡ c.self.inside.list.items ++ c.args.lack ∷ [] =
    c.push_reserved.ensures.items ∙ ap (λ (ls : List Lack). ls ++ c.args.lack ∷ []) c.in_ok-reserve.ensures.items in
    λ f m named.
    known_more c.self.inside.list.items c.args.lack c.in_ok-missing.missing c.self.inside.known c.insert.new.self c.self.invariant c.in_ok-missing.ensures c.in_ok-insert.ensures.updates f m named
    ∙ ap (λ (ls : List Lack). is_known (values_of ls) f) (sym same)

pub returns : goal.returns
returns c =
    let fault = value_of_fault c.args.lack.fault in
    let same : c.push_reserved.new.self.items ≡ c.self.inside.list.items ++ c.args.lack ∷ [] =
    c.push_reserved.ensures.items ∙ ap (λ (ls : List Lack). ls ++ c.args.lack ∷ []) c.in_ok-reserve.ensures.items in
    let none : is_known (values_of c.self.inside.list.items) fault ≡ false =
    sym (c.self.invariant fault c.in_ok-missing.missing c.in_ok-missing.ensures) ∙ sym c.contains.ensures ∙ c.if-contains.false in
    ap values_of same ∙ added c.self.inside.list.items c.args.lack none
    ∙ ap (λ (ls : List Lack). with_lack (values_of ls) (value_of_lack c.args.lack)) c.self.view_is
