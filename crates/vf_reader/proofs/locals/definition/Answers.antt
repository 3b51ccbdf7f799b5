use Rattle.std.proofs.Common.{◌≡◌, ◌∙◌, ◌+◌, ◌-◌, List, ℕ, drop, take, length, get_or, ap, arith, to_z-of_z, w32, rules}
use Rattle.std.proofs.lemmas.List.{take_rest}
use Rattle.vf_reader.specs.Items.{opcode}
use Rattle.vf_reader.proofs.Fields.{definition_is, stored_fits}
use Rattle.vf_reader.proofs.locals.definition.Goals as goal

pub returns-clause-fields : goal.returns-clause-fields
returns-clause-fields c =
    let item = c.args.item.now in
    let f = take (length item - 1) (drop 1 item) in
    let whole : f ≡ drop 1 item = take_rest item 1 in
    let n : c.from-n.result ≡ opcode item - 242 = omega arith in
    definition_is _ _
    (to_z-of_z {w = w32} {z = c.number.result} (let known = c.number.type_inv in search rules) ∙ (cc))
    (cc)
    (to_z-of_z {w = w32} {z = c.signed_at.result} (let known = c.signed_at.type_inv in search rules) ∙ (cc))
    (to_z-of_z {w = w32} {z = c.signed_at-2.result} (let known = c.signed_at-2.type_inv in search rules) ∙ (cc))
    (ap (λ (x : List ℕ). get_or x (c.from-n.result + 12) 0) whole ∙ ap (λ (k : ℕ). get_or (drop 1 item) (k + 12) 0) n)
    (take_rest f (c.from-n.result + 14) ∙ ap (λ (x : List ℕ). drop (c.from-n.result + 14) x) whole ∙ ap (λ (k : ℕ). drop (k + 14) (drop 1 item)) n)

pub returns-clause-fits : goal.returns-clause-fits
returns-clause-fits c =
    stored_fits c.number.result (let known = c.number.type_inv in search rules) (to_z-of_z {w = w32} {z = c.number.result} (let known = c.number.type_inv in search rules))
