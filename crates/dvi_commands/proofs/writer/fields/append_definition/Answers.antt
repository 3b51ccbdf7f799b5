use Rattle.std.proofs.Common.{◌≡◌, ◌+◌, ◌-◌, List, ℕ, pos, ◌∷◌, ◌++◌, length, subst, ap, ◌∙◌, arith}
use Rattle.std.specs.Prelude.{OnOk}
use Rattle.std.proofs.lemmas.Int.{ints}
use Rattle.big_endian.specs.Numbers.{number_bytes}
use Rattle.dvi_commands.specs.Spelling.{IsOperand, quad}
use Rattle.dvi_commands.specs.ShortestSpelling.{number_width}
use Rattle.dvi_commands.proofs.Motions.{stored}
use Rattle.dvi_commands.proofs.Written.{definition_written, number_written}
use Rattle.dvi_commands.proofs.writer.fields.append_definition.Goals as goal

pub returns-clause-appended : goal.returns-clause-appended
returns-clause-appended c =
    let d = c.args.definition.now in
    let w = c.number_width-width.result in
    let same : stored d.number ≡ d.number = omega (arith, ints) in
    let same_size : stored d.size ≡ d.size = omega (arith, ints) in
    let same_design : stored d.design ≡ d.design = omega (arith, ints) in
    let number = number_written w d.number c.quad_bytes.result (subst (IsOperand w) same c.number_width-width.ensures.fits) (c.quad_bytes.ensures.bytes ∙ ap quad same) in
    let written = definition_written w d.number d.size d.design d.check d.area (length d.name.now - d.area) d.name.now _ c.to_be_bytes.result c.quad_bytes-2.result c.quad_bytes-3.result number c.to_be_bytes.ensures (c.quad_bytes-2.ensures.bytes ∙ ap quad same_size) (c.quad_bytes-3.ensures.bytes ∙ ap quad same_design) in
    let least : w ≡ number_width d.number = c.number_width-width.ensures.least ∙ ap number_width same in
    let Appended : List ℕ → Type 0 = λ x. OnOk c.append.result (c.append.new.out.items ≡ c.args.out.now.items ++ x) in
    let fields : ℕ → List ℕ = λ k. (((number_bytes k d.number ++ number_bytes 4 (pos d.check)) ++ quad d.size) ++ quad d.design) ++ (d.area ∷ (length d.name.now - d.area) ∷ d.name.now) in
    subst (λ (k : ℕ). Appended ((242 + k) ∷ fields k)) least (subst (λ (x : List ℕ). Appended ((242 + w) ∷ x)) written c.append.ensures.appended)
