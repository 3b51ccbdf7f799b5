use Rattle.std.proofs.Common.{◌≡◌, List, ℕ, [], ◌∷◌, ◌++◌, length, map, refl, subst, ap, ◌∙◌, append-nil}
use Rattle.std.specs.Prelude.{OnOk}
use Rattle.std.specs.List.{flat_map}
use Rattle.dvi_commands.specs.Spelling.{quad}
use Rattle.dvi_commands.proofs.Written.{cons_is, elements, elements_fit, quads_written}
use Rattle.dvi_commands.proofs.writer.fields.append_preamble.Goals as goal

pub returns-clause-appended : goal.returns-clause-appended
returns-clause-appended c =
    let texts : List (List ℕ) = c.quad_at.result ∷ c.quad_at-2.result ∷ c.quad_at-3.result ∷ [] in
    let same : texts ≡ map quad (elements 3 0 c.args.numbers.now) = cons_is c.quad_at.ensures.bytes (cons_is c.quad_at-2.ensures.bytes (cons_is c.quad_at-3.ensures.bytes refl)) in
    let written = quads_written 3 c.args.numbers.now texts (length c.args.text.now ∷ (c.args.text.now ++ [])) c.told-numbers same
    ∙ ap (λ (x : List ℕ). flat_map quad c.args.numbers.now ++ (length c.args.text.now ∷ x)) (append-nil c.args.text.now) in
    subst (λ (x : List ℕ). OnOk c.append.result (c.append.new.out.items ≡ c.args.out.now.items ++ (247 ∷ c.args.id ∷ x))) written c.append.ensures.appended

pub returns-clause-fits : goal.returns-clause-fits
returns-clause-fits c = elements_fit 3 c.args.numbers.now c.told-numbers (c.quad_at.ensures.fits, (c.quad_at-2.ensures.fits, (c.quad_at-3.ensures.fits, tt)))
