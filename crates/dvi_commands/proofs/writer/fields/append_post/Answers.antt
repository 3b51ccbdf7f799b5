use Rattle.std.proofs.Common.{◌≡◌, List, ℕ, [], ◌∷◌, ◌++◌, map, refl, subst, ◌∙◌}
use Rattle.std.specs.Prelude.{OnOk}
use Rattle.std.specs.List.{flat_map}
use Rattle.dvi_commands.specs.Spelling.{quad}
use Rattle.dvi_commands.proofs.Written.{cons_is, elements, elements_fit, pairs_written, quads_written}
use Rattle.dvi_commands.proofs.writer.fields.append_post.Goals as goal

pub returns-clause-appended : goal.returns-clause-appended
returns-clause-appended c =
    let texts : List (List ℕ) = c.quad_at.result ∷ c.quad_at-2.result ∷ c.quad_at-3.result ∷ c.quad_at-4.result ∷ c.quad_at-5.result ∷ c.quad_at-6.result ∷ [] in
    let same : texts ≡ map quad (elements 6 0 c.args.numbers.now) = cons_is c.quad_at.ensures.bytes (cons_is c.quad_at-2.ensures.bytes (cons_is c.quad_at-3.ensures.bytes (cons_is c.quad_at-4.ensures.bytes (cons_is c.quad_at-5.ensures.bytes (cons_is c.quad_at-6.ensures.bytes refl))))) in
    let written = quads_written 6 c.args.numbers.now texts (c.to_be_bytes.result ++ (c.to_be_bytes-2.result ++ [])) c.told-numbers same in
    subst (λ (x : List ℕ). OnOk c.append.result (c.append.new.out.items ≡ c.args.out.now.items ++ (248 ∷ x))) (written ∙ pairs_written (flat_map quad c.args.numbers.now) c.to_be_bytes.result c.to_be_bytes-2.result c.args.deepest c.args.pages c.to_be_bytes.ensures c.to_be_bytes-2.ensures) c.append.ensures.appended

pub returns-clause-fits : goal.returns-clause-fits
returns-clause-fits c = elements_fit 6 c.args.numbers.now c.told-numbers (c.quad_at.ensures.fits, (c.quad_at-2.ensures.fits, (c.quad_at-3.ensures.fits, (c.quad_at-4.ensures.fits, (c.quad_at-5.ensures.fits, (c.quad_at-6.ensures.fits, tt))))))
