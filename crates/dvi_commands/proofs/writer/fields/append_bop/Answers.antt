use Rattle.std.proofs.Common.{◌≡◌, List, ℕ, [], ◌∷◌, ◌++◌, map, refl, subst, ap, ◌∙◌, append-nil, arith}
use Rattle.std.proofs.lemmas.Int.{ints}
use Rattle.big_endian.specs.Numbers.{IsSigned}
use Rattle.dvi_commands.proofs.Motions.{stored}
use Rattle.std.specs.Prelude.{OnOk}
use Rattle.std.specs.List.{flat_map}
use Rattle.dvi_commands.specs.Spelling.{quad}
use Rattle.dvi_commands.proofs.Written.{cons_is, elements, elements_fit, quads_written}
use Rattle.dvi_commands.proofs.writer.fields.append_bop.Goals as goal

pub returns-clause-appended : goal.returns-clause-appended
returns-clause-appended c =
    let texts : List (List ℕ) = c.quad_at.result ∷ c.quad_at-2.result ∷ c.quad_at-3.result ∷ c.quad_at-4.result ∷ c.quad_at-5.result ∷ c.quad_at-6.result ∷ c.quad_at-7.result ∷ c.quad_at-8.result ∷ c.quad_at-9.result ∷ c.quad_at-10.result ∷ [] in
    let same : texts ≡ map quad (elements 10 0 c.args.counts.now) = cons_is c.quad_at.ensures.bytes (cons_is c.quad_at-2.ensures.bytes (cons_is c.quad_at-3.ensures.bytes (cons_is c.quad_at-4.ensures.bytes (cons_is c.quad_at-5.ensures.bytes (cons_is c.quad_at-6.ensures.bytes (cons_is c.quad_at-7.ensures.bytes (cons_is c.quad_at-8.ensures.bytes (cons_is c.quad_at-9.ensures.bytes (cons_is c.quad_at-10.ensures.bytes refl))))))))) in
    let same_back : stored c.args.back ≡ c.args.back = omega (arith, ints) in
    let written = quads_written 10 c.args.counts.now texts (c.quad_bytes.result ++ []) c.told-counts same
    ∙ ap (λ (x : List ℕ). flat_map quad c.args.counts.now ++ x) (append-nil c.quad_bytes.result ∙ c.quad_bytes.ensures.bytes ∙ ap quad same_back) in
    subst (λ (x : List ℕ). OnOk c.append.result (c.append.new.out.items ≡ c.args.out.now.items ++ (139 ∷ x))) written c.append.ensures.appended

pub returns-clause-spelled : goal.returns-clause-spelled
returns-clause-spelled c =
    let same_back : stored c.args.back ≡ c.args.back = omega (arith, ints) in
    let all = elements_fit 10 c.args.counts.now c.told-counts (c.quad_at.ensures.fits, (c.quad_at-2.ensures.fits, (c.quad_at-3.ensures.fits, (c.quad_at-4.ensures.fits, (c.quad_at-5.ensures.fits, (c.quad_at-6.ensures.fits, (c.quad_at-7.ensures.fits, (c.quad_at-8.ensures.fits, (c.quad_at-9.ensures.fits, (c.quad_at-10.ensures.fits, tt)))))))))) in
    (0, (refl, c.told-counts, all, subst (IsSigned 4) same_back c.quad_bytes.ensures.fits), refl)
