use Rattle.std.proofs.Common.{ℕ, List, pos, [], ◌∷◌, length, ap, refl, subst, sym, arith}
use Rattle.dvi_commands.specs.Spelling.{PutRule}
use Rattle.sample_maker.specs.DviFile.{IsPageText}
use Rattle.sample_maker.proofs.DviSize.{document_size}
use Rattle.sample_maker_tests.proofs.tests.documents.a_page_with_a_rule.Goals as goal

abbrev rule : List ℕ
rule = 0x89 ∷ 0 ∷ 0 ∷ 0 ∷ 4 ∷ 0 ∷ 0 ∷ 0 ∷ 6 ∷ []

rule_is_page : IsPageText rule
rule_is_page = record {
  commands = PutRule (pos 4) (pos 6) ∷ [];
  are = (rule, [], record { whole = refl; spelled = (0, (refl, omega arith, omega arith), refl); allowed = refl }, refl);
  no_end = (refl, tt);
}

pub document-requires-clause-pages : goal.document-requires-clause-pages
document-requires-clause-pages g c = (subst IsPageText (sym c.in_ok-page.ensures.items) rule_is_page, tt)

pub document-requires-clause-fits : goal.document-requires-clause-fits
document-requires-clause-fits g c =
    omega (arith, ap length c.in_ok-page.ensures.items, document_size (record { num = 1270; den = 3; mag = 1000; res = 300 }) [] (c.in_ok-page.page.items ∷ []) (document-requires-clause-pages g c))
