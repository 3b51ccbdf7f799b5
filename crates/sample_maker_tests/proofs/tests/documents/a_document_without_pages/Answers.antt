use Rattle.std.proofs.Common.{[], arith}
use Rattle.sample_maker.proofs.DviSize.{document_size}
use Rattle.sample_maker_tests.proofs.tests.documents.a_document_without_pages.Goals as goal

pub document-requires-clause-fits : goal.document-requires-clause-fits
document-requires-clause-fits g c = omega (arith, document_size (record { num = 1270; den = 3; mag = 1000; res = 300 }) [] [] tt)
