use Rattle.page_index.proofs.Cuts.{cut_documents_are_truncated}
use Rattle.page_index.proofs.laws.cut_documents.Goals as goal

pub returns : goal.returns
returns c = cut_documents_are_truncated
