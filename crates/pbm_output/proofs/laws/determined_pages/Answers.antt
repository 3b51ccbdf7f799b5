use Rattle.pbm_output.proofs.Determined.{texts_determine_the_page}
use Rattle.pbm_output.proofs.laws.determined_pages.Goals as goal

pub returns : goal.returns
returns c = texts_determine_the_page
