-- The lines that a run prints to its notes for what its pages lack, and the line that it prints as
-- it ends, unless all pages were written.
use Rattle.std.specs.Prelude.{ℕ, suc, List, [], ◌∷◌, ◌++◌, codes, decimal}
use Rattle.std.specs.List.{flat_map}
use Rattle.page_index.specs.declared.faults.DocFault.{DocFault}
use Rattle.page_draw.specs.Lacks.{LackValue}
use Rattle.page_draw.specs.Values.{DrawnValue}
use Rattle.dvi_run.specs.Pages.{FailingPage}
use Rattle.dvi_run.specs.Endings.{EndingValue, Written, Usage, Document, Page, Source, Input, Output, Notes, Memory}
use Rattle.dvi_run.specs.DocTexts.{doc_place, doc_text}
use Rattle.dvi_run.specs.PageTexts.{fault_text}

abbrev pub document_line : DocFault → List ℕ
document_line fault =
    codes "dvipbm: document: " ++ doc_text fault ++ codes " at " ++ decimal (doc_place fault)
    ++ codes "\n"

-- where on a page; pages are counted from 1
abbrev pub place_text : (page at : ℕ) → List ℕ
place_text page at =
    codes "dvipbm: page " ++ decimal page ++ codes " at " ++ decimal at ++ codes ": "

abbrev pub page_line : FailingPage → List ℕ
page_line p = place_text p.page p.at ++ fault_text p.fault ++ codes "\n"

abbrev pub source_line : ℕ → List ℕ
source_line page = codes "dvipbm: page " ++ decimal page ++ codes ": font source failed\n"

abbrev pub output_line : ℕ → List ℕ
output_line page = codes "dvipbm: page " ++ decimal page ++ codes ": output failed\n"

-- ---- what pages lack

abbrev pub lack_line : (page : ℕ) → LackValue → List ℕ
lack_line page lack =
    place_text page lack.at ++ codes "tolerated " ++ fault_text lack.fault ++ codes "\n"

-- the line of each lack of a page
abbrev pub lack_lines : (page : ℕ) → List LackValue → List ℕ
lack_lines page lacks = flat_map (lack_line page) lacks

-- those of pages that follow one another, the first of which has this number
abbrev pub lacks_from : (page : ℕ) → List DrawnValue → List ℕ
lacks_from page [] = []
lacks_from page (drawn ∷ pages) = lack_lines page drawn.lacks ++ lacks_from (suc page) pages

-- and of a document's first pages
abbrev pub lacks_text : List DrawnValue → List ℕ
lacks_text pages = lacks_from 1 pages

-- ---- the end

abbrev pub line_of : EndingValue → List ℕ
line_of Written = []
line_of Usage = codes "dvipbm: usage\n"
line_of (Document fault) = document_line fault
line_of (Page page) = page_line page
line_of (Source page) = source_line page
line_of Input = codes "dvipbm: input failed\n"
line_of (Output page) = output_line page
line_of Notes = []
line_of Memory = codes "dvipbm: out of memory\n"
