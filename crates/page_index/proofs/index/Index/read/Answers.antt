use Rattle.std.proofs.Common.{ℕ, subst, sym}
use Rattle.page_index.specs.Document.{IsDocument, Reading}
use Rattle.page_index.specs.Faults.{IsFirstFault}
use Rattle.page_index.proofs.Ended.{document, index, reading_there, tail_is_fault}
use Rattle.page_index.proofs.index.Index.read.Goals as goal

pub returns-in-Err-clause-stop : goal.returns-in-Err-clause-stop
returns-in-Err-clause-stop c =
    let w = c.in_ok-walk.walk in
    subst (λ (res : ℕ). IsFirstFault res c.args.bytes.now c.in-Err.fault) c.in_ok-first.ensures.resolution
    (tail_is_fault c.args.bytes.now c.in_ok-first.first w.progress w.pages.items w.fonts c.in_ok-walk.ensures.read c.in_ok-walk.ensures.ended c.in-Err.fault c.in-Err.ensures.fault)

pub invariant_of-result : goal.invariant_of-result
invariant_of-result c = let w = c.in_ok-walk.walk in index c.args.bytes.now c.in_ok-first.first w.progress w.pages.items w.fonts c.in_ok-walk.ensures.read c.in_ok-walk.ensures.ended

pub returns-clause-document : goal.returns-clause-document
returns-clause-document c =
    let w = c.in_ok-walk.walk in
    let read = c.in_ok-walk.ensures.read in
    let ended = c.in_ok-walk.ensures.ended in
    subst (λ (r : Reading). IsDocument c.args.res c.args.bytes.now r) (sym (reading_there c.args.bytes.now c.in_ok-first.first w.progress w.pages.items w.fonts read ended))
    (subst (λ (res : ℕ). IsDocument res c.args.bytes.now read.reading) c.in_ok-first.ensures.resolution
    (document c.args.bytes.now c.in_ok-first.first w.progress w.pages.items w.fonts read ended c.in_default.ensures.right))
