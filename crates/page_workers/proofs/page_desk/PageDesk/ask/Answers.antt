use Rattle.std.proofs.Common.{Some, arith, rules}
use Rattle.std.specs.Prelude.{IsOk}
use Rattle.page_workers.proofs.Noted.{draws_on, none_fails}
use Rattle.page_workers.proofs.page_desk.PageDesk.ask.Goals as goal

pub returns-in-Err-clause-draws : goal.returns-in-Err-clause-draws
returns-in-Err-clause-draws g c =
    let e = c.in_ok-settle.ensures in
    let f = c.font-answer.ensures in
    draws_on _ _ _ _ _ _ _ _ _ _ _ _ _ _ (Some c.in-Err.stop) e.draws e.goes_on (omega (arith, c.requires.room, e.same_room)) f.still_fits e.draws.keys (omega (arith, f.room)) f.cause
    (λ is. rw c.in-Err.is (cc is)) f.trail (λ none. absurd cc)

pub returns-in_default-clause-draws : goal.returns-in_default-clause-draws
returns-in_default-clause-draws g c =
    let e = c.in_ok-settle.ensures in
    let f = c.font-answer.ensures in
    let ok : IsOk c.font-answer.result = search rules in
    draws_on _ _ _ _ _ _ _ _ _ _ _ _ _ _ c.settle.new.self.stop e.draws e.goes_on (omega (arith, c.requires.room, e.same_room)) f.still_fits e.draws.keys (omega (arith, f.room)) f.cause
    (λ is. absurd (none_fails _ e.goes_on is)) f.trail (λ none. ok)
