use Rattle.std.proofs.Common.{Some, rules}
use Rattle.std.specs.Prelude.{IsOk}
use Rattle.page_workers.proofs.Noted.{draws_on, none_fails}
use Rattle.page_workers.proofs.page_desk.PageDesk.settle.Goals as goal

pub returns-in-Err-clause-draws : goal.returns-in-Err-clause-draws
returns-in-Err-clause-draws g c =
    let e = c.settle-settled.ensures in
    draws_on _ _ _ _ _ _ _ _ _ _ _ _ _ _ (Some c.in-Err.stop) c.requires.draws c.requires.going c.requires.room e.fits e.keys e.room_left e.cause (λ is. rw c.in-Err.is (cc is)) e.trail (λ none. absurd cc)

pub returns-in_default-clause-draws : goal.returns-in_default-clause-draws
returns-in_default-clause-draws g c =
    let e = c.settle-settled.ensures in
    let ok : IsOk c.settle-settled.result = search rules in
    draws_on _ _ _ _ _ _ _ _ _ _ _ _ _ _ c.args.self.now.stop c.requires.draws c.requires.going c.requires.room e.fits e.keys e.room_left e.cause (λ is. absurd (none_fails _ c.requires.going is)) e.trail (λ none. ok)
