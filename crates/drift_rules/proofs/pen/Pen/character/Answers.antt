use Rattle.std.proofs.Common.{◌≡◌, ◌+ℤ◌, IsTrue, false, refl, arith}
use Rattle.std.proofs.lemmas.Result.{err_from_is_err_and}
use Rattle.pixel_round.specs.Pixels.{round}
use Rattle.drift_rules.specs.Position.{is_held, moved_over}
use Rattle.drift_rules.proofs.Held.{kept, set_kept}
use Rattle.drift_rules.proofs.pen.Pen.character.Goals as goal

pub returns-clause-moved : goal.returns-clause-moved
returns-clause-moved c = λ key code.
    let x = c.self.inside in
    let m = c.in_ok-moved.moved in
    let width = kept c.args.width (omega (arith, c.requires)) in
    let bounded = rw width at c.round-dots.ensures.bounded in
    let dots = kept c.round-dots.result (omega (arith, bounded, c.requires)) in
    let value = rw width at c.round-dots.ensures.value in
    let moved : IsTrue (is_held (x.registers.h +ℤ c.args.width)) × (m ≡ moved_over x.conv x.registers c.args.width (round x.conv c.args.width)) =
    rw (width, dots, value) at c.in_ok-moved.ensures.moved in
    rw (c.if-put.false, ← c.self.view_is) (set_kept x.conv x.registers m x.saved c.args.width moved c.in_ok-moved.ensures.held)

pub returns-in_err-moved-clause-fault : goal.returns-in_err-moved-clause-fault
returns-in_err-moved-clause-fault c =
    let x = c.self.inside in
    let width = kept c.args.width (omega (arith, c.requires)) in
    let no : is_held (x.registers.h +ℤ c.args.width) ≡ false = rw width at c.in_err-moved.ensures.overflow.0 in
    let is = c.in_err-moved.ensures.overflow.1 in
    let p = err_from_is_err_and c.from_residual.result c.from_residual.ensures.1 in
    rw (c.if-put.false, ← c.self.view_is, p.1, p.2, is) (λ key code. rw no refl)
