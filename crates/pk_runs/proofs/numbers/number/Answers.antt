use Rattle.std.proofs.Common.{◌∙◌, ◌≤◌, arith}
use Rattle.pk_runs.proofs.Hex.{one_nybble, two_nybbles}
use Rattle.pk_runs.proofs.numbers.number.Goals as goal

pub returns-then-first-dyn_f : goal.returns-then-first-dyn_f
returns-then-first-dyn_f c =
    let some : 1 ≤ c.args.first = omega (arith, c.if-first-eq0.false) in
    let p = one_nybble c.args.dyn_f c.args.first c.args.nybbles.now c.requires.runs some c.if-first-dyn_f.true in
    (p.0, p.1, p.2, p.3, c.from.ensures ∙ p.4)

pub returns : goal.returns
returns c = two_nybbles c.args.dyn_f c.args.first c.in_ok-second.second _ c.args.nybbles.now c.next.new.self c.requires.runs c.if-first-dyn_f.false c.requires.no_mark c.in_ok-second.ensures.cases.0 c.in_ok-second.ensures.cases.1
    (omega (arith, c.from-2.ensures, c.from-3.ensures, c.from-4.ensures))
