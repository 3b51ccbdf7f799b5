use Rattle.std.proofs.Common.{◌≤◌, ◌∙◌, arith}
use Rattle.pk_runs.proofs.Hex.{one_nybble}
use Rattle.pk_runs.proofs.Steps.{read_one, read_repeat, second_mark}
use Rattle.pk_runs.proofs.items.next.next_item.Goals as goal

pub returns-then-first-dyn_f : goal.returns-then-first-dyn_f
returns-then-first-dyn_f c =
    let some : 1 ≤ c.in-Some.first = omega (arith, c.if-first-dyn_f.true, c.requires) in
    let few : c.in-Some.first ≤ c.args.dyn_f = omega (arith, c.if-first-dyn_f.true, some) in
    let p = one_nybble c.args.dyn_f c.in-Some.first c.next.new.self c.requires some few in
    (p.0, p.1, c.in-Some.ensures.cases.0 ∙ p.2, p.3, c.from.ensures ∙ p.4)

pub returns-then-first-eq15 : goal.returns-then-first-eq15
returns-then-first-eq15 c = read_one c.args.dyn_f c.in-Some.first c.args.nybbles.now c.next.new.self c.args.repeated c.in-Some.ensures.cases.0 c.if-first-eq15.true c.if-repeated.false

pub returns-then-second-ge14 : goal.returns-then-second-ge14
returns-then-second-ge14 c = second_mark c.args.dyn_f c.in-Some.first c.in-Some-next.second c.args.row c.args.nybbles.now c.next.new.self c.next-2.new.self c.args.repeated
    c.in-Some.ensures.cases.0 c.in-Some.ensures.cases.1 c.if-first-lt14.false c.if-first-eq15.false c.in-Some-next.ensures.cases.0 c.in-Some-next.ensures.cases.1 c.if-second-ge14.true

pub returns-in-Some-number-2 : goal.returns-in-Some-number-2
returns-in-Some-number-2 c = read_repeat c.args.dyn_f c.in-Some.first c.in-Some-next.second c.in-Some-number-2.n c.args.nybbles.now c.next.new.self c.next-2.new.self c.number-2.new.nybbles c.args.repeated
    c.in-Some.ensures.cases.0 c.in-Some.ensures.cases.1 c.if-first-lt14.false c.if-first-eq15.false c.if-repeated.false c.in-Some-next.ensures.cases.0 c.in-Some-number-2.ensures
