use Rattle.std.proofs.Common.{◌≡◌, List, sym, subst, rules}
use Rattle.outside.specs.Counts.{Rose}
use Rattle.page_draw.specs.Values.{PageValue}
use Rattle.dvi_run.specs.Pages.{AreValues}
use Rattle.dvi_run.specs.Noted.{NotedLacks}
use Rattle.dvi_run.specs.Outside.{change_of}
use Rattle.dvi_run.specs.Endings.{EndsPages, value_of_ending}
use Rattle.dvi_run.specs.Tally.{TallyMatches}
use Rattle.dvi_run.proofs.rounds.write_rounds.Goals as goal

-- the notes as they were left
left_so : {N : Type 0} (P : N → Type 0) (left now : N) → left ≡ now → P now → P left
left_so P left now same p = subst P (sym same) p

pub returns-clause-ends : goal.returns-clause-ends
returns-clause-ends g c =
    let made = c.press_rounds-ending in
    let e = value_of_ending made.result in
    let old = g.O.Output.written c.args.out.now in
    let new = g.O.Output.written made.new.out in
    left_so
    (λ notes. (values : List PageValue) × AreValues (record { library = g.known; res = c.args.job.now.index.now.res; sheet = c.args.job.now.sheet.now }) c.args.job.now.index.now.reading values
    × EndsPages old new (Rose (g.O.Output.faults c.args.out.now) (g.O.Output.faults made.new.out)) (Unit {0}) e c.args.job.now.index.now.reading values
    × TallyMatches c.args.counted (NotedLacks (change_of g.N.Output.written g.N.Output.faults c.args.notes.now notes) made.new.press.tally.noted) old new made.new.press.tally e values)
    _ made.new.press.notes.now (search rules) made.ensures.ends
