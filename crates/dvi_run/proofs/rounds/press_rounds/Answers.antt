use Rattle.std.proofs.Common.{◌≡◌, ◌≤◌, ◌<◌, ◌+◌, ◌*◌, ℕ, Bool, true, List, [], length, get_or, refl, sym, ap, subst, ◌∙◌, arith, rules}
use Rattle.std.specs.Prelude.{None, Some}
use Rattle.outside.specs.Counts.{Rose}
use Rattle.outside.proofs.Growth.{rose_later}
use Rattle.page_index.specs.Document.{pages_begun}
use Rattle.page_draw.specs.Values.{DrawnValue}
use Rattle.page_workers.specs.declared.worker.PageResult.{PageResult}
use Rattle.page_workers.specs.declared.worker.Worker.{Worker}
use Rattle.dvi_run.specs.Endings.{EndingValue, Memory, ending_at, value_of_ending}
use Rattle.dvi_run.specs.declared.pages.Press.{Press}
use Rattle.dvi_run.specs.declared.pages.WriteStop.{WriteStop}
use Rattle.dvi_run.specs.declared.tally.Tally.{Tally}
use Rattle.dvi_run.specs.Noted.{NotedLacks}
use Rattle.dvi_run.specs.Outside.{change_of}
use Rattle.dvi_run.specs.Pressing.{drawn_in}
use Rattle.dvi_run.specs.Rounds.{site}
use Rattle.dvi_run.proofs.Noting.{noted_more, noted_none}
use Rattle.dvi_run.proofs.Pressed.{Noting, Pressed}
use Rattle.dvi_run.proofs.RoundPressed.{Ends, all_written, at_now, below_all, ends_here, ends_rested, last_now, pressed_as, pressed_so, workers_here, workers_rested, workers_written, written_now}
use Rattle.dvi_run.proofs.RoundsInProgress.{IsCount, is_count, nothing_at_hand}
use Rattle.dvi_run.proofs.PagesWritten.{IsWrittenTo, written_none}
use Rattle.dvi_run.proofs.WorkersAfterRounds.{WorkersAfterRounds}
use Rattle.dvi_run.proofs.rounds.press_rounds.Goals as goal

pub loop-first-init : goal.loop-first-init
loop-first-init g c =
    let s = site g.F.FontSource.library g.F.FontSource.faults g.F.FontSource.loads c.args.job.now.bench.now g.known c.args.job.now.index.now c.args.job.now.sheet.now in
    let xs = c.args.workers.now in
    let q = c.requires.1.1.1.1.1.1 in
    let start = c.args.press.now.notes.now in
    let old = g.O.Output.written c.args.out.now in
    let first : c.args.press.now.tally ≡ record { pages = 0; black = 0; noted = true } = q.1.1.1.0 in
    let Are : Bool → List DrawnValue → Type 0 = λ noted. NotedLacks (change_of g.N.Output.written g.N.Output.faults start start) noted in
    record {
      hand = (0, [], nothing_at_hand s (length xs) xs q.1.1.0, λ r has. let less : has.0 < 0 = has.1 in absurd (omega arith));
      written = subst (λ (t : Tally). IsWrittenTo s.given s.reading old old t.pages c.args.press.now.counted t.black (Are t.noted)) (sym first)
          (written_none s.given s.reading old c.args.press.now.counted (Are true) (noted_none g.N.Output.written g.N.Output.faults start));
      at = ap (λ (t : Tally). t.pages) first;
      goes_on = q.1.1.1.1;
      counted = refl;
      black = subst (λ (t : Tally). t.black ≤ t.pages * (20000 * 20000)) (sym first) (omega arith);
      output = omega arith;
      same_notes = refl;
    }

pub returns-in-Err : goal.returns-in-Err
returns-in-Err g c =
    let s = site g.F.FontSource.library g.F.FontSource.faults g.F.FontSource.loads c.args.job.now.bench.now g.known c.args.job.now.index.now c.args.job.now.sheet.now in
    let xs = c.args.workers.now in
    let n = length xs in
    let q = c.requires.1.1.1.1.1.1 in
    let ws = c.loop-first.workers in
    let next = c.loop-first.first in
    let t = c.loop-first.press.tally in
    let inv = c.loop-first.invariant in
    let start = c.args.press.now.notes.now in
    let AreAt : Press _ → List DrawnValue → Type 0 = λ p. NotedLacks (change_of g.N.Output.written g.N.Output.faults start p.notes.now) p.tally.noted in
    let Are = AreAt c.loop-first.press in
    let pages = c.pages-pages.ensures.count in
    let old = g.O.Output.written c.args.out.now in
    let mid = g.O.Output.written c.loop-first.out in
    let now = c.hand_round.new.workers in
    let u = c.hand_round.new.taker.tally in
    let new = g.O.Output.written c.hand_round.new.out in
    let Fails = Rose (g.O.Output.faults c.args.out.now) (g.O.Output.faults c.hand_round.new.out) in
    let long : length ws ≡ n = c.loop-first.auto.workers in
    let same : length now ≡ length ws = search rules in
    let counters : (k : ℕ) (d : Worker _) → k < n → (get_or now k d).counter ≡ None = λ k d lt. c.hand_round.ensures.no_counter k d (subst (λ (m : ℕ). k < m) (sym long) lt) in
    let below : next < pages_begun c.args.job.now.index.now.reading = omega (arith, c.loop-first-test.true, pages) in
    let rest = c.in-Err.ensures.refused in
    let tally : u ≡ t = ap (λ (p : Press _). p.tally) rest.1 in
    let output : g.O.Output.faults c.hand_round.new.out ≡ g.O.Output.faults c.loop-first.out = ap g.O.Output.faults rest.2 in
    let ending : value_of_ending c.ending_of_stop.result ≡ Memory = c.ending_of_stop.ensures ∙ ap (λ (x : WriteStop). ending_at (u.pages + 1) x) c.into.ensures in
    let over : WorkersAfterRounds s n xs q.0 q.1.1.0 now (value_of_ending c.ending_of_stop.result) u = subst (λ (e : EndingValue). WorkersAfterRounds s n xs q.0 q.1.1.0 now e u) (sym ending)
    (subst (λ (v : Tally). WorkersAfterRounds s n xs q.0 q.1.1.0 now Memory v) (sym tally) (workers_rested s n xs q.0 q.1.1.0 ws next inv.hand old mid c.args.press.now.counted t Are inv.written inv.at now counters long rest.0)) in
    record {
      ends = subst (λ (e : EndingValue). Ends s n xs q.0 q.1.1.0 old new Fails c.args.press.now.counted (AreAt c.hand_round.new.taker) e u) (sym ending)
          (subst (λ (p : Press _). Ends s n xs q.0 q.1.1.0 old new Fails c.args.press.now.counted (AreAt p) Memory p.tally) (sym rest.1) (ends_rested s n xs q.0 q.1.1.0 ws next inv.hand old mid c.args.press.now.counted t Are inv.written inv.at new Fails (ap g.O.Output.written rest.2) below));
      whole = over.whole;
      cause = over.cause;
      shares = over.shares;
      workers = over.workers;
      output = omega (arith, inv.output, output);
      same_notes = ap (λ (p : Press _). p.notes.ghost_name) rest.1 ∙ inv.same_notes;
    }

pub ending_of_stop-requires-in-Some : goal.ending_of_stop-requires-in-Some
ending_of_stop-requires-in-Some g c =
    let s = site g.F.FontSource.library g.F.FontSource.faults g.F.FontSource.loads c.args.job.now.bench.now g.known c.args.job.now.index.now c.args.job.now.sheet.now in
    let xs = c.args.workers.now in
    let n = length xs in
    let q = c.requires.1.1.1.1.1.1 in
    let ws = c.loop-first.workers in
    let next = c.loop-first.first in
    let t = c.loop-first.press.tally in
    let inv = c.loop-first.invariant in
    let start = c.args.press.now.notes.now in
    let AreAt : Press _ → List DrawnValue → Type 0 = λ p. NotedLacks (change_of g.N.Output.written g.N.Output.faults start p.notes.now) p.tally.noted in
    let Are = AreAt c.loop-first.press in
    let pages = c.pages-pages.ensures.count in
    let old = g.O.Output.written c.args.out.now in
    let mid = g.O.Output.written c.loop-first.out in
    let now = c.hand_round.new.workers in
    let u = c.hand_round.new.taker.tally in
    let new = g.O.Output.written c.hand_round.new.out in
    let Fails = Rose (g.O.Output.faults c.args.out.now) (g.O.Output.faults c.hand_round.new.out) in
    let long : length ws ≡ n = c.loop-first.auto.workers in
    let same : length now ≡ length ws = search rules in
    let counters : (k : ℕ) (d : Worker _) → k < n → (get_or now k d).counter ≡ None = λ k d lt. c.hand_round.ensures.no_counter k d (subst (λ (m : ℕ). k < m) (sym long) lt) in
    let below : next < pages_begun c.args.job.now.index.now.reading = omega (arith, c.loop-first-test.true, pages) in
    let count = c.min-count.result in
    let most = c.round_size-most.ensures in
    let few : pages_begun c.args.job.now.index.now.reading ≤ 1000000 = let less = c.pages-pages.ensures.few in omega (arith, less, pages) in
    let sized : IsCount n next (pages_begun c.args.job.now.index.now.reading) count =
    subst (λ (m : ℕ). IsCount n next m count) pages (is_count n next c.pages-pages.result c.round_size-most.result count c.min-count.ensures c.loop-first-test.true most.some most.few most.alone most.several) in
    let handed = c.in_default.ensures.handed in
    let results = handed.0 in
    let all = pressed_so s n xs q.0 q.1.1.0 ws next inv.hand old mid c.args.press.now.counted t Are inv.written inv.at count sized few now results handed.1 long counters g.O.Output.written g.O.Output.faults g.N.Output.written g.N.Output.faults c.args.job.now.drawable c.loop-first.press c.loop-first.out c.hand_round.new.taker c.hand_round.new.out refl inv.goes_on inv.black handed.2 in
    let P = Rose (g.O.Output.faults c.loop-first.out) (g.O.Output.faults c.hand_round.new.out) in
    let Noted : List PageResult → Type 0 = Noting g.O.Output.written g.O.Output.faults g.N.Output.written g.N.Output.faults t u c.loop-first.press.notes.now c.hand_round.new.taker.notes.now in
    let why = c.in-Some.stop in
    let stopped : c.hand_round.new.taker.stopped ≡ Some why = search rules in
    let pressed : Pressed c.args.press.now.counted mid new P Noted results t u (Some why) =
    pressed_as c.args.press.now.counted c.loop-first.press.counted mid new P Noted results t u c.hand_round.new.taker.stopped (Some why) stopped inv.counted all.pressed in
    let up = pressed.0 in
    let inside = below_all s n xs q.0 q.1.1.0 ws next inv.hand old mid c.args.press.now.counted t Are inv.written inv.at count sized few now results handed.1 long counters new u P why up in
    omega (arith, inside, few)

pub returns-in-Some : goal.returns-in-Some
returns-in-Some g c =
    let s = site g.F.FontSource.library g.F.FontSource.faults g.F.FontSource.loads c.args.job.now.bench.now g.known c.args.job.now.index.now c.args.job.now.sheet.now in
    let xs = c.args.workers.now in
    let n = length xs in
    let q = c.requires.1.1.1.1.1.1 in
    let ws = c.loop-first.workers in
    let next = c.loop-first.first in
    let t = c.loop-first.press.tally in
    let inv = c.loop-first.invariant in
    let start = c.args.press.now.notes.now in
    let AreAt : Press _ → List DrawnValue → Type 0 = λ p. NotedLacks (change_of g.N.Output.written g.N.Output.faults start p.notes.now) p.tally.noted in
    let Are = AreAt c.loop-first.press in
    let pages = c.pages-pages.ensures.count in
    let old = g.O.Output.written c.args.out.now in
    let mid = g.O.Output.written c.loop-first.out in
    let now = c.hand_round.new.workers in
    let u = c.hand_round.new.taker.tally in
    let new = g.O.Output.written c.hand_round.new.out in
    let Fails = Rose (g.O.Output.faults c.args.out.now) (g.O.Output.faults c.hand_round.new.out) in
    let long : length ws ≡ n = c.loop-first.auto.workers in
    let same : length now ≡ length ws = search rules in
    let counters : (k : ℕ) (d : Worker _) → k < n → (get_or now k d).counter ≡ None = λ k d lt. c.hand_round.ensures.no_counter k d (subst (λ (m : ℕ). k < m) (sym long) lt) in
    let below : next < pages_begun c.args.job.now.index.now.reading = omega (arith, c.loop-first-test.true, pages) in
    let count = c.min-count.result in
    let most = c.round_size-most.ensures in
    let few : pages_begun c.args.job.now.index.now.reading ≤ 1000000 = let less = c.pages-pages.ensures.few in omega (arith, less, pages) in
    let sized : IsCount n next (pages_begun c.args.job.now.index.now.reading) count =
    subst (λ (m : ℕ). IsCount n next m count) pages (is_count n next c.pages-pages.result c.round_size-most.result count c.min-count.ensures c.loop-first-test.true most.some most.few most.alone most.several) in
    let handed = c.in_default.ensures.handed in
    let results = handed.0 in
    let all = pressed_so s n xs q.0 q.1.1.0 ws next inv.hand old mid c.args.press.now.counted t Are inv.written inv.at count sized few now results handed.1 long counters g.O.Output.written g.O.Output.faults g.N.Output.written g.N.Output.faults c.args.job.now.drawable c.loop-first.press c.loop-first.out c.hand_round.new.taker c.hand_round.new.out refl inv.goes_on inv.black handed.2 in
    let P = Rose (g.O.Output.faults c.loop-first.out) (g.O.Output.faults c.hand_round.new.out) in
    let Noted : List PageResult → Type 0 = Noting g.O.Output.written g.O.Output.faults g.N.Output.written g.N.Output.faults t u c.loop-first.press.notes.now c.hand_round.new.taker.notes.now in
    let why = c.in-Some.stop in
    let stopped : c.hand_round.new.taker.stopped ≡ Some why = search rules in
    let pressed : Pressed c.args.press.now.counted mid new P Noted results t u (Some why) =
    pressed_as c.args.press.now.counted c.loop-first.press.counted mid new P Noted results t u c.hand_round.new.taker.stopped (Some why) stopped inv.counted all.pressed in
    let up = pressed.0 in
    let so_far = inv.written in
    let are = noted_more g.N.Output.written g.N.Output.faults start c.loop-first.press.notes.now c.hand_round.new.taker.notes.now t.noted u.noted so_far.pages (drawn_in up.written) t.pages so_far.count all.notes so_far.are pressed.1 in
    let over = workers_here s n xs q.0 q.1.1.0 ws next inv.hand old mid c.args.press.now.counted t Are inv.written inv.at count sized few now results handed.1 long counters new u P why up in
    let ends = ends_here s n xs q.0 q.1.1.0 ws next inv.hand old mid c.args.press.now.counted t Are inv.written inv.at count sized few now results handed.1 long counters new u P why up Fails
    (λ rose. rose_later (g.O.Output.faults c.args.out.now) (g.O.Output.faults c.loop-first.out) (g.O.Output.faults c.hand_round.new.out) inv.output rose all.output) (AreAt c.hand_round.new.taker) are in
    rw c.ending_of_stop-in-Some.ensures (record {
      ends = ends;
      whole = over.whole;
      cause = over.cause;
      shares = over.shares;
      workers = over.workers;
      output = omega (arith, inv.output, all.output);
      same_notes = all.same_notes ∙ inv.same_notes;
    })

pub loop-first-preserved : goal.loop-first-preserved
loop-first-preserved g c =
    let s = site g.F.FontSource.library g.F.FontSource.faults g.F.FontSource.loads c.args.job.now.bench.now g.known c.args.job.now.index.now c.args.job.now.sheet.now in
    let xs = c.args.workers.now in
    let n = length xs in
    let q = c.requires.1.1.1.1.1.1 in
    let ws = c.loop-first.workers in
    let next = c.loop-first.first in
    let t = c.loop-first.press.tally in
    let inv = c.loop-first.invariant in
    let start = c.args.press.now.notes.now in
    let AreAt : Press _ → List DrawnValue → Type 0 = λ p. NotedLacks (change_of g.N.Output.written g.N.Output.faults start p.notes.now) p.tally.noted in
    let Are = AreAt c.loop-first.press in
    let pages = c.pages-pages.ensures.count in
    let old = g.O.Output.written c.args.out.now in
    let mid = g.O.Output.written c.loop-first.out in
    let now = c.hand_round.new.workers in
    let u = c.hand_round.new.taker.tally in
    let new = g.O.Output.written c.hand_round.new.out in
    let Fails = Rose (g.O.Output.faults c.args.out.now) (g.O.Output.faults c.hand_round.new.out) in
    let long : length ws ≡ n = c.loop-first.auto.workers in
    let same : length now ≡ length ws = search rules in
    let counters : (k : ℕ) (d : Worker _) → k < n → (get_or now k d).counter ≡ None = λ k d lt. c.hand_round.ensures.no_counter k d (subst (λ (m : ℕ). k < m) (sym long) lt) in
    let below : next < pages_begun c.args.job.now.index.now.reading = omega (arith, c.loop-first-test.true, pages) in
    let count = c.min-count.result in
    let most = c.round_size-most.ensures in
    let few : pages_begun c.args.job.now.index.now.reading ≤ 1000000 = let less = c.pages-pages.ensures.few in omega (arith, less, pages) in
    let sized : IsCount n next (pages_begun c.args.job.now.index.now.reading) count =
    subst (λ (m : ℕ). IsCount n next m count) pages (is_count n next c.pages-pages.result c.round_size-most.result count c.min-count.ensures c.loop-first-test.true most.some most.few most.alone most.several) in
    let handed = c.in_default.ensures.handed in
    let results = handed.0 in
    let all = pressed_so s n xs q.0 q.1.1.0 ws next inv.hand old mid c.args.press.now.counted t Are inv.written inv.at count sized few now results handed.1 long counters g.O.Output.written g.O.Output.faults g.N.Output.written g.N.Output.faults c.args.job.now.drawable c.loop-first.press c.loop-first.out c.hand_round.new.taker c.hand_round.new.out refl inv.goes_on inv.black handed.2 in
    let P = Rose (g.O.Output.faults c.loop-first.out) (g.O.Output.faults c.hand_round.new.out) in
    let Noted : List PageResult → Type 0 = Noting g.O.Output.written g.O.Output.faults g.N.Output.written g.N.Output.faults t u c.loop-first.press.notes.now c.hand_round.new.taker.notes.now in
    let goes_on : c.hand_round.new.taker.stopped ≡ None = search rules in
    let pressed : Pressed c.args.press.now.counted mid new P Noted results t u None =
    pressed_as c.args.press.now.counted c.loop-first.press.counted mid new P Noted results t u c.hand_round.new.taker.stopped None goes_on inv.counted all.pressed in
    let wrote = pressed.0 in
    let so_far = inv.written in
    let are = noted_more g.N.Output.written g.N.Output.faults start c.loop-first.press.notes.now c.hand_round.new.taker.notes.now t.noted u.noted so_far.pages (drawn_in results) t.pages so_far.count all.notes so_far.are pressed.1 in
    record {
      hand = last_now s n xs q.0 q.1.1.0 ws next inv.hand old mid c.args.press.now.counted t Are inv.written inv.at count sized few now results handed.1 long counters new u wrote;
      written = written_now s n xs q.0 q.1.1.0 ws next inv.hand old mid c.args.press.now.counted t Are inv.written inv.at count sized few now results handed.1 long counters new u wrote (AreAt c.hand_round.new.taker) are;
      at = at_now s n xs q.0 q.1.1.0 ws next inv.hand old mid c.args.press.now.counted t Are inv.written inv.at count sized few now results handed.1 long counters new u wrote;
      goes_on = c.take.ensures.after;
      counted = all.counted ∙ inv.counted;
      black = all.black;
      output = omega (arith, inv.output, all.output);
      same_notes = all.same_notes ∙ inv.same_notes;
    }

pub returns : goal.returns
returns g c =
    let s = site g.F.FontSource.library g.F.FontSource.faults g.F.FontSource.loads c.args.job.now.bench.now g.known c.args.job.now.index.now c.args.job.now.sheet.now in
    let xs = c.args.workers.now in
    let n = length xs in
    let q = c.requires.1.1.1.1.1.1 in
    let ws = c.loop-first.workers in
    let next = c.loop-first.first in
    let t = c.loop-first.press.tally in
    let inv = c.loop-first.invariant in
    let start = c.args.press.now.notes.now in
    let AreAt : Press _ → List DrawnValue → Type 0 = λ p. NotedLacks (change_of g.N.Output.written g.N.Output.faults start p.notes.now) p.tally.noted in
    let Are = AreAt c.loop-first.press in
    let pages = c.pages-pages.ensures.count in
    let old = g.O.Output.written c.args.out.now in
    let mid = g.O.Output.written c.loop-first.out in
    let Fails = Rose (g.O.Output.faults c.args.out.now) (g.O.Output.faults c.loop-first.out) in
    let few = inv.hand.2.few in
    let last : next ≡ pages_begun c.args.job.now.index.now.reading = omega (arith, c.loop-first-test.false, few, pages) in
    let over = workers_written s n xs q.0 q.1.1.0 ws next inv.hand old mid c.args.press.now.counted t Are inv.written inv.at last in
    record {
      ends = all_written s n xs q.0 q.1.1.0 ws next inv.hand old mid c.args.press.now.counted t Are inv.written inv.at Fails last;
      whole = over.whole;
      cause = over.cause;
      shares = over.shares;
      workers = over.workers;
      output = inv.output;
      same_notes = inv.same_notes;
    }
