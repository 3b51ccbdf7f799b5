use Rattle.std.proofs.Common.{◌≡◌, ◌≤◌, ◌<◌, ◌+◌, ℕ, [], length, drop, get_or, sym, subst, ap, ◌∙◌, rules, Some}
use Rattle.outside.specs.Counts.{Rose}
use Rattle.cache_core.specs.Histories.{own}
use Rattle.page_workers.specs.Seating.{numbers}
use Rattle.page_workers.proofs.Numbers.{numbers_joined}
use Rattle.dvi_run.specs.Endings.{value_of_ending}
use Rattle.dvi_run.specs.Looked.{EveryPageCameToItsEnd, MayBreakOff}
use Rattle.dvi_run.specs.Rounds.{site}
use Rattle.dvi_run.proofs.WorkerSeats.{may_begin, may_leave, ran}
use Rattle.page_index.specs.Document.{pages_begun}
use Rattle.dvi_run.specs.Shares.{WorkersDrewSince, pages_since}
use Rattle.dvi_run.proofs.Shares.{shared_as}
use Rattle.dvi_run.proofs.shared_cache.draw_with_cache.Goals as goal

pub write_rounds-ending-requires : goal.write_rounds-ending-requires
write_rounds-ending-requires g c κs within =
    let q = c.requires.1.1.1.1.1.1 in
    let xs = c.args.workers.now in
    let ws = c.seat_all.new.workers in
    let s = site g.F.FontSource.library g.F.FontSource.faults g.F.FontSource.loads c.args.opening.0 g.known c.args.index.now c.args.settings.now.sheet in
    let part = c.args.opening.1.view.part in
    let opens = q.1.1.1.1.1.1.0 in
    let few : pages_begun c.args.index.now.reading ≤ 1000000 = subst (λ (n : ℕ). n ≤ 1000000) c.pages.ensures.count c.pages.ensures.few in
    let long : length ws ≡ length xs = search rules in (
      search rules fits 100000 depth 60,
      (
        search rules fits 100000 depth 60,
        (
          search rules fits 100000 depth 60,
          (
            search rules fits 100000 depth 60,
            (
              search rules fits 100000 depth 60,
              (
                search rules fits 100000 depth 60,
                (
                  search rules,
                  (
                    search rules,
                    λ k d lt.
                        let below : k < length xs = subst (λ (n : ℕ). k < n) long lt in
                        may_begin s part (ap (λ v. v.part.library) opens) (ap (λ v. v.part.units) opens) q.1.1.1.0 q.1.1.1.1.0 (k + 1) (get_or xs k d) (get_or ws k d) (q.1.1.1.1.1.1.1 k d below)
                        (c.seat_all.ensures.seated k d below) few,
                  ),
                ),
              ),
            ),
          ),
        ),
      ),
    )

pub join_all-requires-clause-leave : goal.join_all-requires-clause-leave
join_all-requires-clause-leave g c =
    let q = c.requires.1.1.1.1.1.1 in
    let xs = c.args.workers.now in
    let ws = c.seat_all.new.workers in
    let now = c.write_rounds-ending.new.workers in
    let s = site g.F.FontSource.library g.F.FontSource.faults g.F.FontSource.loads c.args.opening.0 g.known c.args.index.now c.args.settings.now.sheet in
    let part = c.args.opening.1.view.part in
    let opens = q.1.1.1.1.1.1.0 in
    let long : length ws ≡ length xs = search rules in
    let same : length now ≡ length ws = search rules in
    λ k d lt.
    let there : k < length ws = subst (λ (n : ℕ). k < n) same lt in
    let below : k < length xs = subst (λ (n : ℕ). k < n) long there in
    may_leave s part (ap (λ v. v.part.library) opens) (ap (λ v. v.part.units) opens) q.1.1.1.0 q.1.1.1.1.0 (k + 1) (get_or xs k d) (get_or ws k d) (q.1.1.1.1.1.1.1 k d below)
    (c.seat_all.ensures.seated k d below) (MayBreakOff (value_of_ending c.write_rounds-ending.result.0) (Some c.write_rounds-ending.result.1)) _ (get_or now k d) (c.write_rounds-ending.ensures.workers k d there)

pub close-requires-clause-joined : goal.close-requires-clause-joined
close-requires-clause-joined g c =
    let n = length c.args.workers.now in
    let long : length c.write_rounds-ending.new.workers ≡ n = search rules in
    let made : c.join_all.new.first.view.made ≡ n + 1 = search rules in
    let joined : c.join_all.new.first.view.joined ≡ numbers n = subst (λ (m : ℕ). c.join_all.new.first.view.joined ≡ numbers m) long c.join_all.ensures.joined in
    numbers_joined c.join_all.new.first.view n made joined

pub returns-clause-workers : goal.returns-clause-workers
returns-clause-workers g c =
    let q = c.requires.1.1.1.1.1.1 in
    let xs = c.args.workers.now in
    let ws = c.seat_all.new.workers in
    let now = c.write_rounds-ending.new.workers in
    let s = site g.F.FontSource.library g.F.FontSource.faults g.F.FontSource.loads c.args.opening.0 g.known c.args.index.now c.args.settings.now.sheet in
    let part = c.args.opening.1.view.part in
    let opens = q.1.1.1.1.1.1.0 in
    let long : length ws ≡ length xs = search rules in
    let same : length now ≡ length ws = search rules in
    let joined : length c.join_all.new.workers ≡ length now = search rules in
    λ k d lt.
    let there : k < length ws = subst (λ (n : ℕ). k < n) (sym long) lt in
    let here : k < length now = subst (λ (n : ℕ). k < n) (sym same) there in
    let left = c.join_all.ensures.left k d here in
    let but = c.drop_spare_pages.ensures.same k d (subst (λ (n : ℕ). k < n) (sym joined) here) in
    ran s part (ap (λ v. v.part.library) opens) (ap (λ v. v.part.units) opens) q.1.1.1.0 q.1.1.1.1.0 (k + 1) (get_or xs k d) (get_or ws k d) (q.1.1.1.1.1.1.1 k d lt)
    (c.seat_all.ensures.seated k d lt) (MayBreakOff (value_of_ending c.write_rounds-ending.result.0) (Some c.write_rounds-ending.result.1)) _ (get_or now k d) (c.write_rounds-ending.ensures.workers k d there) left.seat left.is _ (get_or c.drop_spare_pages.new.workers k d)
    (ap (own (k + 1)) c.close.ensures.history ∙ left.own) (but.seat ∙ left.none) (but.source ∙ left.same.source) (but.loads ∙ left.same.loads)
    (ap (λ v. v.items) but.pages ∙ left.same.pages) (ap (λ v. v.items) but.results ∙ left.same.results) (but.counter ∙ left.same.counter)
    (c.drop_spare_pages.ensures.none k d (subst (λ (n : ℕ). k < n) (sym joined) here))
    _
    (λ h. (c.write_rounds-ending.ensures.whole (subst (λ (n : ℕ). EveryPageCameToItsEnd n (value_of_ending c.write_rounds-ending.result.0)) (sym long) h) k d there).trail)
    (λ h. (c.write_rounds-ending.ensures.whole (subst (λ (n : ℕ). EveryPageCameToItsEnd n (value_of_ending c.write_rounds-ending.result.0)) (sym long) h) k d there).looked)

pub returns-clause-first : goal.returns-clause-first
returns-clause-first g c =
    let q = c.requires.1.1.1.1.1.1 in
    let opens = q.1.1.1.1.1.1.0 in
    ap (own 0) c.close.ensures.history ∙ c.join_all.ensures.mine ∙ ap (own 0) (c.seat_all.ensures.seen ∙ ap (λ v. v.seen) opens)

pub returns-clause-cause : goal.returns-clause-cause
returns-clause-cause g c =
    let q = c.requires.1.1.1.1.1.1 in
    let xs = c.args.workers.now in
    let ws = c.seat_all.new.workers in
    let now = c.write_rounds-ending.new.workers in
    let s = site g.F.FontSource.library g.F.FontSource.faults g.F.FontSource.loads c.args.opening.0 g.known c.args.index.now c.args.settings.now.sheet in
    let part = c.args.opening.1.view.part in
    let opens = q.1.1.1.1.1.1.0 in
    let long : length ws ≡ length xs = search rules in
    let same : length now ≡ length ws = search rules in
    let joined : length c.join_all.new.workers ≡ length now = search rules in
    λ page e.
    let cause = c.write_rounds-ending.ensures.cause page e in
    let k = cause.0 in
    let below : k < length xs = subst (λ (n : ℕ). k < n) long cause.1 in
    let here : k < length now = subst (λ (n : ℕ). k < n) (sym same) cause.1 in (
      k,
      below,
      λ d.
          let f = cause.2 d in
          let left = c.join_all.ensures.left k d here in
          let but = c.drop_spare_pages.ensures.same k d (subst (λ (n : ℕ). k < n) (sym joined) here) in
          let source = but.source ∙ left.same.source in
          let seated = c.seat_all.ensures.seated k d below in
          record {
            rose = subst (λ x. Rose (g.F.FontSource.faults x) (g.F.FontSource.faults (get_or c.drop_spare_pages.new.workers k d).source)) seated.same.source
                (subst (λ x. Rose (g.F.FontSource.faults (get_or ws k d).source) (g.F.FontSource.faults x)) (sym source) f.rose);
            number = f.number;
            is = f.is;
            drew = (f.drew.0, ap (λ v. v.items) but.pages ∙ left.same.pages ∙ f.drew.1);
          },
    )

pub returns-clause-shares : goal.returns-clause-shares
returns-clause-shares g c =
    let xs = c.args.workers.now in
    let ws = c.seat_all.new.workers in
    let now = c.write_rounds-ending.new.workers in
    let joined = c.join_all.new.workers in
    let after = c.drop_spare_pages.new.workers in
    let reading = c.args.index.now.reading in
    let long : length ws ≡ length xs = search rules in
    let same : length now ≡ length ws = search rules in
    let left : length joined ≡ length now = search rules in
    let e = value_of_ending c.write_rounds-ending.result.0 in
    let tally = Some c.write_rounds-ending.result.1 in
    let q = c.requires.1.1.1.1.1.1 in
    let shares : WorkersDrewSince (pages_begun reading) (length xs) e tally ws now =
    subst (λ (n : ℕ). WorkersDrewSince (pages_begun reading) n e tally ws now) long c.write_rounds-ending.ensures.shares in
    record {
      drawn = shares.drawn;
      few = shares.few;
      shares = λ d.
          shared_as shares.drawn (length xs) (λ k. pages_since (get_or ws k d) (get_or now k d)) (λ k. (get_or after k d).pages.items)
          (λ k lt.
          let there : k < length now = subst (λ (n : ℕ). k < n) (sym (same ∙ long)) lt in
          let begun : (get_or ws k d).pages.items ≡ [] = (c.seat_all.ensures.seated k d lt).same.pages ∙ (q.1.1.1.1.1.1.1 k d lt).pages in
          let all : pages_since (get_or ws k d) (get_or now k d) ≡ (get_or now k d).pages.items = ap (λ l. drop (length l) (get_or now k d).pages.items) begun in
          ap (λ v. v.items) (c.drop_spare_pages.ensures.same k d (subst (λ (n : ℕ). k < n) (sym left) there)).pages ∙ (c.join_all.ensures.left k d there).same.pages ∙ sym all) (shares.shares d);
      reach = shares.reach;
      written = shares.written;
    }
