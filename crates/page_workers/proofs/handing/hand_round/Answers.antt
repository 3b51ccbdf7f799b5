use Rattle.std.proofs.Common.{◌≡◌, ◌<◌, ℕ, List, length, get_or, rules, ap, subst, sym, refl, ◌∙◌, arith}
use Rattle.page_workers.specs.declared.rings.Inlet.{Inlet}
use Rattle.page_workers.specs.Handing.{AreNewlyLinked}
use Rattle.page_workers.specs.Rounds.{DrewNothing}
use Rattle.page_workers.specs.declared.worker.Worker.{Worker}
use Rattle.page_workers.proofs.Calls.{on_err}
use Rattle.page_workers.proofs.Claims.{rested_free}
use Rattle.page_workers.proofs.HandedRounds.{handed_free, handed_opened, handed_trimmed, may_draw_opened, rested_with, room_opened}
use Rattle.page_workers.proofs.handing.hand_round.Goals as goal

pub returns-in_err-inlets-clause-refused : goal.returns-in_err-inlets-clause-refused
returns-in_err-inlets-clause-refused g c =
    let xs = c.args.workers.now in
    let bs = c.reserve_all.new.workers in
    let as_many : length bs ≡ length xs = search rules in
    let rest : (k : ℕ) (d : Worker _) → k < length xs → DrewNothing (get_or xs k d) (get_or c.open_rings.new.workers k d) =
    λ k d lt. rested_with g.F.FontSource.library g.F.FontSource.faults g.F.FontSource.loads c.args.job.now.bench.now c.args.job.now.index.now c.args.job.now.sheet.now c.args.pages.first c.args.pages.count (get_or xs k d) (get_or bs k d) (get_or c.open_rings.new.workers k d) (c.reserve_all.ensures.kept k d lt) (c.open_rings.ensures.same k d (omega (arith, lt, as_many))) in
    on_err (((k : ℕ) (d : Worker _) → k < length xs → DrewNothing (get_or xs k d) (get_or c.open_rings.new.workers k d)) × (c.args.taker.now ≡ c.args.taker.now) × (c.args.out.now ≡ c.args.out.now)) _ (rest, refl, refl)

pub returns-in_err-inlets-clause-no_counter : goal.returns-in_err-inlets-clause-no_counter
returns-in_err-inlets-clause-no_counter g c =
    let xs = c.args.workers.now in
    let bs = c.reserve_all.new.workers in
    let as_many : length bs ≡ length xs = search rules in
    λ k d lt.
    ap (λ (w : Worker _). w.counter) (c.open_rings.ensures.same k d (omega (arith, lt, as_many))).1 ∙ ((c.reserve_all.ensures.kept k d lt).counter ∙ (c.requires.ready k d lt).no_counter)

pub hand_opened-requires-clause-ready : goal.hand_opened-requires-clause-ready
hand_opened-requires-clause-ready g c κs within =
    let xs = c.args.workers.now in
    let bs = c.reserve_all.new.workers in
    let os = c.open_rings.new.workers in
    let reserved : length bs ≡ length xs = search rules in
    let opened : length os ≡ length bs = search rules in
    λ k d lt.
    let there : k < length xs = omega (arith, lt, reserved, opened) in
    may_draw_opened g.F.FontSource.library g.F.FontSource.faults g.F.FontSource.loads c.args.job.now.bench.now c.args.job.now.index.now c.args.job.now.sheet.now c.args.pages.first c.args.pages.count (get_or xs k d) (get_or bs k d) (get_or os k d) (c.requires.ready k d there) (c.reserve_all.ensures.kept k d there) (c.open_rings.ensures.same k d (omega (arith, there, reserved)))

pub hand_opened-requires-clause-room : goal.hand_opened-requires-clause-room
hand_opened-requires-clause-room g c κs within =
    let xs = c.args.workers.now in
    let bs = c.reserve_all.new.workers in
    let os = c.open_rings.new.workers in
    let reserved : length bs ≡ length xs = search rules in
    let opened : length os ≡ length bs = search rules in
    λ k d lt.
    let there : k < length xs = omega (arith, lt, reserved, opened) in
    room_opened g.F.FontSource.library g.F.FontSource.faults g.F.FontSource.loads c.args.job.now.bench.now c.args.job.now.index.now c.args.job.now.sheet.now c.args.pages.first c.args.pages.count (get_or bs k d) (get_or os k d) (c.in_ok-reserve_all.ensures.room k d there) (c.open_rings.ensures.same k d (omega (arith, there, reserved)))

pub hand_opened-requires-clause-linked : goal.hand_opened-requires-clause-linked
hand_opened-requires-clause-linked g c κs within =
    let bs = c.reserve_all.new.workers in
    let os = c.open_rings.new.workers in
    let opened : length os ≡ length bs = search rules in
    let is : c.deref_mut.result.now ≡ c.in_ok-inlets.inlets.items = search rules in
    λ k e d lt.
    subst (λ (l : List Inlet). AreNewlyLinked c.args.pages.count (get_or os k d) (get_or l k e)) (sym is) (c.in_ok-inlets.ensures.linked k e d (omega (arith, lt, opened)))

pub returns-in_err-inlets-clause-no_claim : goal.returns-in_err-inlets-clause-no_claim
returns-in_err-inlets-clause-no_claim g c =
    let xs = c.args.workers.now in
    let bs = c.reserve_all.new.workers in
    let os = c.open_rings.new.workers in
    let as_many : length bs ≡ length xs = search rules in
    λ k d lt.
    rested_free g.F.FontSource.library g.F.FontSource.faults g.F.FontSource.loads c.args.job.now.bench.now (get_or xs k d) (get_or os k d) (c.requires.ready k d lt).fits
    (rested_with g.F.FontSource.library g.F.FontSource.faults g.F.FontSource.loads c.args.job.now.bench.now c.args.job.now.index.now c.args.job.now.sheet.now c.args.pages.first c.args.pages.count (get_or xs k d) (get_or bs k d) (get_or os k d) (c.reserve_all.ensures.kept k d lt) (c.open_rings.ensures.same k d (omega (arith, lt, as_many))))

pub returns-clause-handed : goal.returns-clause-handed
returns-clause-handed g c =
    let xs = c.args.workers.now in
    let bs = c.reserve_all.new.workers in
    let os = c.open_rings.new.workers in
    let reserved : length bs ≡ length xs = search rules in
    let opened : length os ≡ length bs = search rules in
    let handed : length c.hand_opened.new.workers ≡ length os = search rules in
    let h = c.hand_opened.ensures.handed in (
      h.0,
      handed_trimmed g.F.FontSource.library g.F.FontSource.faults g.F.FontSource.loads c.args.job.now.bench.now c.args.job.now.index.now c.args.job.now.sheet.now c.args.pages.first c.args.pages.count xs c.hand_opened.new.workers c.trim_spare_pages.new.workers h.0
          (λ k d lt. c.trim_spare_pages.ensures.same k d (omega (arith, lt, reserved, opened, handed)))
          (handed_opened g.F.FontSource.library g.F.FontSource.faults g.F.FontSource.loads c.args.job.now.bench.now c.args.job.now.index.now c.args.job.now.sheet.now c.args.pages.first c.args.pages.count xs os c.hand_opened.new.workers h.0 (opened ∙ reserved)
          (λ k d lt. rested_with g.F.FontSource.library g.F.FontSource.faults g.F.FontSource.loads c.args.job.now.bench.now c.args.job.now.index.now c.args.job.now.sheet.now c.args.pages.first c.args.pages.count (get_or xs k d) (get_or bs k d) (get_or os k d) (c.reserve_all.ensures.kept k d lt) (c.open_rings.ensures.same k d (omega (arith, lt, reserved)))) h.1),
      h.2,
    )

pub returns-clause-no_counter : goal.returns-clause-no_counter
returns-clause-no_counter g c =
    let reserved : length c.reserve_all.new.workers ≡ length c.args.workers.now = search rules in
    let opened : length c.open_rings.new.workers ≡ length c.reserve_all.new.workers = search rules in
    let handed : length c.hand_opened.new.workers ≡ length c.open_rings.new.workers = search rules in
    λ k d lt. (c.trim_spare_pages.ensures.same k d (omega (arith, lt, reserved, opened, handed))).counter ∙ c.hand_opened.ensures.no_counter k d (omega (arith, lt, reserved, opened))

pub returns-clause-no_claim : goal.returns-clause-no_claim
returns-clause-no_claim g c =
    let h = returns-clause-handed g c in
    handed_free g.F.FontSource.library g.F.FontSource.faults g.F.FontSource.loads c.args.job.now.bench.now c.args.job.now.index.now c.args.job.now.sheet.now c.args.pages.first c.args.pages.count c.args.workers.now c.trim_spare_pages.new.workers h.0 c.requires.ready h.1
