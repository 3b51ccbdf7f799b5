use Rattle.std.proofs.Common.{◌≡◌, ◌<◌, length, rules}
use Rattle.page_workers.proofs.Lists.{kept_step, room_step}
use Rattle.page_workers.proofs.round.reserve_all.Goals as goal

pub returns-in_err-reserve-clause-kept : goal.returns-in_err-reserve-clause-kept
returns-in_err-reserve-clause-kept g c =
    let inside : c.loop-j.j < length c.loop-j.workers = search rules in
    let long : length c.loop-j.workers ≡ length c.args.workers.now = search rules in
    kept_step c.args.workers.now c.loop-j.workers c.loop-j.j c.index-workers-j.result c.reserve.new.worker inside long c.reserve.ensures.kept
    c.loop-j.invariant.kept

pub loop-j-preserved : goal.loop-j-preserved
loop-j-preserved g c =
    let inside : c.loop-j.j < length c.loop-j.workers = search rules in
    let long : length c.loop-j.workers ≡ length c.args.workers.now = search rules in
    record {
      kept = kept_step c.args.workers.now c.loop-j.workers c.loop-j.j c.index-workers-j.result c.reserve.new.worker inside long c.reserve.ensures.kept
          c.loop-j.invariant.kept;
      room = room_step c.args.workers.now c.loop-j.workers c.loop-j.j c.index-workers-j.result c.reserve.new.worker inside c.args.count c.in_ok-reserve.ensures.room c.loop-j.invariant.room;
    }
