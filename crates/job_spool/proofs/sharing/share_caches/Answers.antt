use Rattle.std.proofs.Common.{◌≡◌, ◌++◌, ◌∷◌, [], length, ap, arith}
use Rattle.std.proofs.lemmas.List.{length_push}
use Rattle.job_spool.proofs.SharedPages.{more_caches}
use Rattle.job_spool.proofs.sharing.share_caches.Goals as goal

pub loop-k-preserved : goal.loop-k-preserved
loop-k-preserved c =
    let xs = c.loop-k.caches.items in
    let next = c.next_cache-next.result in
    let grew : c.push.new.self.items ≡ xs ++ next ∷ [] = c.in_ok-push.ensures.items in
    let longer : length c.push.new.self.items ≡ length (xs ++ next ∷ []) = ap length grew in
    let more = length_push xs next in
    let inv = c.loop-k.invariant in
    record {
      are = more_caches c.args.documents.now c.loop-k._k xs c.deref.result.now c.push.new.self.items next inv.are inv.count c.deref.ensures.value c.next_cache-next.ensures grew;
      count = omega (arith, longer, more, inv.count);
    }

pub next_cache-next-requires-clause-there : goal.next_cache-next-requires-clause-there
next_cache-next-requires-clause-there c =
    let same : length c.deref.result.now ≡ length c.loop-k.caches.items = ap length c.deref.ensures.value in
    omega (arith, same, c.loop-k.invariant.count)
