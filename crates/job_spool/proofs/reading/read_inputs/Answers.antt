use Rattle.std.proofs.Common.{None, ◌≡◌, ◌++◌, ◌∷◌, [], ◌<◌, length, get_or, set, subst, sym, ap, arith, rules}
use Rattle.std.proofs.lemmas.List.{length_push}
use Rattle.page_workers.proofs.Lists.{left_step}
use Rattle.job_spool.specs.Jobs.{JobView}
use Rattle.job_spool.specs.Read.{HasText, text_at}
use Rattle.job_spool.proofs.TextsRead.{begun, on_err, texts_left, texts_more}
use Rattle.job_spool.proofs.reading.read_inputs.Goals as goal

pub loop-k-preserved : goal.loop-k-preserved
loop-k-preserved g c =
    let i = c.loop-k.k in
    let inv = c.loop-k.invariant in
    let view : JobView _ _ = record { left = g.I.Input.left; taken = g.I.Input.taken; ended = g.I.Input.ended; reads = g.I.Input.faults; written = g.O.Output.written; writes = g.O.Output.faults } in
    let xs = c.begin.new.jobs in
    let ws = c.loop-k.jobs in
    let v = c.read_one-text.new.job in
    let ts = c.loop-k.texts.items in
    let t = c.read_one-text.result in
    let inside : i < length ws = search rules in
    let grew : c.push.new.self.items ≡ ts ++ t ∷ [] = c.in_ok-push.ensures.items in
    let longer : length c.push.new.self.items ≡ length (ts ++ t ∷ []) = ap length grew in
    let more = length_push ts t in
    record {
      count = omega (arith, longer, more, inv.count);
      done = λ j d lt.
          subst (λ us. HasText view (text_at us j) (get_or xs j d) (get_or (set ws i v) j d)) (sym grew)
          (texts_more view xs ws ts i v t inside inv.count inv.done inv.left c.index-jobs-k.result c.read_one-text.ensures j d lt);
      left = left_step xs ws i v inside inv.left;
    }

pub returns-clause-texts : goal.returns-clause-texts
returns-clause-texts g c =
    let view : JobView _ _ = record { left = g.I.Input.left; taken = g.I.Input.taken; ended = g.I.Input.ended; reads = g.I.Input.faults; written = g.O.Output.written; writes = g.O.Output.faults } in
    let ws = c.loop-k.jobs in
    let long : length c.begin.new.jobs ≡ length c.args.jobs.now = search rules in
    let same : length ws ≡ length c.begin.new.jobs = search rules in
    λ k d lt.
    begun view (text_at c.loop-k.texts.items k) (get_or c.args.jobs.now k d) (get_or c.begin.new.jobs k d) (get_or ws k d) (c.begin.ensures k d lt)
    (c.loop-k.invariant.done k d (omega (arith, lt, long, same, c.loop-k-test.false, c.loop-k.auto.k-end)))

pub returns-in_err-push-clause-refused : goal.returns-in_err-push-clause-refused
returns-in_err-push-clause-refused g c =
    let i = c.loop-k.k in
    let inv = c.loop-k.invariant in
    let view : JobView _ _ = record { left = g.I.Input.left; taken = g.I.Input.taken; ended = g.I.Input.ended; reads = g.I.Input.faults; written = g.O.Output.written; writes = g.O.Output.faults } in
    let xs = c.begin.new.jobs in
    let ws = c.loop-k.jobs in
    let v = c.read_one-text.new.job in
    let ts = c.loop-k.texts.items in
    let t = c.read_one-text.result in
    let inside : i < length ws = search rules in
    let long : length xs ≡ length c.args.jobs.now = search rules in
    let same : length ws ≡ length xs = search rules in
    on_err c.from_residual.result _
    (λ k d lt.
    begun view None (get_or c.args.jobs.now k d) (get_or xs k d) (get_or (set ws i v) k d) (c.begin.ensures k d lt)
    (texts_left view xs ws ts i v t inside inv.count inv.done inv.left c.index-jobs-k.result c.read_one-text.ensures
    (λ j e l. ap (λ x. x.status) (c.begin.ensures j e (omega (arith, l, long)))) same k d (omega (arith, lt, long))))
