use Rattle.std.proofs.Common.{◌≡◌, ◌++◌, ◌∷◌, [], ◌<◌, length, get_or, set, subst, sym, ap, arith, rules}
use Rattle.std.proofs.lemmas.List.{length_push}
use Rattle.job_spool.specs.Read.{IsIndexed, text_at}
use Rattle.job_spool.specs.Sharing.{document_at}
use Rattle.page_workers.proofs.Lists.{left_step}
use Rattle.job_spool.proofs.TextsRead.{documents_left, documents_more, on_err}
use Rattle.job_spool.proofs.reading.index_texts.Goals as goal

pub loop-k-preserved : goal.loop-k-preserved
loop-k-preserved g c =
    let i = c.loop-k.k in
    let inv = c.loop-k.invariant in
    let ts = c.args.texts.now in
    let xs = c.args.jobs.now in
    let ws = c.loop-k.jobs in
    let v = c.index_one-document.new.job in
    let docs = c.loop-k.documents.items in
    let doc = c.index_one-document.result in
    let inside : i < length ws = search rules in
    let there : i < length ts = search rules in
    let grew : c.push.new.self.items ≡ docs ++ doc ∷ [] = c.in_ok-push.ensures.items in
    let longer : length c.push.new.self.items ≡ length (docs ++ doc ∷ []) = ap length grew in
    let more = length_push docs doc in
    record {
      count = omega (arith, longer, more, inv.count);
      done = λ j d lt.
          subst (λ ds. IsIndexed c.args.res (text_at ts j) (document_at ds j) (get_or xs j d) (get_or (set ws i v) j d)) (sym grew)
          (documents_more c.args.res ts xs ws docs i v doc inside there inv.count inv.done inv.left c.index-texts-k.result c.index-texts-k.is c.index-jobs-k.result c.index_one-document.ensures j d lt);
      left = left_step xs ws i v inside inv.left;
    }

pub returns-in_err-push-clause-refused : goal.returns-in_err-push-clause-refused
returns-in_err-push-clause-refused g c =
    let i = c.loop-k.k in
    let inv = c.loop-k.invariant in
    let ts = c.args.texts.now in
    let xs = c.args.jobs.now in
    let ws = c.loop-k.jobs in
    let v = c.index_one-document.new.job in
    let docs = c.loop-k.documents.items in
    let doc = c.index_one-document.result in
    let inside : i < length ws = search rules in
    let there : i < length ts = search rules in
    on_err c.from_residual.result _
    (λ j d lt.
    documents_left c.args.res ts xs ws docs i v doc inside there inv.count inv.done inv.left c.index-texts-k.result c.index-texts-k.is c.index-jobs-k.result c.index_one-document.ensures j d)
