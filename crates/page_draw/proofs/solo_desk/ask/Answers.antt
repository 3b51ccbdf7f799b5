use Rattle.std.proofs.Common.{inr, refl, ap, ◌∙◌, [], ◌∷◌}
use Rattle.std.specs.Arc.{arc_value}
use Rattle.cache_core.specs.Machine.{claim_of}
use Rattle.cache_core.specs.States.{call}
use Rattle.cache_core.specs.declared.calls.Done.TheVariants.{Hit, Released}
use Rattle.font_decode.specs.Weights.{weight_of}
use Rattle.page_draw.specs.SoloDesks.{common_part}
use Rattle.page_draw.proofs.Alone.{alone_later, asked_grew, refused_trail, hit_trail, released_trail, ended_asked, ended_alone, which, kept_trail, on_ok, on_err, never_busy}
use Rattle.page_draw.proofs.solo_desk.ask.Goals as goal

pub returns-in_err-font-clause-trail : goal.returns-in_err-font-clause-trail
returns-in_err-font-clause-trail g c =
    let k = arc_value c.args.key.now in
    let l = g.F.FontSource.loads c.args.source.now in
    refused_trail _ (g.F.FontSource.library c.args.source.now) c.args.units.now k c.args.cache.now c.look.new.self l l c.look.ensures.limits (rw c.in_err-font.ensures.refused refl) refl

pub unreachable-requires : goal.unreachable-requires
unreachable-requires g c =
    let k = arc_value c.args.key.now in
    let noted = rw c.in-Busy.is at c.in_ok-font.ensures.noted in
    never_busy c.args.cache.now c.look.new.self k c.requires.alone.own noted c.in_ok-font.ensures.reached c.solo.ensures.busy

pub returns-in-Hit-clause-alone : goal.returns-in-Hit-clause-alone
returns-in-Hit-clause-alone g c =
    let k = arc_value c.args.key.now in
    let noted = rw c.in-Hit.is at c.in_ok-font.ensures.noted in
    let taken = rw c.in-Hit.is at c.in_ok-font.ensures.taken in
    let l = g.F.FontSource.library c.args.source.now in
    alone_later c.args.cache.now c.look.new.self (call 1 k Hit ∷ []) noted c.in_ok-font.ensures.limits l l c.args.units.now c.requires.alone refl
    (ap (λ m. claim_of 1 m.claims) taken.changed ∙ c.requires.alone.free) (refl, tt) (c.in_ok-font.ensures.stands (common_part l c.args.units.now c.args.cache.now.limits))

pub returns-in-Hit-clause-asked : goal.returns-in-Hit-clause-asked
returns-in-Hit-clause-asked g c =
    let k = arc_value c.args.key.now in
    let noted = rw c.in-Hit.is at c.in_ok-font.ensures.noted in
    asked_grew c.args.cache.now c.look.new.self (call 1 k Hit ∷ []) noted c.in_ok-font.ensures.limits (k ∷ []) refl

pub returns-in-Hit-clause-trail : goal.returns-in-Hit-clause-trail
returns-in-Hit-clause-trail g c =
    let k = arc_value c.args.key.now in
    let noted = rw c.in-Hit.is at c.in_ok-font.ensures.noted in
    let l = g.F.FontSource.loads c.args.source.now in
    hit_trail _ (g.F.FontSource.library c.args.source.now) c.args.units.now k c.args.cache.now c.look.new.self l l c.in_ok-font.ensures.limits noted refl

pub returns-in-Ok-clause-alone : goal.returns-in-Ok-clause-alone
returns-in-Ok-clause-alone g c =
    let k = arc_value c.args.key.now in
    let noted = rw c.in-Claimed.is at c.in_ok-font.ensures.noted in
    let taken = rw c.in-Claimed.is at c.in_ok-font.ensures.taken in
    let l = g.F.FontSource.library c.args.source.now in
    let part = common_part l c.args.units.now c.args.cache.now.limits in
    let ended = which k c.args.cache.now c.look.new.self c.keep.new.cache noted (c.keep.ensures.limits ∙ c.in_ok-font.ensures.limits) (weight_of (arc_value c.in-Ok.font)) c.keep.result c.keep.ensures.filled c.keep.ensures.released in
    ended_alone k c.args.cache.now c.look.new.self c.keep.new.cache noted (c.keep.ensures.limits ∙ c.in_ok-font.ensures.limits) ended.0 l (g.F.FontSource.library c.load.new.source) c.args.units.now c.requires.alone c.load.ensures.library
    (ap (λ m. m.claims) taken.changed) c.keep.ensures.claims ended.2
    (λ s. c.keep.ensures.stands part (c.in_ok-font.ensures.stands part s) c.in-Ok.ensures.found)

pub returns-in-Ok-clause-asked : goal.returns-in-Ok-clause-asked
returns-in-Ok-clause-asked g c =
    let k = arc_value c.args.key.now in
    let noted = rw c.in-Claimed.is at c.in_ok-font.ensures.noted in
    let ended = which k c.args.cache.now c.look.new.self c.keep.new.cache noted (c.keep.ensures.limits ∙ c.in_ok-font.ensures.limits) (weight_of (arc_value c.in-Ok.font)) c.keep.result c.keep.ensures.filled c.keep.ensures.released in
    on_ok _ c.keep.result (ended_asked k c.args.cache.now c.look.new.self c.keep.new.cache noted (c.keep.ensures.limits ∙ c.in_ok-font.ensures.limits) ended.0 ended.1 ended.2)

pub returns-in-Ok-clause-refused : goal.returns-in-Ok-clause-refused
returns-in-Ok-clause-refused g c =
    let k = arc_value c.args.key.now in
    let noted = rw c.in-Claimed.is at c.in_ok-font.ensures.noted in
    let ended = which k c.args.cache.now c.look.new.self c.keep.new.cache noted (c.keep.ensures.limits ∙ c.in_ok-font.ensures.limits) (weight_of (arc_value c.in-Ok.font)) c.keep.result c.keep.ensures.filled c.keep.ensures.released in
    on_err _ c.keep.result (inr (ended_asked k c.args.cache.now c.look.new.self c.keep.new.cache noted (c.keep.ensures.limits ∙ c.in_ok-font.ensures.limits) ended.0 ended.1 ended.2))

pub returns-in-Ok-clause-trail : goal.returns-in-Ok-clause-trail
returns-in-Ok-clause-trail g c =
    let k = arc_value c.args.key.now in
    let noted = rw c.in-Claimed.is at c.in_ok-font.ensures.noted in
    kept_trail k c.args.cache.now c.look.new.self c.keep.new.cache noted (c.keep.ensures.limits ∙ c.in_ok-font.ensures.limits) (weight_of (arc_value c.in-Ok.font)) c.keep.result c.keep.ensures.filled c.keep.ensures.released
    (g.F.FontSource.library c.args.source.now) (g.F.FontSource.library c.load.new.source) c.args.units.now
    (g.F.FontSource.loads c.args.source.now) (g.F.FontSource.loads c.load.new.source) c.load.ensures.library (arc_value c.in-Ok.font, c.in-Ok.ensures.found, refl) c.load.ensures.loads c.load.ensures.no_more c.in-Ok.ensures.files

pub returns-in-Err-clause-alone : goal.returns-in-Err-clause-alone
returns-in-Err-clause-alone g c =
    let k = arc_value c.args.key.now in
    let noted = rw c.in-Claimed.is at c.in_ok-font.ensures.noted in
    let taken = rw c.in-Claimed.is at c.in_ok-font.ensures.taken in
    let l = g.F.FontSource.library c.args.source.now in
    let part = common_part l c.args.units.now c.args.cache.now.limits in
    ended_alone k c.args.cache.now c.look.new.self c.release.new.self noted (c.release.ensures.limits ∙ c.in_ok-font.ensures.limits) Released l (g.F.FontSource.library c.load.new.source) c.args.units.now c.requires.alone c.load.ensures.library
    (ap (λ m. m.claims) taken.changed) (ap (λ m. m.claims) c.release.ensures.taken.changed) c.release.ensures.noted
    (λ s. c.release.ensures.stands part (c.in_ok-font.ensures.stands part s))

pub returns-in-Err-clause-refused : goal.returns-in-Err-clause-refused
returns-in-Err-clause-refused g c =
    let k = arc_value c.args.key.now in
    let noted = rw c.in-Claimed.is at c.in_ok-font.ensures.noted in
    inr (ended_asked k c.args.cache.now c.look.new.self c.release.new.self noted (c.release.ensures.limits ∙ c.in_ok-font.ensures.limits) Released refl c.release.ensures.noted)

pub returns-in-Err-clause-trail : goal.returns-in-Err-clause-trail
returns-in-Err-clause-trail g c =
    let k = arc_value c.args.key.now in
    let noted = rw c.in-Claimed.is at c.in_ok-font.ensures.noted in
    released_trail _ (g.F.FontSource.library c.args.source.now) (g.F.FontSource.library c.load.new.source) c.args.units.now k c.args.cache.now c.look.new.self c.release.new.self
    (g.F.FontSource.loads c.args.source.now) (g.F.FontSource.loads c.load.new.source) c.load.ensures.library noted (c.release.ensures.limits ∙ c.in_ok-font.ensures.limits) c.load.ensures.loads c.load.ensures.no_more
    (λ w. cc) c.release.ensures.noted
