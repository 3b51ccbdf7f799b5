use Rattle.std.proofs.Common.{◌≡◌, Some, Global, refl, sym, ap, subst, ◌∙◌, [], ◌∷◌, length}
use Rattle.std.specs.Prelude.{IfSome}
use Rattle.std.specs.Arc.{arc_value}
use Rattle.std.specs.declared.sync.Arc.{Arc}
use Rattle.cache_core.specs.States.{call}
use Rattle.cache_core.specs.declared.common.Common.{Common}
use Rattle.outside.specs.Library.{FileTable}
use Rattle.pixel_round.specs.declared.units.Units.{Units}
use Rattle.font_decode.specs.Decoding.{IsFontOf}
use Rattle.font_decode.specs.Files.{looked_for}
use Rattle.font_decode.specs.Loads.{RoseBy, RoseUpTo}
use Rattle.font_decode.specs.declared.font_or_fault.Decoded.{Decoded}
use Rattle.cache_core.specs.declared.calls.Done.TheVariants.{Hit, Busy, Claimed, Released}
use Rattle.page_workers.proofs.Calls.{one_call, asked_grew, hit_grew, busy_grew, released_grew, two_calls, ended_asked, kept_asked, kept_trail}
use Rattle.page_workers.proofs.Fonts.{as_known, as_told, from_ok, of_ok}
use Rattle.page_workers.proofs.worker.answer.Goals as goal

-- what is loaded is the key's font by the common part
pub keep-requires-clause-stands : goal.keep-requires-clause-stands
keep-requires-clause-stands g c =
    let part = c.args.seat.now.view.part in
    (as_known part.library (g.F.FontSource.library c.args.source.now) c.args.bench.now.units part.units (arc_value c.args.looked.key.now) (arc_value c.in-Ok.font) c.requires.knows_library c.requires.units
    c.in-Ok.ensures.found)

pub returns-in-Busy-clause-found : goal.returns-in-Busy-clause-found
returns-in-Busy-clause-found g c =
    let part = c.args.seat.now.view.part in
    let k = arc_value c.args.looked.key.now in
    let known = g.F.FontSource.library c.args.source.now in
    of_ok (λ (font : Arc Decoded Global). IsFontOf known (Some c.args.bench.now.units) k (arc_value font)) (λ (font : Arc Decoded Global). IsFontOf part.library (Some part.units) k (arc_value font))
    c.load_counted.result (λ font found. as_known part.library known c.args.bench.now.units part.units k (arc_value font) c.requires.knows_library c.requires.units found) c.load_counted.ensures.found

pub returns-in-Ok-clause-found : goal.returns-in-Ok-clause-found
returns-in-Ok-clause-found g c =
    let part = c.args.seat.now.view.part in
    let k = arc_value c.args.looked.key.now in
    let loaded = as_known part.library (g.F.FontSource.library c.args.source.now) c.args.bench.now.units part.units k (arc_value c.in-Ok.font) c.requires.knows_library c.requires.units
    c.in-Ok.ensures.found in
    of_ok (λ (kept : Arc Decoded Global). arc_value kept ≡ arc_value c.in-Ok.font) (λ (kept : Arc Decoded Global). IsFontOf part.library (Some part.units) k (arc_value kept))
    c.keep.result (λ kept same. subst (IsFontOf part.library (Some part.units) k) (sym same) loaded) c.keep.ensures.same

pub returns-in-Hit-clause-asked : goal.returns-in-Hit-clause-asked
returns-in-Hit-clause-asked g c s came =
    let k = arc_value c.args.looked.key.now in
    let own = rw c.in-Hit.is at came.noted.own in
    asked_grew s c.args.seat.now (call s.view.number k Hit ∷ []) (one_call s c.args.seat.now (call s.view.number k Hit) came.turn.number came.turn.common_part own) (k ∷ []) refl

pub returns-in-Hit-clause-trail : goal.returns-in-Hit-clause-trail
returns-in-Hit-clause-trail g c s came =
    let k = arc_value c.args.looked.key.now in
    let own = rw c.in-Hit.is at came.noted.own in
    hit_grew _ k s c.args.seat.now (g.F.FontSource.loads c.args.source.now) (g.F.FontSource.loads c.args.source.now) c.args.loads.now c.args.loads.now
    (one_call s c.args.seat.now (call s.view.number k Hit) came.turn.number came.turn.common_part own) refl refl

pub returns-in-Busy-clause-asked : goal.returns-in-Busy-clause-asked
returns-in-Busy-clause-asked g c s came =
    let k = arc_value c.args.looked.key.now in
    let own = rw c.in-Busy.is at came.noted.own in
    asked_grew s c.args.seat.now (call s.view.number k Busy ∷ []) (one_call s c.args.seat.now (call s.view.number k Busy) came.turn.number came.turn.common_part own) (k ∷ []) refl

pub returns-in-Busy-clause-trail : goal.returns-in-Busy-clause-trail
returns-in-Busy-clause-trail g c s came =
    let k = arc_value c.args.looked.key.now in
    let own = rw c.in-Busy.is at came.noted.own in
    let part = s.view.part in
    let knows_library = subst (λ (p : Common). IfSome p.library (λ l. g.F.FontSource.library c.args.source.now ≡ Some l)) came.turn.common_part c.requires.knows_library in
    let units = c.requires.units ∙ ap (λ (p : Common). p.units) came.turn.common_part in
    let known = g.F.FontSource.library c.args.source.now in
    let told = λ (P : FileTable → Units → Type 0). as_told part.library known c.args.bench.now.units part.units P knows_library units in
    busy_grew _ k s c.args.seat.now (g.F.FontSource.loads c.args.source.now) (g.F.FontSource.loads c.load_counted.new.source) c.args.loads.now c.load_counted.new.loads
    (one_call s c.args.seat.now (call s.view.number k Busy) came.turn.number came.turn.common_part own) c.load_counted.ensures.loaded
    (told (λ l u. RoseUpTo (length (looked_for l u k)) c.args.loads.now c.load_counted.new.loads) c.load_counted.ensures.no_more)
    (λ w. told (λ l u. RoseBy (length (looked_for l u k)) c.args.loads.now c.load_counted.new.loads) (from_ok _ c.load_counted.result c.load_counted.ensures.files w))

pub returns-in-Ok-clause-asked : goal.returns-in-Ok-clause-asked
returns-in-Ok-clause-asked g c s came =
    let k = arc_value c.args.looked.key.now in
    let own = rw c.in-Claimed.is at came.noted.own in
    kept_asked k s c.args.seat.now c.keep.new.seat (one_call s c.args.seat.now (call s.view.number k Claimed) came.turn.number came.turn.common_part own) c.keep.ensures.number c.keep.ensures.part
    c.keep.result c.keep.ensures.filled c.keep.ensures.released

pub returns-in-Ok-clause-trail : goal.returns-in-Ok-clause-trail
returns-in-Ok-clause-trail g c s came =
    let k = arc_value c.args.looked.key.now in
    let own = rw c.in-Claimed.is at came.noted.own in
    let part = s.view.part in
    let knows_library = subst (λ (p : Common). IfSome p.library (λ l. g.F.FontSource.library c.args.source.now ≡ Some l)) came.turn.common_part c.requires.knows_library in
    let units = c.requires.units ∙ ap (λ (p : Common). p.units) came.turn.common_part in
    let known = g.F.FontSource.library c.args.source.now in
    let told = λ (P : FileTable → Units → Type 0). as_told part.library known c.args.bench.now.units part.units P knows_library units in
    kept_trail k s c.args.seat.now c.keep.new.seat (one_call s c.args.seat.now (call s.view.number k Claimed) came.turn.number came.turn.common_part own) c.keep.ensures.number c.keep.ensures.part c.keep.result
    (g.F.FontSource.loads c.args.source.now) (g.F.FontSource.loads c.load_counted-in-Claimed.new.source) c.args.loads.now c.load_counted-in-Claimed.new.loads c.keep.ensures.filled
    c.keep.ensures.released c.load_counted-in-Claimed.ensures.loaded
    (told (λ l u. RoseUpTo (length (looked_for l u k)) c.args.loads.now c.load_counted-in-Claimed.new.loads) c.load_counted-in-Claimed.ensures.no_more)
    (told (λ l u. RoseBy (length (looked_for l u k)) c.args.loads.now c.load_counted-in-Claimed.new.loads) c.in-Ok.ensures.files)

pub returns-in-Err-clause-asked : goal.returns-in-Err-clause-asked
returns-in-Err-clause-asked g c s came =
    let k = arc_value c.args.looked.key.now in
    let own = rw c.in-Claimed.is at came.noted.own in
    ended_asked k s c.args.seat.now c.release.new.seat (one_call s c.args.seat.now (call s.view.number k Claimed) came.turn.number came.turn.common_part own) c.release.ensures.turn.number c.release.ensures.turn.common_part
    Released refl c.release.ensures.noted.own

pub returns-in-Err-clause-trail : goal.returns-in-Err-clause-trail
returns-in-Err-clause-trail g c s came =
    let k = arc_value c.args.looked.key.now in
    let own = rw c.in-Claimed.is at came.noted.own in
    let part = s.view.part in
    let knows_library = subst (λ (p : Common). IfSome p.library (λ l. g.F.FontSource.library c.args.source.now ≡ Some l)) came.turn.common_part c.requires.knows_library in
    let units = c.requires.units ∙ ap (λ (p : Common). p.units) came.turn.common_part in
    let known = g.F.FontSource.library c.args.source.now in
    let told = λ (P : FileTable → Units → Type 0). as_told part.library known c.args.bench.now.units part.units P knows_library units in
    released_grew _ k s c.release.new.seat (g.F.FontSource.loads c.args.source.now) (g.F.FontSource.loads c.load_counted-in-Claimed.new.source) c.args.loads.now
    c.load_counted-in-Claimed.new.loads (λ w. cc)
    (two_calls k s c.args.seat.now c.release.new.seat (one_call s c.args.seat.now (call s.view.number k Claimed) came.turn.number came.turn.common_part own) c.release.ensures.turn.number c.release.ensures.turn.common_part Released
    c.release.ensures.noted.own) c.load_counted-in-Claimed.ensures.loaded
    (told (λ l u. RoseUpTo (length (looked_for l u k)) c.args.loads.now c.load_counted-in-Claimed.new.loads) c.load_counted-in-Claimed.ensures.no_more)
