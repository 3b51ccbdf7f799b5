use Rattle.std.proofs.lemmas.Result.{err_from_is_err_and}
use Rattle.std.specs.Arc.{arc_value}
use Rattle.font_decode.specs.Files.{bytes_of}
use Rattle.font_decode.proofs.Loaded.{found_in, load_failed}
use Rattle.font_decode.proofs.font_load.load.Goals as goal

pub returns-clause-found : goal.returns-clause-found
returns-clause-found g c =
    let found = rw c.deref.ensures at c.in_ok-files.ensures.files in
    let order = rw c.deref.ensures at c.in_ok-files.ensures.order in
    let decoding = rw c.deref-2.ensures at c.in_ok-decoded.ensures in
    rw c.in_ok-new.ensures.ok
    (found_in (g.F.FontSource.library c.args.source.now) c.args.units.now (arc_value c.args.key.now) (bytes_of c.in_ok-files.files) c.in_ok-decoded.decoded found order decoding)

pub returns-in_err-files-clause-cause : goal.returns-in_err-files-clause-cause
returns-in_err-files-clause-cause g c =
    let p = err_from_is_err_and c.from_residual.result c.from_residual.ensures.1 in
    rw (p.1, p.2) (load_failed _ _ _ c.in_err-files.ensures.cause)

pub returns-clause-files : goal.returns-clause-files
returns-clause-files g c = rw c.deref.ensures at c.in_ok-files.ensures.loads

pub returns-clause-no_more : goal.returns-clause-no_more
returns-clause-no_more g c = rw c.deref.ensures at c.in_ok-files.ensures.no_more

pub returns-in_err-files-clause-no_more : goal.returns-in_err-files-clause-no_more
returns-in_err-files-clause-no_more g c = rw c.deref.ensures at c.in_err-files.ensures.no_more

pub returns-in_err-decoded-clause-no_more : goal.returns-in_err-decoded-clause-no_more
returns-in_err-decoded-clause-no_more g c = rw c.deref.ensures at c.in_ok-files.ensures.no_more

pub returns-in_err-new-clause-no_more : goal.returns-in_err-new-clause-no_more
returns-in_err-new-clause-no_more g c = rw c.deref.ensures at c.in_ok-files.ensures.no_more
