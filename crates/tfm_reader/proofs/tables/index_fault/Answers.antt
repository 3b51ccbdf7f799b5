use Rattle.std.proofs.Common.{◌<◌, subst}
use Rattle.std.proofs.lemmas.Bool.{lt-leb}
use Rattle.tfm_reader.specs.Tfm.{codes_of, is_index_wrong, nw, width_index}
use Rattle.tfm_reader.proofs.Least.{goes_on}
use Rattle.tfm_reader.proofs.tables.index_fault.Goals as goal

pub loop-i-preserved : goal.loop-i-preserved
loop-i-preserved c =
    let bytes = c.args.bytes.now in
    let lt : c.loop-i.i < codes_of bytes = subst (λ n. c.loop-i.i < n) c.requires.codes c.loop-i-test.true in
    let small : width_index bytes c.loop-i.i < nw bytes =
    subst (λ n. width_index bytes c.loop-i.i < n) c.requires.count (subst (λ w. w < c.args.layout.now.count) c.width_index.ensures.index c.if-width_index-layout.false) in
    goes_on (is_index_wrong bytes) (codes_of bytes) c.loop-i.i _ lt (lt-leb _ _ small) c.loop-i.invariant
