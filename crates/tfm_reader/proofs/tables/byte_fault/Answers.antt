use Rattle.std.proofs.Common.{◌∙◌, ◌<◌, sym, subst, ap}
use Rattle.std.specs.Option.{option_map}
use Rattle.tfm_reader.specs.Tfm.{is_width_byte_wrong, nw}
use Rattle.tfm_reader.specs.declared.faults.TfmFault.TheVariants.{WidthByte}
use Rattle.tfm_reader.proofs.Least.{found_at, goes_on}
use Rattle.tfm_reader.proofs.tables.byte_fault.Goals as goal

pub returns-then-is_wrong : goal.returns-then-is_wrong
returns-then-is_wrong c =
    let bytes = c.args.bytes.now in
    let lt : c.loop-i.i < nw bytes = subst (λ n. c.loop-i.i < n) c.requires.count c.loop-i-test.true in
    sym (ap (option_map WidthByte) (found_at (is_width_byte_wrong bytes) (nw bytes) c.loop-i.i _ lt (sym c.is_wrong.ensures ∙ c.if-is_wrong.true) c.loop-i.invariant))

pub loop-i-preserved : goal.loop-i-preserved
loop-i-preserved c =
    let bytes = c.args.bytes.now in
    let lt : c.loop-i.i < nw bytes = subst (λ n. c.loop-i.i < n) c.requires.count c.loop-i-test.true in
    goes_on (is_width_byte_wrong bytes) (nw bytes) c.loop-i.i _ lt (sym c.is_wrong.ensures ∙ c.if-is_wrong.false) c.loop-i.invariant
