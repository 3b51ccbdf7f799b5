use Rattle.std.proofs.Common.{◌+◌, ◌-◌, ◌<◌, ◌≤◌, Some, arith, ap, ◌∙◌}
use Rattle.code_sums.specs.Sums.{CODES}
use Rattle.vf_reader.specs.Weights.{MAX_SPAN_BYTES, span_bytes}
use Rattle.vf_reader.proofs.Weighed.{replaced_fits, weight_fits, weighed_put}
use Rattle.vf_reader.proofs.packet_table.PacketTable.put.Goals as goal

pub overflow_sub-self : goal.overflow_sub-self
overflow_sub-self c =
    let code : c.args.c < CODES = omega (arith, c.ranges.c.fits) in
    let few : span_bytes (Some c.args.span) ≤ MAX_SPAN_BYTES = omega (arith, c.bytes_of-added.ensures.bytes, c.bytes_of-added.ensures.few) in
    let fits = replaced_fits c.self.inside.spans c.put.new.self c.args.c c.args.span code c.self.inside.weight c.self.invariant few c.in_ok-put.ensures.put in
    let replaced = c.bytes_of-replaced.ensures.bytes ∙ ap span_bytes c.get.ensures in
    omega (arith, fits, replaced)

pub overflow_add-self : goal.overflow_add-self
overflow_add-self c =
    let code : c.args.c < CODES = omega (arith, c.ranges.c.fits) in
    let few : span_bytes (Some c.args.span) ≤ MAX_SPAN_BYTES = omega (arith, c.bytes_of-added.ensures.bytes, c.bytes_of-added.ensures.few) in
    let room = weight_fits c.self.inside.spans c.put.new.self c.args.c c.args.span code c.self.inside.weight c.self.invariant few c.in_ok-put.ensures.put in
    let added = c.bytes_of-added.ensures.few in
    omega (arith, room, added)

pub invariant_of-self-2 : goal.invariant_of-self-2
invariant_of-self-2 c =
    let code : c.args.c < CODES = omega (arith, c.ranges.c.fits) in
    let few : span_bytes (Some c.args.span) ≤ MAX_SPAN_BYTES = omega (arith, c.bytes_of-added.ensures.bytes, c.bytes_of-added.ensures.few) in
    weighed_put c.self.inside.spans c.put.new.self c.args.c c.args.span code c.self.inside.weight c.self.invariant few c.in_ok-put.ensures.put _
    (λ i. c.self.inside.weight - (c.bytes_of-replaced.ensures.bytes ∙ ap span_bytes c.get.ensures) i + c.bytes_of-added.ensures.bytes i)
