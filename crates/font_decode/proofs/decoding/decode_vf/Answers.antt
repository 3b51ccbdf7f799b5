use Rattle.std.proofs.Common.{◌∙◌, length, sym, arith}
use Rattle.std.proofs.lemmas.Bool.{ltb-false}
use Rattle.vf_reader.proofs.PacketsFit.{packets_fit}
use Rattle.font_decode.proofs.decoding.decode_vf.Goals as goal

pub decode_locals-requires-clause-few : goal.decode_locals-requires-clause-few
decode_locals-requires-clause-few c =
    let font = c.in-Ok.ensures.font in
    let short = ltb-false 8388608 (length c.args.vf.now) (sym c.is_too_long.ensures ∙ c.if-is_too_long.false) in
    let fit = packets_fit c.args.vf.now font.0 c.in-Ok.file font.1 font.2 in
    omega (arith, short, fit)
