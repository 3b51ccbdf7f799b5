use Rattle.std.proofs.Common.{◌∙◌, sym, subst}
use Rattle.std.specs.Prelude.{All}
use Rattle.font_decode.specs.Reading.{IsLocalDef}
use Rattle.font_decode.proofs.SoundVf.{are_shapes, sound_locals}
use Rattle.font_decode.proofs.decoding.decode_locals.Goals as goal

pub local_keys-requires-clause-locals : goal.local_keys-requires-clause-locals
local_keys-requires-clause-locals c =
    let read = c.requires.file in
    subst (All IsLocalDef) (sym (c.locals.ensures ∙ read.font.locals)) (sound_locals read.items read.sound)

pub new-requires-clause-shapes : goal.new-requires-clause-shapes
new-requires-clause-shapes c =
    let read = c.requires.file in
    let keys = rw (c.in-Some.is, c.locals.ensures) at c.in_ok-keys.ensures in
    are_shapes c.args.units.now c.args.key.now.size read.items c.args.file c.in-Some.keys read.sound read.font keys.0 keys.1
