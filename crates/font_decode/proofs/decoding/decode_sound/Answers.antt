use Rattle.std.proofs.Common.{sym, ap, subst, List, ℕ, Option}
use Rattle.std.specs.Prelude.{IfOk}
use Rattle.std.specs.Option.{option_map, MatchOption}
use Rattle.font_decode.specs.Files.{bytes_of}
use Rattle.font_decode.specs.Decoding.{DecodesPacked, DecodesShortVf}
use Rattle.font_decode.specs.Reading.{IsTfmOf}
use Rattle.font_decode.proofs.decoding.decode_sound.Goals as goal

pub returns-in-Some : goal.returns-in-Some
returns-in-Some c =
    let u = c.args.units.now in
    let k = c.args.key.now in
    let read = subst (λ (vf : List ℕ). IfOk c.decode_vf.result (λ d. (bytes : List ℕ) → IsTfmOf bytes c.args.tfm.now → DecodesShortVf u k bytes vf d)) c.deref.ensures.value c.decode_vf.ensures in
    subst (λ (vf : Option (List ℕ)). IfOk c.decode_vf.result (λ d. (bytes : List ℕ) → IsTfmOf bytes c.args.tfm.now
    → MatchOption vf (DecodesPacked u k bytes (bytes_of c.args.files.now) d) (λ vf. DecodesShortVf u k bytes vf d)))
    (sym (ap (option_map (λ v. v.items)) c.in-Some.is)) read
