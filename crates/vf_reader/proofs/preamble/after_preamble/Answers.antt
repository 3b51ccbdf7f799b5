use Rattle.std.proofs.Common.{◌≡◌, ◌∙◌, drop, ap, arith}
use Rattle.std.proofs.lemmas.Grind.{common_steps}
use Rattle.std.proofs.lemmas.List.{take_rest}
use Rattle.vf_reader.specs.Preamble.{preamble_size}
use Rattle.vf_reader.proofs.preamble.after_preamble.Goals as goal

pub returns-clause-rest : goal.returns-clause-rest
returns-clause-rest c =
    let bytes = c.args.bytes.now in
    let at : c.at.result ≡ preamble_size bytes = grind (arith, common_steps) in
    take_rest bytes c.at.result ∙ ap (λ n. drop n bytes) at
