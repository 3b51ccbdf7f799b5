use Rattle.std.proofs.Common.{List, ◌∷◌, ℕ, drop, sym, subst}
use Rattle.dvi_commands.specs.declared.command.Context.{Context}
use Rattle.dvi_commands.specs.Reading.{Reads}
use Rattle.vf_expand.specs.Levels.{AreLevels}
use Rattle.vf_expand.proofs.Levels.{is_readable}
use Rattle.vf_expand.proofs.current_level.current_level.Goals as goal

pub returns-in-Some-clause-readable : goal.returns-in-Some-clause-readable
returns-in-Some-clause-readable c =
    let level = c.args.level.now in
    let whole = is_readable c.args.bytes.now level (c.in-Some.outside.now ∷ c.in-Some.ensures.0) (subst (AreLevels c.args.bytes.now level) c.in-Some.ensures.1 c.requires.levels) in
    subst (λ (p : Context). Reads p (drop level.pos c.packet_of.result.text.now)) (sym c.packet_of.ensures.context)
    (subst (λ (t : List ℕ). Reads _ (drop level.pos t)) (sym c.packet_of.ensures.text) whole)
