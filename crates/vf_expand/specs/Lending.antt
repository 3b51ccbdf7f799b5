-- What an expander is once the glyph of the step that it gave is read no more.
use Rattle.std.specs.Prelude.{◌≡◌, [], ⊤, Option, MatchOption}
use Rattle.std.specs.Borrow.{follows_so, MutBor, Fml}
use mathlib.Core.Option.{none}
use mir.Syntax.{named}
use Rattle.vf_expand.specs.Expansion.{Expansion}
use Rattle.vf_expand.specs.Steps.{GivesPackedChar}
use Rattle.vf_expand.specs.declared.step.PackedChar.{PackedChar}
use Rattle.vf_expand.specs.contracts.expander.Expander.{the_row}

-- the step was given, or nothing has changed. `named 0` is the place of the index's lifetime in the
-- signature
abbrev pub PassesPackedChar : MutBor Expansion → Option PackedChar → Fml
PassesPackedChar expander result =
    let row = the_row (record { mir = named 0; lft = [] }) in
    follows_so row row expander.ghost_name none (λ _ _. ⊤)
    (λ new. MatchOption result (new ≡ expander.now)
    (λ packed. GivesPackedChar expander.now packed new))
