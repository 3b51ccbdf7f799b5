-- Fonts that are held, each with its key.
use Rattle.std.specs.Prelude.{All, List, Option}
use Rattle.std.specs.Arc.{arc_value}
use Rattle.outside.specs.Library.{FileTable}
use Rattle.pixel_round.specs.declared.units.Units.{Units}
use Rattle.font_decode.specs.Decoding.{IsFontOf}
use Rattle.page_workers.specs.declared.held_fonts.HeldFont.{HeldFont}

-- each is its key's font, where the library and the units are known
abbrev pub AreTheirKeys : Option FileTable → Option Units → List HeldFont → Type 0
AreTheirKeys l u fonts = All (λ h. IsFontOf l u (arc_value h.key) (arc_value h.font)) fonts
