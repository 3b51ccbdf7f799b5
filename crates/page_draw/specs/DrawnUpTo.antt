-- A page as far as it was drawn.
use Rattle.std.specs.Prelude.{◌≡◌, ◌≤◌, ℕ, List, Option, Ok}
use Rattle.outside.specs.Library as library
use Rattle.outside.specs.declared.keys.FontKey.{FontKey}
use Rattle.pixel_round.specs.Pixels.{Fraction}
use Rattle.pixel_round.specs.declared.units.Units.{Units}
use Rattle.drift_rules.specs.Position.{State, at_origin}
use Rattle.page_index.specs.Pages.{Indexed, IsConversionOf, document_units}
use Rattle.font_decode.specs.Decoding.{IsFontOf}
use Rattle.font_decode.specs.Desks.{GrewBy}
use Rattle.vf_expand.specs.Course.{Course, course_of}
use Rattle.vf_expand.specs.Expansion.{Expansion, steps_left}
use Rattle.vf_expand.specs.declared.step.Step.{Step}
use Rattle.vf_expand.specs.declared.step.Step.TheVariants as step
use Rattle.page_draw.specs.Members.{Member, Finding, Unfolds, looks_of, last_state}
use Rattle.page_draw.specs.Values.{DrawnValue, drawn_of}
use Rattle.page_draw.specs.Drawn.{IsStop}
use Rattle.page_draw.specs.declared.sheet.Sheet.{Sheet}
use Rattle.page_draw.specs.declared.stop.PageStop.{PageStop}

-- the members that were taken lead here, moved the pen to this state, set what the page has and are
-- its lacks; the keys asked for are their look-ups
pub record IsDrawnUpTo (Finds : Finding) (c : Fraction) (sheet : Sheet) (from to : Course)
    (s : State) (drawn : DrawnValue) (old new : Option (List FontKey)) : Type 0 where
  pub members : List Member
  pub leads : Unfolds Finds from members to
  pub moved : last_state c at_origin members ≡ Ok s
  pub has : drawn ≡ drawn_of c sheet members
  pub asked : GrewBy old new (looks_of members)

-- what was drawn up to one place was drawn up to another, whatever led to the first, and no key was
-- asked for between them
abbrev pub Continues : Fraction → Sheet → Course → State → DrawnValue → Course → State → DrawnValue
    → Type 0
Continues c sheet to s drawn to' s' drawn' =
    (known : Option library.FileTable) (units : Option Units) (from : Course)
    (old new : Option (List FontKey))
    → IsDrawnUpTo (IsFontOf known units) c sheet from to s drawn old new
    → IsDrawnUpTo (IsFontOf known units) c sheet from to' s' drawn' old new

-- a page that was drawn so far stops so
abbrev pub StopsWith : Fraction → Sheet → Course → State → DrawnValue → PageStop → Type 0
StopsWith c sheet to s drawn why =
    (known : Option library.FileTable) (units : Option Units) (indexed : Indexed) (i : ℕ)
    (old new : Option (List FontKey))
    → IsConversionOf (document_units indexed.res indexed.reading) c
    → IsDrawnUpTo (IsFontOf known units) c sheet (course_of sheet.tolerant indexed.reading i) to s
    drawn old new
    → IsStop (IsFontOf known units) indexed sheet i why old new

-- at a look-up there are no more steps left than before
abbrev pub HasFewerAtLook : Expansion → Step → Expansion → Type 0
HasFewerAtLook old (step.Ask key) new = steps_left new ≤ steps_left old
HasFewerAtLook old _ new = Unit {0}
