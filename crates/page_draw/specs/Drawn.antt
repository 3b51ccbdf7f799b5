-- What a drawn page, and one that wasn't drawn, say of the page's value and of the keys that were
-- asked for.
use Rattle.std.specs.Prelude.{◌≡◌, ◌⊎◌, ℕ, List, [], ◌∷◌, ◌++◌, Option, Some, Result, Ok, Err}
use Rattle.outside.specs.declared.keys.FontKey.{FontKey}
use Rattle.pixel_round.specs.Pixels.{conversion}
use Rattle.pixel_round.specs.declared.units.Units.{Units}
use Rattle.drift_rules.specs.Position.{State, at_origin}
use Rattle.page_index.specs.Pages.{Indexed, document_units}
use Rattle.font_decode.specs.Desks.{GrewBy}
use Rattle.font_decode.specs.declared.font_or_fault.Decoded.{Decoded}
use Rattle.vf_expand.specs.Course.{Course, Asks, course_of}
use Rattle.drift_rules.specs.declared.faults.PenFault.{PenFault}
use Rattle.vf_expand.specs.Faults.{Pen, value_of_fault}
use Rattle.page_draw.specs.Members.{Finding, Unfolds, Member, last_state, looks_of}
use Rattle.page_draw.specs.Values.{HasValue, PageValue, fault_at}
use Rattle.page_draw.specs.declared.sheet.Sheet.{Sheet}
use Rattle.page_draw.specs.declared.stop.PageStop.{PageStop}
use Rattle.page_draw.specs.declared.stop.PageStop.TheVariants as stop

-- the value of the page of an index with a number, from 0, and the keys that are looked up
pub record IsPageValue (Finds : Finding) (indexed : Indexed) (sheet : Sheet) (i : ℕ)
    (value : PageValue) (looks : List FontKey) : Type 0 where
  pub units : Units
  pub of_document : document_units indexed.res indexed.reading ≡ Some units
  pub has : HasValue Finds (conversion units) sheet (course_of sheet.tolerant indexed.reading i)
      value looks

-- the page has this value, and the keys asked for are its look-ups, in order
abbrev pub IsDrawn : Finding → Indexed → Sheet → ℕ → PageValue → Option (List FontKey)
    → Option (List FontKey) → Type 0
IsDrawn Finds indexed sheet i value old new =
    (looks : List FontKey) × IsPageValue Finds indexed sheet i value looks × GrewBy old new looks

-- the page was followed up to a look-up or a want of memory: the keys asked for are its look-ups so
-- far, and perhaps the one that stands next
pub record IsBroken (Finds : Finding) (indexed : Indexed) (sheet : Sheet) (i : ℕ)
    (old new : Option (List FontKey)) : Type 0 where
  pub members : List Member
  pub to : Course
  pub units : Units
  pub state : State
  pub of_document : document_units indexed.res indexed.reading ≡ Some units
  pub leads : Unfolds Finds (course_of sheet.tolerant indexed.reading i) members to
  pub moved : last_state (conversion units) at_origin members ≡ Ok state
  pub asked : GrewBy old new (looks_of members)
      ⊎ ((k : FontKey) × (at : ℕ) × (rest : Decoded → Course) × (to ≡ Asks k at rest)
      × GrewBy old new (looks_of members ++ k ∷ []))

-- a fault is the page's own; where a source failed or memory ran out the page was broken off
abbrev pub IsStop : Finding → Indexed → Sheet → ℕ → PageStop → Option (List FontKey)
    → Option (List FontKey) → Type 0
IsStop Finds indexed sheet i (stop.Fault fault at) old new =
    IsDrawn Finds indexed sheet i (fault_at (value_of_fault fault) at) old new
IsStop Finds indexed sheet i stop.SourceFault old new = IsBroken Finds indexed sheet i old new
IsStop Finds indexed sheet i stop.NoMemory old new = IsBroken Finds indexed sheet i old new

-- a page that came to its value, and wasn't broken off
abbrev pub IsOwnStop : PageStop → Type 0
IsOwnStop (stop.Fault fault at) = Unit {0}
IsOwnStop stop.SourceFault = ⊥
IsOwnStop stop.NoMemory = ⊥

abbrev pub IsWhole : {A : Type 0} → Result A PageStop → Type 0
IsWhole (Ok page) = Unit {0}
IsWhole (Err reason) = IsOwnStop reason

-- ---- the parts of a drawing

-- why a flat command, whose next state is given, stops the page at a position
abbrev pub IsPenStop : Result State PenFault → ℕ → PageStop → Type 0
IsPenStop after at (stop.Fault fault place) =
    (found : PenFault) × (after ≡ Err found) × (value_of_fault fault ≡ Pen found) × (place ≡ at)
IsPenStop after at stop.SourceFault = ⊥
IsPenStop after at stop.NoMemory = Unit {0}

-- why the page isn't whole at its end
abbrev pub IsLeft : PageStop → PageValue → Type 0
IsLeft (stop.Fault fault at) value = value ≡ fault_at (value_of_fault fault) at
IsLeft stop.SourceFault value = ⊥
IsLeft stop.NoMemory value = ⊥

-- a fault that is such a value of the page
abbrev pub IsFaultOf : PageStop → (PageValue → Type 0) → Type 0
IsFaultOf (stop.Fault fault at) P = P (fault_at (value_of_fault fault) at)
IsFaultOf stop.SourceFault P = ⊥
IsFaultOf stop.NoMemory P = ⊥
