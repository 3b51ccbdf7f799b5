-- The states along a page's list, and its marks.
use Rattle.std.specs.Prelude.{List, [], ◌∷◌, ◌++◌, Result, Ok, Err}
use Rattle.pixel_round.specs.Pixels.{Fraction}
use Rattle.drift_rules.specs.Position.{State, state_after}
use Rattle.drift_rules.specs.Marks.{mark_of}
use Rattle.drift_rules.specs.declared.faults.PenFault.{PenFault}
use Rattle.raster_page.specs.Ink.{Inked}
pub use Rattle.vf_expand.specs.Members.{Member, Flat, LookUp, Lack, Finding, Unfolds, looks_of}
use Rattle.page_draw.specs.Sheets.{inks_of}
use Rattle.page_draw.specs.declared.sheet.Sheet.{Sheet}

-- the state after the members, from a state on, or the fault of the first that has no next state
abbrev pub and_then : {A : Type 0} → Result State PenFault → (State → Result A PenFault)
    → Result A PenFault
and_then (Ok s) next = next s
and_then (Err fault) next = Err fault

abbrev pub last_state : Fraction → State → List Member → Result State PenFault
last_state c s [] = Ok s
last_state c s (Flat f g at ∷ members) = and_then (state_after c s f) (λ t. last_state c t members)
last_state c s (LookUp k at ∷ members) = last_state c s members
last_state c s (Lack f at ∷ members) = last_state c s members

abbrev pub marks_after : Result State PenFault → (State → List Inked) → List Inked
marks_after (Ok s) next = next s
marks_after (Err fault) next = []

-- what is set on the sheet, in order; a command marks where the pen stands before it
abbrev pub marks_from : Fraction → Sheet → State → List Member → List Inked
marks_from c sheet s [] = []
marks_from c sheet s (Flat f g at ∷ members) =
    inks_of sheet (mark_of c s.now f) g ++ marks_after (state_after c s f)
    (λ t. marks_from c sheet t members)
marks_from c sheet s (LookUp k at ∷ members) = marks_from c sheet s members
marks_from c sheet s (Lack f at ∷ members) = marks_from c sheet s members
