-- The value of a page: its bitmap and its lacks, or its first fault and the place. Knuth, DVItype,
-- "Translation to symbolic form".
use Rattle.std.specs.Prelude.{◌≡◌, ℕ, List, [], ◌∷◌, Result, Ok, Err}
use Rattle.outside.specs.declared.keys.FontKey.{FontKey}
use Rattle.pixel_round.specs.Pixels.{Fraction}
use Rattle.drift_rules.specs.Position.{State, state_after, at_origin}
use Rattle.drift_rules.specs.declared.faults.PenFault.{PenFault}
use Rattle.drift_rules.specs.declared.faults.PenFault.TheVariants.{StackLeft}
use Rattle.drift_rules.specs.declared.flat.Registers.{Registers}
use Rattle.packed_rows.specs.Bitmap.{Bitmap}
use Rattle.raster_page.specs.Ink.{page_of}
use Rattle.vf_expand.specs.Course.{Course, Gives, Asks, Lacks, Ends, Stops}
use Rattle.vf_expand.specs.Faults.{PageFaultValue, Pen}
use Rattle.page_draw.specs.Lacks.{LackValue, each_once, lacks_of, values_of}
use Rattle.page_draw.specs.Members.{Finding, Unfolds, Member, last_state, looks_of, marks_from}
use Rattle.page_draw.specs.declared.drawn.Drawn.{Drawn}
use Rattle.page_draw.specs.declared.sheet.Sheet.{Sheet}

-- why a page has no bitmap, with the position of the page's command that has the fault, or of its
-- Eop
pub record PlacedFault : Type 0 where
  pub fault : PageFaultValue
  pub at : ℕ

-- a page as it was drawn, and the missing fonts, characters, glyphs and packets that it lacks
pub record DrawnValue : Type 0 where
  pub page : Bitmap
  pub lacks : List LackValue

abbrev pub value_of_drawn : Drawn → DrawnValue
value_of_drawn drawn = record { page = drawn.page; lacks = values_of drawn.lacks.items }

abbrev pub PageValue : Type 0
PageValue = Result DrawnValue PlacedFault

abbrev pub fault_at : PageFaultValue → ℕ → PageValue
fault_at fault at = Err (record { fault = fault; at = at })

-- the page's dots, each decided alone by the marks of its list
abbrev pub bitmap_of : Fraction → Sheet → List Member → Bitmap
bitmap_of c sheet members = page_of sheet.width sheet.height (marks_from c sheet at_origin members)

-- and the lacks of its list, later ones of an equal fault left out
abbrev pub drawn_of : Fraction → Sheet → List Member → DrawnValue
drawn_of c sheet members = record {
  page = bitmap_of c sheet members;
  lacks = each_once (lacks_of members);
}

-- at the page's end nothing may be saved
abbrev pub ended_with : List Registers → ℕ → DrawnValue → PageValue
ended_with [] eop drawn = Ok drawn
ended_with (r ∷ saved) eop drawn = fault_at (Pen StackLeft) eop

-- how a page ends that is in a state, by what is left of its course: with a command that has no
-- next state, at a stop, or at its end
abbrev pub EndsIn : Fraction → State → DrawnValue → Course → PageValue → Type 0
EndsIn c s drawn (Gives f g at rest) value =
    (fault : PenFault) × (state_after c s f ≡ Err fault) × (value ≡ fault_at (Pen fault) at)
EndsIn c s drawn (Asks k at rest) value = ⊥
EndsIn c s drawn (Lacks f at rest) value = ⊥
EndsIn c s drawn (Ends at) value = value ≡ ended_with s.saved at drawn
EndsIn c s drawn (Stops fault at) value = value ≡ fault_at fault at

-- the value of a page with this course, and the keys that are looked up before its end
pub record HasValue (Finds : Finding) (c : Fraction) (sheet : Sheet) (from : Course)
    (value : PageValue) (looks : List FontKey) : Type 0 where
  pub members : List Member
  pub to : Course
  pub state : State
  pub leads : Unfolds Finds from members to
  pub moved : last_state c at_origin members ≡ Ok state
  pub ends : EndsIn c state (drawn_of c sheet members) to value
  pub looked : looks ≡ looks_of members
