-- A step that is no flat command leaves the same to do.
use Rattle.std.proofs.Common.{◌≡◌, ◌≤◌, ◌<◌, ◌∙◌, ℕ, refl, sym, ap, subst, arith, Option, None, Result, Err}
use Rattle.std.specs.Prelude.{IsErrOf}
use Rattle.drift_rules.specs.Position.{Char, FlatCommand, State, state_after}
use Rattle.pixel_round.specs.Pixels.{Fraction}
use Rattle.drift_rules.specs.declared.faults.PenFault.{PenFault}
use Rattle.drift_rules.specs.declared.flat.Flat.{Flat}
use Rattle.pk_runs.specs.declared.glyph.Glyph.{Glyph}
use Rattle.font_decode.specs.declared.font_or_fault.Decoded.{Decoded}
use Rattle.vf_expand.specs.Course.{Course, Asks, Gives}
use Rattle.vf_expand.specs.Expansion.{Expansion, GivesNoPackedChar, after_answer, asks_left, rest_of, marked_font, steps_left}
use Rattle.vf_expand.specs.Steps.{GivesOne, HasItsGlyph, Steps}
use Rattle.vf_expand.specs.declared.lack.Lack.{Lack}
use Rattle.vf_expand.specs.declared.step.Step.{Step}
use Rattle.vf_expand.specs.declared.step.Step.TheVariants as step
use Rattle.std.specs.Arc.{arc_value}
use Rattle.outside.specs.Counts.{HasCause}
use Rattle.font_decode.specs.declared.desk.DeskStop.{DeskStop}
use Rattle.font_decode.specs.declared.desk.DeskStop.TheVariants as desk
use Rattle.page_draw.specs.Drawn.{IsOwnStop, IsPenStop}
use Rattle.page_draw.specs.Stops.{stop_of_desk}
use Rattle.page_draw.specs.DrawnUpTo.{HasFewerAtLook}
use Rattle.page_draw.specs.declared.stop.PageStop.{PageStop}
use Rattle.page_draw.specs.declared.stop.PageStop.TheVariants as stop

pub record LeavesTheSame (old : Expansion) (given : Step) (new : Expansion) : Type 0 where
  pub left : rest_of new ≡ rest_of old
  pub next : Steps new given new
  pub asks : asks_left new ≡ asks_left old
  pub fewer : HasFewerAtLook old given new

pub other_stays : (old new : Expansion) (next : Step) → ((flat : Flat) → next ≡ step.Flat flat → ⊥) → ((lack : Lack) → next ≡ step.Lack lack → ⊥) → Steps old next new → LeavesTheSame old next new
other_stays old new (step.Flat flat) other none h = absurd (other flat refl)
other_stays old new (step.Lack lack) other none h = absurd (none lack refl)
other_stays old new (step.Ask key) other none h =
    record {
      left = h.left;
      next = record {
        asked = subst (λ (x : Course). x ≡ Asks (arc_value key) new.at (after_answer x)) (sym h.left) h.asked;
        look = h.look;
        left = refl;
        unmarked = h.unmarked;
        some = subst (λ (n : ℕ). 0 < n) (sym h.asks) h.some;
        asks = refl;
        steps = refl;
      };
      asks = h.asks;
      fewer = omega (arith, h.steps);
    }
other_stays old new step.End other none h =
    record { left = h.1.left; next = (h.1.left ∙ h.0, record { left = refl; unmarked = h.1.unmarked; asks = refl }); asks = h.1.asks; fewer = tt }
other_stays old new (step.Stop fault) other none h =
    record { left = h.1.left; next = (h.1.left ∙ h.0, record { left = refl; unmarked = h.1.unmarked; asks = refl }); asks = h.1.asks; fewer = tt }

-- a look-up that comes later has no more steps left
pub fewer_still : (first old new : Expansion) (given : Step) → steps_left old ≤ steps_left first → HasFewerAtLook old given new → HasFewerAtLook first given new
fewer_still first old new (step.Flat flat) some h = tt
fewer_still first old new (step.Ask key) some h = omega (arith, some, h)
fewer_still first old new (step.Lack lack) some h = tt
fewer_still first old new step.End some h = tt
fewer_still first old new (step.Stop fault) some h = tt

-- what stops the pen is no failure of a source
pub no_source : {T : Type 0} (r : Result State PenFault) (at : ℕ) (why : PageStop) → IsPenStop r at why → IsErrOf {T = T} (Err why) stop.SourceFault → ⊥
no_source r at (stop.Fault fault place) h e = absurd cc
no_source r at stop.SourceFault h e = h
no_source r at stop.NoMemory h e = absurd cc

-- an error is the same in the result of a call that hands it on
pub handed_on : {T U : Type 0} (e x : PageStop) → IsErrOf {T = T} (Err e) x → IsErrOf {T = U} (Err e) x
handed_on e x h =
    let same : e ≡ x = cc in
    ap Err same

-- ---- the pen's stop, by what is equal

pub stop_as : (k c : Fraction) (s : State) (f : FlatCommand) (place at : ℕ) (why : PageStop) → k ≡ c → place ≡ at → IsPenStop (state_after k s f) place why → IsPenStop (state_after c s f) at why
stop_as k c s f place at why conv same stop =
    subst (λ (x : ℕ). IsPenStop (state_after c s f) x why) same (subst (λ (x : Fraction). IsPenStop (state_after x s f) place why) conv stop)

-- ---- a flat command that is no character has no glyph

no_glyph : (font : Option Decoded) (f : FlatCommand) (glyph : Option Glyph) (at : ℕ) (rest : Course) → GivesNoPackedChar (Gives f glyph at rest) → HasItsGlyph font f glyph → glyph ≡ None
no_glyph font (Char k c width put) glyph at rest none has = absurd none
no_glyph font _ glyph at rest none has = has.1

pub comes_alone : (old new : Expansion) (f : FlatCommand) (glyph : Option Glyph) → GivesNoPackedChar (rest_of old) → GivesOne old new f glyph → GivesOne old new f None
comes_alone old new f glyph none one =
    let is = no_glyph (marked_font new) f glyph new.at (rest_of new) (subst GivesNoPackedChar one.given none) one.has in
    subst (GivesOne old new f) is one

-- ---- a page that its desk broke off

pub broken_off : (why : DeskStop) → IsOwnStop (stop_of_desk why) → ⊥
broken_off desk.SourceFault own = own
broken_off desk.NoMemory own = own

pub desk_failed : {T U : Type 0} (why : DeskStop) (before now : ℕ) → HasCause before now (IsErrOf {T = T} (Err why) desk.SourceFault)
    → HasCause before now (IsErrOf {T = U} (Err (stop_of_desk why)) stop.SourceFault)
desk_failed desk.SourceFault before now h = record { never_falls = h.never_falls; rose = λ e. h.rose refl }
desk_failed desk.NoMemory before now h = record { never_falls = h.never_falls; rose = λ e. absurd cc }
