-- A page is drawn alike by fractions of one value.
use Rattle.std.proofs.Common.{◌≡◌, ◌∙◌, ℤ, pos, ◌+ℤ◌, ◌-ℤ◌, List, [], ◌∷◌, ◌++◌, true, false, Option, Some, None, Result, Ok, Err, refl, sym, ap, ap₂, subst}
use Rattle.std.specs.Prelude.{◌&&◌, if◌then◌else◌}
use Rattle.outside.specs.declared.keys.FontKey.{FontKey}
use Rattle.pixel_round.specs.Pixels.{AreEqual, Fraction, round, ceil}
use Rattle.pixel_round.proofs.Equal.{equal_fractions_convert_alike}
use Rattle.drift_rules.specs.Position.{FlatCommand, Skip, Char, Rule, Right, W, X, W0, X0, Down, Y, Z, Y0, Z0, Push, Pop, Enter, Leave, Advance, State, state_after, at_origin, down_by, after_drift, if_held, is_line_space, is_word_space, advance_by, right_by}
use Rattle.drift_rules.specs.Marks.{is_positive, mark_of}
use Rattle.drift_rules.specs.declared.faults.PenFault.{PenFault}
use Rattle.drift_rules.specs.declared.flat.Mark.{Mark}
use Rattle.drift_rules.specs.declared.flat.Mark.TheVariants as code
use Rattle.drift_rules.specs.declared.flat.Registers.{Registers}
use Rattle.packed_rows.specs.Bitmap.{Bitmap}
use Rattle.raster_page.specs.Ink.{Inked, page_of}
use Rattle.vf_expand.specs.Course.{Course, Gives, Asks, Lacks, Ends, Stops}
use Rattle.page_draw.specs.Members.{Finding, Flat, LookUp, Lack, Member, and_then, marks_after, last_state, marks_from}
use Rattle.page_draw.specs.Sheets.{inks_of}
use Rattle.page_draw.specs.Values.{DrawnValue, EndsIn, HasValue, PageValue, drawn_of}
use Rattle.page_draw.specs.Lacks.{each_once, lacks_of}
use Rattle.page_draw.specs.declared.sheet.Sheet.{Sheet}

module _ (c d : Fraction) (same : AreEqual c d) where
  rounds : (x : ℤ) → round c x ≡ round d x
  rounds x = (equal_fractions_convert_alike c d x same).0

  ceils : (x : ℤ) → ceil c x ≡ ceil d x
  ceils x = (equal_fractions_convert_alike c d x same).1

  over_alike : (s : State) (width p q : ℤ) → p ≡ q → advance_by c s width p ≡ advance_by d s width q
  over_alike s width p q e =
      ap₂ (λ (r p : ℤ). if_held (s.now.h +ℤ width) (record s { now = record s.now { h = s.now.h +ℤ width; hh = after_drift (s.now.hh +ℤ p) r } }))
      (rounds (s.now.h +ℤ width)) e

  right_alike : (s : State) (set : Registers) (p space : ℤ) → right_by c s set p space ≡ right_by d s set p space
  right_alike s set p space =
      ap₂ (λ (r q : ℤ). if_held (s.now.h +ℤ p) (record s { now = record set { h = set.h +ℤ p; hh = after_drift (if is_word_space p space then r else set.hh +ℤ q) r } }))
      (rounds (set.h +ℤ p)) (rounds p)

  down_alike : (s : State) (set : Registers) (p space : ℤ) → down_by c s set p space ≡ down_by d s set p space
  down_alike s set p space =
      ap₂ (λ (r q : ℤ). if_held (s.now.v +ℤ p) (record s { now = record set { v = set.v +ℤ p; vv = after_drift (if is_line_space p space then r else set.vv +ℤ q) r } }))
      (rounds (set.v +ℤ p)) (rounds p)

  after_alike : (s : State) (f : FlatCommand) → state_after c s f ≡ state_after d s f
  after_alike s Skip = refl
  after_alike s (Char key number width true) = refl
  after_alike s (Char key number width false) = over_alike s width (round c width) (round d width) (rounds width)
  after_alike s (Rule height width true) = refl
  after_alike s (Rule height width false) = over_alike s width (ceil c width) (ceil d width) (ceils width)
  after_alike s (Right p space) = right_alike s s.now p space
  after_alike s (W p space) = right_alike s (record s.now { w = p }) p space
  after_alike s (X p space) = right_alike s (record s.now { x = p }) p space
  after_alike s (W0 space) = right_alike s s.now s.now.w space
  after_alike s (X0 space) = right_alike s s.now s.now.x space
  after_alike s (Down p space) = down_alike s s.now p space
  after_alike s (Y p space) = down_alike s (record s.now { y = p }) p space
  after_alike s (Z p space) = down_alike s (record s.now { z = p }) p space
  after_alike s (Y0 space) = down_alike s s.now s.now.y space
  after_alike s (Z0 space) = down_alike s s.now s.now.z space
  after_alike s Push = refl
  after_alike s Pop = refl
  after_alike s Enter = refl
  after_alike s Leave = refl
  after_alike s (Advance width) = over_alike s width (round c width) (round d width) (rounds width)

  mark_alike : (r : Registers) (f : FlatCommand) → mark_of c r f ≡ mark_of d r f
  mark_alike r (Rule height width put) =
      ap₂ (λ (w h : ℤ). if is_positive height && is_positive width then Some (code.Rule r.hh (r.vv -ℤ h +ℤ pos 1) w h) else None) (ceils width) (ceils height)
  mark_alike r Skip = refl
  mark_alike r (Char key number width put) = refl
  mark_alike r (Right p space) = refl
  mark_alike r (W p space) = refl
  mark_alike r (X p space) = refl
  mark_alike r (W0 space) = refl
  mark_alike r (X0 space) = refl
  mark_alike r (Down p space) = refl
  mark_alike r (Y p space) = refl
  mark_alike r (Z p space) = refl
  mark_alike r (Y0 space) = refl
  mark_alike r (Z0 space) = refl
  mark_alike r Push = refl
  mark_alike r Pop = refl
  mark_alike r Enter = refl
  mark_alike r Leave = refl
  mark_alike r (Advance width) = refl

  -- ---- a list of members

  then_alike : (r : Result State PenFault) (members : List Member) → ((t : State) → last_state c t members ≡ last_state d t members)
      → and_then r (λ t. last_state c t members) ≡ and_then r (λ t. last_state d t members)
  then_alike (Ok t) members h = h t
  then_alike (Err fault) members h = refl

  pub states_alike : (s : State) (members : List Member) → last_state c s members ≡ last_state d s members
  states_alike s [] = refl
  states_alike s (Flat f g at ∷ members) =
      ap (λ (r : Result State PenFault). and_then r (λ t. last_state c t members)) (after_alike s f)
      ∙ then_alike (state_after d s f) members (λ t. states_alike t members)
  states_alike s (LookUp k at ∷ members) = states_alike s members
  states_alike s (Lack f at ∷ members) = states_alike s members

  marks_after_alike : (r : Result State PenFault) (sheet : Sheet) (members : List Member) → ((t : State) → marks_from c sheet t members ≡ marks_from d sheet t members)
      → marks_after r (λ t. marks_from c sheet t members) ≡ marks_after r (λ t. marks_from d sheet t members)
  marks_after_alike (Ok t) sheet members h = h t
  marks_after_alike (Err fault) sheet members h = refl

  marks_alike : (sheet : Sheet) (s : State) (members : List Member) → marks_from c sheet s members ≡ marks_from d sheet s members
  marks_alike sheet s [] = refl
  marks_alike sheet s (Flat f g at ∷ members) =
      ap₂ (λ (m : Option Mark) (rest : List Inked). inks_of sheet m g ++ rest) (mark_alike s.now f)
      (ap (λ (r : Result State PenFault). marks_after r (λ t. marks_from c sheet t members)) (after_alike s f)
      ∙ marks_after_alike (state_after d s f) sheet members (λ t. marks_alike sheet t members))
  marks_alike sheet s (LookUp k at ∷ members) = marks_alike sheet s members
  marks_alike sheet s (Lack f at ∷ members) = marks_alike sheet s members

  ends_alike : (s : State) (page : DrawnValue) (to : Course) (value : PageValue) → EndsIn c s page to value → EndsIn d s page to value
  ends_alike s page (Gives f g at rest) value h = (h.0, sym (after_alike s f) ∙ h.1, h.2)
  ends_alike s page (Asks k at rest) value h = h
  ends_alike s page (Lacks f at rest) value h = h
  ends_alike s page (Ends at) value h = h
  ends_alike s page (Stops fault at) value h = h

-- a page has the same value
pub value_alike : (Finds : Finding) (c d : Fraction) (sheet : Sheet) (from : Course) (value : PageValue) (looks : List FontKey) → AreEqual c d
    → HasValue Finds c sheet from value looks → HasValue Finds d sheet from value looks
value_alike Finds c d sheet from value looks same h = record {
  members = h.members;
  to = h.to;
  state = h.state;
  leads = h.leads;
  moved = sym (states_alike c d same at_origin h.members) ∙ h.moved;
  ends = subst (λ (page : Bitmap). EndsIn d h.state (record { page = page; lacks = each_once (lacks_of h.members) }) h.to value) (ap (page_of sheet.width sheet.height) (marks_alike c d same sheet at_origin h.members))
      (ends_alike c d same h.state (drawn_of c sheet h.members) h.to value h.ends);
  looked = h.looked;
}
