-- How a page ends that was drawn so far.
use Rattle.std.proofs.Common.{◌≡◌, ◌≢◌, ◌⊎◌, ◌≤◌, inl, inr, ap₂, arith, IfOk, IfErr, ℕ, List, [], ◌∷◌, ◌++◌, refl, sym, ap, subst, ◌∙◌, Option, Result, Ok, Err}
use Rattle.outside.specs.declared.keys.FontKey.{FontKey}
use Rattle.pixel_round.specs.Pixels.{conversion, Fraction}
use Rattle.outside.specs.Counts.{Rose}
use Rattle.drift_rules.specs.Position.{FlatCommand, State, state_after, at_origin}
use Rattle.drift_rules.specs.declared.faults.PenFault.TheVariants.{StackLeft}
use Rattle.drift_rules.specs.declared.flat.Registers.{Registers}
use Rattle.page_index.specs.Pages.{Indexed, IsConversionOf, document_units}
use Rattle.font_decode.specs.Desks.{GrewBy, GrewByAtMost}
use Rattle.font_decode.specs.declared.font_or_fault.Decoded.{Decoded}
use Rattle.pk_runs.specs.declared.glyph.Glyph.{Glyph}
use Rattle.vf_expand.specs.Course.{Course, Gives, Asks, Ends, Stops, course_of}
use Rattle.vf_expand.specs.Faults.{Pen, value_of_fault}
use Rattle.vf_expand.specs.declared.faults.PageFault.{PageFault}
use Rattle.page_draw.specs.Members.{Finding, looks_of}
use Rattle.page_draw.specs.Values.{DrawnValue, EndsIn, HasValue, PageValue, ended_with, fault_at, value_of_drawn}
use Rattle.page_draw.specs.Drawn.{IsBroken, IsDrawn, IsFaultOf, IsLeft, IsOwnStop, IsPenStop, IsStop}
use Rattle.page_draw.specs.declared.drawn.Drawn.{Drawn}
use Rattle.page_draw.specs.declared.stop.PageStop.{PageStop}
use Rattle.page_draw.specs.declared.stop.PageStop.TheVariants as stop
use Rattle.page_draw.specs.declared.sheet.Sheet.{Sheet}
use Rattle.page_draw.proofs.EqualFractions.{states_alike, value_alike}
use Rattle.page_draw.proofs.Lists.{IsDrawnUpTo, grew_more, grew_none}

module _ (Finds : Finding) (c : Fraction) (sheet : Sheet) (indexed : Indexed) (i : ℕ) (to : Course) (s : State) (drawn : DrawnValue) (old new : Option (List FontKey))
    (so_far : IsDrawnUpTo Finds c sheet (course_of sheet.tolerant indexed.reading i) to s drawn old new)
    (conv : IsConversionOf (document_units indexed.res indexed.reading) c) where
  pub drawn_so_far : (value : PageValue) → EndsIn c s drawn to value → IsDrawn Finds indexed sheet i value old new
  drawn_so_far value ends =
      let members = so_far.members in
      let own : HasValue Finds c sheet (course_of sheet.tolerant indexed.reading i) value (looks_of members) = record {
        members = members;
        to = to;
        state = s;
        leads = so_far.leads;
        moved = so_far.moved;
        ends = subst (λ (d : DrawnValue). EndsIn c s d to value) so_far.has ends;
        looked = refl;
      } in (
        looks_of members,
        record { units = conv.0; of_document = conv.1; has = value_alike Finds c (conversion conv.0) sheet (course_of sheet.tolerant indexed.reading i) value (looks_of members) conv.2 own },
        so_far.asked,
      )

  pub broken_so_far : IsBroken Finds indexed sheet i old new
  broken_so_far =
      record {
        members = so_far.members;
        to = to;
        units = conv.0;
        state = s;
        of_document = conv.1;
        leads = so_far.leads;
        moved = sym (states_alike c (conversion conv.0) conv.2 at_origin so_far.members) ∙ so_far.moved;
        asked = inl so_far.asked;
      }

  asked_at_most : (k : FontKey) (at : ℕ) (rest : Decoded → Course) (now : Option (List FontKey)) → to ≡ Asks k at rest → GrewByAtMost new now k
      → GrewBy old now (looks_of so_far.members)
      ⊎ ((k : FontKey) × (at : ℕ) × (rest : Decoded → Course) × (to ≡ Asks k at rest) × GrewBy old now (looks_of so_far.members ++ k ∷ []))
  asked_at_most k at rest now asks (inl same) = inl (subst (λ (x : Option (List FontKey)). GrewBy old x (looks_of so_far.members)) (sym same) so_far.asked)
  asked_at_most k at rest now asks (inr grew) = inr (k, at, rest, asks, grew_more old new now (looks_of so_far.members) (k ∷ []) so_far.asked grew)

  pub broken_at_look : (k : FontKey) (at : ℕ) (rest : Decoded → Course) (now : Option (List FontKey)) → to ≡ Asks k at rest → GrewByAtMost new now k
      → IsBroken Finds indexed sheet i old now
  broken_at_look k at rest now asks grew =
      record {
        members = so_far.members;
        to = to;
        units = conv.0;
        state = s;
        of_document = conv.1;
        leads = so_far.leads;
        moved = sym (states_alike c (conversion conv.0) conv.2 at_origin so_far.members) ∙ so_far.moved;
        asked = asked_at_most k at rest now asks grew;
      }

  -- a flat command stops the page
  pub pen_stop : (f : FlatCommand) (g : Option Glyph) (at : ℕ) (rest : Course) → to ≡ Gives f g at rest → (why : PageStop) → IsPenStop (state_after c s f) at why
      → IsStop Finds indexed sheet i why old new
  pen_stop f g at rest gives (stop.Fault fault place) h =
      let value = fault_at (value_of_fault fault) place in
      let same : value ≡ fault_at (Pen h.0) at = ap₂ fault_at h.2 h.3 in
      drawn_so_far value (subst (λ (x : Course). EndsIn c s drawn x value) (sym gives) (h.0, h.1, same))
  pen_stop f g at rest gives stop.SourceFault h = absurd h
  pen_stop f g at rest gives stop.NoMemory h = broken_so_far

  -- the page ends here
  pub ended_drawn : (r : Result Drawn PageStop) → IfOk r (λ done. EndsIn c s drawn to (Ok (value_of_drawn done))) → IfOk r (λ done. IsDrawn Finds indexed sheet i (Ok (value_of_drawn done)) old new)
  ended_drawn (Ok done) h = drawn_so_far (Ok (value_of_drawn done)) h
  ended_drawn (Err why) h = tt

  fault_stop : (why : PageStop) → IsFaultOf why (EndsIn c s drawn to) → IsStop Finds indexed sheet i why old new
  fault_stop (stop.Fault fault place) h = drawn_so_far (fault_at (value_of_fault fault) place) h
  fault_stop stop.SourceFault h = absurd h
  fault_stop stop.NoMemory h = absurd h

  pub ended_stop : (r : Result Drawn PageStop) → IfErr r (λ why. IsFaultOf why (EndsIn c s drawn to)) → IfErr r (λ why. IsStop Finds indexed sheet i why old new)
  ended_stop (Ok done) h = tt
  ended_stop (Err why) h = fault_stop why h

-- where no fault stops a page it was broken off
pub broken_stop : (Finds : Finding) (indexed : Indexed) (sheet : Sheet) (i : ℕ) (why : PageStop) (old new : Option (List FontKey)) → (IsOwnStop why → ⊥)
    → IsBroken Finds indexed sheet i old new → IsStop Finds indexed sheet i why old new
broken_stop Finds indexed sheet i (stop.Fault fault place) old new stopped h = absurd (stopped tt)
broken_stop Finds indexed sheet i stop.SourceFault old new stopped h = h
broken_stop Finds indexed sheet i stop.NoMemory old new stopped h = h

-- ---- the ends of a course

module _ (c : Fraction) (s : State) (drawn : DrawnValue) (to : Course) (at : ℕ) where
  pub end_whole : to ≡ Ends at → (r : Result Drawn PageStop) → IfOk r (λ done. ended_with s.saved at drawn ≡ Ok (value_of_drawn done)) → IfOk r (λ done. EndsIn c s drawn to (Ok (value_of_drawn done)))
  end_whole ends (Ok done) h = subst (λ (x : Course). EndsIn c s drawn x (Ok (value_of_drawn done))) (sym ends) (sym h)
  end_whole ends (Err why) h = tt

  left_fault : to ≡ Ends at → (why : PageStop) → IsLeft why (ended_with s.saved at drawn) → IsFaultOf why (EndsIn c s drawn to)
  left_fault ends (stop.Fault fault place) h = subst (λ (x : Course). EndsIn c s drawn x (fault_at (value_of_fault fault) place)) (sym ends) (sym h)
  left_fault ends stop.SourceFault h = absurd h
  left_fault ends stop.NoMemory h = absurd h

  pub end_left : to ≡ Ends at → (r : Result Drawn PageStop) → IfErr r (λ why. IsLeft why (ended_with s.saved at drawn)) → IfErr r (λ why. IsFaultOf why (EndsIn c s drawn to))
  end_left ends (Ok done) h = tt
  end_left ends (Err why) h = left_fault ends why h

  pub stop_ends : (fault : PageFault) (place : ℕ) → to ≡ Stops (value_of_fault fault) at → place ≡ at → EndsIn c s drawn to (fault_at (value_of_fault fault) place)
  stop_ends fault place stops here =
      let value = fault_at (value_of_fault fault) place in
      subst (λ (x : Course). EndsIn c s drawn x value) (sym stops) (ap (fault_at (value_of_fault fault)) here)

-- a page's course leads to itself before anything was done
pub broken_at_first : (Finds : Finding) (indexed : Indexed) (sheet : Sheet) (i : ℕ) (c : Fraction) (old : Option (List FontKey))
    → IsConversionOf (document_units indexed.res indexed.reading) c → IsBroken Finds indexed sheet i old old
broken_at_first Finds indexed sheet i c old conv =
    record {
      members = [];
      to = course_of sheet.tolerant indexed.reading i;
      units = conv.0;
      state = at_origin;
      of_document = conv.1;
      leads = refl;
      moved = refl;
      asked = inl (grew_none old);
    }

-- ---- nothing is saved, or something

pub whole_end : (saved : List Registers) (eop : ℕ) (drawn : DrawnValue) → saved ≡ [] → ended_with saved eop drawn ≡ Ok drawn
whole_end saved eop drawn e = ap (λ (r : List Registers). ended_with r eop drawn) e

pub left_end : (saved : List Registers) (eop : ℕ) (drawn : DrawnValue) → saved ≢ [] → ended_with saved eop drawn ≡ fault_at (Pen StackLeft) eop
left_end [] eop drawn some = absurd (some refl)
left_end (r ∷ saved) eop drawn some = refl

-- a count that rose later rose
pub rose_on : (a b c : ℕ) → a ≤ b → Rose b c → Rose a c
rose_on a b c h (inl more) = inl (omega (arith, h, more))
rose_on a b c h (inr last) = inr last
