-- Each page has exactly one value over a library.
use Rattle.std.proofs.Common.{◌≡◌, List, [], ◌∷◌, Result, Ok, Err, refl, sym, subst}
use Rattle.outside.specs.declared.keys.FontKey.{FontKey}
use Rattle.pixel_round.specs.Pixels.{conversion, Fraction}
use Rattle.drift_rules.specs.Position.{State, state_after, at_origin}
use Rattle.drift_rules.specs.declared.faults.PenFault.{PenFault}
use Rattle.font_decode.specs.Decoding.{IsFontIn}
use Rattle.font_decode.specs.declared.font_or_fault.Decoded.{Decoded}
use Rattle.font_decode.proofs.Total.{each_key_is_decoded}
use Rattle.vf_expand.specs.Course.{Course, Gives, Asks, Lacks, Ends, Stops, course_of}
use Rattle.vf_expand.specs.Faults.{Pen}
use Rattle.page_draw.specs.Members.{Member, Flat, LookUp, Lack, Finding, Unfolds, and_then, looks_of, last_state}
use Rattle.page_draw.specs.Values.{DrawnValue, EndsIn, PageValue, drawn_of, ended_with, fault_at}
use Rattle.page_draw.specs.Laws.{EachPageHasOneValue}
use Rattle.page_draw.specs.Drawn.{IsPageValue}
use Rattle.page_draw.proofs.OneValue.{pages_have_one_value}

-- members that lead to an end
record Followed (Finds : Finding) (c : Fraction) (s : State) (from : Course) : Type 0 where
  pub members : List Member
  pub to : Course
  pub state : State
  pub leads : Unfolds Finds from members to
  pub moved : last_state c s members ≡ Ok state
  pub ends : (page : DrawnValue) → (value : PageValue) × EndsIn c state page to value

follow : (Finds : Finding) → ((k : FontKey) → (d : Decoded) × Finds k d) → (c : Fraction) (s : State) (from : Course) → Followed Finds c s from
follow Finds each c s (Gives f g at rest) = by (λ t. follow Finds each c t rest) (state_after c s f) refl
  where
    by : ((t : State) → Followed Finds c t rest) → (r : Result State PenFault) → state_after c s f ≡ r → Followed Finds c s (Gives f g at rest)
    by follows (Err fault) e = record { members = []; to = Gives f g at rest; state = s; leads = refl; moved = refl; ends = λ page. (fault_at (Pen fault) at, (fault, e, refl)) }
    by follows (Ok t) e =
        let r = follows t in
        record {
          members = Flat f g at ∷ r.members;
          to = r.to;
          state = r.state;
          leads = (rest, refl, r.leads);
          moved = subst (λ (a : Result State PenFault). and_then a (λ q. last_state c q r.members) ≡ Ok r.state) (sym e) r.moved;
          ends = r.ends;
        }
follow Finds each c s (Asks k at rest) =
    let d = each k in
    let r = follow Finds each c s (rest d.0) in
    record { members = LookUp k at ∷ r.members; to = r.to; state = r.state; leads = (rest, d.0, refl, d.1, r.leads); moved = r.moved; ends = r.ends }
follow Finds each c s (Lacks f at rest) =
    let r = follow Finds each c s rest in
    record { members = Lack f at ∷ r.members; to = r.to; state = r.state; leads = (rest, refl, r.leads); moved = r.moved; ends = r.ends }
follow Finds each c s (Ends at) = record { members = []; to = Ends at; state = s; leads = refl; moved = refl; ends = λ page. (ended_with s.saved at page, refl) }
follow Finds each c s (Stops fault at) = record { members = []; to = Stops fault at; state = s; leads = refl; moved = refl; ends = λ page. (fault_at fault at, refl) }

pub each_page_has_one_value : EachPageHasOneValue
each_page_has_one_value l u indexed sheet i bytes units =
    let f = follow (IsFontIn l u) (λ k. each_key_is_decoded l u k bytes) (conversion u) at_origin (course_of sheet.tolerant indexed.reading i) in
    let v = f.ends (drawn_of (conversion u) sheet f.members) in
    let has : IsPageValue (IsFontIn l u) indexed sheet i v.0 (looks_of f.members) = record {
      units = u;
      of_document = units;
      has = record { members = f.members; to = f.to; state = f.state; leads = f.leads; moved = f.moved; ends = v.1; looked = refl };
    } in
    record {
      value = v.0;
      looks = looks_of f.members;
      has = has;
      only = λ other others is. pages_have_one_value l u indexed sheet i other v.0 others (looks_of f.members) is has;
    }
