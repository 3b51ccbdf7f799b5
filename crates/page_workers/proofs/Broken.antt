-- A page of which only the first look-ups were noted was broken off at one of them.
use Rattle.std.proofs.Common.{◌≡◌, inl, inr, ◌⊎◌, ℕ, List, [], ◌∷◌, ◌++◌, Option, Some, Result, Ok, Err, refl, sym, ap, subst, ◌∙◌, append_assoc}
use Rattle.std.proofs.lemmas.List.{append_cancel_left}
use Rattle.outside.specs.declared.keys.FontKey.{FontKey}
use Rattle.pixel_round.specs.Pixels.{Fraction, conversion}
use Rattle.drift_rules.specs.Position.{State, state_after}
use Rattle.page_index.specs.Pages.{Indexed}
use Rattle.font_decode.specs.Desks.{GrewBy}
use Rattle.vf_expand.specs.Course.{Course}
use Rattle.page_draw.specs.Drawn.{IsBroken, IsDrawn}
use Rattle.page_draw.specs.Members.{Member, Flat, LookUp, Lack, Finding, Unfolds, and_then, last_state, looks_of}
use Rattle.page_draw.specs.Values.{PageValue}
use Rattle.page_draw.specs.declared.drawn.Drawn.{Drawn}
use Rattle.page_draw.specs.declared.sheet.Sheet.{Sheet}
use Rattle.page_draw.specs.declared.stop.PageStop.{PageStop}
use Rattle.page_draw.specs.declared.stop.PageStop.TheVariants as stop
use Rattle.page_draw.proofs.Lists.{apart}
use Rattle.page_workers.specs.Rounds.{IsOutcome}

-- ---- the first members, with these look-ups

module _ (Finds : Finding) (c : Fraction) where
  record Begun (from : Course) (s : State) (keys : List FontKey) : Type 0 where
    members : List Member
    to : Course
    state : State
    leads : Unfolds Finds from members to
    moved : last_state c s members ≡ Ok state
    looked : looks_of members ≡ keys

  begun : (members : List Member) (keys left : List FontKey) (from to : Course) (s t : State) → Unfolds Finds from members to → last_state c s members ≡ Ok t
      → looks_of members ≡ keys ++ left → Begun from s keys
  begun members [] left from to s t leads moved looked = record { members = []; to = from; state = s; leads = refl; moved = refl; looked = refl }
  begun [] (k ∷ keys) left from to s t leads moved looked = absurd cc
  begun (Flat f g at ∷ members) (k ∷ keys) left from to s t leads moved looked =
      let next = apart c (state_after c s f) members t moved in
      let rest = begun members (k ∷ keys) left leads.0 to next.0 t leads.2 next.2 looked in
      record {
        members = Flat f g at ∷ rest.members;
        to = rest.to;
        state = rest.state;
        leads = (leads.0, leads.1, rest.leads);
        moved = ap (λ (r : Result State _). and_then r (λ u. last_state c u rest.members)) next.1 ∙ rest.moved;
        looked = rest.looked;
      }
  begun (LookUp j at ∷ members) (k ∷ keys) left from to s t leads moved looked =
      let same : j ≡ k = cc looked in
      let others : looks_of members ≡ keys ++ left = cc looked in
      let rest = begun members keys left (leads.0 leads.1) to s t leads.4 moved others in
      record {
        members = LookUp j at ∷ rest.members;
        to = rest.to;
        state = rest.state;
        leads = (leads.0, leads.1, leads.2, leads.3, rest.leads);
        moved = rest.moved;
        looked = ap (λ (l : List FontKey). j ∷ l) rest.looked ∙ ap (λ (i : FontKey). i ∷ keys) same;
      }
  begun (Lack f at ∷ members) (k ∷ keys) left from to s t leads moved looked =
      let rest = begun members (k ∷ keys) left leads.0 to s t leads.2 moved looked in
      record {
        members = Lack f at ∷ rest.members;
        to = rest.to;
        state = rest.state;
        leads = (leads.0, leads.1, rest.leads);
        moved = rest.moved;
        looked = rest.looked;
      }

-- ---- keys that grew by these, and then by others

both_grew : (old noted wanted : Option (List FontKey)) (keys left all : List FontKey) (a : List FontKey) → old ≡ Some a → GrewBy old noted keys → GrewBy noted wanted left → GrewBy old wanted all
    → all ≡ keys ++ left
both_grew old noted wanted keys left all a some first second whole =
    let noted_is : noted ≡ Some (a ++ keys) = rw some at first in
    let wanted_is : wanted ≡ Some ((a ++ keys) ++ left) = rw noted_is at second in
    let all_is : wanted ≡ Some (a ++ all) = rw some at whole in
    let same : Some (a ++ all) ≡ Some ((a ++ keys) ++ left) = sym all_is ∙ wanted_is in
    let lists : a ++ all ≡ (a ++ keys) ++ left = cc same in
    append_cancel_left a all (keys ++ left) (lists ∙ append_assoc a keys left)

-- what comes before the end of a list that ends with k, or the whole of it
up_to_last : (xs : List FontKey) (k : FontKey) (keys left : List FontKey) → xs ++ k ∷ [] ≡ keys ++ left
    → (keys ≡ xs ++ k ∷ []) ⊎ ((rest : List FontKey) × (xs ≡ keys ++ rest))
up_to_last xs k [] left e = inr (xs, refl)
up_to_last [] k (x ∷ []) left e = let same : k ≡ x = cc e in inl (ap (λ (y : FontKey). y ∷ []) (sym same))
up_to_last [] k (x ∷ y ∷ keys) left e = absurd cc
up_to_last (x ∷ xs) k (y ∷ keys) left e =
    let same : x ≡ y = cc e in
    let others : xs ++ k ∷ [] ≡ keys ++ left = cc e in
    elim (up_to_last xs k keys left others) as (λ _. (y ∷ keys ≡ x ∷ (xs ++ k ∷ [])) ⊎ ((rest : List FontKey) × (x ∷ xs ≡ y ∷ (keys ++ rest)))) [
      | inl whole ↦ inl (ap (λ (z : FontKey). z ∷ keys) (sym same) ∙ ap (λ (l : List FontKey). x ∷ l) whole)
      | inr part ↦ inr (part.0, ap (λ (z : FontKey). z ∷ xs) same ∙ ap (λ (l : List FontKey). y ∷ l) part.1)
    ]

-- ---- the page

module _ (Finds : Finding) (indexed : Indexed) (sheet : Sheet) (i : ℕ) (a : List FontKey) (old noted wanted : Option (List FontKey)) (keys left : List FontKey)
    (some : old ≡ Some a) (first : GrewBy old noted keys) (second : GrewBy noted wanted left) where
  drawn_short : (value : PageValue) → IsDrawn Finds indexed sheet i value old wanted → IsBroken Finds indexed sheet i old noted
  drawn_short value drawn =
      let page = drawn.1 in
      let has = page.has in
      let all = both_grew old noted wanted keys left drawn.0 a some first second drawn.2 in
      let part = begun Finds (conversion page.units) has.members keys left _ _ _ _ has.leads has.moved (sym has.looked ∙ all) in
      record {
        members = part.members;
        to = part.to;
        units = page.units;
        state = part.state;
        of_document = page.of_document;
        leads = part.leads;
        moved = part.moved;
        asked = inl (subst (λ (l : List FontKey). GrewBy old noted l) (sym part.looked) first);
      }

  broken_before : (broken : IsBroken Finds indexed sheet i old wanted) (rest : List FontKey) → looks_of broken.members ≡ keys ++ rest → IsBroken Finds indexed sheet i old noted
  broken_before broken rest looked =
      let part = begun Finds (conversion broken.units) broken.members keys rest _ _ _ _ broken.leads broken.moved looked in
      record {
        members = part.members;
        to = part.to;
        units = broken.units;
        state = part.state;
        of_document = broken.of_document;
        leads = part.leads;
        moved = part.moved;
        asked = inl (subst (λ (l : List FontKey). GrewBy old noted l) (sym part.looked) first);
      }

  broken_short : IsBroken Finds indexed sheet i old wanted → IsBroken Finds indexed sheet i old noted
  broken_short broken =
      elim broken.asked as (λ _. IsBroken Finds indexed sheet i old noted) [
        | inl grew ↦ broken_before broken left (both_grew old noted wanted keys left (looks_of broken.members) a some first second grew)
        | inr look ↦
            elim (up_to_last (looks_of broken.members) look.0 keys left (both_grew old noted wanted keys left (looks_of broken.members ++ look.0 ∷ []) a some first second look.4))
            as (λ _. IsBroken Finds indexed sheet i old noted) [
              | inl whole ↦ record {
                members = broken.members;
                to = broken.to;
                units = broken.units;
                state = broken.state;
                of_document = broken.of_document;
                leads = broken.leads;
                moved = broken.moved;
                asked = inr (look.0, look.1, look.2, look.3, subst (λ (l : List FontKey). GrewBy old noted l) whole first);
              }
              | inr part ↦ broken_before broken part.0 part.1
            ]
      ]

  pub outcome_short : (r : Result Drawn PageStop) → IsOutcome Finds indexed sheet i r old wanted → IsBroken Finds indexed sheet i old noted
  outcome_short (Ok drawn) outcome = drawn_short _ outcome
  outcome_short (Err (stop.Fault fault at)) outcome = drawn_short _ outcome
  outcome_short (Err stop.SourceFault) outcome = broken_short outcome
  outcome_short (Err stop.NoMemory) outcome = broken_short outcome
