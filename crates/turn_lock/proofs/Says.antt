-- What the rule says of each state, part by part.
use Rattle.std.proofs.Common.{◌≡◌, ◌⊎◌, ℕ, zero, suc, ◌+◌, ◌-◌, ◌<◌, Bool, true, false, List, [], ◌∷◌, length, Option, Some, refl, ap, sym, ◌∙◌, subst, inl, inr, ⊎_elim, arith}
use mathlib.Core.Option.{none, some, some-injective}
use mathlib.Core.Option as maybe
use lib.ListN.{get_elem?}
use Rattle.atomic_table.specs.Table.{State}
use Rattle.cache_core.specs.declared.calls.Call.{Call}
use Rattle.cache_core.specs.declared.common.Common.{Common}
use Rattle.cache_core.specs.Histories.{own}
use Rattle.turn_lock.specs.declared.view.View.{View}
use Rattle.turn_lock.specs.declared.view.Stage.{Stage}
use Rattle.turn_lock.specs.declared.view.Stage.TheVariants.{Idle, Waiting, Holding, Comparing, Spent}
use Rattle.turn_lock.specs.Histories.{AllMade}
use Rattle.turn_lock.specs.Views.{IsLive, HasTicket}
use Rattle.turn_lock.specs.TurnRule.{IsInLine, IsServed, StageFits, LiveFits, SlotFits, TurnRule}
use Rattle.turn_lock.specs.RuleParts.{IsSeat, NumbersFit, TicketsFit, DrawsFit, SlotIsKept, PartIsOne, HistoryIsOne}
use Rattle.turn_lock.proofs.OneView.{not_spent}
use Rattle.turn_lock.proofs.Lines.{at_inside, ticket_most}

-- a place within a list has something
at_each : {A : Type 0} (xs : List A) (i : ℕ) → i < length xs → (x : A) × (get_elem? xs i ≡ some x)
at_each [] i inside = absurd (omega arith)
at_each (x ∷ xs) zero inside = (x, refl)
at_each (x ∷ xs) (suc i) inside = at_each xs i (omega arith)

live_or_spent : (st : Stage) → IsLive st ⊎ (st ≡ Spent)
live_or_spent Idle = inl tt
live_or_spent (Waiting t) = inl tt
live_or_spent (Holding t) = inl tt
live_or_spent (Comparing n was theirs p) = inl tt
live_or_spent Spent = inr refl

has_live : (n : ℕ) (st : Stage) → HasTicket n st → IsLive st
has_live n Idle has = absurd has
has_live n (Waiting t) has = tt
has_live n (Holding t) has = tt
has_live n (Comparing m was theirs p) has = absurd has
has_live n Spent has = absurd has

-- a seat with a ticket stands in line
stands_at : (serving : ℕ) (line : List ℕ) (log : List Call) (out : Bool) (j : ℕ) (seen : List Call) (n : ℕ) (st : Stage) → StageFits serving line log out j seen st → HasTicket n st → IsInLine serving line j n
stands_at serving line log out j seen n Idle k has = absurd has
stands_at serving line log out j seen n (Waiting t) k has = record { place = k.place; ticket_is = sym has ∙ k.ticket_is; stands = k.stands }
stands_at serving line log out j seen n (Holding t) k has = record { place = 0; ticket_is = let e = k.ticket_is in omega arith; stands = k.stands }
stands_at serving line log out j seen n (Comparing m was theirs p) k has = absurd has
stands_at serving line log out j seen n Spent k has = absurd has

module _ {T : Type 0} (history : T → List Call) (turns : T → ℕ) (stands : T → Common → Type 0) (part : Common) where
  -- where the slot is out the rule says so, and where a value is home it is the one that the rule
  -- speaks of
  when_out : (log : List Call) (serving : ℕ) (homes : List (maybe.Option (Option T))) (out : Bool) → SlotFits history turns stands part log serving homes out → homes ≡ none ∷ [] → out ≡ true
  when_out log serving homes true k e = refl
  when_out log serving homes false k e = let home = k.homes_are in absurd (cc (home, e))

  out_when : (log : List Call) (serving : ℕ) (homes : List (maybe.Option (Option T))) (out : Bool) → SlotFits history turns stands part log serving homes out → out ≡ true → homes ≡ none ∷ []
  out_when log serving homes true k e = k
  out_when log serving homes false k e = absurd (cc (e))

  when_home : (log : List Call) (serving : ℕ) (homes : List (maybe.Option (Option T))) (out : Bool) → SlotFits history turns stands part log serving homes out
      → (homes ≡ none ∷ []) ⊎ ((x : T) × (homes ≡ some (Some x) ∷ []))
  when_home log serving homes true k = inl k
  when_home log serving homes false k = inr (k.value, k.homes_are)

  home_of : (log : List Call) (serving : ℕ) (homes : List (maybe.Option (Option T))) (out : Bool) → SlotFits history turns stands part log serving homes out
      → (x : T) → homes ≡ some (Some x) ∷ [] → (turns x ≡ serving) × (history x ≡ log) × stands x part
  home_of log serving homes true k x e = absurd (cc (k, e))
  home_of log serving homes false k x e =
      let home = k.homes_are in
      let same : k.value ≡ x = cc (home, e) in
      (ap turns (sym same) ∙ k.turns_are, ap history (sym same) ∙ k.history_is, subst (λ (y : T). stands y part) same k.stood)

  module _ (s : State (Option T) View) (r : TurnRule history turns stands part s) where
    fits : (i : ℕ) (v : View) → IsSeat s i v → LiveFits part r.serving r.seats.line r.seats.draws r.log r.out i v
    fits i v seat = r.seats.each i v seat.0 seat.1

    pub numbers_fit : NumbersFit s
    numbers_fit =
        record {
          first_there =
              let there = at_each s.views 0 (let b = r.seats.begun in omega arith) in
              let f = r.seats.first there.0 there.1 in
              (there.0, there.1, f.made, (r.seats.each 0 there.0 there.1 f.live).number_is);
          apart = λ i j v w a b same. sym (fits i v a).number_is ∙ (same ∙ (fits j w b).number_is);
          below = λ first at i v a.
              let count = (r.seats.first first at).made in
              let inside = at_inside s.views i v a.0 in
              let is = (fits i v a).number_is in omega arith;
          known = λ first at n lt.
              let f = r.seats.first first at in
              let count = f.made in
              let there = at_each s.views n (omega arith) in
              let u : View = there.0 in ⊎_elim
              (λ live. inl (n, u, (there.1, live), (fits n u (there.1, live)).number_is))
              (λ is_spent. inr (f.all_spent n u there.1 is_spent))
              (live_or_spent u.stage);
          not_both = λ first at n has joined.
              let f = r.seats.first first at in
              let i : ℕ = has.0 in
              let v : View = has.1 in
              let seat : IsSeat s i v = has.2 in
              let here : i ≡ n = sym (fits i v seat).number_is ∙ has.3 in
              let gone = f.are_spent joined.0 n joined.1 in
              let same : v ≡ gone.0 = some-injective v gone.0 (sym seat.0 ∙ (ap (get_elem? s.views) here ∙ gone.1)) in
              not_spent v gone.0 seat.1 same gone.2;
          few = λ first at. let count = (r.seats.first first at).made in let f = r.seats.few in omega arith;
        }

    in_line_at : (i : ℕ) (v : View) (n : ℕ) → IsSeat s i v → HasTicket n v.stage → IsInLine r.serving r.seats.line i n
    in_line_at i v n seat has = stands_at r.serving r.seats.line r.log r.out i v.seen n v.stage (fits i v seat).stage has

    served_at : (i : ℕ) (v : View) (n : ℕ) → IsSeat s i v → v.stage ≡ Holding n → IsServed r.serving r.seats.line r.log r.out i v.seen n
    served_at i v n seat is = subst (StageFits r.serving r.seats.line r.log r.out i v.seen) is (fits i v seat).stage

    once_at : (i j : ℕ) (v w : View) (n : ℕ) → IsSeat s i v → IsSeat s j w → HasTicket n v.stage → HasTicket n w.stage → i ≡ j
    once_at i j v w n a b has too =
        let k = in_line_at i v n a has in
        let l = in_line_at j w n b too in
        let here = k.ticket_is in
        let there = l.ticket_is in
        let same : k.place ≡ l.place = omega arith in
        some-injective i j (sym k.stands ∙ (ap (get_elem? r.seats.line) same ∙ l.stands))

    pub tickets_fit : TicketsFit s
    tickets_fit =
        record {
          next = r.serving + length r.seats.line;
          serving = r.serving;
          words_are = r.seats.words_are;
          had = λ n ge lt.
              let there = at_each r.seats.line (n - r.serving) (omega arith) in
              let k = r.seats.in_line (n - r.serving) there.0 there.1 in
              let is : r.serving + (n - r.serving) ≡ n = omega arith in
              let v : View = k.0 in
              let has : HasTicket n v.stage = subst (λ (m : ℕ). HasTicket m v.stage) is k.2 in
              (there.0, v, (k.1, has_live n v.stage has), has);
          between = λ i v n seat has.
              let k = in_line_at i v n seat has in
              let is = k.ticket_is in
              let inside = at_inside r.seats.line k.place i k.stands in (omega arith, omega arith);
          once = once_at;
          holder_served = λ i v n seat is. (served_at i v n seat is).ticket_is;
          one_holds = λ i j v w m n a b is too.
              let first : HasTicket r.serving v.stage = subst (HasTicket r.serving) (sym is) (served_at i v m a is).ticket_is in
              let second : HasTicket r.serving w.stage = subst (HasTicket r.serving) (sym too) (served_at j w n b too).ticket_is in
              once_at i j v w r.serving a b first second;
        }

    pub draws_fit : DrawsFit s
    draws_fit =
        record {
          draws = r.seats.draws;
          one_each = r.seats.as_many;
          seat_drew = λ i v seat. subst (λ (n : ℕ). get_elem? r.seats.draws n ≡ some v.drawn) (sym (fits i v seat).number_is) (fits i v seat).drew;
          joined_kept = λ first at. (r.seats.keeps first at).one_each;
          joined_drew = λ first at. (r.seats.keeps first at).drew;
          each_few = r.seats.each_drew;
          ticket_is = ap (λ l. get_elem? l 0) r.seats.words_are ∙ ap some (sym r.seats.drew);
          few = let most = ticket_most part s.words s.views r.log r.out r.serving r.seats in let all = r.seats.drew in omega arith;
        }

    pub slot_is_kept : SlotIsKept s turns
    slot_is_kept =
        record {
          either = when_home r.log r.serving s.homes r.out r.slot;
          out_held = λ e.
              let k = r.seats.served (when_out r.log r.serving s.homes r.out r.slot e) in
              let v : View = k.1 in
              (k.0, v, r.serving, (k.2, subst IsLive (sym k.3) tt), k.3);
          held_out = λ i v n seat is. out_when r.log r.serving s.homes r.out r.slot (served_at i v n seat is).slot;
          home_turns = λ x e. ap (λ l. get_elem? l 1) r.seats.words_are ∙ ap some (sym (home_of r.log r.serving s.homes r.out r.slot x e).0);
        }

    pub part_is_one : PartIsOne s stands part
    part_is_one =
        record {
          seat_part = λ i v seat. (fits i v seat).part_is;
          home_stands = λ x e. (home_of r.log r.serving s.homes r.out r.slot x e).2;
        }

    pub history_is_one : HistoryIsOne s history
    history_is_one =
        record {
          log = r.log;
          at_home = λ x e. (home_of r.log r.serving s.homes r.out r.slot x e).1;
          at_holder = λ i v n seat is. (served_at i v n seat is).whole;
          begins = λ i v seat. (fits i v seat).begins;
          own_seen = λ i v seat. subst (λ (n : ℕ). own n v.seen ≡ own n r.log) (sym (fits i v seat).number_is) (fits i v seat).after;
          joined_seen = λ first at n joined. (r.seats.first first at).after joined.0 n joined.1;
          made = λ first at. subst (λ (n : ℕ). AllMade n r.log) (sym (r.seats.first first at).made) r.seats.made;
        }
