-- Each step of the lock keeps its rule, and tells what it says.
use Rattle.std.proofs.Common.{◌≡◌, ◌≢◌, ℕ, zero, suc, ◌+◌, ◌%◌, ◌^◌, ◌<◌, ◌≤◌, Bool, true, false, true≢false, List, [], ◌∷◌, ◌++◌, get_or, set, Option, Some, refl, ap, sym, ◌∙◌, subst, arith}
use mathlib.Core.Option.{none, some, some-injective, some-ne-none}
use mathlib.Core.Option as maybe
use mathlib.Core.Logic.{dite}
use mathlib.Core.List.{IsPrefix}
use native.Mathlib.Decide.{ℕ_discrete}
use lib.ListN.{get_elem?}
use lib.Seq.{set-get_or}
use Rattle.atomic_table.specs.Table.{State, Me, step, keeps, takes, gives, stepped, rest, put_back, Allows, Splits, Joins, opening, Final, Seen}
use Rattle.atomic_table.proofs.Lists.{set_again}
use Rattle.cache_core.specs.declared.calls.Call.{Call}
use Rattle.cache_core.specs.declared.common.Common.{Common}
use Rattle.cache_core.specs.Histories.{own}
use Rattle.turn_lock.specs.Histories.{AllMade, Grows}
use Rattle.turn_lock.proofs.Prefixes.{prefix_self}
use Rattle.turn_lock.proofs.OwnCalls.{own_grew}
use Rattle.turn_lock.proofs.OneView.{not_spent, apart}
use Rattle.turn_lock.specs.declared.view.View.{View}
use Rattle.turn_lock.specs.declared.view.Stage.TheVariants.{Idle, Waiting, Holding, Comparing, Spent}
use Rattle.turn_lock.specs.Views.{IsLive, ticket_of, opening_view, spent_view, waiting_view, holding_view, idle_view, split_view, new_view, comparing_view}
use Rattle.turn_lock.specs.TurnRule.{StageFits, LiveFits, KeepsDraws, FirstFits, SeatsFit, IsHome, SlotFits, TurnRule}
use Rattle.turn_lock.specs.Steps.{DrawStep, AskStep, CompareStep, LookStep, carried_history, HandOnStep}
use Rattle.turn_lock.specs.Seats.{AllJoined}
use Rattle.turn_lock.proofs.Lines.{at_inside, ticket_is, serving_is, ticket_most, draws_from, is_home, looks_from, holds_all, hands_from}
use Rattle.turn_lock.proofs.Joining.{asks_from, splits_from, joins_from, settles_from}
use Rattle.turn_lock.proofs.Closing.{nobody_holds, sees_whole}

-- the slot of the closed table: it has a value with just the history that seat 0 has seen
pub record Closes {T : Type 0} (history : T → List Call) (stands : T → Common → Type 0) (v : View) (slots : List (Option T)) : Type 0 where
  pub value : T
  pub slot_is : get_elem? slots 0 ≡ some (Some value)
  pub whole : history value ≡ v.seen
  pub stood : stands value v.part
  pub made : AllMade v.made v.seen

module _ {T : Type 0} (history : T → List Call) (turns : T → ℕ) (stands : T → Common → Type 0) (part : Common) where
  abbrev St : Type 0
  St = State (Option T) View

  abbrev M : Type 0
  M = Me (Option T) View

  abbrev Rule : St → Type 0
  Rule = TurnRule history turns stands part

  at_home : (log : List Call) (serving : ℕ) (homes : List (maybe.Option (Option T))) (out : Bool) → (out ≡ true → ⊥) → SlotFits history turns stands part log serving homes out → IsHome history turns stands part log serving homes
  at_home log serving homes true not slot = absurd (not refl)
  at_home log serving homes false not slot = slot

  away : (log : List Call) (serving : ℕ) (homes : List (maybe.Option (Option T))) (out : Bool) → out ≡ true → SlotFits history turns stands part log serving homes out → homes ≡ none ∷ []
  away log serving homes true is slot = slot
  away log serving homes false is slot = absurd (true≢false (sym is))

  -- a load that changes nothing in the views
  same_views : (s : St) (i id : ℕ) (cs : List (ℕ × Option T)) (v : View) → get_elem? s.views id ≡ some v → Rule s → Rule (stepped s i (get_or s.words i 0) id cs v keeps)
  same_views s i id cs v at r = subst (λ (x : List ℕ × List View). Rule record { words = x.0; homes = s.homes; views = x.1 }) (λ k. (sym (set-get_or s.words i 0) k, sym (set_again s.views id v at) k)) r

  pub opens : (x : T) → turns x ≡ 0 → history x ≡ [] → stands x part → Rule (opening (0 ∷ 0 ∷ []) (Some x ∷ []) (opening_view part))
  opens x zeroes new stood = record {
    log = [];
    out = false;
    serving = 0;
    seats = record {
      line = [];
      draws = 0 ∷ [];
      words_are = refl;
      drew = refl;
      each_drew = each_zero;
      as_many = refl;
      few = omega arith;
      begun = omega arith;
      in_line = λ i j at. absurd (some-ne-none j (sym at));
      served = λ e. absurd (true≢false (sym e));
      each = alone;
      first = λ v at. subst (FirstFits (opening_view part ∷ []) []) (some-injective (opening_view part) v at) record {
        made = refl;
        live = tt;
        are_spent = λ i n at. absurd (some-ne-none n (sym at));
        all_spent = none_spent;
        after = λ i n at. refl;
        compares = tt;
        same_part = tt;
      };
      keeps = λ v at. subst (KeepsDraws (0 ∷ [])) (some-injective (opening_view part) v at) record { one_each = refl; drew = λ i n d there drew. absurd (some-ne-none n (sym there)) };
      made = tt;
    };
    slot = record { value = x; homes_are = refl; turns_are = zeroes; history_is = new; stood = stood };
  }
    where
      each_zero : (j d : ℕ) → get_elem? (0 ∷ []) j ≡ some d → d ≤ 2 ^ 48
      each_zero zero d at = let e : 0 ≡ d = some-injective 0 d at in omega arith
      each_zero (suc j) d at = absurd (some-ne-none d (sym at))

      none_spent : (n : ℕ) (u : View) → get_elem? (opening_view part ∷ []) n ≡ some u → u.stage ≡ Spent → (i : ℕ) × (get_elem? [] i ≡ some n)
      none_spent zero u at is = let e : Idle ≡ Spent = ap (λ (y : View). y.stage) (some-injective (opening_view part) u at) ∙ is in absurd (cc)
      none_spent (suc n) u at is = absurd (some-ne-none u (sym at))

      alone : (j : ℕ) (v : View) → get_elem? (opening_view part ∷ []) j ≡ some v → IsLive v.stage → LiveFits part 0 [] (0 ∷ []) [] false j v
      alone zero v at live = subst (LiveFits part 0 [] (0 ∷ []) [] false 0) (some-injective (opening_view part) v at) record { number_is = refl; part_is = refl; begins = prefix_self []; after = refl; drew = refl; stage = tt }
      alone (suc j) v at live = absurd (some-ne-none v (sym at))

  pub draws : (slots id : ℕ) (me : M) → me.0.stage ≡ Idle → me.0.drawn < 2 ^ 48 → Allows Rule slots id me 0 (λ n. (n + 1) % 2 ^ 64) (DrawStep (step slots 0 1 0 none) me)
  draws slots id me idle room s r _ at _ = let ticket : ℕ = get_or s.words 0 0 in (
    waiting_view me.0 ticket,
    keeps,
    tt,
    record { log = r.log; out = r.out; serving = r.serving; seats = draws_from part s.words s.views r.log r.out r.serving r.seats id me.0 at idle room ticket (ticket_is part s.words s.views r.log r.out r.serving r.seats); slot = r.slot },
    refl,
  )

  pub looks : (slots id : ℕ) (me : M) (t : ℕ) → me.0.stage ≡ Waiting t → me.1 ≡ [] → Allows Rule slots id me 1 (λ n. n) (LookStep history turns stands (step slots 1 0 0 none) me)
  looks slots id me t is_waiting empty s r _ at _ = dite (ℕ_discrete (get_or s.words 1 0) t)
      (λ hit.
      let q = r.seats in
      let v = me.0 in
      let found = serving_is part s.words s.views r.log r.out r.serving q in
      let is : t ≡ r.serving = sym hit ∙ found in
      let live : IsLive v.stage = subst IsLive (sym is_waiting) tt in
      let f = q.each id v at live in
      let own_ticket : ticket_of v.stage ≡ t = ap ticket_of is_waiting in
      let h = at_home r.log r.serving s.homes r.out (is_home part s.words s.views r.log r.out r.serving q id v at (is_waiting ∙ ap Waiting is)) r.slot in
      let x = h.value in
      let now = looks_from part s.words s.views r.log r.out r.serving q id v t at is_waiting is in
      let in_line : r.serving < 2 ^ 58 =
      let k = f.stage in let most = ticket_most part s.words s.views r.log r.out r.serving q in let m = subst (StageFits r.serving q.line r.log r.out id v.seen) is_waiting k in
      let inside = at_inside q.line m.place id m.stands in let its = m.ticket_is in omega arith in (
        holding_view v t r.log,
        takes 0 (Some x),
        ap (λ l. get_elem? l 0) h.homes_are,
        record {
          log = r.log;
          out = true;
          serving = r.serving;
          seats = subst (λ (l : List ℕ). SeatsFit part l (set s.views id (holding_view v t r.log)) r.log true r.serving) (sym (set-get_or s.words 1 0)) now;
          slot = ap (λ l. set l 0 none) h.homes_are;
        },
        (
          λ _. (
            x,
            (λ i. (0, Some x) ∷ empty i),
            record {
              view_is = λ i. holding_view v (sym own_ticket i) (sym h.history_is i);
              turns_are = h.turns_are ∙ sym is ∙ sym own_ticket;
              few = let a = own_ticket in omega arith;
              stood = subst (stands x) (sym f.part_is) h.stood;
              begins = subst (IsPrefix v.seen) (sym h.history_is) f.begins;
              own_same = ap (own v.number) h.history_is ∙ subst (λ (n : ℕ). own n r.log ≡ own n v.seen) (sym f.number_is) (sym f.after);
              joined_same = λ zero i n there.
                  let at0 : get_elem? s.views 0 ≡ some v = ap (get_elem? s.views) (sym (sym f.number_is ∙ zero)) ∙ at in
                  ap (own n) h.history_is ∙ sym ((q.first v at0).after i n there);
            },
          ),
          λ not. absurd (not (hit ∙ sym own_ticket)),
        ),
      ))
      (λ miss. (me.0, keeps, tt, same_views s 1 id me.1 me.0 at r, ((λ e. absurd (miss (e ∙ ap ticket_of is_waiting))), λ _. refl)))

  pub hands : (slots id : ℕ) (me : M) (t new : ℕ) (x : T) → me.0.stage ≡ Holding t → me.1 ≡ (0, Some x) ∷ [] → new ≡ t + 1 → turns x ≡ t + 1 → stands x me.0.part → Grows me.0.number me.0.seen (history x)
      → Allows Rule slots id me 1 (λ _. new) (λ _. HandOnStep history (step slots 1 new 0 none) me new)
  hands slots id me t new x is_holding full next turned stood grows s r _ at _ =
      let q = r.seats in
      let v = me.0 in
      let k = holds_all part s.words s.views r.log r.out r.serving q id v t at is_holding in
      let f = q.each id v at (subst IsLive (sym is_holding) tt) in
      let empty = away r.log r.serving s.homes r.out k.slot r.slot in (
        idle_view v (history x),
        gives,
        tt,
        record {
          log = history x;
          out = false;
          serving = r.serving + 1;
          seats = hands_from part s.words s.views r.log r.out r.serving q id v t new (history x) at is_holding next grows;
          slot = record {
            value = x;
            homes_are = ap (put_back s.homes) full ∙ ap (λ l. set l 0 (some (Some x))) empty;
            turns_are = turned ∙ ap (λ (n : ℕ). n + 1) k.ticket_is;
            history_is = refl;
            stood = subst (stands x) f.part_is stood;
          };
        },
        (
          (λ i. (idle_view v (sym (ap (carried_history history) full) i), ap rest full i)),
          λ zero i n there.
              let at0 : get_elem? s.views 0 ≡ some v = ap (get_elem? s.views) (sym (sym f.number_is ∙ zero)) ∙ at in
              let g = (q.first v at0).are_spent i n there in
              let other : n ≢ v.number = λ e. apart s.views n 0 g.0 v g.1 at0 (λ same. not_spent v g.0 (subst IsLive (sym is_holding) tt) (sym same) g.2) (e ∙ zero) in
              ap (λ (l : List (ℕ × Option T)). own n (carried_history history l)) full
              ∙ (ap (own n) grows.2 ∙ own_grew n v.number v.seen grows.0 grows.1 other),
        ),
      )

  pub asks : (slots id : ℕ) (me : M) → me.0.number ≡ 0 → IsLive me.0.stage → Allows Rule slots id me 0 (λ n. n) (AskStep (step slots 0 0 0 none) me)
  asks slots id me is_first live s r _ at _ =
      let q = r.seats in
      let zeroth : id ≡ 0 = sym (q.each id me.0 at live).number_is ∙ is_first in
      (me.0, keeps, tt, same_views s 0 id me.1 me.0 at r, (refl, asks_from part s.words s.views r.log r.out r.serving q me.0 (ap (get_elem? s.views) (sym zeroth) ∙ at)))

  pub settles : (slots id : ℕ) (me : M) (n : ℕ) (was theirs : List Call) (p : Common) → me.0.number ≡ 0 → me.0.stage ≡ Comparing n was theirs p → Allows Rule slots id me 0 (λ m. m) (CompareStep (step slots 0 0 0 none) me)
  settles slots id me n was theirs p is_first is_comparing s r _ at _ =
      let q = r.seats in
      let zeroth : id ≡ 0 = sym (q.each id me.0 at (subst IsLive (sym is_comparing) tt)).number_is ∙ is_first in
      let at0 : get_elem? s.views 0 ≡ some me.0 = ap (get_elem? s.views) (sym zeroth) ∙ at in
      let both = settles_from part s.words s.views r.log r.out r.serving q me.0 n was theirs p at0 is_comparing in
      let w = idle_view me.0 me.0.seen in (
        w,
        keeps,
        tt,
        record {
          log = r.log;
          out = r.out;
          serving = r.serving;
          seats = subst (λ (x : List ℕ × ℕ). SeatsFit part x.0 (set s.views x.1 w) r.log r.out r.serving) (λ i. (sym (set-get_or s.words 0 0) i, sym zeroth i)) both.0;
          slot = r.slot;
        },
        (refl, both.1),
      )

  pub splits : (id : ℕ) (v : View) → v.number ≡ 0 → IsLive v.stage → v.made < 1024 → Splits Rule id v (split_view v) (new_view v)
  splits id v is_first live room s r at =
      let q = r.seats in
      let zeroth : id ≡ 0 = sym (q.each id v at live).number_is ∙ is_first in
      let now = splits_from part s.words s.views r.log r.out r.serving q v (ap (get_elem? s.views) (sym zeroth) ∙ at) room in
      record { log = r.log; out = r.out; serving = r.serving; seats = subst (λ (n : ℕ). SeatsFit part s.words (set s.views n (split_view v) ++ new_view v ∷ []) r.log r.out r.serving) (sym zeroth) now; slot = r.slot }

  pub joins : (id : ℕ) (v : View) (other : ℕ) (x : View) → v.number ≡ 0 → v.stage ≡ Idle → x.stage ≡ Idle → Joins Rule id v other x (comparing_view v x) spent_view
  joins id v other x is_first idle idle_x s r at apart there =
      let q = r.seats in
      let zeroth : id ≡ 0 = sym (q.each id v at (subst IsLive (sym idle) tt)).number_is ∙ is_first in
      let now = joins_from part s.words s.views r.log r.out r.serving q v other x (ap (get_elem? s.views) (sym zeroth) ∙ at) idle (λ e. apart (e ∙ sym zeroth)) (ap (λ n. get_elem? (set s.views n (comparing_view v x)) other) (sym zeroth) ∙ there) idle_x in
      record { log = r.log; out = r.out; serving = r.serving; seats = subst (λ (n : ℕ). SeatsFit part s.words (set (set s.views n (comparing_view v x)) other spent_view) r.log r.out r.serving) (sym zeroth) now; slot = r.slot }

  -- seat 0 with all others joined has seen the whole history, and the value is at home
  pub closes : (id : ℕ) (v : View) (ws : List ℕ) (xs : List (Option T)) → v.number ≡ 0 → v.stage ≡ Idle → AllJoined v
      → Final (Seen Rule id v) ws xs → Closes history stands v xs
  closes id v ws xs is_first idle all final =
      let s : St = final.0 in
      let r : Rule s = final.1.0 in
      let q = r.seats in
      let there : get_elem? s.views id ≡ some v = final.1.1 in
      let zeroth : id ≡ 0 = sym (q.each id v there (subst IsLive (sym idle) tt)).number_is ∙ is_first in
      let at : get_elem? s.views 0 ≡ some v = ap (get_elem? s.views) (sym zeroth) ∙ there in
      let h = at_home r.log r.serving s.homes r.out (nobody_holds part s.words s.views r.log r.out r.serving q v at idle all) r.slot in
      let whole : v.seen ≡ r.log = sees_whole part s.words s.views r.log r.out r.serving q v at all in
      let f = q.first v at in record {
        value = h.value;
        slot_is = final.4 0 (Some h.value) (ap (λ l. get_elem? l 0) h.homes_are);
        whole = h.history_is ∙ sym whole;
        stood = subst (stands h.value) (sym (q.each 0 v at f.live).part_is) h.stood;
        made = subst (λ (l : List Call). AllMade v.made l) (sym whole) (subst (λ (n : ℕ). AllMade n r.log) (sym f.made) q.made);
      }
