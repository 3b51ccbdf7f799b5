-- Each step of the counter keeps its rule, and tells what it says.
use Rattle.std.proofs.Common.{◌≡◌, ◌≢◌, ℕ, zero, suc, ◌+◌, ◌*◌, ◌%◌, ◌^◌, ◌<◌, ◌≤◌, true, List, [], ◌∷◌, ◌++◌, length, set, get_or, refl, ap, sym, ◌∙◌, subst, ⊎_elim, arith, length-append, length-set, eqb}
use Rattle.std.specs.List.{All, Contains}
use Rattle.std.proofs.lemmas.Bool.{cases_lt, true≢false}
use Rattle.std.proofs.lemmas.List.{get_or_append_left}
use Rattle.std.proofs.lemmas.List.Sums.{sum_by_push}
use Rattle.std.proofs.lemmas.List.Elements.{All-push, All-contains_itself}
use mathlib.Core.Option.{some, some-injective, some-ne-none}
use native.Mathlib.Decide.{ℕ_discrete}
use mathlib.Core.Logic.{dite}
use lib.ListN.{get_elem?}
use Rattle.atomic_table.specs.Table.{State, keeps, Final, Seen}
use Rattle.atomic_table.proofs.Lists.{at_set}
use Rattle.page_counter.specs.declared.view.SeatClaims.{SeatClaims}
use Rattle.page_counter.specs.declared.view.SeatState.{SeatState}
use Rattle.page_counter.specs.Numbers.{times, EachOnce}
use Rattle.page_counter.specs.Views.{claims_of, numbers_of, known_claims, seats_of, all_seats, seat_claims, first_state, claimed_state, split_state, new_state, joined_state, spent_state}
use Rattle.page_counter.specs.CounterRule.{ClaimsFit, LiveFits, CounterRule}
use Rattle.page_counter.specs.Seats.{AllJoined}
use Rattle.page_counter.specs.Steps.{ClaimGives}
use Rattle.page_counter.specs.Laws.{MakeKeeps, ClaimKeeps, SplitKeeps, JoinKeeps}
use Rattle.page_counter.proofs.Sums.{sum_set, sum_has, at_inside}
use Rattle.page_counter.proofs.Once.{bit, times-cons, times-append, times_of_contains, once_is_count, once_more, once_same, rises_push}
use Rattle.page_counter.proofs.SeatStates.{claimed_in, numbered_in, claims_total, numbers_total, known_times, claims_most, knows_all, live_claims, live_numbers, known_most}

abbrev St : Type 0
St = State (Unit {0}) SeatState

-- what is true of each place after one is set
each_set : (P : ℕ → SeatState → Type 0) (views : List SeatState) (id : ℕ) (q : SeatState) → P id q → ((n : ℕ) (p : SeatState) → n ≢ id → get_elem? views n ≡ some p → P n p)
    → (n : ℕ) (p : SeatState) → get_elem? (set views id q) n ≡ some p → P n p
each_set P views id q mine others n p at = ⊎_elim
    (λ (t : (n ≡ id) × (q ≡ p)). subst (λ (x : ℕ × SeatState). P x.0 x.1) (λ i. (sym t.0 i, t.1 i)) mine)
    (λ (t : (n ≢ id) × (get_elem? views n ≡ some p)). others n p t.0 t.1)
    (at_set views id n q p at)

-- what is true of each place after one is added at the end
each_push : (P : ℕ → SeatState → Type 0) (views : List SeatState) (q : SeatState) → P (length views) q → ((n : ℕ) (p : SeatState) → get_elem? views n ≡ some p → P n p)
    → (n : ℕ) (p : SeatState) → get_elem? (views ++ q ∷ []) n ≡ some p → P n p
each_push P [] q mine others zero p at = subst (P 0) (some-injective q p at) mine
each_push P [] q mine others (suc n) p at = absurd (some-ne-none p (sym at))
each_push P (v ∷ views) q mine others zero p at = others 0 p at
each_push P (v ∷ views) q mine others (suc n) p at = each_push (λ m. P (suc m)) views q mine (λ m r. others (suc m) r) n p at

pub makes : MakeKeeps
makes = record {
  claimed = 0;
  words_are = refl;
  claims_once = λ x. ((λ lt. absurd (omega arith)), λ ge. refl);
  numbers_once = λ x. once_more 0 [] (0 ∷ []) (λ y. ((λ lt. absurd (omega arith)), λ ge. refl)) (λ y. times-cons y 0 [] ∙ omega arith) x;
  few = omega arith;
  each = alone;
}
  where
    alone : (n : ℕ) (p : SeatState) → get_elem? (first_state ∷ []) n ≡ some p → p.live ≡ true → LiveFits 1 n p.view
    alone zero p at live = subst (λ (q : SeatState). LiveFits 1 0 q.view) (some-injective first_state p at) record {
      number_is = refl;
      made_is = λ _. refl;
      other_is = λ not. absurd (not refl);
      own_fit = ((λ k lt. absurd (omega arith)), omega arith);
      joined_fit = λ k d lt. absurd (omega arith);
    }
    alone (suc n) p at live = absurd (some-ne-none p (sym at))

own_part : (xs ys : List ℕ) (n : ℕ) → All (λ c. c < n) (xs ++ ys) → All (λ c. c < n) xs
own_part xs ys n all k d lt = subst (λ (c : ℕ). c < n) (get_or_append_left xs ys d k lt) (all k d (let h = length-append xs ys in omega arith))

module _ (s : St) (r : CounterRule s) where
  word_is : get_or s.words 0 0 ≡ r.claimed
  word_is = ap (λ l. get_or l 0 0) r.words_are

  count_is : length (claims_of (all_seats s.views)) ≡ r.claimed
  count_is = once_is_count r.claimed (claims_of (all_seats s.views)) r.claims_once

  claimed_most : r.claimed ≤ 33 * 64
  claimed_most = let a = claims_most (length s.views) s.views r.each r.numbers_once r.few in let b = count_is in omega arith

  -- what a seat knows was claimed
  known_below : (id : ℕ) (p : SeatState) → get_elem? s.views id ≡ some p → p.live ≡ true → All (λ c. c < r.claimed) (known_claims p.view)
  known_below id p at live k d lt =
      let known : List ℕ = known_claims p.view in
      let x : ℕ = get_or known k d in
      let has : Contains known x = All-contains_itself known k d lt in
      let a = times_of_contains known x has in
      let b = known_times x p live in
      let c = sum_has (λ q. claimed_in x (seats_of q)) s.views id p at in
      let e = claims_total x s.views in ⊎_elim
      (λ h. h)
      (λ ge. let z = (r.claims_once x).1 ge in absurd (omega arith))
      (cases_lt x r.claimed)

  tells : (id : ℕ) (p : SeatState) → get_elem? s.views id ≡ some p → p.live ≡ true → r.claimed < 33 * 64 → ClaimGives p.view r.claimed
  tells id p at live room =
      let f = r.each id p at live in
      let above = known_below id p at live in record {
        rises = rises_push p.view.claims r.claimed f.own_fit.0 (own_part p.view.claims (claims_of p.view.joined) r.claimed above);
        above = above;
        least = let a = known_most s.views id p at live in let b = count_is in omega arith;
        few = room;
        all_known = λ all. dite (ℕ_discrete id 0)
            (λ e. let at0 : get_elem? s.views 0 ≡ some p = ap (get_elem? s.views) (sym e) ∙ at in
            sym count_is ∙ ap length (knows_all s.views p at0 live r.numbers_once (all ∙ f.made_is e)))
            (λ other. let none = (f.other_is other).0 in let a : length p.view.joined + 1 ≡ p.view.made = all in absurd (omega arith));
      }

  -- one more claim, of the seat with this view
  claimed_rule : (id : ℕ) (p : SeatState) → get_elem? s.views id ≡ some p → p.live ≡ true → length p.view.claims < 64
      → CounterRule record { words = (r.claimed + 1) ∷ []; homes = s.homes; views = set s.views id (claimed_state p r.claimed) }
  claimed_rule id p at live room =
      let q : SeatState = claimed_state p r.claimed in
      let views : List SeatState = set s.views id q in
      let f = r.each id p at live in
      let long : length views ≡ length s.views = length-set s.views id q in record {
        claimed = r.claimed + 1;
        words_are = refl;
        claims_once = once_more r.claimed (claims_of (all_seats s.views)) (claims_of (all_seats views)) r.claims_once (λ x.
            let a = claims_total x s.views in
            let b = claims_total x views in
            let c = sum_set (λ u. claimed_in x (seats_of u)) s.views id p q at in
            let d = live_claims x p live in
            let e = live_claims x q live in
            let g = times-append x p.view.claims (r.claimed ∷ []) in
            let h = times-cons x r.claimed [] in omega arith);
        numbers_once = subst (λ (n : ℕ). EachOnce n (numbers_of (all_seats views))) (sym long) (once_same (length s.views) (numbers_of (all_seats s.views)) (numbers_of (all_seats views)) r.numbers_once (λ x.
            let a = numbers_total x s.views in
            let b = numbers_total x views in
            let c = sum_set (λ u. numbered_in x (seats_of u)) s.views id p q at in
            let d = live_numbers x p live in
            let e = live_numbers x q live in omega arith));
        few = let n = r.few in omega arith;
        each = λ n u there lives. subst (λ (m : ℕ). LiveFits m n u.view) (sym long)
            (each_set (λ n u. u.live ≡ true → LiveFits (length s.views) n u.view) s.views id q
            (λ _. record {
              number_is = f.number_is;
              made_is = f.made_is;
              other_is = f.other_is;
              own_fit = (
                rises_push p.view.claims r.claimed f.own_fit.0 (own_part p.view.claims (claims_of p.view.joined) r.claimed (known_below id p at live)),
                let h = length-append p.view.claims (r.claimed ∷ []) in omega arith,
              );
              joined_fit = f.joined_fit;
            })
            (λ n u _ at_n. r.each n u at_n) n u there lives);
      }

pub claims : ClaimKeeps
claims slots id me live room s r _ at _ =
    let p : SeatState = me.0 in
    let found : ℕ = get_or s.words 0 0 in
    let word : found ≡ r.claimed = word_is s r in
    let most = claimed_most s r in
    let next : (found + 1) % 2 ^ 64 ≡ r.claimed + 1 = omega arith in
    let words : set s.words 0 ((found + 1) % 2 ^ 64) ≡ (r.claimed + 1) ∷ [] = ap (λ l. set l 0 ((found + 1) % 2 ^ 64)) r.words_are ∙ ap (λ (n : ℕ). n ∷ []) next in
    let rule = claimed_rule s r id p at live room in
    let after : St = record { words = (r.claimed + 1) ∷ []; homes = s.homes; views = set s.views id (claimed_state p r.claimed) } in
    let few = claimed_most after rule in
    let is : r.claimed + 1 ≡ rule.claimed = word_is after rule in (
      claimed_state p found,
      keeps,
      tt,
      subst (λ (x : List ℕ × ℕ). CounterRule record { words = x.0; homes = s.homes; views = set s.views id (claimed_state p x.1) }) (λ i. (sym words i, sym word i)) rule,
      (refl, subst (ClaimGives p.view) (sym word) (tells s r id p at live (omega arith))),
    )

pub splits : SplitKeeps
splits id p live is_first room s r at =
    let q : SeatState = split_state p in
    let new : SeatState = new_state p in
    let old : List SeatState = set s.views id q in
    let views : List SeatState = old ++ new ∷ [] in
    let f = r.each id p at live in
    let zeroth : id ≡ 0 = sym f.number_is ∙ is_first in
    let made = f.made_is zeroth in
    let inside = at_inside s.views id p at in
    let same : length old ≡ length s.views = length-set s.views id q in
    let long : length views ≡ length s.views + 1 = length-append old (new ∷ []) ∙ ap (λ (n : ℕ). n + 1) same in record {
      claimed = r.claimed;
      words_are = r.words_are;
      claims_once = once_same r.claimed (claims_of (all_seats s.views)) (claims_of (all_seats views)) r.claims_once (λ x.
          let a = claims_total x s.views in
          let b = claims_total x views in
          let c = sum_set (λ u. claimed_in x (seats_of u)) s.views id p q at in
          let d = live_claims x p live in
          let e = live_claims x q live in
          let g = sum_by_push (λ u. claimed_in x (seats_of u)) old new in
          let h = live_claims x new refl in omega arith);
      numbers_once = subst (λ (n : ℕ). EachOnce n (numbers_of (all_seats views))) (sym long) (once_more (length s.views) (numbers_of (all_seats s.views)) (numbers_of (all_seats views)) r.numbers_once (λ x.
          let a = numbers_total x s.views in
          let b = numbers_total x views in
          let c = sum_set (λ u. numbered_in x (seats_of u)) s.views id p q at in
          let d = live_numbers x p live in
          let e = live_numbers x q live in
          let g = sum_by_push (λ u. numbered_in x (seats_of u)) old new in
          let h = live_numbers x new refl in
          let k : bit (eqb p.view.made x) ≡ bit (eqb (length s.views) x) = ap (λ (n : ℕ). bit (eqb n x)) made in omega arith));
      few = omega arith;
      each = λ n u there lives. subst (λ (m : ℕ). LiveFits m n u.view) (sym long)
          (each_push (λ n u. u.live ≡ true → LiveFits (length s.views + 1) n u.view) old new
          (λ _. record {
            number_is = omega arith;
            made_is = λ none. absurd (omega arith);
            other_is = λ _. (refl, refl);
            own_fit = ((λ k lt. absurd (omega arith)), omega arith);
            joined_fit = λ k d lt. absurd (omega arith);
          })
          (each_set (λ n u. u.live ≡ true → LiveFits (length s.views + 1) n u.view) s.views id q
          (λ _. record {
            number_is = f.number_is;
            made_is = λ _. ap (λ (m : ℕ). m + 1) made;
            other_is = λ other. absurd (other zeroth);
            own_fit = f.own_fit;
            joined_fit = f.joined_fit;
          })
          (λ n u other at_n lives. let g = r.each n u at_n lives in record {
            number_is = g.number_is;
            made_is = λ zero. absurd (other (zero ∙ sym zeroth));
            other_is = g.other_is;
            own_fit = g.own_fit;
            joined_fit = g.joined_fit;
          }))
          n u there lives);
    }

pub joins : JoinKeeps
joins id p other q live is_first live_q s r at apart there =
    let w : SeatState = joined_state p q in
    let old : List SeatState = set s.views id w in
    let views : List SeatState = set old other spent_state in
    let f = r.each id p at live in
    let zeroth : id ≡ 0 = sym f.number_is ∙ is_first in
    let at_q : get_elem? s.views other ≡ some q = ⊎_elim (λ (t : (other ≡ id) × (w ≡ q)). absurd (apart t.0)) (λ (t : (other ≢ id) × (get_elem? s.views other ≡ some q)). t.1) (at_set s.views id other w q there) in
    let g = r.each other q at_q live_q in
    let none : q.view.joined ≡ [] = (g.other_is (λ e. apart (e ∙ sym zeroth))).1 in
    let long : length views ≡ length s.views = length-set old other spent_state ∙ length-set s.views id w in record {
      claimed = r.claimed;
      words_are = r.words_are;
      claims_once = once_same r.claimed (claims_of (all_seats s.views)) (claims_of (all_seats views)) r.claims_once (λ x.
          let a = claims_total x s.views in
          let b = claims_total x views in
          let c = sum_set (λ u. claimed_in x (seats_of u)) s.views id p w at in
          let d = sum_set (λ u. claimed_in x (seats_of u)) old other q spent_state there in
          let e = live_claims x p live in
          let h = live_claims x w live in
          let i = sum_by_push (λ (z : SeatClaims). times x z.claims) p.view.joined (seat_claims q.view) in
          let j = live_claims x q live_q in
          let k : claimed_in x q.view.joined ≡ claimed_in x [] = ap (claimed_in x) none in omega arith);
      numbers_once = subst (λ (n : ℕ). EachOnce n (numbers_of (all_seats views))) (sym long) (once_same (length s.views) (numbers_of (all_seats s.views)) (numbers_of (all_seats views)) r.numbers_once (λ x.
          let a = numbers_total x s.views in
          let b = numbers_total x views in
          let c = sum_set (λ u. numbered_in x (seats_of u)) s.views id p w at in
          let d = sum_set (λ u. numbered_in x (seats_of u)) old other q spent_state there in
          let e = live_numbers x p live in
          let h = live_numbers x w live in
          let i = sum_by_push (λ (z : SeatClaims). bit (eqb z.number x)) p.view.joined (seat_claims q.view) in
          let j = live_numbers x q live_q in
          let k : numbered_in x q.view.joined ≡ numbered_in x [] = ap (numbered_in x) none in omega arith));
      few = let n = r.few in omega arith;
      each = λ n u at_n lives. subst (λ (m : ℕ). LiveFits m n u.view) (sym long)
          (each_set (λ n u. u.live ≡ true → LiveFits (length s.views) n u.view) old other spent_state
          (λ dead. absurd (true≢false (sym dead)))
          (λ n u _ at_old. each_set (λ n u. u.live ≡ true → LiveFits (length s.views) n u.view) s.views id w
          (λ _. record {
            number_is = f.number_is;
            made_is = f.made_is;
            other_is = λ not. absurd (not zeroth);
            own_fit = f.own_fit;
            joined_fit = All-push (λ (z : SeatClaims). ClaimsFit z.claims) p.view.joined (seat_claims q.view) f.joined_fit g.own_fit;
          })
          (λ n u _ at_s. r.each n u at_s) n u at_old)
          n u at_n lives);
    }

-- what the word of the closed table is, where seat 0 has joined all others
pub closes : (id : ℕ) (p : SeatState) (ws : List ℕ) (xs : List (Unit {0})) (found : ℕ) → p.live ≡ true → p.view.number ≡ 0 → AllJoined p.view
    → Final (Seen CounterRule id p) ws xs → get_elem? ws 0 ≡ some found → EachOnce found (known_claims p.view)
closes id p ws xs found live is_first all final there =
    let s : St = final.0 in
    let r : CounterRule s = final.1.0 in
    let at : get_elem? s.views id ≡ some p = final.1.1 in
    let f = r.each id p at live in
    let zeroth : id ≡ 0 = sym f.number_is ∙ is_first in
    let at0 : get_elem? s.views 0 ≡ some p = ap (get_elem? s.views) (sym zeroth) ∙ at in
    let word : r.claimed ≡ found = some-injective r.claimed found (ap (λ (l : List ℕ). get_elem? l 0) (sym r.words_are ∙ final.2) ∙ there) in
    let whole = knows_all s.views p at0 live r.numbers_once (all ∙ f.made_is zeroth) in
    subst (λ (x : ℕ × List ℕ). EachOnce x.0 x.1) (λ i. (word i, whole i)) r.claims_once
