-- A seat is split off, and another is joined.
use Rattle.std.proofs.Common.{◌≡◌, ◌≢◌, ℕ, ◌+◌, ◌<◌, Bool, List, [], ◌∷◌, ◌++◌, length, set, refl, ap, sym, ◌∙◌, subst, ⊎_elim, arith, length-set, length-append}
use Rattle.std.proofs.lemmas.List.Sums.{sum_by_push}
use mathlib.Core.Option.{some, some-injective}
use mathlib.Core.Logic.{dite}
use mathlib.Core.List.{IsPrefix}
use native.Mathlib.Decide.{ℕ_discrete}
use lib.ListN.{get_elem?}
use Rattle.atomic_table.proofs.Lists.{at_set, set_here, set_else, at_longer, at_last}
use Rattle.cache_core.specs.declared.calls.Call.{Call}
use Rattle.cache_core.specs.declared.common.Common.{Common}
use Rattle.cache_core.specs.Histories.{own}
use Rattle.turn_lock.specs.Histories.{AllMade}
use Rattle.turn_lock.proofs.Prefixes.{prefix_self}
use Rattle.turn_lock.proofs.OwnCalls.{made_prefix, made_up, none_own}
use Rattle.turn_lock.specs.declared.view.View.{View}
use Rattle.turn_lock.specs.declared.view.Stage.{Stage}
use Rattle.turn_lock.specs.declared.view.Stage.TheVariants.{Idle, Holding, Comparing, Spent}
use Rattle.turn_lock.specs.Views.{IsLive, HasTicket, idle_view, split_view, new_view, comparing_view, spent_view}
use Rattle.turn_lock.specs.TurnRule.{LiveFits, CompareFits, HasSamePart, KeepsDraws, FirstFits, SeatsFit}
use Rattle.turn_lock.specs.Steps.{CompareGives}
use Rattle.turn_lock.proofs.Longer.{longer_begins, first_begins, second_begins, first_owns, second_owns}
use Rattle.turn_lock.proofs.OneView.{each_set, not_spent, apart, moved}
use Rattle.turn_lock.proofs.Lines.{at_end, at_inside}

module _ (part : Common) (words : List ℕ) (views : List View) (log : List Call) (out : Bool) (serving : ℕ) where
  -- the number that seat 0 makes next has no calls
  pub asks_from : (q : SeatsFit part words views log out serving) (v : View) → get_elem? views 0 ≡ some v → own v.made v.seen ≡ []
  asks_from q v at = let f = q.first v at in let g = q.each 0 v at f.live in
      none_own (length views) v.made v.seen (made_prefix (length views) v.seen g.begins.0 (subst (AllMade (length views)) (sym g.begins.1) q.made)) (let m = f.made in omega arith)

  -- seat 0 makes another
  pub splits_from : (q : SeatsFit part words views log out serving) (v : View) → get_elem? views 0 ≡ some v → v.made < 1024 → SeatsFit part words (set views 0 (split_view v) ++ new_view v ∷ []) log out serving
  splits_from q v at room =
      let f = q.first v at in
      let g = q.each 0 v at f.live in
      let w = split_view v in
      let long : length (set views 0 w) ≡ length views = length-set views 0 w in
      let longs : length (set views 0 w ++ new_view v ∷ []) ≡ length views + 1 = let h = length-append (set views 0 w) (new_view v ∷ []) in omega arith in
      let count = f.made in
      let new_draws = q.draws ++ 0 ∷ [] in
      let there : (j : ℕ) (u : View) (P : Stage → Type 0) → get_elem? views j ≡ some u → P u.stage → (x : View) × (get_elem? (set views 0 w ++ new_view v ∷ []) j ≡ some x) × P x.stage =
      λ j u P at_j p. dite (ℕ_discrete j 0)
      (λ e. (w, at_longer (set views 0 w) (new_view v ∷ []) j w (ap (get_elem? (set views 0 w)) e ∙ set_here views 0 w (at_inside views 0 v at)), subst P (ap (λ (x : View). x.stage) (some-injective u v (sym at_j ∙ (ap (get_elem? views) e ∙ at)))) p))
      (λ other. (u, at_longer (set views 0 w) (new_view v ∷ []) j u (set_else views 0 j w other ∙ at_j), p)) in
      record {
        line = q.line;
        draws = new_draws;
        words_are = q.words_are;
        drew = sum_by_push (λ (d : ℕ). d) q.draws 0 ∙ (let d = q.drew in omega arith);
        each_drew = λ j d at_j. ⊎_elim (q.each_drew j d) (λ (t : (j ≡ length q.draws) × (0 ≡ d)). let e = t.1 in omega arith) (at_end q.draws 0 d j at_j);
        as_many = let h = length-append q.draws (0 ∷ []) in let m = q.as_many in omega arith;
        few = omega arith;
        begun = omega arith;
        in_line = λ i j at_i. let h = q.in_line i j at_i in there j h.0 (HasTicket (serving + i)) h.1 h.2;
        served = λ is_out. let h = q.served is_out in let t = there h.0 h.1 (λ st. st ≡ Holding serving) h.2 h.3 in (h.0, t.0, t.1, t.2);
        each = λ j u at_j. ⊎_elim
            (each_set (λ j u. IsLive u.stage → LiveFits part serving q.line new_draws log out j u) views 0 w
            (λ _. record { number_is = g.number_is; part_is = g.part_is; begins = g.begins; after = g.after; drew = at_longer q.draws (0 ∷ []) 0 v.drawn g.drew; stage = g.stage })
            (λ j u _ at_j live. let h = q.each j u at_j live in record { number_is = h.number_is; part_is = h.part_is; begins = h.begins; after = h.after; drew = at_longer q.draws (0 ∷ []) j u.drawn h.drew; stage = h.stage }) j u)
            (λ (t : (j ≡ length (set views 0 w)) × (new_view v ≡ u)).
            let here : j ≡ length views = t.0 ∙ long in
            subst (λ (x : View). IsLive x.stage → LiveFits part serving q.line new_draws log out j x) t.1
            (λ _. record {
              number_is = count ∙ sym here;
              part_is = g.part_is;
              begins = g.begins;
              after = let a = none_own (length views) j v.seen (made_prefix (length views) v.seen g.begins.0 (subst (AllMade (length views)) (sym g.begins.1) q.made)) (omega arith) in
                  let b = none_own (length views) j log q.made (omega arith) in a ∙ sym b;
              drew = ap (get_elem? new_draws) (here ∙ sym q.as_many) ∙ at_last q.draws 0 (length q.draws) refl;
              stage = tt;
            }))
            (at_end (set views 0 w) (new_view v) u j at_j);
        first = λ u at_0.
            let is : w ≡ u = some-injective w u (sym (at_longer (set views 0 w) (new_view v ∷ []) 0 w (set_here views 0 w (at_inside views 0 v at))) ∙ at_0) in
            subst (FirstFits (set views 0 w ++ new_view v ∷ []) log) is record {
              made = omega arith;
              live = f.live;
              are_spent = λ i n at_i. let h = f.are_spent i n at_i in
                  let other : n ≢ 0 = apart views n 0 h.0 v h.1 at (λ e. not_spent v h.0 f.live (sym e) h.2) in
                  (h.0, at_longer (set views 0 w) (new_view v ∷ []) n h.0 (set_else views 0 n w other ∙ h.1), h.2);
              all_spent = λ n x at_n is_spent. ⊎_elim
                  (λ at_n'. ⊎_elim (λ (t : (n ≡ 0) × (w ≡ x)). absurd (not_spent w x f.live t.1 is_spent)) (λ (t : (n ≢ 0) × (get_elem? views n ≡ some x)). f.all_spent n x t.1 is_spent) (at_set views 0 n w x at_n'))
                  (λ (t : (n ≡ length (set views 0 w)) × (new_view v ≡ x)). absurd (not_spent (new_view v) x tt t.1 is_spent))
                  (at_end (set views 0 w) (new_view v) x n at_n);
              after = f.after;
              compares = f.compares;
              same_part = f.same_part;
            };
        keeps = λ u at_0.
            let is : w ≡ u = some-injective w u (sym (at_longer (set views 0 w) (new_view v ∷ []) 0 w (set_here views 0 w (at_inside views 0 v at))) ∙ at_0) in
            let k = q.keeps v at in
            subst (KeepsDraws new_draws) is record { one_each = k.one_each; drew = λ i n d there drew. at_longer q.draws (0 ∷ []) n d (k.drew i n d there drew) };
        made = made_up (length views) (length (set views 0 w ++ new_view v ∷ [])) log (omega arith) q.made;
      }

  -- seat 0 takes another in
  pub joins_from : (q : SeatsFit part words views log out serving) (v : View) (other : ℕ) (x : View) → get_elem? views 0 ≡ some v → v.stage ≡ Idle → ¬ (other ≡ 0) → get_elem? (set views 0 (comparing_view v x)) other ≡ some x → x.stage ≡ Idle
      → SeatsFit part words (set (set views 0 (comparing_view v x)) other spent_view) log out serving
  joins_from q v other x at idle not at_x' idle_x =
      let f = q.first v at in
      let g = q.each 0 v at f.live in
      let w = comparing_view v x in
      let at_x : get_elem? views other ≡ some x = ⊎_elim (λ (t : (other ≡ 0) × (w ≡ x)). absurd (not t.0)) (λ (t : (other ≢ 0) × (get_elem? views other ≡ some x)). t.1) (at_set views 0 other w x at_x') in
      let h = q.each other x at_x (subst IsLive (sym idle_x) tt) in
      let V = set views 0 w in
      let at_w : get_elem? (set V other spent_view) 0 ≡ some w = set_else V other 0 spent_view (λ e. not (sym e)) ∙ set_here views 0 w (at_inside views 0 v at) in
      let long : length (set V other spent_view) ≡ length views = length-set V other spent_view ∙ length-set views 0 w in
      let busy : (j : ℕ) (u : View) (P : Stage → Type 0) → (P Idle → ⊥) → get_elem? views j ≡ some u → P u.stage → get_elem? (set V other spent_view) j ≡ some u =
      λ j u P none at_j p.
      let a : j ≢ 0 = apart views j 0 u v at_j at (λ e. none (subst P (ap (λ (y : View). y.stage) e ∙ idle) p)) in
      let b : j ≢ other = apart views j other u x at_j at_x (λ e. none (subst P (ap (λ (y : View). y.stage) e ∙ idle_x) p)) in
      set_else V other j spent_view b ∙ (set_else views 0 j w a ∙ at_j) in
      let joined = v.joined ++ x.number ∷ [] in
      record {
        line = q.line;
        draws = q.draws;
        words_are = q.words_are;
        drew = q.drew;
        each_drew = q.each_drew;
        as_many = q.as_many ∙ sym long;
        few = let n = q.few in omega arith;
        begun = let n = q.begun in omega arith;
        in_line = λ i j at_i. let k = q.in_line i j at_i in (k.0, busy j k.0 (HasTicket (serving + i)) (λ e. e) k.1 k.2, k.2);
        served = λ is_out. let k = q.served is_out in (k.0, k.1, busy k.0 k.1 (λ st. st ≡ Holding serving) (λ e. cc (e)) k.2 k.3, k.3);
        each = each_set (λ j u. IsLive u.stage → LiveFits part serving q.line q.draws log out j u) V other spent_view (λ none. absurd none)
            (λ j u _ at_j. each_set (λ j u. IsLive u.stage → LiveFits part serving q.line q.draws log out j u) views 0 w
            (λ _. record {
              number_is = g.number_is;
              part_is = g.part_is;
              begins = longer_begins v.seen x.seen log g.begins h.begins;
              after = first_owns 0 v.seen x.seen log g.begins h.begins g.after;
              drew = g.drew;
              stage = tt;
            })
            (λ j u _ at_j live. q.each j u at_j live) j u at_j);
        first = λ u at_0. subst (FirstFits (set V other spent_view) log) (some-injective w u (sym at_w ∙ at_0)) record {
          made = f.made ∙ sym long;
          live = tt;
          are_spent = λ i n at_i. ⊎_elim
              (λ was. let k = f.are_spent i n was in (k.0, busy n k.0 (λ st. st ≡ Spent) (λ e. cc (e)) k.1 k.2, k.2))
              (λ (t : (i ≡ length v.joined) × (x.number ≡ n)).
              (spent_view, ap (get_elem? (set V other spent_view)) (sym t.1 ∙ h.number_is) ∙ set_here V other spent_view (at_inside V other x at_x'), refl))
              (at_end v.joined x.number n i at_i);
          all_spent = λ n u at_n is_spent. ⊎_elim
              (λ (t : (n ≡ other) × (spent_view ≡ u)). (length v.joined, at_last v.joined x.number (length v.joined) refl ∙ ap some (h.number_is ∙ sym t.0)))
              (λ (t : (n ≢ other) × (get_elem? V n ≡ some u)). ⊎_elim (λ (s : (n ≡ 0) × (w ≡ u)). absurd (not_spent w u tt s.1 is_spent))
              (λ (s : (n ≢ 0) × (get_elem? views n ≡ some u)). let k = f.all_spent n u s.1 is_spent in (k.0, at_longer v.joined (x.number ∷ []) k.0 n k.1)) (at_set views 0 n w u t.1))
              (at_set V other n spent_view u at_n);
          after = λ i n at_i. ⊎_elim
              (λ was. first_owns n v.seen x.seen log g.begins h.begins (f.after i n was))
              (λ (t : (i ≡ length v.joined) × (x.number ≡ n)). second_owns n v.seen x.seen log g.begins h.begins (subst (λ (m : ℕ). own m x.seen ≡ own m log) (sym h.number_is ∙ t.1) h.after))
              (at_end v.joined x.number n i at_i);
          compares = record {
            seen_is = refl;
            was_begins = g.begins;
            theirs_begins = h.begins;
            first_after = g.after;
            their_after = subst (λ (m : ℕ). own m x.seen ≡ own m log) (sym h.number_is) h.after;
            noted = (length v.joined, at_last v.joined x.number (length v.joined) refl);
            before_after = λ i m at_i inside. ⊎_elim (f.after i m) (λ (t : (i ≡ length v.joined) × (x.number ≡ m)). let l = length-append v.joined (x.number ∷ []) in let e = t.0 in absurd (omega arith)) (at_end v.joined x.number m i at_i);
          };
          same_part = h.part_is ∙ sym g.part_is;
        };
        keeps = λ u at_0. subst (KeepsDraws q.draws) (some-injective w u (sym at_w ∙ at_0)) (
            let k = q.keeps v at in
            let one_each = k.one_each in record {
              one_each = let a = length-append v.joined_drawn (x.drawn ∷ []) in let b = length-append v.joined (x.number ∷ []) in omega arith;
              drew = λ i n d at_i drew. ⊎_elim
                  (λ was. ⊎_elim
                  (k.drew i n d was)
                  (λ (t : (i ≡ length v.joined_drawn) × (x.drawn ≡ d)). let e = t.0 in let inside = at_inside v.joined i n was in absurd (omega arith))
                  (at_end v.joined_drawn x.drawn d i drew))
                  (λ (t : (i ≡ length v.joined) × (x.number ≡ n)). ⊎_elim
                  (λ had. let e = t.0 in let inside = at_inside v.joined_drawn i d had in absurd (omega arith))
                  (λ (s : (i ≡ length v.joined_drawn) × (x.drawn ≡ d)). ap (get_elem? q.draws) (sym t.1 ∙ h.number_is) ∙ (h.drew ∙ ap some s.1))
                  (at_end v.joined_drawn x.drawn d i drew))
                  (at_end v.joined x.number n i at_i);
            });
        made = subst (λ (n : ℕ). AllMade n log) (sym long) q.made;
      }

  -- seat 0 has compared what it took in
  pub settles_from : (q : SeatsFit part words views log out serving) (v : View) (n : ℕ) (was theirs : List Call) (p : Common) → get_elem? views 0 ≡ some v → v.stage ≡ Comparing n was theirs p
      → SeatsFit part words (set views 0 (idle_view v v.seen)) log out serving × CompareGives v v.stage
  settles_from q v n was theirs p at is_comparing =
      let f = q.first v at in
      let live = f.live in
      let g = q.each 0 v at live in
      let w = idle_view v v.seen in
      let c = subst (CompareFits log v.joined v.seen) is_comparing f.compares in
      let busy : (j : ℕ) (u : View) (P : Stage → Type 0) → (P (Comparing n was theirs p) → ⊥) → get_elem? views j ≡ some u → P u.stage → get_elem? (set views 0 w) j ≡ some u =
      λ j u P none at_j p. set_else views 0 j w (apart views j 0 u v at_j at (λ e. none (subst P (ap (λ (y : View). y.stage) e ∙ is_comparing) p))) ∙ at_j in (
        moved part words words views log log out out serving serving q.line q.draws 0 v w q at live tt q.words_are q.drew q.each_drew q.as_many
            (λ i j at_i. let k = q.in_line i j at_i in (k.0, busy j k.0 (HasTicket (serving + i)) (λ e. e) k.1 k.2, k.2))
            (λ is_out. let k = q.served is_out in (k.0, k.1, busy k.0 k.1 (λ st. st ≡ Holding serving) (λ e. cc (e)) k.2 k.3, k.3))
            (prefix_self log) (λ m _. refl) q.made
            record { number_is = g.number_is; part_is = g.part_is; begins = g.begins; after = g.after; drew = g.drew; stage = tt }
            (λ j _. refl) (λ j u _ _ known. known)
            (λ _. (refl, refl, refl, (λ i m at_i _. f.after i m at_i), tt, tt)),
        subst (CompareGives v) (sym is_comparing) record {
          was_begins = subst (IsPrefix was) (sym c.seen_is) (first_begins was theirs log c.was_begins c.theirs_begins);
          theirs_begins = subst (IsPrefix theirs) (sym c.seen_is) (second_begins was theirs log c.was_begins c.theirs_begins);
          mine = g.after ∙ sym c.first_after;
          theirs_same = f.after c.noted.0 n c.noted.1 ∙ sym c.their_after;
          same_part = subst (HasSamePart v.part) is_comparing f.same_part;
          before = λ i m at_i inside. f.after i m at_i ∙ sym (c.before_after i m at_i inside);
        },
      )
