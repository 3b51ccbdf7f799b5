-- Each step keeps what the rule says of the words and the views.
use Rattle.std.proofs.Common.{◌≡◌, ◌≢◌, ◌⊎◌, ℕ, zero, suc, ◌+◌, ◌*◌, ◌%◌, ◌^◌, ◌<◌, ◌≤◌, Bool, true, false, true≢false, List, [], ◌∷◌, ◌++◌, length, get_or, set, refl, ap, sym, ◌∙◌, subst, inl, inr, ⊎_elim, arith, length-set, length-append, mod-eq_of_lt}
use Rattle.std.specs.List.{sum}
use Rattle.std.proofs.lemmas.List.Sums.{sum_by-cons}
use mathlib.Core.Option.{some, some-injective, some-ne-none}
use mathlib.Core.Logic.{dite}
use native.Mathlib.Decide.{ℕ_discrete}
use lib.ListN.{get_elem?}
use Rattle.atomic_table.proofs.Lists.{at_set, set_here, set_else, at_longer, at_last}
use Rattle.cache_core.specs.declared.calls.Call.{Call}
use Rattle.cache_core.specs.declared.common.Common.{Common}
use Rattle.cache_core.specs.Histories.{own}
use Rattle.turn_lock.specs.Histories.{AllMade, Grows}
use Rattle.turn_lock.proofs.Prefixes.{prefix_self}
use Rattle.turn_lock.proofs.OwnCalls.{own_grew, made-append, made_of}
use Rattle.turn_lock.specs.declared.view.View.{View}
use Rattle.turn_lock.specs.declared.view.Stage.{Stage}
use Rattle.turn_lock.specs.declared.view.Stage.TheVariants.{Idle, Waiting, Holding, Comparing, Spent}
use Rattle.turn_lock.specs.Views.{IsLive, HasTicket, waiting_view, holding_view, idle_view}
use Rattle.turn_lock.specs.TurnRule.{IsInLine, IsServed, StageFits, SeatsFit}
use Rattle.turn_lock.proofs.OneView.{moved}

sum-cons : (x : ℕ) (xs : List ℕ) → sum (x ∷ xs) ≡ x + sum xs
sum-cons x xs = sum_by-cons (λ (y : ℕ). y) x xs

pub sum_set : (xs : List ℕ) (j d e : ℕ) → get_elem? xs j ≡ some d → sum (set xs j e) + d ≡ sum xs + e
sum_set [] j d e at = absurd (some-ne-none d (sym at))
sum_set (x ∷ xs) zero d e at = let h : x ≡ d = some-injective x d at in let a = sum-cons x xs in let b = sum-cons e xs in omega arith
sum_set (x ∷ xs) (suc j) d e at = let h = sum_set xs j d e at in let a = sum-cons x xs in let b = sum-cons x (set xs j e) in omega arith

pub sum_most : (xs : List ℕ) → ((j d : ℕ) → get_elem? xs j ≡ some d → d ≤ 2 ^ 48) → sum xs ≤ length xs * 2 ^ 48
sum_most [] most = omega arith
sum_most (x ∷ xs) most = let h = most 0 x refl in let t = sum_most xs (λ j d at. most (suc j) d at) in let a = sum-cons x xs in omega arith

-- what stands in a list that grew by one: among the first, or the new one
pub at_end : {A : Type 0} (xs : List A) (a b : A) (j : ℕ) → get_elem? (xs ++ a ∷ []) j ≡ some b → (get_elem? xs j ≡ some b) ⊎ ((j ≡ length xs) × (a ≡ b))
at_end [] a b zero e = inr (refl, some-injective a b e)
at_end [] a b (suc j) e = absurd (some-ne-none b (sym e))
at_end (x ∷ xs) a b zero e = inl e
at_end (x ∷ xs) a b (suc j) e = ⊎_elim inl (λ (t : (j ≡ length xs) × (a ≡ b)). inr (ap suc t.0, t.1)) (at_end xs a b j e)

pub at_inside : {A : Type 0} (xs : List A) (j : ℕ) (a : A) → get_elem? xs j ≡ some a → j < length xs
at_inside [] j a e = absurd (some-ne-none a (sym e))
at_inside (x ∷ xs) zero a e = omega arith
at_inside (x ∷ xs) (suc j) a e = let h = at_inside xs j a e in omega arith

module _ (part : Common) (words : List ℕ) (views : List View) (log : List Call) (out : Bool) (serving : ℕ) where
  pub ticket_is : (q : SeatsFit part words views log out serving) → get_or words 0 0 ≡ serving + length q.line
  ticket_is q = ap (λ l. get_or l 0 0) q.words_are

  pub serving_is : (q : SeatsFit part words views log out serving) → get_or words 1 0 ≡ serving
  serving_is q = ap (λ l. get_or l 1 0) q.words_are

  pub ticket_most : (q : SeatsFit part words views log out serving) → serving + length q.line ≤ 2 ^ 58
  ticket_most q = let s = sum_most q.draws q.each_drew in let d = q.drew in let m = q.as_many in let f = q.few in omega arith

  -- a draw
  pub draws_from : (q : SeatsFit part words views log out serving) (id : ℕ) (v : View) → get_elem? views id ≡ some v → v.stage ≡ Idle → v.drawn < 2 ^ 48 → (ticket : ℕ) → ticket ≡ serving + length q.line
      → SeatsFit part (set words 0 ((ticket + 1) % 2 ^ 64)) (set views id (waiting_view v ticket)) log out serving
  draws_from q id v at idle room ticket is =
      let live : IsLive v.stage = subst IsLive (sym idle) tt in
      let w = waiting_view v ticket in
      let f = q.each id v at live in
      let most = ticket_most q in
      let longer : length (q.line ++ id ∷ []) ≡ length q.line + 1 = length-append q.line (id ∷ []) in
      let small : (ticket + 1) % 2 ^ 64 ≡ ticket + 1 = let lt : ticket + 1 < 2 ^ 64 = omega arith in mod-eq_of_lt lt in
      let inside = at_inside views id v at in
      let old : (u : View) → get_elem? views id ≡ some u → (n : ℕ) → HasTicket n u.stage → ⊥ =
      λ u there n has. subst (HasTicket n) (ap (λ (x : View). x.stage) (sym (some-injective v u (sym at ∙ there))) ∙ idle) has in
      moved part words (set words 0 ((ticket + 1) % 2 ^ 64)) views log log out out serving serving (q.line ++ id ∷ []) (set q.draws id (v.drawn + 1)) id v w q at live tt
      (ap (λ l. set l 0 ((ticket + 1) % 2 ^ 64)) q.words_are ∙ ap (λ (n : ℕ). n ∷ serving ∷ []) (let goal : (ticket + 1) % 2 ^ 64 ≡ serving + length (q.line ++ id ∷ []) = omega arith in goal))
      (let s = sum_set q.draws id v.drawn (v.drawn + 1) f.drew in let d = q.drew in omega arith)
      (λ j d there. ⊎_elim (λ (t : (j ≡ id) × (v.drawn + 1 ≡ d)). let e = t.1 in omega arith) (λ (t : (j ≢ id) × (get_elem? q.draws j ≡ some d)). q.each_drew j d t.1) (at_set q.draws id j (v.drawn + 1) d there))
      (length-set q.draws id (v.drawn + 1) ∙ q.as_many)
      (λ i j there. ⊎_elim
      (λ (was : get_elem? q.line i ≡ some j). let g = q.in_line i j was in
      let other : j ≢ id = λ e. old g.0 (ap (get_elem? views) (sym e) ∙ g.1) (serving + i) g.2 in
      (g.0, set_else views id j w other ∙ g.1, g.2))
      (λ (t : (i ≡ length q.line) × (id ≡ j)). (w, ap (get_elem? (set views id w)) (sym t.1) ∙ set_here views id w inside, let e = t.0 in let goal : ticket ≡ serving + i = omega arith in goal))
      (at_end q.line id j i there))
      (λ is_out. let g = q.served is_out in
      let other : g.0 ≢ id = λ e. old g.1 (ap (get_elem? views) (sym e) ∙ g.2) serving (subst (HasTicket serving) (sym g.3) refl) in
      (g.0, g.1, set_else views id g.0 w other ∙ g.2, g.3))
      (prefix_self log) (λ n _. refl) q.made
      record {
        number_is = f.number_is;
        part_is = f.part_is;
        begins = f.begins;
        after = f.after;
        drew = set_here q.draws id (v.drawn + 1) (let m = q.as_many in omega arith);
        stage = record { place = length q.line; ticket_is = is; stands = at_last q.line id (length q.line) refl };
      }
      (λ j other. set_else q.draws id j (v.drawn + 1) other)
      (λ j u other there known. in_longer j u.seen id u.stage known)
      (λ zeroth. (refl, refl, refl, (λ i n there _. (q.first v (ap (get_elem? views) (sym zeroth) ∙ at)).after i n there), tt, tt))
    where
      in_longer : (j : ℕ) (seen : List Call) (id : ℕ) (st : Stage) → StageFits serving q.line log out j seen st → StageFits serving (q.line ++ id ∷ []) log out j seen st
      in_longer j seen id Idle k = tt
      in_longer j seen id (Waiting t) k = record { place = k.place; ticket_is = k.ticket_is; stands = at_longer q.line (id ∷ []) k.place j k.stands }
      in_longer j seen id (Holding t) k = record { ticket_is = k.ticket_is; stands = at_longer q.line (id ∷ []) 0 j k.stands; slot = k.slot; whole = k.whole }
      in_longer j seen id (Comparing n was theirs p) k = tt
      in_longer j seen id Spent k = tt

  old_ticket : (id : ℕ) (v : View) → get_elem? views id ≡ some v → (P : Stage → Type 0) → (j : ℕ) (u : View) → get_elem? views j ≡ some u → j ≡ id → P u.stage → P v.stage
  old_ticket id v at P j u there e p = subst P (ap (λ (x : View). x.stage) (some-injective u v (sym there ∙ (ap (get_elem? views) e ∙ at)))) p

  -- the first of the line finds the slot at home
  pub is_home : (q : SeatsFit part words views log out serving) (id : ℕ) (v : View) → get_elem? views id ≡ some v → v.stage ≡ Waiting serving → out ≡ true → ⊥
  is_home q id v at is_waiting is_out =
      let live : IsLive v.stage = subst IsLive (sym is_waiting) tt in
      let mine = subst (StageFits serving q.line log out id v.seen) is_waiting (q.each id v at live).stage in
      let g = q.served is_out in
      let theirs = subst (StageFits serving q.line log out g.0 g.1.seen) g.3 (q.each g.0 g.1 g.2 (subst IsLive (sym g.3) tt)).stage in
      let none : 0 ≡ mine.place = let h : serving ≡ serving + mine.place = mine.ticket_is in omega arith in
      let first : get_elem? q.line 0 ≡ some id = ap (get_elem? q.line) none ∙ mine.stands in
      let same : g.0 ≡ id = some-injective g.0 id (sym theirs.stands ∙ first) in
      let both : Holding serving ≡ Waiting serving = sym g.3 ∙ (ap (λ (x : View). x.stage) (some-injective g.1 v (sym g.2 ∙ (ap (get_elem? views) same ∙ at))) ∙ is_waiting) in
      cc

  -- the first of the line takes the slot
  pub looks_from : (q : SeatsFit part words views log out serving) (id : ℕ) (v : View) (t : ℕ) → get_elem? views id ≡ some v → v.stage ≡ Waiting t → t ≡ serving
      → SeatsFit part words (set views id (holding_view v t log)) log true serving
  looks_from q id v t at is_waiting is =
      let live : IsLive v.stage = subst IsLive (sym is_waiting) tt in
      let w = holding_view v t log in
      let f = q.each id v at live in
      let now : v.stage ≡ Waiting serving = is_waiting ∙ ap Waiting is in
      let home = is_home q id v at now in
      let mine = subst (StageFits serving q.line log out id v.seen) now f.stage in
      let none : 0 ≡ mine.place = let h : serving ≡ serving + mine.place = mine.ticket_is in omega arith in
      let first : get_elem? q.line 0 ≡ some id = ap (get_elem? q.line) none ∙ mine.stands in
      moved part words words views log log out true serving serving q.line q.draws id v w q at live tt q.words_are q.drew q.each_drew q.as_many
      (λ i j there. let g = q.in_line i j there in dite (ℕ_discrete j id)
      (λ e. (w, ap (get_elem? (set views id w)) e ∙ set_here views id w (at_inside views id v at), subst (HasTicket (serving + i)) is_waiting (old_ticket id v at (HasTicket (serving + i)) j g.0 g.1 e g.2)))
      (λ other. (g.0, set_else views id j w other ∙ g.1, g.2)))
      (λ _. (id, w, set_here views id w (at_inside views id v at), ap Holding is))
      (prefix_self log) (λ n _. refl) q.made
      record { number_is = f.number_is; part_is = f.part_is; begins = prefix_self log; after = refl; drew = f.drew; stage = record { ticket_is = is; stands = first; slot = refl; whole = refl } }
      (λ j _. refl)
      (λ j u other there known. others home j u.seen u.stage known)
      (λ zeroth. (refl, refl, refl, (λ i n _ _. refl), tt, tt))
    where
      others : (out ≡ true → ⊥) → (j : ℕ) (seen : List Call) (st : Stage) → StageFits serving q.line log out j seen st → StageFits serving q.line log true j seen st
      others home j seen Idle k = tt
      others home j seen (Waiting t) k = k
      others home j seen (Holding t) k = absurd (home k.slot)
      others home j seen (Comparing n was theirs p) k = tt
      others home j seen Spent k = tt

  -- what the holder knows
  pub holds_all : (q : SeatsFit part words views log out serving) (id : ℕ) (v : View) (t : ℕ) → get_elem? views id ≡ some v → v.stage ≡ Holding t
      → IsServed serving q.line log out id v.seen t
  holds_all q id v t at is_holding = subst (StageFits serving q.line log out id v.seen) is_holding (q.each id v at (subst IsLive (sym is_holding) tt)).stage

  first_of : (l : List ℕ) (n : ℕ) → get_elem? l 0 ≡ some n → (rest : List ℕ) × (l ≡ n ∷ rest)
  first_of [] n e = absurd (some-ne-none n (sym e))
  first_of (x ∷ xs) n e = (xs, ap (λ (y : ℕ). y ∷ xs) (some-injective x n e))

  -- the holder hands on
  pub hands_from : (q : SeatsFit part words views log out serving) (id : ℕ) (v : View) (t new : ℕ) (log' : List Call) → get_elem? views id ≡ some v → v.stage ≡ Holding t → new ≡ t + 1 → Grows v.number v.seen log'
      → SeatsFit part (set words 1 new) (set views id (idle_view v log')) log' false (serving + 1)
  hands_from q id v t new log' at is_holding next grows =
      let live : IsLive v.stage = subst IsLive (sym is_holding) tt in
      let w = idle_view v log' in
      let f = q.each id v at live in
      let k = holds_all q id v t at is_holding in
      let l = first_of q.line id k.stands in
      let rest = l.0 in
      let long : length q.line ≡ suc (length rest) = ap length l.1 in
      let now = k.ticket_is in
      let grown : Grows id log log' = subst (λ (x : ℕ × List Call). Grows x.0 x.1 log') (λ i. (f.number_is i, k.whole i)) grows in
      let inside = at_inside views id v at in
      let same : (n : ℕ) → n ≢ id → own n log' ≡ own n log = λ n other. ap (own n) grown.2 ∙ own_grew n id log grown.0 grown.1 other in
      moved part words (set words 1 new) views log log' out false serving (serving + 1) rest q.draws id v w q at live tt
      (ap (λ m. set m 1 new) q.words_are ∙ (λ i. (let e : serving + length q.line ≡ (serving + 1) + length rest = omega arith in e) i ∷ (let e : new ≡ serving + 1 = omega arith in e) i ∷ []))
      (let d = q.drew in omega arith)
      q.each_drew q.as_many
      (λ i j there.
      let g = q.in_line (suc i) j (ap (λ m. get_elem? m (suc i)) l.1 ∙ there) in
      let other : j ≢ id = λ e. let h : t ≡ serving + suc i = subst (HasTicket (serving + suc i)) is_holding (old_ticket id v at (HasTicket (serving + suc i)) j g.0 g.1 e g.2) in omega arith in
      (g.0, set_else views id j w other ∙ g.1, subst (λ (n : ℕ). HasTicket n g.0.stage) (let e : serving + suc i ≡ (serving + 1) + i = omega arith in e) g.2))
      (λ e. absurd (true≢false (sym e)))
      (grown.0, sym grown.2)
      same
      (subst (AllMade (length views)) (sym grown.2) (made-append (length views) log grown.0 q.made (made_of (length views) id grown.0 inside grown.1)))
      record { number_is = f.number_is; part_is = f.part_is; begins = prefix_self log'; after = refl; drew = f.drew; stage = tt }
      (λ j _. refl)
      (λ j u other there known. others rest l.1 j other u.seen u.stage known)
      (λ zeroth. (refl, refl, refl, (λ i n _ _. refl), tt, tt))
    where
      others : (rest : List ℕ) → q.line ≡ id ∷ rest → (j : ℕ) → j ≢ id → (seen : List Call) (st : Stage) → StageFits serving q.line log out j seen st → StageFits (serving + 1) rest log' false j seen st
      others rest is j other seen Idle k = tt
      others rest is j other seen (Waiting t) k = later k.place k.ticket_is (ap (λ m. get_elem? m k.place) (sym is) ∙ k.stands)
        where
          later : (i : ℕ) → t ≡ serving + i → get_elem? (id ∷ rest) i ≡ some j → IsInLine (serving + 1) rest j t
          later zero e at = absurd (other (sym (some-injective id j at)))
          later (suc i) e at = record { place = i; ticket_is = omega arith; stands = at }
      others rest is j other seen (Holding t) k = absurd (other (sym (some-injective id j (ap (λ m. get_elem? m 0) (sym is) ∙ k.stands))))
      others rest is j other seen (Comparing n was theirs p) k = tt
      others rest is j other seen Spent k = tt
