-- One view of the lock changes.
use Rattle.std.proofs.Common.{◌≡◌, ◌≢◌, ℕ, ◌+◌, ◌^◌, ◌≤◌, Bool, true, List, [], ◌∷◌, length, set, refl, ap, sym, ◌∙◌, subst, ⊎_elim, arith, length-set}
use Rattle.std.specs.List.{sum}
use mathlib.Core.Option.{some, some-injective}
use mathlib.Core.List.{IsPrefix}
use lib.ListN.{get_elem?}
use Rattle.atomic_table.proofs.Lists.{at_set, set_else}
use Rattle.cache_core.specs.declared.calls.Call.{Call}
use Rattle.cache_core.specs.declared.common.Common.{Common}
use Rattle.cache_core.specs.Histories.{own}
use Rattle.turn_lock.specs.Histories.{AllMade}
use Rattle.turn_lock.proofs.Prefixes.{prefix_trans}
use Rattle.turn_lock.specs.declared.view.View.{View}
use Rattle.turn_lock.specs.declared.view.Stage.{Stage}
use Rattle.turn_lock.specs.declared.view.Stage.TheVariants.{Idle, Waiting, Holding, Comparing, Spent}
use Rattle.turn_lock.specs.Views.{IsLive, HasTicket}
use Rattle.turn_lock.specs.TurnRule.{StageFits, LiveFits, CompareFits, HasSamePart, KeepsDraws, FirstFits, SeatsFit}

-- what is true of each place after one is set
pub each_set : (P : ℕ → View → Type 0) (vs : List View) (me : ℕ) (w : View) → P me w → ((j : ℕ) (u : View) → j ≢ me → get_elem? vs j ≡ some u → P j u)
    → (j : ℕ) (u : View) → get_elem? (set vs me w) j ≡ some u → P j u
each_set P vs me w mine others j u e = ⊎_elim (λ (t : (j ≡ me) × (w ≡ u)). subst (λ (x : ℕ × View). P x.0 x.1) (λ i. (sym t.0 i, t.1 i)) mine)
    (λ (t : (j ≢ me) × (get_elem? vs j ≡ some u)). others j u t.0 t.1) (at_set vs me j w u e)

-- a live view is not spent
pub not_spent : (v u : View) → IsLive v.stage → v ≡ u → u.stage ≡ Spent → ⊥
not_spent v u live same is = subst IsLive (ap (λ (x : View). x.stage) same ∙ is) live

-- two places with different views are different
pub apart : (vs : List View) (i j : ℕ) (v u : View) → get_elem? vs i ≡ some v → get_elem? vs j ≡ some u → (v ≡ u → ⊥) → i ≢ j
apart vs i j v u a b not e = not (some-injective v u (sym a ∙ (ap (get_elem? vs) e ∙ b)))

pub compares_grow : (log log' : List Call) (joined : List ℕ) (seen : List Call) (st : Stage) → IsPrefix log log' → own 0 log' ≡ own 0 log → ((i n : ℕ) → get_elem? joined i ≡ some n → own n log' ≡ own n log)
    → CompareFits log joined seen st → CompareFits log' joined seen st
compares_grow log log' joined seen Idle pre none same c = tt
compares_grow log log' joined seen (Waiting t) pre none same c = tt
compares_grow log log' joined seen (Holding t) pre none same c = tt
compares_grow log log' joined seen (Comparing n was theirs p) pre none same c =
    record {
      seen_is = c.seen_is;
      was_begins = prefix_trans was log log' c.was_begins pre;
      theirs_begins = prefix_trans theirs log log' c.theirs_begins pre;
      first_after = c.first_after ∙ sym none;
      their_after = c.their_after ∙ sym (same c.noted.0 n c.noted.1);
      noted = c.noted;
      before_after = λ i m at inside. c.before_after i m at inside ∙ sym (same i m at);
    }
compares_grow log log' joined seen Spent pre none same c = tt

-- the view at a place other than 0 goes from v to w
pub first_other : (views : List View) (log log' : List Call) (id : ℕ) (v w u : View) → get_elem? views id ≡ some v → IsLive v.stage → IsLive w.stage → 0 ≢ id
    → IsPrefix log log' → ((n : ℕ) → n ≢ id → own n log' ≡ own n log) → FirstFits views log u → FirstFits (set views id w) log' u
first_other views log log' id v w u at lives lives' other pre same f =
    let away : (i n : ℕ) → get_elem? u.joined i ≡ some n → n ≢ id = λ i n there. let g = f.are_spent i n there in apart views n id g.0 v g.1 at (λ e. not_spent v g.0 lives (sym e) g.2) in record {
      made = f.made ∙ sym (length-set views id w);
      live = f.live;
      are_spent = λ i n there. let g = f.are_spent i n there in (g.0, set_else views id n w (away i n there) ∙ g.1, g.2);
      all_spent = λ n x there is. ⊎_elim (λ (t : (n ≡ id) × (w ≡ x)). absurd (not_spent w x lives' t.1 is)) (λ (t : (n ≢ id) × (get_elem? views n ≡ some x)). f.all_spent n x t.1 is) (at_set views id n w x there);
      after = λ i n there. f.after i n there ∙ sym (same n (away i n there));
      compares = compares_grow log log' u.joined u.seen u.stage pre (same 0 other) (λ i n there. same n (away i n there)) f.compares;
      same_part = f.same_part;
    }

-- the view of seat 0 goes from v to w
pub first_own : (views : List View) (log log' : List Call) (v w : View) → get_elem? views 0 ≡ some v → IsLive v.stage → IsLive w.stage
    → (w.made ≡ v.made) → (w.joined ≡ v.joined) → ((i n : ℕ) → get_elem? v.joined i ≡ some n → n ≢ 0 → own n w.seen ≡ own n log') → CompareFits log' w.joined w.seen w.stage → HasSamePart w.part w.stage
    → FirstFits views log v → FirstFits (set views 0 w) log' w
first_own views log log' v w at lives lives' made joined after compares same_part f =
    let away : (i n : ℕ) → get_elem? v.joined i ≡ some n → n ≢ 0 = λ i n there. let g = f.are_spent i n there in apart views n 0 g.0 v g.1 at (λ e. not_spent v g.0 lives (sym e) g.2) in
    let here : (i n : ℕ) → get_elem? w.joined i ≡ some n → get_elem? v.joined i ≡ some n = λ i n there. subst (λ (l : List ℕ). get_elem? l i ≡ some n) joined there in record {
      made = made ∙ (f.made ∙ sym (length-set views 0 w));
      live = lives';
      are_spent = λ i n there. let g = f.are_spent i n (here i n there) in (g.0, set_else views 0 n w (away i n (here i n there)) ∙ g.1, g.2);
      all_spent = λ n x there is. ⊎_elim (λ (t : (n ≡ 0) × (w ≡ x)). absurd (not_spent w x lives' t.1 is))
          (λ (t : (n ≢ 0) × (get_elem? views n ≡ some x)). let g = f.all_spent n x t.1 is in (g.0, subst (λ (l : List ℕ). get_elem? l g.0 ≡ some n) (sym joined) g.1)) (at_set views 0 n w x there);
      after = λ i n there. after i n (here i n there) (away i n (here i n there));
      compares = compares;
      same_part = same_part;
    }

-- what seat 0 keeps of the turns of joined numbers, where those of one live view alone change
kept : (views : List View) (log : List Call) (draws' draws : List ℕ) (id : ℕ) (v w u : View) → get_elem? views id ≡ some v → IsLive v.stage → get_elem? views 0 ≡ some u → FirstFits views log u
    → (w.joined ≡ u.joined) → (w.joined_drawn ≡ u.joined_drawn) → ((j : ℕ) → j ≢ id → get_elem? draws' j ≡ get_elem? draws j) → KeepsDraws draws u → KeepsDraws draws' w
kept views log draws' draws id v w u at lives at0 f joined drawn else k =
    record {
      one_each = ap length drawn ∙ (k.one_each ∙ sym (ap length joined));
      drew = λ i n d there drew.
          let was = subst (λ (l : List ℕ). get_elem? l i ≡ some n) joined there in
          let g = f.are_spent i n was in
          else n (apart views n id g.0 v g.1 at (λ e. not_spent v g.0 lives (sym e) g.2)) ∙ k.drew i n d was (subst (λ (l : List ℕ). get_elem? l i ≡ some d) drawn drew);
    }

-- one live view goes from v to w
pub moved : (part : Common) (words words' : List ℕ) (views : List View) (log log' : List Call) (out out' : Bool) (serving serving' : ℕ) (line' draws' : List ℕ) (id : ℕ) (v w : View)
    → (q : SeatsFit part words views log out serving) → get_elem? views id ≡ some v → IsLive v.stage → IsLive w.stage
    → words' ≡ (serving' + length line') ∷ serving' ∷ [] → sum draws' ≡ serving' + length line' → ((j d : ℕ) → get_elem? draws' j ≡ some d → d ≤ 2 ^ 48) → length draws' ≡ length views
    → ((i j : ℕ) → get_elem? line' i ≡ some j → (u : View) × (get_elem? (set views id w) j ≡ some u) × HasTicket (serving' + i) u.stage)
    → (out' ≡ true → (j : ℕ) × (u : View) × (get_elem? (set views id w) j ≡ some u) × (u.stage ≡ Holding serving'))
    → IsPrefix log log' → ((n : ℕ) → n ≢ id → own n log' ≡ own n log) → AllMade (length views) log'
    → LiveFits part serving' line' draws' log' out' id w
    → ((j : ℕ) → j ≢ id → get_elem? draws' j ≡ get_elem? q.draws j)
    → ((j : ℕ) (u : View) → j ≢ id → get_elem? views j ≡ some u → StageFits serving q.line log out j u.seen u.stage → StageFits serving' line' log' out' j u.seen u.stage)
    → (id ≡ 0 → (w.made ≡ v.made) × (w.joined ≡ v.joined) × (w.joined_drawn ≡ v.joined_drawn) × ((i n : ℕ) → get_elem? v.joined i ≡ some n → n ≢ 0 → own n w.seen ≡ own n log')
    × CompareFits log' w.joined w.seen w.stage × HasSamePart w.part w.stage)
    → SeatsFit part words' (set views id w) log' out' serving'
moved part words words' views log log' out out' serving serving' line' draws' id v w q at lives lives' words_are drew each_drew as_many in_line served pre same made mine drawn_else else begin = record {
  line = line';
  draws = draws';
  words_are = words_are;
  drew = drew;
  each_drew = each_drew;
  as_many = as_many ∙ sym (length-set views id w);
  few = let n = length-set views id w in let f = q.few in omega arith;
  begun = let n = length-set views id w in let b = q.begun in omega arith;
  in_line = in_line;
  served = served;
  each = each_set (λ j u. IsLive u.stage → LiveFits part serving' line' draws' log' out' j u) views id w (λ _. mine)
      (λ j u other there live. let f = q.each j u there live in record {
        number_is = f.number_is;
        part_is = f.part_is;
        begins = prefix_trans u.seen log log' f.begins pre;
        after = f.after ∙ sym (same j other);
        drew = drawn_else j other ∙ f.drew;
        stage = else j u other there f.stage;
      });
  first = λ u there. ⊎_elim
      (λ (t : (0 ≡ id) × (w ≡ u)). let at0 : get_elem? views 0 ≡ some v = ap (get_elem? views) t.0 ∙ at in let z = begin (sym t.0) in
      let own0 : FirstFits (set views 0 w) log' w = first_own views log log' v w at0 lives lives' z.0 z.1 z.3 z.4 z.5 (q.first v at0) in
      subst (λ (x : ℕ × View). FirstFits (set views x.0 w) log' x.1) (λ i. (t.0 i, t.1 i)) own0)
      (λ (t : (0 ≢ id) × (get_elem? views 0 ≡ some u)). first_other views log log' id v w u at lives lives' t.0 pre same (q.first u t.1))
      (at_set views id 0 w u there);
  keeps = λ u there. ⊎_elim
      (λ (t : (0 ≡ id) × (w ≡ u)). let at0 : get_elem? views 0 ≡ some v = ap (get_elem? views) t.0 ∙ at in let z = begin (sym t.0) in
      subst (KeepsDraws draws') t.1 (kept views log draws' q.draws id v w v at lives at0 (q.first v at0) z.1 z.2 drawn_else (q.keeps v at0)))
      (λ (t : (0 ≢ id) × (get_elem? views 0 ≡ some u)). kept views log draws' q.draws id v u u at lives t.1 (q.first u t.1) refl refl drawn_else (q.keeps u t.1))
      (at_set views id 0 w u there);
  made = subst (λ (n : ℕ). AllMade n log') (sym (length-set views id w)) made;
}
