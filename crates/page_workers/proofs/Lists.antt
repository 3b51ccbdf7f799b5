-- Workers of which one takes room.
use Rattle.std.proofs.Common.{◌≡◌, ◌≢◌, ℕ, ◌+◌, ◌<◌, ◌≤◌, List, [], ◌∷◌, ◌++◌, length, get_or, set, zero, suc, arith, refl, sym, ◌∙◌, subst}
use Rattle.std.proofs.lemmas.List.{get_or-set_same, get_or-set_other, get_or_append_left, get_or_push}
use mathlib.Core.Logic.{dite}
use native.Mathlib.Decide.{ℕ_discrete}
use Rattle.page_workers.specs.declared.worker.Worker.{Worker}
use Rattle.page_workers.specs.Claims.{HasRoom, DrewNothingAtCounter}
use Rattle.page_workers.proofs.NothingDrawn.{rests}

-- inside a list the default plays no part
pub same_default : {A : Type 0} (l : List A) (i : ℕ) (a b : A) → i < length l → get_or l i a ≡ get_or l i b
same_default [] i a b lt = absurd (omega arith)
same_default (x ∷ xs) zero a b lt = refl
same_default (x ∷ xs) (suc i) a b lt = same_default xs i a b (omega arith)

keeps : {F : Type 0} (a b c : Worker F) → DrewNothingAtCounter a b → DrewNothingAtCounter b c → DrewNothingAtCounter a c
keeps a b c p q = record { rested = rests a b c p.rested q.rested; counter = q.counter ∙ p.counter; spare_pages = q.spare_pages ∙ p.spare_pages }

module _ {F : Type 0} (xs ws : List (Worker F)) (i : ℕ) (w v : Worker F) (inside : i < length ws) where
  pub kept_step : length ws ≡ length xs → DrewNothingAtCounter (get_or ws i w) v → ((k : ℕ) (d : Worker F) → k < length xs → DrewNothingAtCounter (get_or xs k d) (get_or ws k d))
      → (k : ℕ) (d : Worker F) → k < length xs → DrewNothingAtCounter (get_or xs k d) (get_or (set ws i v) k d)
  kept_step long new was k d lt = dite (ℕ_discrete k i)
      (λ e. subst (λ (j : ℕ). DrewNothingAtCounter (get_or xs j d) (get_or (set ws i v) j d)) (sym e)
      (subst (λ (x : Worker F). DrewNothingAtCounter (get_or xs i d) x) (sym (get_or-set_same ws i v d inside))
      (keeps (get_or xs i d) (get_or ws i w) v
      (subst (λ (x : Worker F). DrewNothingAtCounter (get_or xs i d) x) (same_default ws i d w inside) (was i d (omega arith))) new)))
      (λ other. subst (λ (x : Worker F). DrewNothingAtCounter (get_or xs k d) x) (sym (get_or-set_other ws i k v d other)) (was k d lt))

  pub room_step : (n : ℕ) → HasRoom n v → ((k : ℕ) (d : Worker F) → k < i → HasRoom n (get_or ws k d)) → (k : ℕ) (d : Worker F) → k < i + 1 → HasRoom n (get_or (set ws i v) k d)
  room_step n new was k d lt = dite (ℕ_discrete k i)
      (λ e. subst (λ (j : ℕ). HasRoom n (get_or (set ws i v) j d)) (sym e) (subst (HasRoom n) (sym (get_or-set_same ws i v d inside)) new))
      (λ other. subst (HasRoom n) (sym (get_or-set_other ws i k v d other)) (was k d (omega arith)))

-- ---- one worker after another

module _ {A : Type 0} (xs ws : List A) (i : ℕ) (v : A) (inside : i < length ws) where
  -- what is so of the workers before i, and of the new one at i, is so of those before i + 1
  pub each_step : (P : ℕ → A → A → Type 0) → ((d : A) → P i (get_or xs i d) v) → ((k : ℕ) (d : A) → k < i → P k (get_or xs k d) (get_or ws k d))
      → (k : ℕ) (d : A) → k < i + 1 → P k (get_or xs k d) (get_or (set ws i v) k d)
  each_step P new was k d lt = dite (ℕ_discrete k i)
      (λ e. subst (λ (j : ℕ). P j (get_or xs j d) (get_or (set ws i v) j d)) (sym e) (subst (λ (x : A). P i (get_or xs i d) x) (sym (get_or-set_same ws i v d inside)) (new d)))
      (λ other. subst (λ (x : A). P k (get_or xs k d) x) (sym (get_or-set_other ws i k v d other)) (was k d (omega arith)))

  -- the workers from i + 1 on are as they were
  pub left_step : ((k : ℕ) (d : A) → i ≤ k → get_or ws k d ≡ get_or xs k d) → (k : ℕ) (d : A) → i + 1 ≤ k → get_or (set ws i v) k d ≡ get_or xs k d
  left_step was k d le = let other : k ≢ i = λ e. omega arith in get_or-set_other ws i k v d other ∙ was k d (omega arith)

  -- the worker at i is the one that it was
  pub here : ((k : ℕ) (d : A) → i ≤ k → get_or ws k d ≡ get_or xs k d) → (r d : A) → get_or ws i r ≡ get_or xs i d
  here was r d = same_default ws i r d inside ∙ was i d (omega arith)

-- ---- one worker after another, and a list that grows with them

module _ {A B : Type 0} (xs ws : List A) (ts : List B) (i : ℕ) (v : A) (t : B) (inside : i < length ws) (long : length ts ≡ i) where
  at_end : (e : B) → get_or (ts ++ t ∷ []) i e ≡ t
  at_end e = get_or_push ts t e i long

  pub each_pair_step : (P : B → A → A → Type 0) → ((d : A) → P t (get_or xs i d) v)
      → ((k : ℕ) (d : A) (e : B) → k < i → P (get_or ts k e) (get_or xs k d) (get_or ws k d))
      → (k : ℕ) (d : A) (e : B) → k < i + 1 → P (get_or (ts ++ t ∷ []) k e) (get_or xs k d) (get_or (set ws i v) k d)
  each_pair_step P new was k d e lt = each_step xs ws i v inside (λ j a b. (f : B) → P (get_or (ts ++ t ∷ []) j f) a b)
      (λ c f. subst (λ (x : B). P x (get_or xs i c) v) (sym (at_end f)) (new c))
      (λ j c below f. subst (λ (x : B). P x (get_or xs j c) (get_or ws j c)) (sym (get_or_append_left ts (t ∷ []) f j (omega arith))) (was j c f below))
      k d lt e
