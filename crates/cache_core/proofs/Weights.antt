-- The weights of the fonts that were handed in.
use Rattle.std.proofs.Common.{◌≡◌, ℕ, true, false, cond, List, [], ◌∷◌, ◌++◌, refl, sym, ap, subst}
use Rattle.outside.specs.declared.keys.FontKey.{FontKey}
use Rattle.cache_core.specs.declared.calls.Call.{Call}
use Rattle.cache_core.specs.declared.calls.Done.{Done}
use Rattle.cache_core.specs.declared.calls.Done.TheVariants.{Hit, Claimed, Busy, Filled, Released}
use Rattle.cache_core.specs.Histories.{AllWeigh, WeighSo, weighs_as}
use Rattle.cache_core.specs.Machine.{key_eq}
use Rattle.cache_core.proofs.SameKeys.{key_is_itself, keys_are_equal}

pub weigh_joined : (P : FontKey → ℕ → Type 0) (xs ys : List Call) → AllWeigh P xs → AllWeigh P ys → AllWeigh P (xs ++ ys)
weigh_joined P [] ys none all = all
weigh_joined P (x ∷ xs) ys some all = (some.0, weigh_joined P xs ys some.1 all)

module _ (P Q : FontKey → ℕ → Type 0) (each : (k : FontKey) (w : ℕ) → P k w → Q k w) where
  one_weighs : (k : FontKey) (d : Done) → weighs_as P k d → weighs_as Q k d
  one_weighs k Hit so = tt
  one_weighs k Claimed so = tt
  one_weighs k Busy so = tt
  one_weighs k (Filled w kept gone) so = each k w so
  one_weighs k Released so = tt

  -- what is so of a weight by one rule is so by a weaker one
  pub weigh_as : (calls : List Call) → AllWeigh P calls → AllWeigh Q calls
  weigh_as [] none = tt
  weigh_as (c ∷ calls) some = (one_weighs c.key c.done some.0, weigh_as calls some.1)

-- what is so of a weight by two rules
one_both : (P Q : FontKey → ℕ → Type 0) (k : FontKey) (d : Done) → weighs_as P k d → weighs_as Q k d → weighs_as (λ j w. P j w × Q j w) k d
one_both P Q k Hit p q = tt
one_both P Q k Claimed p q = tt
one_both P Q k Busy p q = tt
one_both P Q k (Filled w kept gone) p q = (p, q)
one_both P Q k Released p q = tt

weigh_both : (P Q : FontKey → ℕ → Type 0) (calls : List Call) → AllWeigh P calls → AllWeigh Q calls → AllWeigh (λ k w. P k w × Q k w) calls
weigh_both P Q [] p q = tt
weigh_both P Q (c ∷ calls) p q = (one_both P Q c.key c.done p.0 q.0, weigh_both P Q calls p.1 q.1)

pub weigh_first : (P : FontKey → ℕ → Type 0) (xs ys : List Call) → AllWeigh P (xs ++ ys) → AllWeigh P xs
weigh_first P [] ys all = tt
weigh_first P (x ∷ xs) ys all = (all.0, weigh_first P xs ys all.1)

pub weigh_second : (P : FontKey → ℕ → Type 0) (xs ys : List Call) → AllWeigh P (xs ++ ys) → AllWeigh P ys
weigh_second P [] ys all = all
weigh_second P (x ∷ xs) ys all = weigh_second P xs ys all.1

-- ---- where a key has one weight at most, the calls tell it

abbrev weight_by : FontKey → FontKey → Done → ℕ → ℕ
weight_by k j (Filled w _ _) others = cond (key_eq k j) w others
weight_by k j Hit others = others
weight_by k j Claimed others = others
weight_by k j Busy others = others
weight_by k j Released others = others

-- the weight of the first font that was handed in for a key
abbrev first_weight : List Call → FontKey → ℕ
first_weight [] k = 0
first_weight (c ∷ calls) k = weight_by k c.key c.done (first_weight calls k)

module _ (P : FontKey → ℕ → Type 0) (one : (k : FontKey) (v w : ℕ) → P k v → P k w → v ≡ w) where
  first_is : (calls : List Call) (j : FontKey) (d : Done) → weighs_as (λ k w. w ≡ weight_by k j d (first_weight calls k)) j d
  first_is calls j Hit = tt
  first_is calls j Claimed = tt
  first_is calls j Busy = tt
  first_is calls j (Filled w kept gone) = sym (ap (λ b. cond b w (first_weight calls j)) (key_is_itself j))
  first_is calls j Released = tt

  same_as_first : (j : FontKey) (v : ℕ) → P j v → (k : FontKey) (w others : ℕ) → P k w → w ≡ others → w ≡ cond (key_eq k j) v others
  same_as_first j v p k w others q is =
      (elim (key_eq k j) as (λ b. key_eq k j ≡ b → w ≡ cond b v others) [
        | true ↦ λ e. let same : k ≡ j = keys_are_equal k j e in one j w v (subst (λ (i : FontKey). P i w) same q) p
        | false ↦ λ e. is
      ]) refl

  later : (calls : List Call) (j : FontKey) (d : Done) → weighs_as P j d → (k : FontKey) (w : ℕ) → P k w × (w ≡ first_weight calls k) → w ≡ weight_by k j d (first_weight calls k)
  later calls j Hit p k w q = q.1
  later calls j Claimed p k w q = q.1
  later calls j Busy p k w q = q.1
  later calls j (Filled v kept gone) p k w q = same_as_first j v p k w (first_weight calls k) q.0 q.1
  later calls j Released p k w q = q.1

  weigh_as_first : (calls : List Call) → AllWeigh P calls → WeighSo (first_weight calls) calls
  weigh_as_first [] all = tt
  weigh_as_first (c ∷ calls) all = (
    first_is calls c.key c.done,
    weigh_as (λ k w. P k w × (w ≡ first_weight calls k)) (λ k w. w ≡ first_weight (c ∷ calls) k) (later calls c.key c.done all.0) calls
        (weigh_both P (λ k w. w ≡ first_weight calls k) calls all.1 (weigh_as_first calls all.1)),
  )

  -- so there is a weight for each key by which they weigh
  pub weight_there : (calls : List Call) → AllWeigh P calls → (weight : FontKey → ℕ) × WeighSo weight calls
  weight_there calls all = (first_weight calls, weigh_as_first calls all)
