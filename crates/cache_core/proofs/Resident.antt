-- The resident keys and their weights: what stays the same where one moves to the front, and what
-- is where some leave.
use Rattle.std.proofs.Common.{◌≡◌, ◌⊎◌, ℕ, zero, suc, ◌+◌, ◌≤◌, leb, Bool, true, false, cond, ◌||◌, List, [], ◌∷◌, ◌++◌, length, take, drop, reverse, Some, None, refl, sym, ap, ◌∙◌, inl, inr, arith}
use Rattle.std.specs.List.{list_any}
use Rattle.std.specs.Option.{option_map_or}
use Rattle.std.specs.Map.{keys_of, lookup_entry, remove_entry}
use Rattle.std.proofs.lemmas.Bool.{and_parts, leb-true, le-leb}
use Rattle.std.proofs.lemmas.List.{reverse-append}
use Rattle.outside.specs.declared.keys.FontKey.{FontKey}
use Rattle.cache_core.specs.declared.limits.Limits.{Limits}
use Rattle.cache_core.specs.Machine.{key_eq, keys_eq, has_key, brought_forward, weights, fit, staying, stay, kept_of, gone_of}
use Rattle.cache_core.proofs.SameKeys.{keys_are_equal, key_is_itself}

by_test : {P : Type 0} (b : Bool) → (b ≡ true → P) → (b ≡ false → P) → P
by_test {P} b here there = (elim b as (λ v. b ≡ v → P) [ true ↦ here | false ↦ there ]) refl

either : (a b : Bool) → (a || b) ≡ true → (a ≡ true) ⊎ (b ≡ true)
either true b h = inl refl
either false b h = inr h

first_true : (a b : Bool) → a ≡ true → (a || b) ≡ true
first_true a b h = rw h refl

second_true : (a b : Bool) → b ≡ true → (a || b) ≡ true
second_true true b h = refl
second_true false b h = h

-- ---- lists of keys

pub keys_same : (xs ys : List FontKey) → keys_eq xs ys ≡ true → xs ≡ ys
keys_same [] [] h = refl
keys_same [] (y ∷ ys) h = absurd cc
keys_same (x ∷ xs) [] h = absurd cc
keys_same (x ∷ xs) (y ∷ ys) h =
    let parts = and_parts (key_eq x y) (keys_eq xs ys) h in
    let first : x ≡ y = keys_are_equal x y parts.0 in
    let rest : xs ≡ ys = keys_same xs ys parts.1 in
    λ i. first i ∷ rest i

pub keys_self : (xs : List FontKey) → keys_eq xs xs ≡ true
keys_self [] = refl
keys_self (x ∷ xs) = rw (key_is_itself x) (keys_self xs)

-- ---- one moves to the front

swap : (a b c : Bool) → (a || (b || c)) ≡ (b || (a || c))
swap true true c = refl
swap true false c = refl
swap false b c = refl

taken_out : (k j : FontKey) (es : List (FontKey × ℕ)) (e : FontKey × ℕ) → lookup_entry (key_eq j) es ≡ Some e
    → has_key k es ≡ (key_eq k e.0 || has_key k (remove_entry (key_eq j) es))
taken_out k j [] e h = absurd cc
taken_out k j (x ∷ es) e h = by_test (key_eq j x.0)
    (λ t. let h' = rw t at h in let same : x ≡ e = cc in rw t (ap (λ (y : FontKey × ℕ). key_eq k y.0 || has_key k es) same))
    (λ t. let rest = taken_out k j es e (rw t at h) in
    rw t (ap (λ b. key_eq k x.0 || b) rest ∙ swap (key_eq k x.0) (key_eq k e.0) (has_key k (remove_entry (key_eq j) es))))

pub has_forward : (k j : FontKey) (es : List (FontKey × ℕ)) → has_key k (brought_forward j es) ≡ has_key k es
has_forward k j es = (elim (lookup_entry (key_eq j) es) as (λ o. lookup_entry (key_eq j) es ≡ o → has_key k (option_map_or (λ e. e ∷ remove_entry (key_eq j) es) o es) ≡ has_key k es) [
  | None ↦ λ h. refl
  | Some e ↦ λ h. sym (taken_out k j es e h)
]) refl

weights_out : (j : FontKey) (es : List (FontKey × ℕ)) (e : FontKey × ℕ) → lookup_entry (key_eq j) es ≡ Some e
    → weights es ≡ e.1 + weights (remove_entry (key_eq j) es)
weights_out j [] e h = absurd cc
weights_out j (x ∷ es) e h = by_test (key_eq j x.0)
    (λ t. let h' = rw t at h in let same : x ≡ e = cc in rw t (ap (λ (y : FontKey × ℕ). y.1 + weights es) same))
    (λ t. let rest = weights_out j es e (rw t at h) in rw t (omega arith))

pub weights_forward : (j : FontKey) (es : List (FontKey × ℕ)) → weights (brought_forward j es) ≡ weights es
weights_forward j es = (elim (lookup_entry (key_eq j) es) as (λ o. lookup_entry (key_eq j) es ≡ o → weights (option_map_or (λ e. e ∷ remove_entry (key_eq j) es) o es) ≡ weights es) [
  | None ↦ λ h. refl
  | Some e ↦ λ h. sym (weights_out j es e h)
]) refl

length_out : (j : FontKey) (es : List (FontKey × ℕ)) (e : FontKey × ℕ) → lookup_entry (key_eq j) es ≡ Some e
    → length es ≡ suc (length (remove_entry (key_eq j) es))
length_out j [] e h = absurd cc
length_out j (x ∷ es) e h = by_test (key_eq j x.0)
    (λ t. rw t refl)
    (λ t. let rest = length_out j es e (rw t at h) in rw t (ap suc rest))

pub length_forward : (j : FontKey) (es : List (FontKey × ℕ)) → length (brought_forward j es) ≡ length es
length_forward j es = (elim (lookup_entry (key_eq j) es) as (λ o. lookup_entry (key_eq j) es ≡ o → length (option_map_or (λ e. e ∷ remove_entry (key_eq j) es) o es) ≡ length es) [
  | None ↦ λ h. refl
  | Some e ↦ λ h. sym (length_out j es e h)
]) refl

-- ---- some leave

module _ (limits : Limits) (es : List (FontKey × ℕ)) where
  staying_fits : (n : ℕ) → fit limits (take (staying limits es n) es) ≡ true
  staying_fits zero = rw (le-leb 0 limits.capacity (omega arith), le-leb 0 limits.budget (omega arith)) refl
  staying_fits (suc n) = (elim (fit limits (take (suc n) es)) as (λ b. fit limits (take (suc n) es) ≡ b → fit limits (take (cond b (suc n) (staying limits es n)) es) ≡ true) [
    | true ↦ λ t. t
    | false ↦ λ t. staying_fits n
  ]) refl

  pub kept_few : length (kept_of limits es) ≤ limits.capacity
  kept_few =
      let parts = and_parts (leb (length (kept_of limits es)) limits.capacity) (leb (weights (kept_of limits es)) limits.budget) (staying_fits (length es)) in
      leb-true (length (kept_of limits es)) limits.capacity parts.0

  pub kept_light : weights (kept_of limits es) ≤ limits.budget
  kept_light =
      let parts = and_parts (leb (length (kept_of limits es)) limits.capacity) (leb (weights (kept_of limits es)) limits.budget) (staying_fits (length es)) in
      leb-true (weights (kept_of limits es)) limits.budget parts.1

  staying_most : (n : ℕ) → staying limits es n ≤ n
  staying_most zero = omega arith
  staying_most (suc n) = (elim (fit limits (take (suc n) es)) as (λ b. cond b (suc n) (staying limits es n) ≤ suc n) [
    | true ↦ omega arith
    | false ↦ let rest = staying_most n in omega arith
  ])

  pub stay_most : stay limits es ≤ length es
  stay_most = staying_most (length es)

-- a resident key stays among the first or is one of the others
any_append : (k : FontKey) (xs ys : List FontKey) → list_any (key_eq k) (xs ++ ys) ≡ (list_any (key_eq k) xs || list_any (key_eq k) ys)
any_append k [] ys = refl
any_append k (x ∷ xs) ys = ap (λ b. key_eq k x || b) (any_append k xs ys) ∙ assoc (key_eq k x) (list_any (key_eq k) xs) (list_any (key_eq k) ys)
  where
    assoc : (a b c : Bool) → (a || (b || c)) ≡ ((a || b) || c)
    assoc true b c = refl
    assoc false b c = refl

any_reverse : (k : FontKey) (xs : List FontKey) → list_any (key_eq k) xs ≡ true → list_any (key_eq k) (reverse xs) ≡ true
any_reverse k [] h = absurd cc
any_reverse k (x ∷ xs) h =
    ap (list_any (key_eq k)) (reverse-append (x ∷ []) xs) ∙ (any_append k (reverse xs) (x ∷ []) ∙ elim (either (key_eq k x) (list_any (key_eq k) xs) h) [
      | inl here ↦ second_true (list_any (key_eq k) (reverse xs)) (key_eq k x || false) (first_true (key_eq k x) false here)
      | inr there ↦ first_true (list_any (key_eq k) (reverse xs)) (key_eq k x || false) (any_reverse k xs there)
    ])

any_keys : (k : FontKey) (es : List (FontKey × ℕ)) → has_key k es ≡ true → list_any (key_eq k) (keys_of es) ≡ true
any_keys k [] h = absurd cc
any_keys k (e ∷ es) h = elim (either (key_eq k e.0) (has_key k es) h) [
  | inl here ↦ first_true (key_eq k e.0) (list_any (key_eq k) (keys_of es)) here
  | inr there ↦ second_true (key_eq k e.0) (list_any (key_eq k) (keys_of es)) (any_keys k es there)
]

front_or_rest : (k : FontKey) (n : ℕ) (es : List (FontKey × ℕ)) → has_key k es ≡ true → (has_key k (take n es) ≡ true) ⊎ (has_key k (drop n es) ≡ true)
front_or_rest k zero es h = inr h
front_or_rest k (suc n) [] h = absurd cc
front_or_rest k (suc n) (e ∷ es) h = elim (either (key_eq k e.0) (has_key k es) h) [
  | inl here ↦ inl (first_true (key_eq k e.0) (has_key k (take n es)) here)
  | inr there ↦ elim (front_or_rest k n es there) [
    | inl front ↦ inl (second_true (key_eq k e.0) (has_key k (take n es)) front)
    | inr rest ↦ inr rest
  ]
]

pub kept_or_gone : (limits : Limits) (k : FontKey) (es : List (FontKey × ℕ)) → has_key k es ≡ true
    → (has_key k (kept_of limits es) ≡ true) ⊎ (list_any (key_eq k) (gone_of limits es) ≡ true)
kept_or_gone limits k es h = elim (front_or_rest k (stay limits es) es h) [
  | inl front ↦ inl front
  | inr rest ↦ inr (any_reverse k (keys_of (drop (stay limits es) es)) (any_keys k (drop (stay limits es) es) rest))
]
