-- The resident fonts as a list of the code's, as contracts see them, and as the machine's keys.
use Rattle.std.proofs.Common.{◌≡◌, ℕ, zero, suc, Bool, true, false, cond, ◌||◌, ◌⊎◌, List, [], ◌∷◌, map, take, Option, Some, None, refl, sym, ap, ◌∙◌, inl, inr, true≢false, arith, ◌≤◌}
use Rattle.std.specs.Option.{option_map, option_map_or, is_some}
use Rattle.std.specs.Map.{lookup, lookup_entry, remove_entry}
use Rattle.lru.specs.LruCache.{promoted}
use Rattle.outside.specs.declared.keys.FontKey.{FontKey}
use Rattle.cache_core.specs.Machine.{key_eq, has_key, brought_forward}
use Rattle.cache_core.specs.Views.{weighed}
use Rattle.cache_core.proofs.SameKeys.{keys_are_equal, key_is_itself}

-- ---- a list of pairs, of which another list is an image

module _ {K L V W : Type 0} (f : K → L) (h : V → W) (test : L → Bool) where
  abbrev pub both : K × V → L × W
  both p = (f p.0, h p.1)

  abbrev pub by : K → Bool
  by k = test (f k)

  picked : (b : Bool) (v : V) (o : Option V) (p : Option W) → p ≡ option_map h o → cond b (Some (h v)) p ≡ option_map h (cond b (Some v) o)
  picked true v o p e = refl
  picked false v o p e = e

  pub lookup_image : (es : List (K × V)) → lookup test (map both es) ≡ option_map h (lookup by es)
  lookup_image [] = refl
  lookup_image (e ∷ es) = picked (test (f e.0)) e.1 (lookup by es) (lookup test (map both es)) (lookup_image es)

  entry_picked : (b : Bool) (e : K × V) (o : Option (K × V)) (p : Option (L × W)) → p ≡ option_map both o → cond b (Some (both e)) p ≡ option_map both (cond b (Some e) o)
  entry_picked true e o p h' = refl
  entry_picked false e o p h' = h'

  pub entry_image : (es : List (K × V)) → lookup_entry test (map both es) ≡ option_map both (lookup_entry by es)
  entry_image [] = refl
  entry_image (e ∷ es) = entry_picked (test (f e.0)) e (lookup_entry by es) (lookup_entry test (map both es)) (entry_image es)

  dropped : (b : Bool) (e : K × V) (xs ys : List (K × V)) (zs : List (L × W)) → zs ≡ map both ys → cond b (map both xs) (both e ∷ zs) ≡ map both (cond b xs (e ∷ ys))
  dropped true e xs ys zs h' = refl
  dropped false e xs ys zs h' = ap (λ l. both e ∷ l) h'

  remove_image : (es : List (K × V)) → remove_entry test (map both es) ≡ map both (remove_entry by es)
  remove_image [] = refl
  remove_image (e ∷ es) = dropped (test (f e.0)) e es (remove_entry by es) (remove_entry test (map both es)) (remove_image es)

  forward : (o : Option (K × V)) (es xs : List (K × V)) → option_map_or (λ e. e ∷ map both xs) (option_map both o) (map both es) ≡ map both (option_map_or (λ e. e ∷ xs) o es)
  forward None es xs = refl
  forward (Some e) es xs = refl

  pub promoted_image : (es : List (K × V)) → promoted test (map both es) ≡ map both (promoted by es)
  promoted_image es = rw (entry_image es, remove_image es) (forward (lookup_entry by es) es (remove_entry by es))

-- ---- fonts and keys

module _ {T : Type 0} where
  is_found : (b : Bool) (v : T) (o : Option T) (r : Bool) → is_some o ≡ r → is_some (cond b (Some v) o) ≡ (b || r)
  is_found true v o r e = refl
  is_found false v o r e = e

  -- the first font is its key's
  pub first_found : (k : FontKey) (font : T) (es : List (FontKey × T)) → lookup (key_eq k) ((k, font) ∷ es) ≡ Some font
  first_found k font es = rw (key_is_itself k) refl

  -- a key has a font exactly where it is resident
  pub found_key : (weighs : T → ℕ) (k : FontKey) (es : List (FontKey × T)) → is_some (lookup (key_eq k) es) ≡ has_key k (weighed weighs es)
  found_key weighs k [] = refl
  found_key weighs k (e ∷ es) = is_found (key_eq k e.0) e.1 (lookup (key_eq k) es) (has_key k (weighed weighs es)) (found_key weighs k es)

  pub found_entry : (k : FontKey) (es : List (FontKey × T)) (v : T) → lookup (key_eq k) es ≡ Some v → lookup_entry (key_eq k) es ≡ Some (k, v)
  found_entry k [] v h = absurd cc
  found_entry k (e ∷ es) v h = (elim (key_eq k e.0) as (λ b. key_eq k e.0 ≡ b → lookup_entry (key_eq k) (e ∷ es) ≡ Some (k, v)) [
    | true ↦ λ t. let h' = rw t at h in let value : e.1 ≡ v = cc in let key : e.0 ≡ k = sym (keys_are_equal k e.0 t) in
        rw t (ap (λ (p : FontKey × T). Some p) (λ i. (key i, value i)))
    | false ↦ λ t. rw t (found_entry k es v (rw t at h))
  ]) refl

  pub no_entry : (k : FontKey) (es : List (FontKey × T)) → lookup (key_eq k) es ≡ None → lookup_entry (key_eq k) es ≡ None
  no_entry k [] h = refl
  no_entry k (e ∷ es) h = (elim (key_eq k e.0) as (λ b. key_eq k e.0 ≡ b → lookup_entry (key_eq k) (e ∷ es) ≡ None) [
    | true ↦ λ t. let h' = rw t at h in absurd cc
    | false ↦ λ t. rw t (no_entry k es (rw t at h))
  ]) refl

  pub weights_moved : (weighs : T → ℕ) (k : FontKey) (es : List (FontKey × T)) → weighed weighs (promoted (key_eq k) es) ≡ brought_forward k (weighed weighs es)
  weights_moved weighs k es = sym (promoted_image (λ (j : FontKey). j) weighs (key_eq k) es)

  pub not_there : (k : FontKey) (es : List (FontKey × T)) → lookup (key_eq k) es ≡ None → promoted (key_eq k) es ≡ es
  not_there k es h = rw (no_entry k es h) refl

  -- which of two places a key passes first doesn't matter where not both pass
  swapped : (a b : Bool) (x y z : Option T) → (a ≡ true → b ≡ true → ⊥) → cond a x (cond b y z) ≡ cond b y (cond a x z)
  swapped true true x y z apart = absurd (apart refl refl)
  swapped true false x y z apart = refl
  swapped false true x y z apart = refl
  swapped false false x y z apart = refl

  module _ (j k : FontKey) where
    moved : (es : List (FontKey × T)) (v : T) → lookup (key_eq k) es ≡ Some v
        → cond (key_eq j k) (Some v) (lookup (key_eq j) (remove_entry (key_eq k) es)) ≡ lookup (key_eq j) es
    moved [] v h = absurd cc
    moved (e ∷ es) v h = (elim (key_eq k e.0) as (λ b. key_eq k e.0 ≡ b → cond (key_eq j k) (Some v) (lookup (key_eq j) (remove_entry (key_eq k) (e ∷ es))) ≡ lookup (key_eq j) (e ∷ es)) [
      | true ↦ λ t. let h' = rw t at h in let value : e.1 ≡ v = cc in let key : k ≡ e.0 = keys_are_equal k e.0 t in
          rw t (λ i. cond (key_eq j (key i)) (Some (sym value i)) (lookup (key_eq j) es))
      | false ↦ λ t. let rest = moved es v (rw t at h) in
          let apart : key_eq j k ≡ true → key_eq j e.0 ≡ true → ⊥ = λ p q.
          let one : k ≡ e.0 = sym (keys_are_equal j k p) ∙ keys_are_equal j e.0 q in
          true≢false (sym (key_is_itself k) ∙ ap (key_eq k) one ∙ t) in
          rw t (swapped (key_eq j k) (key_eq j e.0) (Some v) (Some e.1) (lookup (key_eq j) (remove_entry (key_eq k) es)) apart ∙ ap (λ o. cond (key_eq j e.0) (Some e.1) o) rest)
    ]) refl

    -- a font that moves to the front is the same font, and so are the others
    pub same_values : (es : List (FontKey × T)) → lookup (key_eq j) (promoted (key_eq k) es) ≡ lookup (key_eq j) es
    same_values es = (elim (lookup (key_eq k) es) as (λ o. lookup (key_eq k) es ≡ o → lookup (key_eq j) (promoted (key_eq k) es) ≡ lookup (key_eq j) es) [
      | None ↦ λ h. ap (lookup (key_eq j)) (not_there k es h)
      | Some v ↦ λ h. rw (found_entry k es v h) (moved es v h)
    ]) refl

  found_in_front : (j : FontKey) (n : ℕ) (es : List (FontKey × T)) (w : T) → lookup (key_eq j) (take n es) ≡ Some w → lookup (key_eq j) es ≡ Some w
  found_in_front j zero es w h = absurd cc
  found_in_front j (suc n) [] w h = absurd cc
  found_in_front j (suc n) (e ∷ es) w h = (elim (key_eq j e.0) as (λ b. key_eq j e.0 ≡ b → lookup (key_eq j) (e ∷ es) ≡ Some w) [
    | true ↦ λ t. rw t (rw t at h)
    | false ↦ λ t. rw t (found_in_front j n es w (rw t at h))
  ]) refl

  -- the fonts after one is added and some left: that one, and fonts that were there
  pub values_after : (k j : FontKey) (v w : T) (n : ℕ) (es : List (FontKey × T)) → lookup (key_eq j) (take n ((k, v) ∷ es)) ≡ Some w
      → ((j ≡ k) × (w ≡ v)) ⊎ (lookup (key_eq j) es ≡ Some w)
  values_after k j v w n es h =
      let found = found_in_front j n ((k, v) ∷ es) w h in
      (elim (key_eq j k) as (λ b. key_eq j k ≡ b → ((j ≡ k) × (w ≡ v)) ⊎ (lookup (key_eq j) es ≡ Some w)) [
        | true ↦ λ t. let h' = rw t at found in let value : w ≡ v = cc in inl (keys_are_equal j k t, value)
        | false ↦ λ t. inr (rw t at found)
      ]) refl

  -- the one that was added is found
  pub added_found : (k : FontKey) (v : T) (n : ℕ) (es : List (FontKey × T)) → 1 ≤ n → lookup (key_eq k) (take n ((k, v) ∷ es)) ≡ Some v
  added_found k v zero es some = absurd (omega arith)
  added_found k v (suc n) es some = first_found k v (take n es)
