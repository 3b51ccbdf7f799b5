-- What the list of recent use tells of the fonts.
use Rattle.std.proofs.Common.{◌≡◌, ◌-◌, ◌≤◌, Bool, true, false, List, [], ◌∷◌, length, slice_get, Option, Some, None, refl, sym, ap, ◌∙◌}
use Rattle.std.specs.Option.{option_map}
use Rattle.std.specs.Arc.{arc_value}
use Rattle.std.specs.declared.sync.Arc.{Arc}
use Rattle.std.specs.Map.{lookup, lookup_entry}
use Rattle.std.proofs.lemmas.List.{take_all}
use Rattle.lru.specs.LruCache.{LruCache, promoted, put_entries}
use Rattle.outside.specs.declared.keys.FontKey.{FontKey}
use Rattle.cache_core.specs.Machine.{key_eq}
use Rattle.cache_core.specs.Views.{fonts_of, passes}
use Rattle.cache_core.proofs.FontLists.{lookup_image, promoted_image}

abbrev pub same_key : {A : Type 0} → Arc FontKey A → Arc FontKey A → Bool
same_key x y = key_eq (arc_value x) (arc_value y)

module _ {T A : Type 0} where
  module _ (k : FontKey) where
    pub missing : (es : List (Arc FontKey A × Arc T A)) → lookup (passes k) es ≡ None → lookup (key_eq k) (fonts_of es) ≡ None
    missing es h = lookup_image (arc_value {X = FontKey} {Z = A}) (arc_value {X = T} {Z = A}) (key_eq k) es ∙ ap (option_map (arc_value {X = T} {Z = A})) h

    pub present : (es : List (Arc FontKey A × Arc T A)) (x : Arc T A) → lookup (passes k) es ≡ Some x → lookup (key_eq k) (fonts_of es) ≡ Some (arc_value x)
    present es x h = lookup_image (arc_value {X = FontKey} {Z = A}) (arc_value {X = T} {Z = A}) (key_eq k) es ∙ ap (option_map (arc_value {X = T} {Z = A})) h

    pub promotes : (es : List (Arc FontKey A × Arc T A)) → fonts_of (promoted (passes k) es) ≡ promoted (key_eq k) (fonts_of es)
    promotes es = sym (promoted_image (arc_value {X = FontKey} {Z = A}) (arc_value {X = T} {Z = A}) (key_eq k) es)

    no_font : (o : Option (Arc T A)) → option_map (arc_value {X = T} {Z = A}) o ≡ None → o ≡ None
    no_font None h = refl
    no_font (Some f) h = absurd cc

    absent : (es : List (Arc FontKey A × Arc T A)) → lookup (key_eq k) (fonts_of es) ≡ None → lookup (passes k) es ≡ None
    absent es h = no_font (lookup (passes k) es) (sym (lookup_image (arc_value {X = FontKey} {Z = A}) (arc_value {X = T} {Z = A}) (key_eq k) es) ∙ h)

    no_pair : (es : List (Arc FontKey A × Arc T A)) → lookup (passes k) es ≡ None → lookup_entry (passes k) es ≡ None
    no_pair [] h = refl
    no_pair (e ∷ es) h = (elim (passes k e.0) as (λ b. passes k e.0 ≡ b → lookup_entry (passes k) (e ∷ es) ≡ None) [
      | true ↦ λ t. let h' = rw t at h in absurd cc
      | false ↦ λ t. rw t (no_pair es (rw t at h))
    ]) refl

    -- a newest key that passes is found, and nothing moves
    pub newest_found : (es : List (Arc FontKey A × Arc T A)) (e : Arc FontKey A × Arc T A) → slice_get es 0 ≡ Some e → passes k e.0 ≡ true → lookup (passes k) es ≡ Some e.1
    newest_found [] e h t = absurd cc
    newest_found (x ∷ es) e h t =
        let same : x ≡ e = cc in
        let passed : passes k x.0 ≡ true = ap (λ (y : Arc FontKey A × Arc T A). passes k y.0) same ∙ t in
        rw passed (ap (λ (y : Arc FontKey A × Arc T A). Some y.1) same)

    pub newest_stays : (es : List (Arc FontKey A × Arc T A)) (e : Arc FontKey A × Arc T A) → slice_get es 0 ≡ Some e → passes k e.0 ≡ true → promoted (passes k) es ≡ es
    newest_stays [] e h t = absurd cc
    newest_stays (x ∷ es) e h t =
        let same : x ≡ e = cc in
        let passed : passes k x.0 ≡ true = ap (λ (y : Arc FontKey A × Arc T A). passes k y.0) same ∙ t in
        rw passed refl

  module _ (c : LruCache (Arc FontKey A) (Arc T A)) (k : Arc FontKey A) (v : Arc T A) (new : lookup (key_eq (arc_value k)) (fonts_of c.entries) ≡ None) (room : length c.entries ≤ c.cap - 1) where
    -- where there is a place, a new font only comes in front
    pub puts : put_entries same_key c k v ≡ (k, v) ∷ c.entries
    puts = rw (no_pair (arc_value k) c.entries (absent (arc_value k) c.entries new)) (ap (λ l. (k, v) ∷ l) (take_all (c.cap - 1) c.entries room))
