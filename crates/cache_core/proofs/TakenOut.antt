-- The fonts that are taken out one by one, the least recently used first.
use Rattle.std.proofs.Common.{◌≡◌, ℕ, zero, suc, ◌-◌, ◌≤◌, List, [], ◌∷◌, ◌++◌, length, map, take, drop, slice_get, reverse, Some, None, arith, sym, ap, ◌∙◌}
use Rattle.std.specs.Arc.{arc_value}
use Rattle.std.specs.declared.sync.Arc.{Arc}
use Rattle.std.specs.Map.{values_of}
use Rattle.std.proofs.lemmas.List.{drop-map, map-append, reverse-append, append_assoc}
use Rattle.std.proofs.lemmas.Option.{slice_get-get_or}
use Rattle.outside.specs.declared.keys.FontKey.{FontKey}
use Rattle.cache_core.specs.Views.{fonts_of}
use Rattle.cache_core.proofs.Leaving.{font_seen}

-- where there is an entry, there is a last one
pub last_there : {X : Type 0} (es : List X) → 1 ≤ length es → slice_get es (length es - 1) ≡ None → ⊥
last_there [] some none = absurd (omega (arith, some))
last_there (x ∷ es) some none = let there = slice_get-get_or (x ∷ es) (length (x ∷ es) - 1) x (omega arith) in absurd cc

at_last : {X : Type 0} (n : ℕ) (es : List X) (e : X) → slice_get (take (suc n) es) n ≡ Some e → drop n es ≡ e ∷ drop (suc n) es
at_last n [] e is = absurd cc
at_last zero (x ∷ es) e is = let same : x ≡ e = cc in ap (λ y. y ∷ es) same
at_last (suc n) (x ∷ es) e is = at_last n es e is

module _ {T A : Type 0} where
  -- the fonts behind the first n
  abbrev pub values_behind : ℕ → List (Arc FontKey A × Arc T A) → List T
  values_behind n es = values_of (drop n (fonts_of es))

  one_more : (n : ℕ) (es : List (Arc FontKey A × Arc T A)) (e : Arc FontKey A × Arc T A) → slice_get (take (suc n) es) n ≡ Some e
      → values_behind n es ≡ arc_value e.1 ∷ values_behind (suc n) es
  one_more n es e is =
      ap values_of (drop-map font_seen n es ∙ ap (map font_seen) (at_last n es e is))
      ∙ ap (λ (l : List (FontKey × T)). arc_value e.1 ∷ values_of l) (sym (drop-map font_seen (suc n) es))

  -- one more is taken out
  pub taken_out : (n : ℕ) (es : List (Arc FontKey A × Arc T A)) {e : Arc FontKey A × Arc T A} (left left' : List (Arc T A)) (before : List T)
      → slice_get (take (suc n) es) n ≡ Some e → map arc_value left ≡ before ++ reverse (values_behind (suc n) es) → left' ≡ left ++ e.1 ∷ []
      → map arc_value left' ≡ before ++ reverse (values_behind n es)
  taken_out n es {e} left left' before is were more =
      ap (map arc_value) more ∙ (map-append arc_value left (e.1 ∷ []) ∙ (ap (λ l. l ++ arc_value e.1 ∷ []) were
      ∙ (append_assoc before (reverse (values_behind (suc n) es)) (arc_value e.1 ∷ [])
      ∙ ap (λ l. before ++ l) (sym (reverse-append (arc_value e.1 ∷ []) (values_behind (suc n) es)) ∙ ap reverse (sym (one_more n es e is))))))
