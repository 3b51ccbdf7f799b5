-- A table of fonts, seen by what it holds.
use Rattle.std.proofs.Common.{◌≡◌, ◌∙◌, ℤ, Bool, true, false, cond, List, [], ◌∷◌, Option, Some, None, refl, sym, ap, Bor, Ordering}
use Rattle.std.specs.declared.cmp.Ordering.TheVariants.{Less, Equal, Greater}
use Rattle.std.specs.Prelude.{map}
use Rattle.std.specs.Option.{option_copied, option_map}
use Rattle.std.specs.Ordering.{int_cmp, is_eq, ordering_reverse}
use Rattle.std.proofs.lemmas.Cmp.{int_cmp_total}
use Rattle.std.specs.FinMap.{find, from_entries, get, get-from_entries, get-insert, insert, int_cmp-IsAntisymmetric, same_map}
use Rattle.std.specs.Map.{lookup}

module _ {V W : Type 0} (seen : V → W) where
  -- a number is found among the seen fonts where it is found among the fonts
  find-each : (q : ℤ) (es : List (ℤ × V)) → find int_cmp q (map (λ e. (e.0, seen e.1)) es) ≡ option_map seen (lookup (λ k. is_eq (int_cmp q k)) es)
  find-each q [] = refl
  find-each q (e ∷ es) =
      let rest = find-each q es in
      elim (is_eq (int_cmp q e.0)) as (λ b. cond b (Some (seen e.1)) (find int_cmp q (map (λ e. (e.0, seen e.1)) es))
      ≡ option_map seen (cond b (Some e.1) (lookup (λ k. is_eq (int_cmp q k)) es)))
      [ true ↦ refl | false ↦ rest ]

  pub table-get : (q : ℤ) (es : List (ℤ × V)) → get (from_entries {R = int_cmp} (map (λ e. (e.0, seen e.1)) es)) q ≡ option_map seen (lookup (λ k. is_eq (int_cmp q k)) es)
  table-get q es = get-from_entries int_cmp_total _ q ∙ find-each q es

  map-cond : (b : Bool) (v : V) (o : Option V) → option_map seen (cond b (Some v) o) ≡ cond b (Some (seen v)) (option_map seen o)
  map-cond true v o = refl
  map-cond false v o = refl

  -- what is found after a reference
  pub found-copied : (r : Option (Bor V)) (o : Option V) → option_copied r ≡ o → option_map (λ b. seen b.now) r ≡ option_map seen o
  found-copied None o e = ap (option_map seen) e
  found-copied (Some b) o e = ap (option_map seen) e

  -- fonts that answer as those before, but for one number, are those with that font
  pub table-insert : (k : ℤ) (v : V) (es fs : List (ℤ × V))
      → ((q : ℤ) → lookup (λ x. is_eq (int_cmp q x)) fs ≡ cond (is_eq (int_cmp k q)) (Some v) (lookup (λ x. is_eq (int_cmp q x)) es))
      → from_entries {R = int_cmp} (map (λ e. (e.0, seen e.1)) fs) ≡ insert (from_entries {R = int_cmp} (map (λ e. (e.0, seen e.1)) es)) k (seen v)
  table-insert k v es fs h = same_map int_cmp_total int_cmp-IsAntisymmetric _ _ (λ q.
      table-get q fs
      ∙ (ap (option_map seen) (h q)
      ∙ (map-cond (is_eq (int_cmp k q)) v (lookup (λ x. is_eq (int_cmp q x)) es)
      ∙ (ap (λ b. cond b (Some (seen v)) (option_map seen (lookup (λ x. is_eq (int_cmp q x)) es))) (either_way k q)
      ∙ (ap (λ o. cond (is_eq (int_cmp q k)) (Some (seen v)) o) (sym (table-get q es))
      ∙ sym (get-insert int_cmp_total _ k (seen v) q))))))
    where
      reversed : (o : Ordering) → is_eq (ordering_reverse o) ≡ is_eq o
      reversed Less = refl
      reversed Equal = refl
      reversed Greater = refl

      either_way : (x y : ℤ) → is_eq (int_cmp x y) ≡ is_eq (int_cmp y x)
      either_way x y = ap is_eq (int_cmp_total.antisymm x y) ∙ reversed (int_cmp y x)
