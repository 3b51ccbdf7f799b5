-- A map of files, seen by what it holds.
use Rattle.std.proofs.Common.{◌≡◌, ◌∙◌, ℕ, Bool, true, false, cond, List, [], ◌∷◌, Option, Some, None, refl, sym, ap, Bor, Ordering}
use Rattle.std.specs.declared.cmp.Ordering.TheVariants.{Less, Equal, Greater}
use Rattle.std.specs.Prelude.{map}
use Rattle.std.specs.Option.{option_copied, option_map}
use Rattle.std.specs.Ordering.{nat_cmp, is_eq, ordering_reverse}
use Rattle.std.specs.Cmp.Lexicographic.{slice_cmp, nat_list_cmp_total}
use Rattle.std.specs.FinMap.{find, from_entries, get, get-from_entries, get-insert, insert, nat_cmp-IsAntisymmetric, same_map, slice_cmp-IsAntisymmetric}
use Rattle.std.specs.Map.{lookup}

-- a name is found among the seen files where it is found among the files
pub find-each : {V : Type 0} (seen : V → List ℕ) (q : List ℕ) (es : List (List ℕ × V))
    → find (slice_cmp nat_cmp) q (map (λ e. (e.0, seen e.1)) es) ≡ option_map seen (lookup (λ k. is_eq (slice_cmp nat_cmp q k)) es)
find-each seen q [] = refl
find-each seen q (e ∷ es) =
    let rest = find-each seen q es in
    elim (is_eq (slice_cmp nat_cmp q e.0)) as (λ b. cond b (Some (seen e.1)) (find (slice_cmp nat_cmp) q (map (λ e. (e.0, seen e.1)) es))
    ≡ option_map seen (cond b (Some e.1) (lookup (λ k. is_eq (slice_cmp nat_cmp q k)) es)))
    [ true ↦ refl | false ↦ rest ]

pub shelf-get : {V : Type 0} (seen : V → List ℕ) (q : List ℕ) (es : List (List ℕ × V))
    → get (from_entries {R = slice_cmp nat_cmp} (map (λ e. (e.0, seen e.1)) es)) q ≡ option_map seen (lookup (λ k. is_eq (slice_cmp nat_cmp q k)) es)
shelf-get seen q es = get-from_entries nat_list_cmp_total _ q ∙ find-each seen q es

map-cond : {V : Type 0} (seen : V → List ℕ) (b : Bool) (v : V) (o : Option V) → option_map seen (cond b (Some v) o) ≡ cond b (Some (seen v)) (option_map seen o)
map-cond seen true v o = refl
map-cond seen false v o = refl

reversed : (o : Ordering) → is_eq (ordering_reverse o) ≡ is_eq o
reversed Less = refl
reversed Equal = refl
reversed Greater = refl

-- whether two names tie, asked in either order
either_way : (x y : List ℕ) → is_eq (slice_cmp nat_cmp x y) ≡ is_eq (slice_cmp nat_cmp y x)
either_way x y = ap is_eq (nat_list_cmp_total.antisymm x y) ∙ reversed (slice_cmp nat_cmp y x)

-- what is found after a reference
pub found-copied : {V : Type 0} (seen : V → List ℕ) (r : Option (Bor V)) (o : Option V) → option_copied r ≡ o → option_map (λ b. seen b.now) r ≡ option_map seen o
found-copied seen None o e = ap (option_map seen) e
found-copied seen (Some b) o e = ap (option_map seen) e

-- files that answer as those before, but for one name, are those with that file
pub shelf-insert : {V : Type 0} (seen : V → List ℕ) (k : List ℕ) (v : V) (es fs : List (List ℕ × V))
    → ((q : List ℕ) → lookup (λ x. is_eq (slice_cmp nat_cmp q x)) fs ≡ cond (is_eq (slice_cmp nat_cmp k q)) (Some v) (lookup (λ x. is_eq (slice_cmp nat_cmp q x)) es))
    → from_entries {R = slice_cmp nat_cmp} (map (λ e. (e.0, seen e.1)) fs) ≡ insert (from_entries {R = slice_cmp nat_cmp} (map (λ e. (e.0, seen e.1)) es)) k (seen v)
shelf-insert seen k v es fs h = same_map nat_list_cmp_total (slice_cmp-IsAntisymmetric nat_cmp-IsAntisymmetric) _ _ (λ q.
    shelf-get seen q fs
    ∙ (ap (option_map seen) (h q)
    ∙ (map-cond seen (is_eq (slice_cmp nat_cmp k q)) v (lookup (λ x. is_eq (slice_cmp nat_cmp q x)) es)
    ∙ (ap (λ b. cond b (Some (seen v)) (option_map seen (lookup (λ x. is_eq (slice_cmp nat_cmp q x)) es))) (either_way k q)
    ∙ (ap (λ o. cond (is_eq (slice_cmp nat_cmp q k)) (Some (seen v)) o) (sym (shelf-get seen q es))
    ∙ sym (get-insert nat_list_cmp_total _ k (seen v) q))))))
