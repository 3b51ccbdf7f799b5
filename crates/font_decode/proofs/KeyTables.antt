-- Keys by their numbers, seen by what they hold; and what holds of an answer.
use Rattle.std.proofs.Common.{◌≡◌, ◌∙◌, ℤ, Bool, true, false, cond, List, [], ◌∷◌, Option, Some, None, refl, sym, ap, subst, Bor}
use Rattle.std.specs.Prelude.{map, IfSome, MatchOption}
use Rattle.std.specs.Map.{lookup}
use Rattle.std.specs.Option.{option_copied, option_map}
use Rattle.std.specs.Ordering.{int_cmp, is_eq}

module _ {V W : Type 0} (seen : V → W) where
  -- a number is found among the seen keys where it is found among the keys
  pub seen_there : (q : ℤ) (es : List (ℤ × V)) → lookup (λ n. is_eq (int_cmp q n)) (map (λ e. (e.0, seen e.1)) es) ≡ option_map seen (lookup (λ n. is_eq (int_cmp q n)) es)
  seen_there q [] = refl
  seen_there q (e ∷ es) =
      let rest = seen_there q es in
      elim (is_eq (int_cmp q e.0)) as (λ b. cond b (Some (seen e.1)) (lookup (λ n. is_eq (int_cmp q n)) (map (λ e. (e.0, seen e.1)) es))
      ≡ option_map seen (cond b (Some e.1) (lookup (λ n. is_eq (int_cmp q n)) es)))
      [ true ↦ refl | false ↦ rest ]

  seen_choice : (b : Bool) (v : V) (o : Option V) → option_map seen (cond b (Some v) o) ≡ cond b (Some (seen v)) (option_map seen o)
  seen_choice true v o = refl
  seen_choice false v o = refl

  -- what is found after a reference
  pub found : (r : Option (Bor V)) (o : Option V) (w : Option W) → option_copied r ≡ o → w ≡ option_map seen o → MatchOption r (w ≡ None) (λ b. w ≡ Some (seen b.now))
  found None o w e f = f ∙ ap (option_map seen) (sym e)
  found (Some b) o w e f = f ∙ ap (option_map seen) (sym e)

  -- keys that answer as those before, but for one number
  pub seen_put : (k : ℤ) (v : V) (es fs : List (ℤ × V)) (q : ℤ)
      → lookup (λ n. is_eq (int_cmp q n)) fs ≡ cond (is_eq (int_cmp k q)) (Some v) (lookup (λ n. is_eq (int_cmp q n)) es)
      → lookup (λ n. is_eq (int_cmp q n)) (map (λ e. (e.0, seen e.1)) fs)
      ≡ cond (is_eq (int_cmp k q)) (Some (seen v)) (lookup (λ n. is_eq (int_cmp q n)) (map (λ e. (e.0, seen e.1)) es))
  seen_put k v es fs q h =
      seen_there q fs ∙ ap (option_map seen) h ∙ seen_choice (is_eq (int_cmp k q)) v (lookup (λ n. is_eq (int_cmp q n)) es)
      ∙ ap (cond (is_eq (int_cmp k q)) (Some (seen v))) (sym (seen_there q es))

-- what holds of the value holds of the answer that tells it
pub holds_of : {A B : Type 0} (P : B → Type 0) (seen : A → B) (r : Option A) (o : Option B) → MatchOption r (o ≡ None) (λ a. o ≡ Some (seen a)) → IfSome o P → IfSome r (λ a. P (seen a))
holds_of P seen None o e h = tt
holds_of P seen (Some a) o e h = subst (λ o. IfSome o P) e h
