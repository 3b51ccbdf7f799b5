-- What a loop over a list has appended, one element more.
use Rattle.std.proofs.Common.{◌≡◌, ◌∙◌, ℕ, zero, suc, ◌+◌, ◌<◌, ◌≤◌, List, [], ◌∷◌, ◌++◌, length, get_or, take, drop, map, sym, ap, subst, arith, append_assoc, append-nil}
use Rattle.std.specs.Prelude.{All}
use Rattle.std.specs.List.{AllByRecursion, flat_map}
use Rattle.std.proofs.lemmas.List.{drop_more, take_all, take_more}
use Rattle.std.proofs.Math.ListN.{drop_of_length-le}
use Rattle.std.proofs.lemmas.List.Concat.{flat_map-append}
use Rattle.std.proofs.lemmas.List.Elements.{All-push}

module _ {X : Type 0} (xs : List X) (i : ℕ) where
  taken_more : (x : X) → i < length xs → x ≡ get_or xs i x → take (i + 1) xs ≡ take i xs ++ x ∷ []
  taken_more x lt e = take_more xs i x lt ∙ ap (λ y. take i xs ++ y ∷ []) (sym e)

  pub appended_more : (g : X → List ℕ) (prefix before now : List ℕ) (x : X) → i < length xs → x ≡ get_or xs i x → before ≡ prefix ++ flat_map g (take i xs) → now ≡ before ++ g x
      → now ≡ prefix ++ flat_map g (take (i + 1) xs)
  appended_more g prefix before now x lt e eb en =
      en ∙ ap (λ t. t ++ g x) eb
      ∙ append_assoc prefix (flat_map g (take i xs)) (g x)
      ∙ ap (λ t. prefix ++ t) (ap (λ t. flat_map g (take i xs) ++ t) (sym (append-nil (g x))) ∙ sym (flat_map-append g (take i xs) (x ∷ [])) ∙ ap (flat_map g) (sym (taken_more x lt e)))

  pub all_more : (P : X → Type 0) (x : X) → i < length xs → x ≡ get_or xs i x → All P (take i xs) → P x → All P (take (i + 1) xs)
  all_more P x lt e all one = subst (All P) (sym (taken_more x lt e)) (All-push P (take i xs) x all one)

  pub all_taken : (P : X → Type 0) → length xs ≤ i → All P (take i xs) → All P xs
  all_taken P le h = subst (All P) (take_all i xs le) h

-- of a list of which the rest is still to come
module _ {X Y : Type 0} (seen : X → Y) (xs : List X) (i : ℕ) where
  pub rest_more : (g : Y → List ℕ) (whole prefix now : List ℕ) (x : X) → i < length xs → x ≡ get_or xs i x → whole ≡ prefix ++ flat_map g (map seen (drop i xs)) → now ≡ prefix ++ g (seen x)
      → whole ≡ now ++ flat_map g (map seen (drop (i + 1) xs))
  rest_more g whole prefix now x lt e ew en =
      ew ∙ ap (λ t. prefix ++ flat_map g (map seen t)) (drop_more xs i x lt ∙ ap (λ y. y ∷ drop (i + 1) xs) (sym e))
      ∙ sym (append_assoc prefix (g (seen x)) (flat_map g (map seen (drop (i + 1) xs))))
      ∙ ap (λ t. t ++ flat_map g (map seen (drop (i + 1) xs))) (sym en)

  pub rest_all : (g : Y → List ℕ) (whole prefix : List ℕ) → length xs ≤ i → whole ≡ prefix ++ flat_map g (map seen (drop i xs)) → prefix ≡ whole
  rest_all g whole prefix le e = sym (append-nil prefix) ∙ ap (λ t. prefix ++ flat_map g (map seen t)) (sym (drop_of_length-le xs le)) ∙ sym e

pub seen_at : {X Y : Type 0} (seen : X → Y) (P : Y → Type 0) (xs : List X) (i : ℕ) (d : X) → AllByRecursion P (map seen xs) → i < length xs → P (seen (get_or xs i d))
seen_at seen P [] i d h lt = absurd (omega arith)
seen_at seen P (x ∷ xs) zero d h lt = h.0
seen_at seen P (x ∷ xs) (suc i) d h lt = seen_at seen P xs i d h.1 (omega (arith, lt))
