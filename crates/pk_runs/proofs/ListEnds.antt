-- The last element of a list, and lists with the same beginning.
use Rattle.std.proofs.Common.{◌≡◌, ℕ, List, [], ◌∷◌, ◌++◌, length, drop, refl, sym, ap, ◌∙◌}
use Rattle.std.proofs.lemmas.List.{drop_at}

pub split_last : {A : Type 0} (x : A) (xs : List A) → (init : List A) × (last : A) × (x ∷ xs ≡ init ++ last ∷ [])
split_last x [] = ([], x, refl)
split_last x (y ∷ ys) =
    let s = split_last y ys in
    (x ∷ s.0, s.1, ap (λ zs. x ∷ zs) s.2)

pub cancelled : (a x y : List ℕ) → a ++ x ≡ a ++ y → x ≡ y
cancelled a x y same = sym (drop_at a x (length a) refl) ∙ ap (drop (length a)) same ∙ drop_at a y (length a) refl
