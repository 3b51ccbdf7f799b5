-- Lists of a function's values at 0, 1, ..
use Rattle.std.proofs.Common.{◌≡◌, ℕ, zero, suc, ◌<◌, ◌≤◌, inl, inr, [], ◌∷◌, ◌++◌, length, get_or, refl, ap, sym, ◌∙◌, arith}
use Rattle.std.proofs.lemmas.List.{length_push, get_or_push, get_or_append_left, get_or_past}
use Rattle.std.proofs.lemmas.Bool.{cases_lt}
use Rattle.packed_rows.specs.Bitmap.{from_fn}

pub length-from_fn : {A : Type 0} (n : ℕ) (f : ℕ → A) → length (from_fn n f) ≡ n
length-from_fn zero f = refl
length-from_fn (suc n) f = length_push (from_fn n f) (f n) ∙ omega (arith, length-from_fn n f)

pub get_or-from_fn : {A : Type 0} (n : ℕ) (f : ℕ → A) (i : ℕ) (d : A) → i < n → get_or (from_fn n f) i d ≡ f i
get_or-from_fn zero f i d h = absurd (omega (arith, h))
get_or-from_fn {A} (suc n) f i d h = elim (cases_lt i n) [
  | inl below ↦ get_or_append_left (from_fn n f) (f n ∷ []) d i (omega (arith, length-from_fn n f, below)) ∙ get_or-from_fn n f i d below
  | inr above ↦ (let e : i ≡ n = omega (arith, above, h) in get_or_push (from_fn n f) (f n) d i (length-from_fn n f ∙ sym e) ∙ ap f (sym e))
]

pub from_fn_past : {A : Type 0} (n : ℕ) (f : ℕ → A) (i : ℕ) (d : A) → n ≤ i → get_or (from_fn n f) i d ≡ d
from_fn_past n f i d h = get_or_past (from_fn n f) i d (omega (arith, length-from_fn n f, h))

-- functions that agree below n
pub from_fn_same : {A : Type 0} (n : ℕ) (f g : ℕ → A) → ((i : ℕ) → i < n → f i ≡ g i) → from_fn n f ≡ from_fn n g
from_fn_same zero f g h = refl
from_fn_same (suc n) f g h =
    ap (λ l. l ++ f n ∷ []) (from_fn_same n f g (λ i below. h i (omega (arith, below)))) ∙ ap (λ x. from_fn n g ++ x ∷ []) (h n (omega arith))
